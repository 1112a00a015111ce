-- What is to be answered and written, by the definition's result, before anything is written.
use Rattle.std.specs.Prelude.{ℕ, ◌*◌, ◌≤◌, ◌≡◌, List, [], leb, length}
use Rattle.model.specs.declared.Header.{Header}
use Rattle.model.specs.declared.Refusal.{Refusal}
use Rattle.model.specs.Refusals.{Result, Ok, Err, order_too_short, memory_too_short}
use Rattle.model.specs.Choice.{when}
use Rattle.model.specs.Orders.{Verdict}
use Rattle.model.specs.Checks.{Verdicts, listed, answered, Answer}
use Rattle.memory.specs.Tables.{Table}
use Rattle.graph.specs.Edges.{group_list}
use Rattle.lists.specs.Written.{cells_listed, CellsFit}
use Rattle.checker.specs.declared.conclusion.Room.{Room}
use Rattle.checker.specs.declared.conclusion.Concluded.{Concluded}

-- An answer with these groups to list, and these cells.
abbrev pub concluded_as : Answer → (groups : List ℕ) → (ranks width : ℕ) → Concluded
concluded_as answer groups ranks width =
    record { answer = answer; count = length groups; groups = group_list groups; ranks = ranks; width = width }

-- A refusal lists nothing; a verdict its groups, and the program's cells.
abbrev pub refused_with : Refusal → Concluded
refused_with r = concluded_as (Err r) [] 0 0

abbrev pub judged_as : Verdict → (ranks width : ℕ) → Concluded
judged_as v = concluded_as (answered v) (listed v)

-- An accepted record, of which this is the verdict: "Then 14, then 15."
unfoldable pub accepted_with : Room → Header → (groups : ℕ) → Verdict → Concluded
accepted_with room header groups v =
    when (leb groups room.groups)
    (λ _.
    when (leb (header.ranks * header.cells) room.cells)
    (λ _. judged_as v header.ranks header.cells)
    (λ _. refused_with (record { number = memory_too_short; place = header.ranks * header.cells })))
    (λ _. refused_with (record { number = order_too_short; place = groups }))

-- What is answered, and what is to be written.
abbrev pub answer_in : Result Verdicts → Answer
answer_in (Ok v) = answered v.verdict
answer_in (Err r) = Err r

abbrev pub listed_in : Result Verdicts → List ℕ
listed_in (Ok v) = listed v.verdict
listed_in (Err r) = []

abbrev pub cells_in : Result Verdicts → List ℕ
cells_in (Ok v) = v.cells
cells_in (Err r) = []

-- A conclusion and a table of cells hold all of that, and there is room for it.
pub record Concludes (result : Result Verdicts) (room : Room) (cells : Table) (r : Concluded) : Type 0 where
  pub answers : r.answer ≡ answer_in result
  pub counts : r.count ≡ length (listed_in result)
  pub lists : r.groups ≡ group_list (listed_in result)
  pub fills : cells_listed cells r.ranks r.width ≡ cells_in result
  pub list_fits : r.count ≤ room.groups
  pub cells_fit : CellsFit room.cells r.ranks r.width
