-- The answer (document 01, from "An answer is an order, a ring or a refusal"): the whole check on byte lists and lent lists.
use Rattle.model.specs.declared.Verdict as verdicts
use Rattle.model.specs.declared.Verdict.TheVariants.{Order, Ring}
use Rattle.std.specs.Prelude.{ℕ, ◌+◌, ◌*◌, ◌/◌, Bool, List, [], ◌∷◌, ◌++◌, map, leb, eqb, length, drop}
use Rattle.model.specs.declared.Item.{Item}
use Rattle.model.specs.Limits.{byte_values}
use Rattle.model.specs.Refusals.{Result, Ok, Err, require, order_too_short, memory_too_short, ◌>>=◌}
use Rattle.model.specs.Choice.{select, numbers_from}
use Rattle.model.specs.Bytes.{word_bytes}
use Rattle.model.specs.Formats.{Format, today}
use Rattle.model.specs.Programs.{Program, read_program_in}
use Rattle.model.specs.Records.{read_record_in}
use Rattle.model.specs.Machine.{Start}
use Rattle.model.specs.StartBytes.{read_start}
use Rattle.model.specs.Replay.{Event, Replayed, replay}
use Rattle.model.specs.HappensBefore.{edges_of}
use Rattle.model.specs.Orders.{Verdict, ordered, cyclic, verdict}

-- An accepted record of a readable program, replayed from the readings at the start.
pub record Accepted : Type 0 where
  pub program : Program
  pub readings : Start
  pub run : Replayed

-- "The program is read first, then the whole record, front to back"; the start is "judged after the program and before the record". Then the items
-- in turn.
unfoldable pub accept_in : Format → (program start recorded : List ℕ) → Result Accepted
unfolding read_program_in read_start read_record_in replay
accept_in format program start recorded = do
  P ← read_program_in format program
  readings ← read_start P.header start
  items ← read_record_in format P.header recorded
  run ← replay P readings items
  Ok (record { program = P; readings = readings; run = run })

abbrev pub accept : (program start recorded : List ℕ) → Result Accepted
accept = accept_in today

-- The verdict on an accepted record: its arrows, and what they come to.
unfoldable pub verdict_on : Replayed → Verdict
unfolding edges_of verdict
verdict_on run = verdict run.last.opened (edges_of run.events)

-- A function of ranks and numbers, below `count`, as a list: of these ranks one after the other, and of all ranks, "rank 1 first".
unfoldable pub for_each_rank : {A : Type 0} → (count : ℕ) → (ℕ → ℕ → A) → (ranks : List ℕ) → List A
unfolding numbers_from
for_each_rank count f [] = []
for_each_rank count f (r ∷ rest) = map (f r) (numbers_from 0 count) ++ for_each_rank count f rest

unfoldable pub rank_by_rank : {A : Type 0} → (ranks count : ℕ) → (ℕ → ℕ → A) → List A
unfolding numbers_from for_each_rank
rank_by_rank ranks count f = for_each_rank count f (numbers_from 1 ranks)

-- "The last cell values, rank 1 first."
unfoldable pub last_cells : Accepted → List ℕ
unfolding rank_by_rank
last_cells a = rank_by_rank a.program.header.ranks a.program.header.cells a.run.last.machine.cells

-- The events of a group, in the record's order.
abbrev pub in_group : (group : ℕ) → Event → Bool
in_group g e = eqb e.group g

abbrev pub group_events : (group : ℕ) → List Event → List Event
group_events g = select (in_group g)

-- The events group after group, in an order's order.
unfoldable pub arranged : List ℕ → List Event → List Event
unfolding select
arranged [] events = []
arranged (g ∷ groups) events = group_events g events ++ arranged groups events

-- What an order stands for: "the record's own items, group after group, each group's as command, popa, popb, or as a barrier row", which is how
-- a record that the replay takes has them.
abbrev pub order_items : List ℕ → List Event → List Item
order_items groups events = map (λ e. e.item) (arranged groups events)

-- "fill the first entries of a lent .. list"; "Entries beyond are untouched."
unfoldable pub fill : {A : Type 0} → List A → List A → List A
fill new old = new ++ drop (length new) old

-- "An answer is an order, a ring or a refusal."
abbrev pub Answer : Type 0
Answer = Result verdicts.Verdict

-- The answer, and what both lent lists hold at the end.
pub record Outcome : Type 0 where
  pub answer : Answer
  pub order : List ℕ
  pub cells : List ℕ

-- "Order and ring fill the first entries of a lent 16-bit list, and the answer gives the count."
abbrev pub listed : Verdict → List ℕ
listed (ordered groups) = groups
listed (cyclic groups) = groups

abbrev pub counted : Verdict → verdicts.Verdict
counted (ordered groups) = Order (length groups)
counted (cyclic groups) = Ring (length groups)

abbrev pub answered : Verdict → Answer
answered v = Ok (counted v)

-- What is to be written, where both lists are long enough: "Then 14, then 15."
pub record Verdicts : Type 0 where
  pub verdict : Verdict
  pub cells : List ℕ

unfoldable pub check_result_in : Format → (program start recorded : List ℕ) → (order_length cells_length : ℕ) → Result Verdicts
unfolding accept_in verdict_on last_cells
check_result_in format program start recorded order_length cells_length = do
  a ← accept_in format program start recorded
  let groups : ℕ = a.run.last.opened
  let count : ℕ = a.program.header.ranks * a.program.header.cells
  _ ← require (leb groups order_length) order_too_short groups
  _ ← require (leb count cells_length) memory_too_short count
  Ok (record { verdict = verdict_on a.run; cells = last_cells a })

abbrev pub check_result : (program start recorded : List ℕ) → (order_length cells_length : ℕ) → Result Verdicts
check_result = check_result_in today

-- "On a refusal nothing lent changes."
unfoldable pub outcome : (order cells : List ℕ) → Result Verdicts → Outcome
unfolding fill
outcome order cells (Err r) = record { answer = Err r; order = order; cells = cells }
outcome order cells (Ok v) =
    record { answer = answered v.verdict; order = fill (listed v.verdict) order; cells = fill v.cells cells }

-- The whole check; `order` and `cells` are what the lent lists hold.
unfoldable pub check_in : Format → (program start recorded order cells : List ℕ) → Outcome
unfolding check_result_in outcome
check_in format program start recorded order cells =
    outcome order cells (check_result_in format program start recorded (length order) (length cells))

abbrev pub check : (program start recorded order cells : List ℕ) → Outcome
check = check_in today

-- The recorder's entry: "both lists there are bytes, two an entry, and an odd last byte is never used."
unfoldable pub entry_bytes : List ℕ → List ℕ
entry_bytes [] = []
entry_bytes (n ∷ entries) = word_bytes n ++ entry_bytes entries

-- The same, read.
unfoldable pub two_by_two : List ℕ → List ℕ
two_by_two [] = []
two_by_two (odd ∷ []) = []
two_by_two (high ∷ low ∷ rest) = (high * byte_values + low) ∷ two_by_two rest

unfoldable pub outcome_bytes : (order cells : List ℕ) → Result Verdicts → Outcome
unfolding fill entry_bytes
outcome_bytes order cells (Err r) = record { answer = Err r; order = order; cells = cells }
outcome_bytes order cells (Ok v) =
    record {
      answer = answered v.verdict;
      order = fill (entry_bytes (listed v.verdict)) order;
      cells = fill (entry_bytes v.cells) cells;
    }

unfoldable pub check_bytes_in : Format → (program start recorded order cells : List ℕ) → Outcome
unfolding check_result_in outcome_bytes
check_bytes_in format program start recorded order cells =
    outcome_bytes order cells (check_result_in format program start recorded (length order / 2) (length cells / 2))

abbrev pub check_bytes : (program start recorded order cells : List ℕ) → Outcome
check_bytes = check_bytes_in today
