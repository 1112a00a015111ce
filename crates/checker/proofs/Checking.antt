-- The whole check, for lists of either form: what is concluded, once it is written, is the definition's outcome, and so meets the demands.
use Prim.Native.Nat.{ℕ, ◌≤◌}
use mathlib.Core.Path.{◌≡◌, refl, ap, ◌∙◌}
use mathlib.Core.List.{List}
use native.Mathlib.Omega.{arith}
use lib.ListN.{length, replicate}
use Rattle.model.specs.Limits.{max_items}
use Rattle.model.specs.Refusals.{Result, Ok, Err}
use Rattle.model.specs.Bytes.{AreBytes}
use Rattle.model.specs.Checks.{Verdicts, Outcome, fill, entry_bytes, outcome, outcome_bytes, check_result, check_in, check_bytes_in}
use Rattle.memory.specs.Tables.{Table}
use Rattle.lists.specs.Written.{numbers_written, words_written, cells_listed, cells_written, cell_words_written, CellsFit}
use Rattle.lists.proofs.Results.{groups_written, group_words_written, cells_written_lem, cell_words_written_lem}
use Rattle.demands.specs.Entries.{Form, numbers, bytes}
use Rattle.demands.specs.Demands.{MeetsDemands}
use Rattle.demands.proofs.Entries.{written, capacity}
use Rattle.demands.proofs.Demands.{check_meets_demands, check_bytes_meets_demands}
use Rattle.checker.specs.declared.conclusion.Room.{Room}
use Rattle.checker.specs.declared.conclusion.Concluded.{Concluded}
use Rattle.checker.specs.Concluded.{answer_in, listed_in, cells_in, Concludes}
use Rattle.checker.specs.Checked.{definition, answering, Checked}

-- Lists of each form, after groups and after cells are written.
abbrev pub groups_into : Form → (list groups : List ℕ) → (count : ℕ) → List ℕ
groups_into numbers list groups count = numbers_written list 0 groups count
groups_into bytes list groups count = words_written list 0 groups count

abbrev pub cells_into : Form → (list : List ℕ) → Table → (ranks width : ℕ) → List ℕ
cells_into numbers = cells_written
cells_into bytes = cell_words_written

groups_into_lem : (form : Form) (groups list rest : List ℕ) (count : ℕ) → count ≡ length groups → length groups ≤ capacity form list →
    groups_into form list (fill groups rest) count ≡ fill (written form groups) list
unfolding capacity
groups_into_lem numbers = groups_written
groups_into_lem bytes = group_words_written

cells_into_lem : (form : Form) (list : List ℕ) (cells : Table) (ranks width : ℕ) → CellsFit (capacity form list) ranks width →
    cells_into form list cells ranks width ≡ fill (written form (cells_listed cells ranks width)) list
unfolding capacity
cells_into_lem numbers = cells_written_lem
cells_into_lem bytes = cell_words_written_lem

-- The definition's outcome, by its result.
abbrev outcome_of : Form → (order cells : List ℕ) → Result Verdicts → Outcome
outcome_of numbers = outcome
outcome_of bytes = outcome_bytes

abbrev result_in : Form → (program start recorded order cells : List ℕ) → Result Verdicts
result_in form program start recorded order cells = check_result program start recorded (capacity form order) (capacity form cells)

result_defined : (form : Form) (program start recorded order cells : List ℕ) →
    outcome_of form order cells (result_in form program start recorded order cells) ≡ definition form program start recorded order cells
unfolding check_in check_bytes_in capacity
result_defined numbers program start recorded order cells = refl
result_defined bytes program start recorded order cells = refl

filled_outcome : (form : Form) (order cells : List ℕ) (m : Result Verdicts) →
    answering (answer_in m) (fill (written form (listed_in m)) order) (fill (written form (cells_in m)) cells) ≡ outcome_of form order cells m
unfolding outcome outcome_bytes fill entry_bytes
filled_outcome numbers order cells (Ok v) = refl
filled_outcome numbers order cells (Err r) = refl
filled_outcome bytes order cells (Ok v) = refl
filled_outcome bytes order cells (Err r) = refl

definition_meets : (form : Form) (program start recorded order cells : List ℕ) → AreBytes recorded →
    MeetsDemands form program start recorded order cells (definition form program start recorded order cells)
definition_meets numbers = check_meets_demands
definition_meets bytes = check_bytes_meets_demands

module _ (form : Form) (program start recorded order cells : List ℕ) (are_bytes : AreBytes recorded) where
  abbrev result : Result Verdicts
  result = result_in form program start recorded order cells

  abbrev room : Room
  room = record { groups = capacity form order; cells = capacity form cells }

  module _ {last : Table} {k : Concluded} (concludes : Concludes result room last k) where
    groups_filled : groups_into form order k.groups k.count ≡ fill (written form (listed_in result)) order
    groups_filled =
        rw concludes.lists
        (groups_into_lem form (listed_in result) order (replicate max_items 0) k.count concludes.counts
        (omega (arith, concludes.counts, concludes.list_fits)))

    cells_filled : cells_into form cells last k.ranks k.width ≡ fill (written form (cells_in result)) cells
    cells_filled =
        cells_into_lem form cells last k.ranks k.width concludes.cells_fit
        ∙ ap (λ l. fill (written form l) cells) concludes.fills

    module _ {order' cells' : List ℕ} (writes_groups : order' ≡ groups_into form order k.groups k.count)
        (writes_cells : cells' ≡ cells_into form cells last k.ranks k.width) where
      same : answering k.answer order' cells' ≡ definition form program start recorded order cells
      same =
          (λ j. answering (concludes.answers j) ((writes_groups ∙ groups_filled) j) ((writes_cells ∙ cells_filled) j))
          ∙ filled_outcome form order cells result
          ∙ result_defined form program start recorded order cells

      pub checks : Checked form program start recorded order cells (answering k.answer order' cells')
      checks = record { same = same; meets = rw same (definition_meets form program start recorded order cells are_bytes) }
