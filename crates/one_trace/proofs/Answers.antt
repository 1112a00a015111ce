-- What the check answers to a call with long enough memory on an accepted record: the verdict on its run, the groups of that, and the last cells.
use Rattle.std.specs.Prelude.{Some, slice_get}
use Prim.Native.Nat.{ℕ, ◌+◌, ◌*◌, ◌-◌}
use mathlib.Core.Path.{◌≡◌, sym, ap, ◌∙◌}
use mathlib.Core.List.{List}
use Rattle.model.specs.Refusals.{Ok}
use Rattle.model.specs.Rules.{Rank, Cell}
use Rattle.model.specs.Checks.{Accepted, verdict_on, last_cells, Outcome, listed, answered, check_in, check_bytes_in, fill}
use Rattle.demands.specs.Entries.{Form, numbers, bytes, entries, first_entries}
use Rattle.demands.specs.Demands.{cells_of, count_in}
use Rattle.demands.proofs.Entries.{written, capacity, filled_reads}
use Rattle.demands.proofs.LastCells.{last_cells_length}
use Rattle.demands.proofs.Outcomes.{outcome_in, result_in, verdicts_of, given_result, cell_read, count_listed}
use Rattle.demands.proofs.Demands.{numbers_written_lem, bytes_written}
use Rattle.one_trace.specs.OneTrace.{checked, Call, outcome_of, groups_in, cells_in, entry_of}

checked_is : (form : Form) (program start recorded order cells : List ℕ) →
    checked form program start recorded order cells ≡ outcome_in form order cells (result_in form program start recorded order cells)
unfolding check_in check_bytes_in capacity
checked_is numbers program start recorded order cells = sym (numbers_written_lem order cells (result_in numbers program start recorded order cells))
checked_is bytes program start recorded order cells = sym (bytes_written order cells (result_in bytes program start recorded order cells))

module _ {program start recorded : List ℕ} {a : Accepted} (call : Call program start recorded a) where
  outcome_is : outcome_of call ≡ outcome_in call.form call.order call.cells (Ok (verdicts_of a))
  outcome_is =
      checked_is call.form program start recorded call.order call.cells ∙
      ap (outcome_in call.form call.order call.cells)
      (given_result call.form program start recorded call.order call.cells a call.answerable)

  pub answer_is : (outcome_of call).answer ≡ answered (verdict_on a.run)
  answer_is = ap (λ (o : Outcome). o.answer) outcome_is

  pub groups_are : groups_in call ≡ listed (verdict_on a.run)
  groups_are =
      ap (λ (o : Outcome). first_entries call.form (count_in o.answer) o.order) outcome_is ∙
      ap (λ n. first_entries call.form n (fill (written call.form (listed (verdict_on a.run))) call.order))
      (count_listed (verdict_on a.run)) ∙
      filled_reads call.form (listed (verdict_on a.run)) call.order

  pub cells_are : cells_in call ≡ last_cells a
  cells_are =
      ap (λ (o : Outcome). first_entries call.form (cells_of a) o.cells) outcome_is ∙
      ap (λ n. first_entries call.form n (fill (written call.form (last_cells a)) call.cells)) (sym (last_cells_length a)) ∙
      filled_reads call.form (last_cells a) call.cells

  pub entry_is : (rank cell : ℕ) → Rank a.program rank → Cell a.program cell → entry_of call rank cell ≡ Some (a.run.last.machine.cells rank cell)
  entry_is rank cell r c =
      ap (λ (o : Outcome). slice_get (entries call.form o.cells) ((rank - 1) * a.program.header.cells + cell)) outcome_is ∙
      cell_read call.form call.cells a rank cell r c
