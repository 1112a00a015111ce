-- The facts hold of every accepted record: an accepted list of items is a run, and each fact holds of every run.
use mathlib.Core.Path.{◌≡◌, ap}
use mathlib.Core.Bool.{true}
use mathlib.Core.List.{List}
use Rattle.model.specs.declared.Item.{Item}
use Rattle.model.specs.Refusals.{Ok}
use Rattle.model.specs.Choice.{Each}
use Rattle.model.specs.Programs.{Program}
use Rattle.model.specs.Machine.{Start}
use Rattle.model.specs.Replay.{Event, Replay, Replayed, agrees_with, replay}
use Rattle.model.specs.Traces.{InRecord}
use Rattle.record_facts.specs.Facts.{Facts}
use Rattle.record_facts.proofs.Moves.{Move, commands, fetches, delivers}
use Rattle.record_facts.proofs.Trajectory.{AcceptedRun, accepted, move_at}
use Rattle.record_facts.proofs.Counts.{place_of, local_start, local_step, local_end}
use Rattle.record_facts.proofs.Cells.{reads, cells_after_lem}
use Rattle.record_facts.proofs.Shapes.{group_bound, opens, joins, shape}
use Rattle.record_facts.proofs.RowGroups.{row_group}
use Rattle.record_facts.proofs.Bars.{bar_group, bar_index}

-- A step's event agrees with what its item gives.
move_agrees : {P : Program} {s s' : Replay} {e : Event} → Move P s e s' → agrees_with e.item e.access ≡ true
move_agrees (commands i t a c) = c.taken.agreed
move_agrees (fetches i a rest c) = c.agreed
move_agrees (delivers i b rest c) = c.agreed

pub facts : (P : Program) (start : Start) (items : List Item) (run : Replayed) →
    Each (InRecord P.header) items → replay P start items ≡ Ok run → Facts P start items run
facts P start items run within h =
    let a : AcceptedRun P start items run = accepted P start items run within h in
    let taken = a.taken in
    record {
      items_of = taken.items_of;
      agrees = λ i e at. move_agrees (move_at taken.whole i e at).step;
      local = taken.local;
      local_start = local_start taken.whole;
      local_step = local_step taken.whole;
      control_end = λ rank. ap (λ l. l.control) (local_end taken.whole rank);
      registers_end = λ rank. ap (λ l. l.registers) (local_end taken.whole rank);
      place_of = place_of taken.whole;
      reads = reads taken.whole;
      cells_end = λ rank cell. ap (λ cells. cells rank cell) (cells_after_lem taken.whole);
      group_bound = group_bound taken.whole;
      opens = opens taken.whole;
      joins = joins taken.whole;
      shape = shape taken.whole a.no_row a.all_quiet;
      row_group_lem = row_group run.events;
      bar_group = bar_group taken.whole;
      bar_index = bar_index taken.whole;
    }
