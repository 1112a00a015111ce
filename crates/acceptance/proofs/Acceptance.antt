-- Demand 2: a record is accepted exactly if it is a run of the program under Table 1 of the source, ending with empty queues. The state that the
-- replay leaves is the run's last. It is proved from both sides: Soundness shows that what is accepted is a run, Completeness that a run is accepted.
use mathlib.Core.Path.{◌≡◌, subst}
use mathlib.Core.List.{List}
use mathlib.Core.Logic.{◌↔◌}
use Rattle.model.specs.declared.Item.{Item}
use Rattle.model.specs.Refusals.{Ok}
use Rattle.model.specs.Choice.{Each, all, one}
use Rattle.model.specs.ItemKinds.{Part, command, fetch, delivery, part_of}
use Rattle.model.specs.Programs.{Program}
use Rattle.model.specs.Machine.{Start}
use Rattle.model.specs.Rules.{Bare, IsRun}
use Rattle.model.specs.Replay.{Replayed, replay}
use Rattle.model.specs.Traces.{ChosenIn, InRecord}
use Rattle.acceptance.specs.Bare.{bare}
use Rattle.acceptance.specs.Ranges.{NamedIn, InRange}
use Rattle.acceptance.proofs.Soundness.{accepted_run}
use Rattle.acceptance.proofs.Completeness.{run_accepted}

-- Accepted (document 01): the replay refuses no item and not the end, and leaves this state.
abbrev pub ReplaysTo : Program → Start → List Item → Bare → Type 0
ReplaysTo P start items last = (r : Replayed) × (replay P start items ≡ Ok r) × (bare r.last.machine ≡ last)

-- For every program, every start, and every list of items whose ranks and queues the machine has, of any length.
pub accepted_iff_run : (P : Program) (start : Start) (items : List Item) (last : Bare) → Each (InRange P) items →
    ReplaysTo P start items last ↔ IsRun P start items last
accepted_iff_run P start items last ranges =
    (λ a. subst (IsRun P start items) a.2 (accepted_run P start items a.0 ranges a.1), run_accepted P start items last)

-- "items as a record has them" are such items.
pub in_record_in_range : (P : Program) {items : List Item} → Each (InRecord P.header) items → Each (InRange P) items
in_record_in_range P all = all
in_record_in_range P (one {a = i} h rest) =
    one (record { rank = record { low = h.low; high = h.high }; named = go (part_of i.kind) h.choice }) (in_record_in_range P rest)
  where
    go : (p : Part) → ChosenIn P.header p i → NamedIn P p i
    go command c = tt
    go fetch (queue, remote) = record { queue = queue; remote = remote }
    go delivery (queue, remote) = record { queue = queue; remote = remote }

-- The same for items as a record has them.
pub record_accepted_iff_run : (P : Program) (start : Start) (items : List Item) (last : Bare) → Each (InRecord P.header) items →
    ReplaysTo P start items last ↔ IsRun P start items last
record_accepted_iff_run P start items last h = accepted_iff_run P start items last (in_record_in_range P h)
