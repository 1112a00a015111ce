-- Groups and cells of events that are appended: each is computed event by event, so that of a list and one event more is that of the list, and one
-- step on.
use Prim.Native.Nat.{ℕ}
use mathlib.Core.Path.{◌≡◌, refl}
use mathlib.Core.List.{List, [], ◌∷◌, ◌++◌}
use borrow.Author.Tests.{ne_eqb}
use Rattle.model.specs.Machine.{Start}
use Rattle.model.specs.Replay.{Event}
use Rattle.model.specs.Checks.{in_group, group_events}
use Rattle.model.proofs.Laws.{eqb_refl}
use Rattle.model.proofs.Selections.{select_own, select_other}
use Rattle.record_facts.specs.Facts.{written, cells_after}

-- A group's events.
pub group_own : (done : List Event) (e : Event) → group_events e.group (done ++ e ∷ []) ≡ group_events e.group done ++ e ∷ []
group_own done e = select_own (in_group e.group) done e (eqb_refl e.group)

pub group_other : (g : ℕ) (done : List Event) (e : Event) → ¬ (e.group ≡ g) → group_events g (done ++ e ∷ []) ≡ group_events g done
group_other g done e other = select_other (in_group g) done e (ne_eqb e.group g other)

-- The cells.
pub cells_append : (cells : Start) (a b : List Event) → cells_after cells (a ++ b) ≡ cells_after (cells_after cells a) b
unfolding cells_after
cells_append cells [] b = refl
cells_append cells (e ∷ a) b = cells_append (written cells e.access) a b

pub cells_snoc : (cells : Start) (done : List Event) (e : Event) → cells_after cells (done ++ e ∷ []) ≡ written (cells_after cells done) e.access
unfolding cells_after
cells_snoc cells done e = cells_append cells done (e ∷ [])
