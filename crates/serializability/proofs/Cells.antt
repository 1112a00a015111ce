-- What a cell holds after some events depends on the writes to it alone: of the events only those at the cell matter.
use Rattle.std.specs.Prelude.{Option, Some, None}
use mathlib.Core.Path.{◌≡◌, refl, sym, ◌∙◌}
use mathlib.Core.Bool.{Bool, true, false, ◌&&◌, true≢false}
use mathlib.Core.List.{List, [], ◌∷◌}
use lib.Dec.{eqb}
use Rattle.model.specs.declared.Address.{Address}
use Rattle.model.specs.Choice.{when, select}
use Rattle.model.specs.Machine.{Access, Start, put₂}
use Rattle.model.specs.Replay.{Event, same_address}
use Rattle.model.proofs.Selections.{select_yes, select_no}
use Rattle.model.proofs.Replay.{true_same_address}
use Rattle.model.proofs.Laws.{decided, put₂_other, true_and}
use Rattle.record_facts.specs.Facts.{written, cells_after}

-- An access writes the cell at this address.
unfoldable pub writes_to : Address → Option Access → Bool
writes_to a None = false
writes_to a (Some b) = same_address a b.address && b.writes

-- Else it leaves that cell as it is.
pub written_elsewhere : (cells : Start) (x : Option Access) (a : Address) → writes_to a x ≡ false →
    written cells x a.rank a.cell ≡ cells a.rank a.cell
unfolding writes_to written
written_elsewhere cells None a h = refl
written_elsewhere cells (Some b) a h =
    decided b.writes
    (λ w. rw (w, when)
    (put₂_other cells b.address.rank b.address.cell b.value a.rank a.cell
    (λ same. true≢false (sym (true_and (same_address a b.address) b.writes (true_same_address a b.address
    (λ i. record { rank = same.0 i; cell = same.1 i })) w) ∙ h))))
    (λ w. rw (w, when))

-- Cells that agree at an address agree there after a write.
pub written_agree : (cells others : Start) (x : Option Access) (a : Address) → cells a.rank a.cell ≡ others a.rank a.cell →
    written cells x a.rank a.cell ≡ written others x a.rank a.cell
unfolding written put₂
written_agree cells others None a h = h
written_agree cells others (Some b) a h =
    decided b.writes
    (λ w. rw (w, when)
    (decided (eqb a.rank b.address.rank && eqb a.cell b.address.cell) (λ t. rw (t, when)) (λ t. rw (t, when) h)))
    (λ w. rw (w, when) h)

-- Of the events, those that pass a test that every write to the address passes are enough.
pub cells_after_select : (p : Event → Bool) (a : Address) → ((e : Event) → writes_to a e.access ≡ true → p e ≡ true) →
    (cells others : Start) (events : List Event) → cells a.rank a.cell ≡ others a.rank a.cell →
    cells_after cells events a.rank a.cell ≡ cells_after others (select p events) a.rank a.cell
unfolding cells_after select
cells_after_select p a covers cells others [] h = h
cells_after_select p a covers cells others (e ∷ events) h =
    decided (p e)
    (λ t. rw (select_yes p e events t)
    (cells_after_select p a covers (written cells e.access) (written others e.access) events (written_agree cells others e.access a h)))
    (λ t. rw (select_no p e events t)
    (cells_after_select p a covers (written cells e.access) others events
    (written_elsewhere cells e.access a (decided (writes_to a e.access) (λ w. absurd (true≢false (sym (covers e w) ∙ t))) (λ w. w)) ∙ h)))
