-- Edges depend on little of an event: its group, and which others are of its rank's sequence, conflict with it or overwrite it. So events that are
-- told in other words, with as much as that in them, have the same edges.
use Rattle.model.proofs.Options.{none-ne-some, some-injective}
use Prim.Native.Nat.{ℕ, zero, suc}
use mathlib.Core.Path.{◌≡◌, refl, subst, ap₂}
use mathlib.Core.List.{List, [], ◌∷◌, ◌++◌, map}
use Rattle.model.specs.Replay.{Event}
use Rattle.model.specs.HappensBefore.{same_sequence, overwrites, conflict, At, edges, program_edges, conflict_edges, edges_from, edges_of}

-- The events that are fit are told by others that keep what edges depend on.
pub record Retells (Fit : Event → Type 0) (tell : Event → Event) : Type 0 where
  pub group : (x : Event) → Fit x → (tell x).group ≡ x.group
  pub sequence : (x y : Event) → Fit x → Fit y → same_sequence (tell x) (tell y) ≡ same_sequence x y
  pub conflicts : (x y : Event) → Fit x → Fit y → conflict (tell x).access (tell y).access ≡ conflict x.access y.access
  pub overwriting : (x y : Event) → Fit x → Fit y → overwrites (tell x).access (tell y).access ≡ overwrites x.access y.access

-- What holds of every event of a list.
abbrev pub Throughout : (Event → Type 0) → List Event → Type 0
Throughout Fit events = (i : ℕ) (e : Event) → At events i e → Fit e

throughout_more : {Fit : Event → Type 0} (y : Event) (before : List Event) → Fit y → Throughout Fit before → Throughout Fit (y ∷ before)
throughout_more {Fit} y before q p zero e at = subst Fit (some-injective _ _ at) q
throughout_more y before q p (suc i) e at = p i e at

module _ {Fit : Event → Type 0} {tell : Event → Event} (retells : Retells Fit tell) where
  edges_retold : (x y : Event) → Fit x → Fit y → edges (tell x) (tell y) ≡ edges x y
  edges_retold x y p q = rw (retells.group x p, retells.group y q)

  module _ (y : Event) (q : Fit y) where
    program_retold : (before : List Event) → Throughout Fit before → program_edges (tell y) (map tell before) ≡ program_edges y before
    unfolding program_edges
    program_retold [] h = refl
    program_retold (x ∷ before) h =
        rw (retells.sequence x y (h 0 x refl) q, edges_retold x y (h 0 x refl) q, program_retold before (λ i. h (suc i)))

    conflict_retold : (before : List Event) → Throughout Fit before → conflict_edges (tell y) (map tell before) ≡ conflict_edges y before
    unfolding conflict_edges
    conflict_retold [] h = refl
    conflict_retold (x ∷ before) h =
        rw (
          retells.conflicts x y (h 0 x refl) q,
          retells.overwriting x y (h 0 x refl) q,
          edges_retold x y (h 0 x refl) q,
          conflict_retold before (λ i. h (suc i)),
        )

  from_retold : (before rest : List Event) → Throughout Fit before → Throughout Fit rest →
      edges_from (map tell before) (map tell rest) ≡ edges_from before rest
  unfolding edges_from
  from_retold before [] p q = refl
  from_retold before (y ∷ rest) p q =
      ap₂ ◌++◌ (program_retold y (q 0 y refl) before p)
      (ap₂ ◌++◌ (conflict_retold y (q 0 y refl) before p) (from_retold (y ∷ before) rest (throughout_more y before (q 0 y refl) p) (λ i. q (suc i))))

  pub events_retold : (events : List Event) → Throughout Fit events → edges_of (map tell events) ≡ edges_of events
  unfolding edges_of
  events_retold events h = from_retold [] events (λ i e at. absurd (none-ne-some _ at)) h
