-- Chains of edges. Of two events that conflict, or that are commands of one rank, the first one's group reaches the second one's along edges: if no
-- event between them stops the search the edge is there, or the groups are one; if one does, it stands in the same relation to both, and the two
-- parts are shorter.
use Rattle.std.specs.Prelude.{Option, Some, None, slice_get}
use Rattle.model.proofs.Options.{some-injective, none-ne-some}
use Prim.Native.Nat.{ℕ, zero, suc, ◌+◌, ◌≤◌, ◌<◌}
use mathlib.Core.Path.{◌≡◌, refl, sym, ap, ◌∙◌}
use mathlib.Core.Bool.{Bool, true, false}
use mathlib.Core.List.{List}
use mathlib.Core.Logic.{◌⊎◌, inl, inr, ⊎_elim}
use native.Mathlib.Omega.{arith}
use lib.Dec.{eqb, ltb}
use borrow.Author.Tests.{eqb-true, eqb-false, ltb-true, ltb-false}
use Rattle.model.specs.Replay.{Event}
use Rattle.model.specs.HappensBefore.{same_sequence, overwrites, conflict, At, Follows, ProgramOrder, Conflict, HappensBefore}
use Rattle.model.proofs.Laws.{decided}
use Rattle.ordering.proofs.Links.{sequence_test, write_splits}

-- A chain of edges from the first group to the second, of any length; no edge at all if they are one.
pub data Reaches (events : List Event) : ℕ → ℕ → Type 0 where
  same : {g h : ℕ} → g ≡ h → Reaches events g h
  step : {g k h : ℕ} → HappensBefore events g k → Reaches events k h → Reaches events g h

-- One chain after another.
pub reaches_trans : {events : List Event} {g k h : ℕ} → Reaches events g k → Reaches events k h → Reaches events g h
reaches_trans (same e) s = rw e s
reaches_trans (step b r) s = step b (reaches_trans r s)

-- A transitive relation that each edge is in holds along every chain.
module _ (events : List Event) (R : ℕ → ℕ → Type 0) (chains : (g k h : ℕ) → R g k → R k h → R g h)
    (holds : (g h : ℕ) → HappensBefore events g h → R g h) where
  pub reaches_relates : {g h : ℕ} → Reaches events g h → (g ≡ h) ⊎ R g h
  reaches_relates (same e) = inl e
  reaches_relates {g} {h} (step {k} b r) =
      inr (⊎_elim (λ e. rw (← e) (holds g k b)) (λ s. chains g k h (holds g k b) s) (reaches_relates r))

-- An event between two places that passes a test.
pub record Between (events : List Event) (test : Event → Bool) (i j : ℕ) : Type 0 where
  pub k : ℕ
  pub z : Event
  pub after : i < k
  pub before : k < j
  pub at : At events k z
  pub passes : test z ≡ true

-- The event at a place passes a test, or there is none that does.
at_or_none : (events : List Event) (test : Event → Bool) (j : ℕ) (o : Option Event) → slice_get events j ≡ o →
    ((z : Event) × At events j z × (test z ≡ true)) ⊎ ((z : Event) → At events j z → test z ≡ false)
at_or_none events test j None e = inr (λ z at. absurd (none-ne-some _ (sym e ∙ at)))
at_or_none events test j (Some z) e =
    decided (test z) (λ t. inl (z, e, t)) (λ t. inr (λ w at. ap test (some-injective w z (sym at ∙ e)) ∙ t))

-- Some event between two places passes a test, or none does.
pub between_or_none : (events : List Event) (test : Event → Bool) (i j : ℕ) →
    Between events test i j ⊎ ((k : ℕ) (z : Event) → i < k → k < j → At events k z → test z ≡ false)
between_or_none events test i zero = inr (λ k z p q at. absurd (omega arith))
between_or_none events test i (suc j) =
    decided (ltb i j)
    (λ t. go (ltb-true i j t) (between_or_none events test i j) (at_or_none events test j (slice_get events j) refl))
    (λ t. inr (λ k z p q at. absurd (omega (arith, ltb-false i j t))))
  where
    go : i < j → Between events test i j ⊎ ((k : ℕ) (z : Event) → i < k → k < j → At events k z → test z ≡ false) →
        ((z : Event) × At events j z × (test z ≡ true)) ⊎ ((z : Event) → At events j z → test z ≡ false) →
        Between events test i (suc j) ⊎ ((k : ℕ) (z : Event) → i < k → k < suc j → At events k z → test z ≡ false)
    go l (inl b) last = inl (record { k = b.k; z = b.z; after = b.after; before = omega (arith, b.before); at = b.at; passes = b.passes })
    go l (inr none') (inl last) = inl (record { k = j; z = last.0; after = l; before = omega arith; at = last.1; passes = last.2 })
    go l (inr none') (inr fails) =
        inr (λ k z p q at.
        decided (eqb k j)
        (λ t. fails z (rw (eqb-true k j t) at at))
        (λ t. let other : ¬ (k ≡ j) = eqb-false k j t in none' k z p (omega arith) at))

-- The general chain: a link between two events splits at an event between them that stops, and is a reason for an edge where none does.
module _ (events : List Event) (link stop : Event → Event → Bool)
    (splits : (x y z : Event) → link x y ≡ true → stop x z ≡ true → (link x z ≡ true) × (link z y ≡ true))
    (direct : (x y : Event) → link x y ≡ true → Follows events (stop x) x y → ProgramOrder events x y ⊎ Conflict events x y)
  where
    chain : (n i j : ℕ) (x y : Event) → j ≤ i + n → At events i x → At events j y → i < j → link x y ≡ true → Reaches events x.group y.group
    chain zero i j x y b p q l h = absurd (omega arith)
    chain (suc n) i j x y b p q l h =
        ⊎_elim
        (λ m. let (left, right) = splits x y m.z h m.passes in
        reaches_trans
        (chain n i m.k x m.z (omega (arith, m.before)) p m.at m.after left)
        (chain n m.k j m.z y (omega (arith, m.after)) m.at q m.before right))
        (λ none'.
        let reason = direct x y h (record { i = i; j = j; first = p; second = q; before = l; none_between = none' }) in
        decided (eqb x.group y.group)
        (λ t. same (eqb-true x.group y.group t))
        (λ t. step (record { x = x; y = y; from = refl; to = refl; different = eqb-false x.group y.group t; reason = reason }) (same refl)))
        (between_or_none events (stop x) i j)

-- Two events, the one before the other.
module _ (events : List Event) (i j : ℕ) (x y : Event) (first : At events i x) (second : At events j y) (before : i < j) where
  -- Two accesses that conflict: a chain leads from the first one's group to the second one's.
  pub conflict_reaches : conflict x.access y.access ≡ true → Reaches events x.group y.group
  conflict_reaches =
      chain events (λ a b. conflict a.access b.access) (λ a b. overwrites b.access a.access)
      (λ a b c. write_splits a.access b.access c.access)
      (λ a b h f. inr (record { conflicting = h; nearest = f }))
      j i j x y (omega arith) first second before

  -- Two command items of one rank: the same.
  pub program_reaches : same_sequence x y ≡ true → Reaches events x.group y.group
  program_reaches =
      chain events same_sequence same_sequence
      (λ a b c h s. (s, sequence_test a b h c ∙ s))
      (λ a b h f. inl (record { same = h; next = f }))
      j i j x y (omega arith) first second before
