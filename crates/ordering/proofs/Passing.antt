-- Walks that pass a group. A closed walk can be begun at each group that it passes; one that does not pass a group is left when that group's arrows
-- are taken away; and one arrow of it does not rise.
use Prim.Native.Nat.{ℕ, suc, ◌+◌, ◌≤◌, ◌<◌}
use mathlib.Core.Path.{◌≡◌, sym, subst}
use mathlib.Core.Logic.{◌⊎◌, inl, inr, ⊎_elim}
use mathlib.Core.List.{List}
use native.Mathlib.Omega.{arith}
use lib.Dec.{eqb}
use borrow.Author.Tests.{eqb-true, eqb-false}
use Rattle.model.specs.HappensBefore.{Edge, ◌⟶◌}
use Rattle.model.specs.Lists.{◌∈◌}
use Rattle.model.proofs.Laws.{decided}
use Rattle.ordering.specs.Walks.{Walk, stay, step, Passes}
use Rattle.ordering.proofs.Lengths.{walk_join}

pub walk_more : {edges more : List Edge} {n x h : ℕ} → ((e : Edge) → e ∈ edges → e ∈ more) → Walk edges n x h → Walk more n x h
walk_more up (stay e) = stay e
walk_more up (step a w) = step (up _ a) (walk_more up w)

pub passes_walk : {edges : List Edge} {n x z h : ℕ} → Passes edges n x z h → Walk edges n x h
passes_walk {edges} {x = x} {h = h} p = subst (λ (k : ℕ). Walk edges k x h) p.whole (walk_join p.to p.on)

-- A closed walk, begun where it passes.
pub turned : {edges : List Edge} {n x z : ℕ} → Passes edges n x z x → Passes edges n z x z
turned p = record { i = p.j; j = p.i; to = p.on; on = p.to; whole = omega (arith, p.whole) }

pub passes_step : {edges : List Edge} {n x k z h : ℕ} → x ⟶ k ∈ edges → Passes edges n k z h → Passes edges (suc n) x z h
passes_step a p = record { i = suc p.i; j = p.j; to = step a p.to; on = p.on; whole = omega (arith, p.whole) }

-- A walk passes z on its way, before its end, or none of its arrows comes from z.
pub passes_or_not : {edges rest : List Edge} (z : ℕ) → ((e : Edge) → e ∈ edges → ¬ (e.from ≡ z) → e ∈ rest) → {n x h : ℕ} → Walk edges n x h →
    Passes edges n x z h ⊎ Walk rest n x h
passes_or_not z kept (stay e) = inr (stay e)
passes_or_not {edges} z kept {h = h} (step {n = n} {x = x} a w) =
    decided (eqb x z)
    (λ t. let e : x ≡ z = eqb-true x z t in
    inl (record { i = 0; j = suc n; to = stay e; on = subst (λ (y : ℕ). Walk edges (suc n) y h) e (step a w); whole = omega arith }))
    (λ t. ⊎_elim (λ p. inl (passes_step a p)) (λ v. inr (step (kept _ a (eqb-false x z t)) v)) (passes_or_not z kept w))

-- Where every arrow that another can follow rises, no walk closes.
walk_rises : {edges : List Edge} → ((x h l : ℕ) → x ⟶ h ∈ edges → h ⟶ l ∈ edges → x < h) → {n x h l : ℕ} → Walk edges n x h → h ⟶ l ∈ edges → x + n ≤ h
walk_rises up (stay e) b = omega (arith, e)
walk_rises {edges} up {l = l} (step {x = x} {h = k} a (stay e)) b = omega (arith, e, up x k l a (subst (λ (y : ℕ). y ⟶ l ∈ edges) (sym e) b))
walk_rises up (step {x = x} {h = k} a (step {h = j} c w)) b = omega (arith, up x k j a c, walk_rises up (step c w) b)

pub rising_open : {edges : List Edge} → ((x h l : ℕ) → x ⟶ h ∈ edges → h ⟶ l ∈ edges → x < h) → {n x : ℕ} → 1 ≤ n → ¬ Walk edges n x x
rising_open up one (stay e) = omega (arith, one)
rising_open up one (step a w) = omega (arith, walk_rises up (step a w) a)

-- Of a closed walk, an arrow from where it begins leads to a group that an arrow leads from.
pub goes_on : {edges : List Edge} {n x : ℕ} → 1 ≤ n → Walk edges n x x → (k l : ℕ) × (x ⟶ k ∈ edges) × (k ⟶ l ∈ edges)
goes_on one (stay e) = absurd (omega (arith, one))
goes_on {edges} one (step {x = x} {h = k} a (stay e)) = (k, k, a, subst (λ (y : ℕ). y ⟶ k ∈ edges) (sym e) a)
goes_on one (step {h = k} a (step {h = l} b w)) = (k, l, a, b)
