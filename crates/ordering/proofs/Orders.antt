-- Orders and cycles of the groups: along an order no walk closes, a cycle is a closed walk, and there is one shortest ring at most.
use Rattle.std.specs.Prelude.{Some, slice_get}
use Prim.Native.Nat.{ℕ, suc, ◌≤◌}
use mathlib.Core.Path.{◌≡◌, refl, sym, ap}
use mathlib.Core.List.{List, [], ◌∷◌, ◌++◌}
use native.Mathlib.Omega.{arith}
use lib.ListN.{length}
use Rattle.model.specs.HappensBefore.{Edge, ◌⟶◌}
use Rattle.model.specs.Lists.{◌∈◌, Precedes}
use Rattle.model.proofs.Lists.{precedes_trans, precedes_irreflexive, pigeonhole}
use Rattle.ordering.specs.Walks.{Along, Closed}
use Rattle.ordering.specs.Orders.{TopologicalOrder, Cycle, ComesFirst, end, less, equal, ShortestRing}
use Rattle.ordering.proofs.Walks.{not_closed}

-- Along the edges of an order no walk closes.
pub order_acyclic : (groups : ℕ) (edges : List Edge) (l : List ℕ) → TopologicalOrder groups edges l → (walk : List ℕ) → ¬ Closed edges walk
order_acyclic groups edges l order =
    not_closed edges (Precedes l) (λ g k h. precedes_trans l order.once) order.forward (λ g. precedes_irreflexive l order.once)

-- A cycle has no more groups than there are.
pub cycle_length : (groups : ℕ) (edges : List Edge) (l : List ℕ) → Cycle groups edges l → length l ≤ groups
cycle_length groups edges l c = pigeonhole groups l c.once c.below

-- A cycle, which is said by places, is a closed walk.
along_from : (edges : List Edge) (g : ℕ) (l : List ℕ) (x : ℕ) →
    ((i a b : ℕ) → slice_get (g ∷ l) i ≡ Some a → slice_get l i ≡ Some b → a ⟶ b ∈ edges) →
    ((i a : ℕ) → i ≡ length l → slice_get (g ∷ l) i ≡ Some a → a ⟶ x ∈ edges) → Along edges g (l ++ x ∷ [])
along_from edges g [] x next last = (last 0 g refl refl, tt)
along_from edges g (h ∷ l) x next last =
    (next 0 g h refl refl, along_from edges h l x (λ i a b p q. next (suc i) a b p q) (λ i a e p. last (suc i) a (ap suc e) p))

pub cycle_closed : (groups : ℕ) (edges : List Edge) (l : List ℕ) → Cycle groups edges l → Closed edges l
cycle_closed groups edges [] c = absurd (omega (arith, c.two))
cycle_closed groups edges (g ∷ l) c = along_from edges g l g (λ i a b. c.next i a b) (λ i a e p. c.back i a g (ap suc e) p refl)

-- Two lists that each come before the other are one; so there is one shortest ring at most.
pub comes_one : {l m : List ℕ} → ComesFirst l m → ComesFirst m l → l ≡ m
comes_one end b = refl
comes_one (less p) (less q) = absurd (omega arith)
comes_one (less p) (equal e b) = absurd (omega arith)
comes_one (equal e a) (less q) = absurd (omega arith)
comes_one (equal {l = l} {m = m} e a) (equal d b) = rw (e, comes_one a b)

pub shortest_one : (groups : ℕ) (edges : List Edge) (l m : List ℕ) → ShortestRing groups edges l → ShortestRing groups edges m → l ≡ m
shortest_one groups edges l m p q =
    let l_closed : Closed edges l = cycle_closed groups edges l p.cycle in
    let m_closed : Closed edges m = cycle_closed groups edges m q.cycle in
    let long : length l ≡ length m = omega (arith, p.fewest m m_closed, q.fewest l l_closed) in
    comes_one (p.first m m_closed (sym long)) (q.first l l_closed long)
