-- What the verdict says. "The greedy definition gives either a permutation of all groups in which every arrow goes forward, or a ring: two or more
-- groups, no repeat, each with an arrow to the next and the last to the first; listed from its lowest number. Nothing else is possible." The order
-- comes exactly if no walk along the edges closes, and so wherever some number rises along every edge. The ring is the one that document 02 asks for.
use Prim.Native.Nat.{ℕ, ◌<◌}
use mathlib.Core.Path.{◌≡◌, refl, ap, ◌∙◌}
use mathlib.Core.List.{List}
use mathlib.Core.Logic.{◌⊎◌, inl, inr, ⊎_elim}
use native.Mathlib.Omega.{arith}
use Rattle.model.specs.HappensBefore.{Edge}
use Rattle.model.specs.Orders.{Verdict, ordered, cyclic, verdict}
use Rattle.model.specs.Lists.{◌∈◌}
use Rattle.ordering.specs.Walks.{Closed}
use Rattle.ordering.proofs.Walks.{closed_next, closed_back, closed_two, not_closed}
use Rattle.ordering.specs.Orders.{Proper, TopologicalOrder, ShortestRing}
use Rattle.ordering.proofs.Orders.{order_acyclic, cycle_closed, shortest_one}
use Rattle.ordering.proofs.Judging.{in_range_lem, verdict_placed, verdict_shortest}

-- A verdict is one or the other.
either : (v : Verdict) → ((l : List ℕ) × (v ≡ ordered l)) ⊎ ((l : List ℕ) × (v ≡ cyclic l))
either (ordered l) = inl (l, refl)
either (cyclic l) = inr (l, refl)

-- "Nothing else is possible."
pub ordered_or_cyclic : (groups : ℕ) (edges : List Edge) →
    ((l : List ℕ) × (verdict groups edges ≡ ordered l)) ⊎ ((l : List ℕ) × (verdict groups edges ≡ cyclic l))
ordered_or_cyclic groups edges = either (verdict groups edges)

-- Edges between the groups below a number, each between two.
module _ (groups : ℕ) (edges : List Edge) (proper : Proper groups edges) where
  -- The order is "a permutation of all groups in which every arrow goes forward".
  pub verdict_order : (l : List ℕ) → verdict groups edges ≡ ordered l → TopologicalOrder groups edges l
  verdict_order = verdict_placed groups edges proper

  -- The cycle is the shortest ring, "two or more groups, no repeat, each with an arrow to the next and the last to the first; listed from its lowest
  -- number".
  pub verdict_shortest_ring : (l : List ℕ) → verdict groups edges ≡ cyclic l → ShortestRing groups edges l
  verdict_shortest_ring l h =
      let ring = verdict_shortest groups edges proper l h in
      record {
        cycle =
            record {
              two = closed_two edges proper.different l ring.circuit.closed;
              below = λ g m. in_range_lem groups g (ring.circuit.within g m);
              once = ring.circuit.distinct;
              next = λ i g x. closed_next edges l ring.circuit.closed i;
              back = λ i g x. closed_back edges l ring.circuit.closed i;
              lowest = ring.lowest;
            };
        fewest = ring.fewest;
        first = ring.first;
      }

  -- It is the only one, and where there is one the verdict is that.
  pub shortest_ring_verdict : (l : List ℕ) → ShortestRing groups edges l → verdict groups edges ≡ cyclic l
  shortest_ring_verdict l ring =
      ⊎_elim
      (λ o. absurd (order_acyclic groups edges o.0 (verdict_order o.0 o.1) l (cycle_closed groups edges l ring.cycle)))
      (λ c. c.1 ∙ ap cyclic (shortest_one groups edges c.0 l (verdict_shortest_ring c.0 c.1) ring))
      (ordered_or_cyclic groups edges)

  -- Where no walk closes, the verdict is an order.
  pub acyclic_ordered : ((walk : List ℕ) → ¬ Closed edges walk) → (l : List ℕ) × (verdict groups edges ≡ ordered l)
  acyclic_ordered acyclic =
      ⊎_elim
      (λ o. o)
      (λ c. absurd (acyclic c.0 (verdict_shortest groups edges proper c.0 c.1).circuit.closed))
      (ordered_or_cyclic groups edges)

  -- Where some number rises along every edge, no cycle comes.
  module _ (φ : ℕ → ℕ) (rises : (e : Edge) → e ∈ edges → φ e.from < φ e.to) where
    rising_acyclic : (walk : List ℕ) → ¬ Closed edges walk
    rising_acyclic = not_closed edges (λ g h. φ g < φ h) (λ g k h p q. omega arith) rises (λ g p. omega arith)

    pub rising_not_cyclic : (l : List ℕ) → ¬ (verdict groups edges ≡ cyclic l)
    rising_not_cyclic l h = rising_acyclic l (verdict_shortest groups edges proper l h).circuit.closed

    pub rising_ordered : (l : List ℕ) × (verdict groups edges ≡ ordered l)
    rising_ordered = acyclic_ordered rising_acyclic
