-- From the placing to the verdict. If no group is left, what is placed is an order. If one is left, the walk back from the first of those left
-- closes, within one turn more than there are groups; so the ring among those left is the shortest along the edges left. Every walk that closes goes
-- along edges left: a placed group would stand before itself, since what leads to a placed group is placed before it.
use Prim.Native.Nat.{ℕ, suc, ◌<◌}
use mathlib.Core.Path.{◌≡◌, refl, ap, subst}
use mathlib.Core.List.Memᴰ
use mathlib.Core.List.{List, [], ◌∷◌, ◌++◌}
use mathlib.Core.Logic.{⊎_elim}
use native.Mathlib.Omega.{arith}
use lib.ListN.{length}
use Rattle.model.specs.Choice.{numbers_from}
use Rattle.model.specs.HappensBefore.{Edge, ◌⟶◌}
use Rattle.model.specs.Orders.{Placing, place, ordered, cyclic, judged_by, verdict}
use Rattle.model.specs.Rings.{ring}
use Rattle.model.specs.Lists.{◌∈◌, Precedes}
use Rattle.model.proofs.Lists.{here, there, at_position, distinct_within, precedes_trans, precedes_irreflexive}
use Rattle.model.proofs.Lists.{numbers_from_length, numbers_from_bounds, in_numbers_from, numbers_from_distinct, numbers_from_rising}
use Rattle.ordering.proofs.Placing.{Placed, place_placed}
use Rattle.ordering.specs.Walks.{Along, Closed}
use Rattle.ordering.proofs.Walks.{closed_more, along_relates}
use Rattle.ordering.proofs.WalkBack.{walk_back, walk_closes}
use Rattle.ordering.specs.Orders.{Proper, TopologicalOrder}
use Rattle.ordering.proofs.Shortest.{ShortestAmong, ring_shortest}

-- An order comes if no group is left unplaced, and is what is placed. A cycle comes if one is left, and is the ring among those left.
judged_ordered : (placed unplaced : List ℕ) (edges : List Edge) {l : List ℕ} → judged_by placed unplaced edges ≡ ordered l →
    (unplaced ≡ []) × (placed ≡ l)
unfolding judged_by
judged_ordered placed [] edges h = (refl, cc)
judged_ordered placed (g ∷ rest) edges h = let z : ◌≡◌ {A = ℕ} 0 1 = cc in absurd (omega arith)

judged_cyclic : (placed unplaced : List ℕ) (edges : List Edge) {l : List ℕ} → judged_by placed unplaced edges ≡ cyclic l →
    (g : ℕ) × (g ∈ unplaced) × (ring unplaced edges ≡ l)
unfolding judged_by
judged_cyclic placed [] edges h = let z : ◌≡◌ {A = ℕ} 0 1 = cc in absurd (omega arith)
judged_cyclic placed (g ∷ rest) edges h = (g, here refl, cc)

-- A walk whose groups are not placed goes along those edges that come from such groups.
along_left : {left : List ℕ} {more : List Edge} (edges : List Edge) → ((e : Edge) → e ∈ edges → ¬ (e.from ∈ left) → e ∈ more) → (g : ℕ) (l : List ℕ) →
    ¬ (g ∈ left) → ((h : ℕ) → h ∈ l → ¬ (h ∈ left)) → Along edges g l → Along more g l
along_left edges keep g [] first rest a = tt
along_left edges keep g (h ∷ l) first rest a =
    (keep (g ⟶ h) a.0 first, along_left edges keep h l (rest h (here refl)) (λ x k. rest x (there k)) a.1)

-- A group of the list of all groups is below their number.
pub in_range_lem : (groups g : ℕ) → g ∈ numbers_from 0 groups → g < groups
in_range_lem groups g m = omega (arith, (numbers_from_bounds 0 groups g m).1)

-- What is placed is an order, if nothing is left.
placed_order : (groups : ℕ) (edges : List Edge) (p : Placing) → Proper groups edges → Placed (numbers_from 0 groups) edges p → p.unplaced ≡ [] →
    TopologicalOrder groups edges p.placed
placed_order groups edges p proper facts empty =
    let each : (g : ℕ) → g < groups → g ∈ p.placed =
    λ g h.
    ⊎_elim (λ m. m) (λ m. absurd (Memᴰ.not-nil (rw empty at m)))
    (facts.each g (in_numbers_from 0 groups g (omega arith) (omega arith))) in
    record {
      below = λ g m. in_range_lem groups g (facts.placed_within g m);
      each = each;
      once = facts.placed_once;
      count = omega (arith, facts.count, numbers_from_length 0 groups, ap length empty);
      forward = λ e m. facts.forward e m (each e.to (proper.below e m).1);
    }

-- All groups, placed along their edges.
module _ (groups : ℕ) (edges : List Edge) (proper : Proper groups edges) where
  placing : Placing
  placing = place groups (numbers_from 0 groups) edges

  -- It comes to what a placing comes to.
  placing_placed : Placed (numbers_from 0 groups) edges placing
  unfolding placing
  placing_placed =
      place_placed groups (numbers_from 0 groups) edges (omega (arith, numbers_from_length 0 groups)) (numbers_from_distinct 0 groups)
      (λ e m. (
        in_numbers_from 0 groups e.from (omega arith) (omega (arith, (proper.below e m).0)),
        in_numbers_from 0 groups e.to (omega arith) (omega (arith, (proper.below e m).1)),
      ))

  -- The order that comes is what is placed.
  pub verdict_placed : (l : List ℕ) → verdict groups edges ≡ ordered l → TopologicalOrder groups edges l
  unfolding verdict placing
  verdict_placed l h =
      let (empty, same) = judged_ordered placing.placed placing.unplaced placing.edges h in
      subst (TopologicalOrder groups edges) same (placed_order groups edges placing proper placing_placed empty)

  -- Every closed walk goes along the edges left.
  unplaced_closed : (walk : List ℕ) → Closed edges walk → Closed placing.edges walk
  unplaced_closed [] c = absurd c
  unplaced_closed (g ∷ l) c =
      let facts : Placed (numbers_from 0 groups) edges placing = placing_placed in
      let follows : (h : ℕ) → h ∈ l ++ g ∷ [] → h ∈ placing.placed → Precedes placing.placed g h =
      along_relates edges (λ x y. y ∈ placing.placed → Precedes placing.placed x y)
      (λ x y z p q m. let later = q m in
      precedes_trans placing.placed facts.placed_once (p (at_position placing.placed later.i later.first)) later)
      facts.forward g (l ++ g ∷ []) c in
      let first_left : ¬ (g ∈ placing.placed) =
      λ m. precedes_irreflexive placing.placed facts.placed_once (follows g (Memᴰ.append_right l (here refl)) m) in
      along_left edges (λ e k n. facts.edges_kept e k n) g (l ++ g ∷ []) first_left
      (λ h k m. let before = follows h k m in first_left (at_position placing.placed before.i before.first)) c

  -- The cycle that comes is the shortest ring along the edges left.
  verdict_ring : (l : List ℕ) → verdict groups edges ≡ cyclic l → ShortestAmong placing.unplaced placing.edges l
  unfolding verdict placing
  verdict_ring l h =
      let facts : Placed (numbers_from 0 groups) edges placing = placing_placed in
      let (g, m, same) = judged_cyclic placing.placed placing.unplaced placing.edges h in
      let circuit =
      walk_closes placing.unplaced placing.edges facts.left_within facts.nothing_free (suc groups) [] g tt
      (λ x k. absurd (Memᴰ.not-nil k)) m tt (omega (arith, facts.count, numbers_from_length 0 groups)) in
      let walk : List ℕ = walk_back (suc groups) [] g placing.edges in
      subst (ShortestAmong placing.unplaced placing.edges) same
      (ring_shortest placing.unplaced placing.edges (facts.unplaced_rise (numbers_from_rising 0 groups))
      (λ e k. (facts.left_within e k).0) walk circuit.closed (distinct_within walk placing.unplaced circuit.distinct circuit.within))

  -- Its groups are of those that there are, and along all edges it is the shortest too.
  pub verdict_shortest : (l : List ℕ) → verdict groups edges ≡ cyclic l → ShortestAmong (numbers_from 0 groups) edges l
  verdict_shortest l h =
      let facts : Placed (numbers_from 0 groups) edges placing = placing_placed in
      let among = verdict_ring l h in
      record {
        circuit =
            record {
              closed = closed_more facts.edges_left l among.circuit.closed;
              distinct = among.circuit.distinct;
              within = λ x k. facts.unplaced_within x (among.circuit.within x k);
            };
        lowest = among.lowest;
        fewest = λ walk c. among.fewest walk (unplaced_closed walk c);
        first = λ walk c. among.first walk (unplaced_closed walk c);
      }
