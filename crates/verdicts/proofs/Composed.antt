-- The verdict is put together from the placing and the ring. Where all groups are placed it is their order; where one is left, the groups that wait
-- are those that are left, so that the ring among them is the definition's.
use Prim.Native.Nat.{ℕ, ◌+◌, ◌≤◌, ◌<◌}
use mathlib.Core.Path.{◌≡◌, sym, ap, ap₂, ◌∙◌}
use mathlib.Core.Bool.{not}
use mathlib.Core.List.{List}
use native.Mathlib.Omega.{arith}
use lib.Dec.{eqb}
use lib.ListN.{length}
use Rattle.model.specs.declared.Verdict.TheVariants.{Order, Ring}
use Rattle.model.specs.Limits.{max_items}
use Rattle.model.specs.Choice.{select, numbers_from}
use Rattle.model.specs.HappensBefore.{Edge}
use Rattle.model.specs.Orders.{Placing, ordered, cyclic, judged_by, verdict}
use Rattle.model.specs.Rings.{ring}
use Rattle.memory.proofs.Filled.{numbers_at}
use Rattle.model.proofs.Lists.{numbers_from_bounds}
use Rattle.graph.specs.Edges.{among, groups_in}
use Rattle.graph.proofs.Edges.{AllAmong, selected_among, groups_bound}
use Rattle.indexing.specs.Degrees.{in_degree, in_degrees}
use Rattle.placing.specs.declared.Placed.{Placed}
use Rattle.placing.specs.Placed.{placed_as}
use Rattle.placing.proofs.Left.{all_placed, left_waiting, left_edges, none_left, one_left}
use Rattle.placing.proofs.Selecting.{select_same}
use Rattle.rings.specs.declared.Found.{Found}
use Rattle.rings.specs.Found.{waits, ring_among, found_as}
use Rattle.verdicts.specs.declared.Judged.{Judged}
use Rattle.verdicts.specs.Judged.{judged_as}

-- The array of counts says which groups wait.
waits_counted : (edges : List Edge) (g : ℕ) → g < max_items → waits (in_degrees edges) g ≡ not (eqb (in_degree edges g) 0)
waits_counted edges g h =
    let z : 0 + g ≡ g = omega arith in
    ap (λ k. not (eqb k 0)) (numbers_at (in_degree edges) 0 max_items g 0 h ∙ ap (in_degree edges) z)

-- Arrows between the groups below a number.
module _ (groups : ℕ) (edges : List Edge) (between : AllAmong groups edges) where
  abbrev placing : Placing
  placing = all_placed groups edges

  -- Where all are placed, the verdict is their order.
  pub all_placed_lem : groups ≤ length placing.placed → verdict groups edges ≡ ordered placing.placed
  unfolding verdict judged_by
  all_placed_lem h = ap (λ l. judged_by placing.placed l placing.edges) (none_left groups edges between h)

  -- Where some are not, it is the ring among those that wait.
  ring_left : groups ≤ max_items → ring_among groups (in_degrees placing.edges) edges ≡ ring placing.unplaced placing.edges
  unfolding ring_among
  ring_left fits =
      ap₂ ring
      (select_same (waits (in_degrees placing.edges)) _ (numbers_from 0 groups)
      (λ g m. waits_counted placing.edges g (omega (arith, (numbers_from_bounds 0 groups g m).1)))
      ∙ sym (left_waiting groups edges between))
      (select_same (λ e. waits (in_degrees placing.edges) e.from) _ edges
      (λ e m. waits_counted placing.edges e.from (omega (arith, (between e m).0)))
      ∙ sym (left_edges groups edges between))

  pub some_left : groups ≤ max_items → length placing.placed < groups →
      verdict groups edges ≡ cyclic (ring_among groups (in_degrees placing.edges) edges)
  unfolding verdict judged_by
  some_left fits h =
      let (g, rest, first) = one_left groups edges between h in
      ap (λ l. judged_by placing.placed l placing.edges) first
      ∙ ap cyclic (sym (ring_left fits ∙ ap (λ l. ring l placing.edges) first))

-- What the code answers, by what it was told of the placing and of the ring.
module _ (groups : ℕ) (drawn : List Edge) where
  abbrev limit : ℕ
  limit = groups_in groups

  abbrev edges : List Edge
  edges = select (among limit) drawn

  between : AllAmong limit edges
  between = selected_among limit drawn

  module _ {p : Placed} (placed : p ≡ placed_as (all_placed limit edges)) {all : ℕ} (counted : all ≡ limit) where
    count_is : p.count ≡ length (all_placed limit edges).placed
    count_is = ap (λ (q : Placed). q.count) placed

    pub judged_order : all ≤ p.count →
        ◌≡◌ {A = Judged} (record { verdict = Order p.count; groups = p.order }) (judged_as (verdict limit edges))
    judged_order h =
        ap (λ (q : Placed). record { verdict = Order q.count; groups = q.order }) placed
        ∙ ap judged_as (sym (all_placed_lem limit edges between (omega (arith, count_is))))

    pub judged_ring : p.count < all → {f : Found} → f ≡ found_as (ring_among limit p.waiting edges) →
        ◌≡◌ {A = Judged} (record { verdict = Ring f.count; groups = f.ring }) (judged_as (verdict limit edges))
    judged_ring h found =
        ap (λ (g : Found). record { verdict = Ring g.count; groups = g.ring })
        (found ∙ ap (λ (q : Placed). found_as (ring_among limit q.waiting edges)) placed)
        ∙ ap judged_as (sym (some_left limit edges between (groups_bound groups) (omega (arith, count_is))))
