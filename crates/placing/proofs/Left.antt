-- What a placing leaves, told by the counts alone: a group is left exactly if an arrow of those left leads into it. Those left that no arrow led into
-- could have been taken; and an arrow from a group left leads to one left, since its end cannot be placed before its start.
use Rattle.std.specs.Prelude.{Some, None}
use Prim.Native.Nat.{ℕ, ◌+◌, ◌≤◌, ◌<◌}
use mathlib.Core.Path.{◌≡◌, refl, sym, ap, ◌∙◌}
use mathlib.Core.Bool.{Bool, not, true≢false}
use mathlib.Core.List.{List, [], ◌∷◌}
use native.Mathlib.Omega.{arith}
use lib.Dec.{eqb, ltb}
use lib.ListN.{length}
use borrow.Author.Tests.{eq-eqb}
use Rattle.model.specs.Choice.{select, numbers_from}
use Rattle.model.specs.HappensBefore.{Edge}
use Rattle.model.specs.Orders.{Placing, first_free, without, not_from, stuck, place}
use Rattle.model.specs.Lists.{◌∈◌}
use Rattle.model.proofs.Laws.{decided}
use Rattle.model.proofs.Selections.{select_keeps, select_within}
use Rattle.graph.proofs.Edges.{AllAmong}
use Rattle.model.proofs.Lists.{numbers_from_length, in_numbers_from, numbers_from_bounds, numbers_from_distinct}
use Rattle.ordering.proofs.Placing.{Placed, place_induction, place_placed, none_free}
use Rattle.indexing.specs.Degrees.{in_degree}
use Rattle.placing.proofs.Selecting.{select_same}
use Rattle.placing.proofs.Degrees.{edges_out, but, edges_but, into_counted, into_none}
use Rattle.placing.proofs.Lowest.{without_but}
use Rattle.placing.proofs.Whole.{all_groups, from_below}

-- All groups placed along these arrows; and whether a group waits, by the arrows left.
abbrev pub all_placed : (n : ℕ) → List Edge → Placing
all_placed n edges = place n (numbers_from 0 n) edges

abbrev pub waits : List Edge → ℕ → Bool
waits edges g = not (eqb (in_degree edges g) 0)

-- The groups left are a selection, and the arrows left are those from them.
record Selects (n : ℕ) (edges : List Edge) (p : Placing) : Type 0 where
  left : ℕ → Bool
  unplaced_is : p.unplaced ≡ select left (numbers_from 0 n)
  edges_is : p.edges ≡ edges_out left edges

module _ (n : ℕ) (edges : List Edge) where
  abbrev Selecting : List ℕ → List Edge → Placing → Type 0
  Selecting groups arrows p = (left : ℕ → Bool) → groups ≡ select left (numbers_from 0 n) → arrows ≡ edges_out left edges → Selects n edges p

  selects_stuck : (groups : List ℕ) (arrows : List Edge) → first_free arrows groups ≡ None → Selecting groups arrows (stuck groups arrows)
  unfolding stuck
  selects_stuck groups arrows h left g a = record { left = left; unplaced_is = g; edges_is = a }

  selects_taken : (groups : List ℕ) (arrows : List Edge) (g : ℕ) (rest : Placing) → first_free arrows groups ≡ Some g →
      Selecting (without g groups) (not_from g arrows) rest →
      Selecting groups arrows (record { placed = g ∷ rest.placed; unplaced = rest.unplaced; edges = rest.edges })
  selects_taken groups arrows g rest h later left same_groups same_arrows =
      let s = later (but left g) (rw same_groups (without_but left g 0 n)) (rw same_arrows (edges_but left g edges)) in
      record { left = s.left; unplaced_is = s.unplaced_is; edges_is = s.edges_is }

-- All groups, with arrows between them alone.
module _ (n : ℕ) (edges : List Edge) (between : AllAmong n edges) where
  facts : Placed (numbers_from 0 n) edges (all_placed n edges)
  facts =
      place_placed n (numbers_from 0 n) edges (omega (arith, numbers_from_length 0 n)) (numbers_from_distinct 0 n)
      (λ e m. (
        in_numbers_from 0 n e.from (omega arith) (omega (arith, (between e m).0)),
        in_numbers_from 0 n e.to (omega arith) (omega (arith, (between e m).1)),
      ))

  selection : Selects n edges (all_placed n edges)
  selection =
      place_induction (Selecting n edges) (selects_stuck n edges) (selects_taken n edges) n (numbers_from 0 n) edges
      (omega (arith, numbers_from_length 0 n)) (λ g. ltb g n) (sym (all_groups n)) (sym (from_below n edges (λ e m. (between e m).0)))

  -- A group is left exactly if it waits.
  left_waits : (g : ℕ) → g < n → selection.left g ≡ waits (all_placed n edges).edges g
  left_waits g b =
      decided (selection.left g)
      (λ t.
      let one : g ∈ numbers_from 0 n = in_numbers_from 0 n g (omega arith) (omega (arith, b)) in
      let here : g ∈ (all_placed n edges).unplaced = rw selection.unplaced_is (select_keeps selection.left (numbers_from 0 n) one t) in
      t
      ∙ sym (none_free (all_placed n edges).edges (all_placed n edges).unplaced facts.nothing_free g here)
      ∙ into_counted g (all_placed n edges).edges)
      (λ t.
      let None : in_degree (all_placed n edges).edges g ≡ 0 =
      into_none g (all_placed n edges).edges
      (λ e m q.
      let end : g ∈ (all_placed n edges).unplaced = rw (← q) (facts.left_within e m).1 in
      true≢false (sym (select_within selection.left (numbers_from 0 n) (rw selection.unplaced_is at end)).1 ∙ t)) in
      t ∙ ap not (sym (eq-eqb (in_degree (all_placed n edges).edges g) 0 None)))

  pub left_waiting : (all_placed n edges).unplaced ≡ select (waits (all_placed n edges).edges) (numbers_from 0 n)
  left_waiting =
      selection.unplaced_is
      ∙ select_same selection.left (waits (all_placed n edges).edges) (numbers_from 0 n)
      (λ g m. let b = numbers_from_bounds 0 n g m in left_waits g (omega (arith, b.1)))

  pub left_edges : (all_placed n edges).edges ≡ select (λ e. waits (all_placed n edges).edges e.from) edges
  left_edges =
      selection.edges_is
      ∙ select_same (λ e. selection.left e.from) (λ e. waits (all_placed n edges).edges e.from) edges
      (λ e m. left_waits e.from (between e m).0)

  -- Groups placed and groups left are all groups: none is left exactly if all are placed.
  pub left_count : length (all_placed n edges).placed + length (all_placed n edges).unplaced ≡ n
  left_count = facts.count ∙ numbers_from_length 0 n

  pub none_left : n ≤ length (all_placed n edges).placed → (all_placed n edges).unplaced ≡ []
  none_left h = no_members (all_placed n edges).unplaced (omega (arith, left_count, h))
    where
      no_members : (l : List ℕ) → length l ≡ 0 → l ≡ []
      no_members [] e = refl
      no_members (x ∷ l) e = absurd (omega (arith, e))

  pub one_left : length (all_placed n edges).placed < n → (g : ℕ) × (rest : List ℕ) × ((all_placed n edges).unplaced ≡ g ∷ rest)
  one_left h = first_member (all_placed n edges).unplaced (omega (arith, left_count, h))
    where
      first_member : (l : List ℕ) → 0 < length l → (g : ℕ) × (rest : List ℕ) × (l ≡ g ∷ rest)
      first_member [] p = absurd (omega (arith, p))
      first_member (x ∷ l) p = (x, l, refl)
