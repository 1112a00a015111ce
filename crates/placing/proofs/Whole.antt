-- The placing on arrays is the definition's: at the start all groups are left, and the arrays stand for all arrows.
use Prim.Native.Nat.{ℕ, ◌≤◌, ◌<◌, min}
use mathlib.Core.Path.{◌≡◌, refl, ap, ◌∙◌}
use mathlib.Core.Bool.{Bool, true}
use mathlib.Core.List.{List, []}
use native.Mathlib.Nat.{zero-add}
use native.Mathlib.Omega.{arith}
use lib.Dec.{ltb}
use lib.ListN.{length, replicate, length-replicate}
use borrow.Author.Tests.{lt-ltb, ltb-true, ltb-false}
use Rattle.model.specs.Limits.{max_items, max_edges}
use Rattle.model.specs.Choice.{select, numbers_from}
use Rattle.model.specs.Checks.{fill}
use Rattle.model.specs.HappensBefore.{Edge}
use Rattle.model.specs.Orders.{Placing, place}
use Rattle.model.specs.Lists.{◌∈◌}
use Rattle.model.proofs.Laws.{decided}
use Rattle.model.proofs.Selections.{select_all}
use Rattle.memory.specs.Tables.{Table}
use Rattle.bitmap.specs.Bitmaps.{empty_bitmap}
use Rattle.graph.specs.Edges.{groups_in, among, graph_in}
use Rattle.graph.proofs.Edges.{selected_among, groups_bound}
use Rattle.model.proofs.Lists.{at_position, numbers_from_bounds}
use Rattle.indexing.specs.Degrees.{in_degree, in_degrees}
use Rattle.indexing.specs.declared.Index.{Index}
use Rattle.indexing.specs.Indexes.{empty_index, indexed, readied_all}
use Rattle.indexing.specs.Indexed.{Indexed, graph_to}
use Rattle.indexing.proofs.Ready.{ready_holds}
use Rattle.indexing.proofs.Indexes.{all_indexed}
use Rattle.placing.specs.declared.Placed.{Placed}
use Rattle.placing.specs.Placed.{placed_as}
use Rattle.placing.specs.Releases.{counts}
use Rattle.placing.specs.Turns.{place_on, placed_on}
use Rattle.placing.specs.Standing.{Stands}
use Rattle.placing.proofs.Degrees.{edges_out, into_none}
use Rattle.placing.proofs.Simulation.{simulates}

-- A list with nothing put in is as it was.
fill_nothing : {A : Type 0} (old : List A) → fill [] old ≡ old
unfolding fill
fill_nothing old = refl

-- What is placed, with nothing before it.
abbrev behind : (zeros : List ℕ) → Placing → Placed
behind zeros p = record { count = length p.placed; order = fill p.placed zeros; waiting = in_degrees p.edges }

-- All groups are left, and all arrows come from them.
module _ (n : ℕ) where
  abbrev all : ℕ → Bool
  all g = ltb g n

  pub all_groups : select all (numbers_from 0 n) ≡ numbers_from 0 n
  all_groups =
      select_all all (numbers_from 0 n)
      (λ i g h. let b = numbers_from_bounds 0 n g (at_position (numbers_from 0 n) i h) in lt-ltb g n (omega (arith, b.1)))

  pub from_below : (edges : List Edge) → ((e : Edge) → e ∈ edges → e.from < n) → edges_out all edges ≡ edges
  from_below edges below = select_all (λ e. all e.from) edges (λ i e h. lt-ltb e.from n (below e (at_position edges i h)))

  all_edges : (edges : List Edge) → edges_out all (select (among n) edges) ≡ select (among n) edges
  all_edges edges = from_below (select (among n) edges) (λ e m. (selected_among n edges e m).0)

  end_below : (edges : List Edge) (g : ℕ) → 0 < in_degree (select (among n) edges) g → all g ≡ true
  end_below edges g waits =
      decided (all g)
      (λ t. t)
      (λ t.
      let outside = ltb-false g n t in
      let none = into_none g (select (among n) edges) (λ e m q. let ends = selected_among n edges e m in omega (arith, ends.1, outside, q)) in
      absurd (omega (arith, waits, none)))

-- The arrays at the start.
module _ (n : ℕ) (b : n ≤ max_items) (table : Table) (count : ℕ) (i : Index) (noted : Indexed n table count i) where
  at_start : Stands (all n) (in_degree (edges_out (all n) (graph_to n table count)))
      (counts i.waiting (readied_all i.waiting (numbers_from 0 n) empty_bitmap))
  at_start =
      rw (all_edges n _, noted.counted)
      (record { waits = refl; holds = ready_holds (in_degree (graph_to n table count)) n b; pending = end_below n _ })

  -- The list that is filled is any of that length.
  start_placed : (zeros : List ℕ) → length zeros ≡ max_items →
      place_on table i.heads i.links n 0 zeros (counts i.waiting (readied_all i.waiting (numbers_from 0 n) empty_bitmap)) ≡
      behind zeros (place n (numbers_from 0 n) (graph_to n table count))
  start_placed zeros room =
      let goes = simulates n b table count i.heads i.links zeros room noted.by_source n (all n) [] _
      (λ g t. ltb-true g n t) (omega (arith, b)) at_start in
      rw (all_groups n, all_edges n, fill_nothing zeros, zero-add) at goes

-- The whole.
pub placed_is : (groups count : ℕ) (table : Table) →
    placed_on (groups_in groups) count table ≡ placed_as (place (groups_in groups) (numbers_from 0 (groups_in groups)) (graph_in groups count table))
unfolding placed_on
placed_is groups count table =
    start_placed (groups_in groups) (groups_bound groups) table (min count max_edges) _
    (all_indexed (groups_in groups) table (groups_bound groups) (min count max_edges) (omega arith))
    (replicate max_items 0) (length-replicate {A = ℕ} max_items 0)

-- The same of what the code's steps leave.
pub whole_placed : (groups count : ℕ) (table : Table) {all : ℕ} {i : Index} {ready : List ℕ} {answer : Placed} → all ≡ groups_in groups →
    i ≡ indexed all count table empty_index → ready ≡ readied_all i.waiting (numbers_from 0 all) empty_bitmap →
    answer ≡ place_on table i.heads i.links all 0 (replicate max_items 0) (counts i.waiting ready) →
    answer ≡ placed_as (place (groups_in groups) (numbers_from 0 (groups_in groups)) (graph_in groups count table))
unfolding placed_on
whole_placed groups count table {all} {i} {ready} n noted found turns =
    turns ∙ same ∙ ap (λ m. placed_on m count table) n ∙ placed_is groups count table
  where
    same : place_on table i.heads i.links all 0 (replicate max_items 0) (counts i.waiting ready) ≡ placed_on all count table
    same = rw (found, noted)
