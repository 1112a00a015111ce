-- The arrows are noted one by one: each is put before the list of the group that it comes from, and counts for the group that it leads to.
use Prim.Native.Nat.{ℕ, zero, suc, ◌+◌, ◌≤◌, ◌<◌}
use mathlib.Core.Path.{◌≡◌, refl, sym, ap, ◌∙◌}
use mathlib.Core.Bool.{true, false}
use mathlib.Core.List.{[], ◌∷◌, ◌++◌, map, map-append}
use native.Mathlib.Numerals.{add-one}
use native.Mathlib.Omega.{arith}
use lib.Dec.{ltb, eqb}
use lib.ListN.{length, replicate, length-map, length-replicate, get_or-replicate}
use borrow.Author.Tests.{lt-ltb, ltb-true, eq-eqb, ne_eqb}
use Rattle.model.specs.Limits.{max_items, max_edges}
use Rattle.model.specs.Choice.{select, numbers_from}
use Rattle.model.proofs.Laws.{decided, and-true}
use Rattle.model.proofs.Selections.{select_own, select_other, count_own, count_other}
use Rattle.memory.specs.Tables.{Table}
use Rattle.memory.proofs.Filled.{numbers_length, list_of}
use Rattle.chains.specs.Chains.{heads_after, links_after}
use Rattle.graph.specs.Edges.{edge_at, source_at, target_at, among}
use Rattle.indexing.specs.Degrees.{in_degree, in_degrees, by_group}
use Rattle.indexing.specs.declared.Index.{Index}
use Rattle.indexing.specs.Indexes.{index, empty_index, raised, indexed_edge, indexed_edges}
use Rattle.indexing.specs.Indexed.{graph_to, in_graph, Indexed}
use Rattle.indexing.proofs.Selecting.{count_within, numbers_last}
use Rattle.indexing.proofs.ByKey.{lists_none, lists_skipped, lists_noted}
use Rattle.indexing.proofs.ByGroup.{group_at, group_set}

-- One arrow more into a group.
raised_is : (degree degree' : ℕ → ℕ) (t : ℕ) → t < max_items → degree t < max_edges → degree' t ≡ suc (degree t) →
    ((g : ℕ) → ¬ (g ≡ t) → degree g ≡ degree' g) → raised (by_group degree) t ≡ by_group degree'
unfolding raised
raised_is degree degree' t b few rises others =
    let at = group_at degree t b in
    let e : degree t + 1 ≡ degree' t = omega (arith, rises) in
    rw (lt-ltb t max_items b, at, lt-ltb (degree t) max_edges few, e) (group_set degree degree' t b others)

module _ (n : ℕ) (table : Table) where
  -- The next arrow, between groups or not.
  graph_all : (k : ℕ) → map (edge_at table) (numbers_from 0 (suc k)) ≡ map (edge_at table) (numbers_from 0 k) ++ edge_at table k ∷ []
  graph_all k =
      let z : 0 + k ≡ k = omega arith in
      ap (map (edge_at table)) (numbers_last 0 k)
      ∙ map-append (edge_at table) (numbers_from 0 k) ((0 + k) ∷ [])
      ∙ ap (λ i. map (edge_at table) (numbers_from 0 k) ++ edge_at table i ∷ []) z

  pub graph_more : (k : ℕ) → among n (edge_at table k) ≡ true → graph_to n table (suc k) ≡ graph_to n table k ++ edge_at table k ∷ []
  graph_more k t =
      ap (select (among n)) (graph_all k) ∙ select_own (among n) (map (edge_at table) (numbers_from 0 k)) (edge_at table k) t

  pub graph_kept : (k : ℕ) → among n (edge_at table k) ≡ false → graph_to n table (suc k) ≡ graph_to n table k
  graph_kept k t =
      ap (select (among n)) (graph_all k) ∙ select_other (among n) (map (edge_at table) (numbers_from 0 k)) (edge_at table k) t

  -- There are no more arrows into a group than arrows.
  degree_bound : (k g : ℕ) → in_degree (graph_to n table k) g ≤ k
  unfolding in_degree
  degree_bound k g =
      let all = map (edge_at table) (numbers_from 0 k) in
      let within = count_within (λ e. eqb e.to g) (select (among n) all) in
      let some = count_within (among n) all in
      let long : length all ≡ k = length-map (numbers_from 0 k) (edge_at table) ∙ numbers_length 0 k in
      omega (arith, within, some, long)

  -- The next arrow is none between groups, or it is one.
  skipped : (k : ℕ) (i : Index) → among n (edge_at table k) ≡ false → Indexed n table k i → Indexed n table (suc k) i
  skipped k i t so_far =
      record {
        by_source = lists_skipped so_far.by_source t;
        counted = so_far.counted ∙ ap in_degrees (sym (graph_kept k t));
      }

  module _ (b : n ≤ max_items) (k : ℕ) (i : Index) (room : k < max_edges) (t : among n (edge_at table k) ≡ true) (so_far : Indexed n table k i) where
    ends : (source_at table k < max_items) × (target_at table k < max_items)
    ends =
        let (from, to) = and-true (ltb (source_at table k) n) (ltb (target_at table k) n) t in
        (omega (arith, ltb-true (source_at table k) n from), omega (arith, ltb-true (target_at table k) n to))

    noted_counts : raised i.waiting (target_at table k) ≡ in_degrees (graph_to n table (suc k))
    unfolding in_degree
    noted_counts =
        let bound = degree_bound k (target_at table k) in
        rw (so_far.counted, graph_more k t)
        (raised_is (in_degree (graph_to n table k)) (in_degree (graph_to n table k ++ edge_at table k ∷ [])) (target_at table k) ends.1
        (omega (arith, bound))
        (count_own (λ e. eqb e.to (target_at table k)) (graph_to n table k) (edge_at table k) (eq-eqb (target_at table k) (target_at table k) refl))
        (λ g ne. sym (count_other (λ e. eqb e.to g) (graph_to n table k) (edge_at table k) (ne_eqb (target_at table k) g (λ e. ne (sym e))))))

    noted : Indexed n table (suc k)
        (index
        (heads_after i.heads i.links (source_at table k) (suc k))
        (links_after i.heads i.links (source_at table k) (suc k))
        (raised i.waiting (target_at table k)))
    noted =
        record {
          by_source = lists_noted so_far.by_source t ends.0 room (record { heads_after_lem = refl; links_after_lem = refl });
          counted = noted_counts;
        }

  edge_indexed : n ≤ max_items → (k : ℕ) (i : Index) → k < max_edges → Indexed n table k i → Indexed n table (suc k) (indexed_edge n table k i)
  unfolding indexed_edge
  edge_indexed b k i room so_far =
      rw (lt-ltb k max_edges room, add-one)
      (decided (among n (edge_at table k))
      (λ t. rw t (noted b k i room t so_far))
      (λ t. rw t (skipped k i t so_far)))

  edges_indexed : n ≤ max_items → (first count : ℕ) (i : Index) → first + count ≤ max_edges → Indexed n table first i →
      Indexed n table (first + count) (indexed_edges n table (numbers_from first count) i)
  unfolding indexed_edges numbers_from
  edges_indexed b first zero i room so_far = let z : first + 0 ≡ first = omega arith in rw z so_far
  edges_indexed b first (suc count) i room so_far =
      let z : first + suc count ≡ suc first + count = omega arith in
      rw (z, add-one) (edges_indexed b (suc first) count (indexed_edge n table first i) (omega arith) (edge_indexed b first i (omega arith) so_far))

  -- Cleared arrays have no arrow noted.
  degree_none : (g : ℕ) → in_degree (graph_to n table 0) g ≡ 0
  unfolding in_degree select numbers_from
  degree_none g = refl

  none_indexed : Indexed n table 0 empty_index
  none_indexed =
      record {
        by_source = lists_none (in_graph n table) (source_at table);
        counted =
            list_of (in_degree (graph_to n table 0)) 0 max_items 0 (replicate max_items 0) (length-replicate {A = ℕ} max_items 0)
            (λ g h. get_or-replicate max_items g 0 0 h ∙ sym (degree_none (0 + g)));
      }

  -- All arrows.
  pub all_indexed : n ≤ max_items → (count : ℕ) → count ≤ max_edges → Indexed n table count (indexed_edges n table (numbers_from 0 count) empty_index)
  all_indexed b count room =
      let z : 0 + count ≡ count = omega arith in
      rw z at (edges_indexed b 0 count empty_index (omega (arith, room)) none_indexed)
