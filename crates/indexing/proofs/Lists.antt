-- The list of a group has the arrows that come from it, each once: so it counts what they count.
use Prim.Native.Nat.{ℕ, zero, suc, ◌<◌}
use mathlib.Core.Path.{◌≡◌, refl, sym, ap, ◌∙◌}
use mathlib.Core.Bool.{true, false}
use mathlib.Core.List.{List, [], ◌∷◌, ◌++◌}
use lib.Dec.{ltb, eqb}
use borrow.Author.Tests.{ltb-true, eqb-true, eqb-false, eq-eqb, ne_eqb}
use Rattle.model.specs.Choice.{select, numbers_from}
use Rattle.model.specs.HappensBefore.{Edge}
use Rattle.model.specs.Lists.{◌∈◌}
use Rattle.model.proofs.Laws.{decided, and-true}
use Rattle.model.proofs.Selections.{select_own, select_other, count_own, count_other}
use Rattle.memory.specs.Tables.{Table}
use Rattle.graph.specs.Edges.{edge_at, source_at, target_at, among}
use Rattle.indexing.specs.Degrees.{in_degree}
use Rattle.indexing.specs.Indexed.{numbers_by, graph_to, in_graph, numbers_out, count_into}
use Rattle.indexing.proofs.ByKey.{numbers_sound}
use Rattle.indexing.proofs.Indexes.{graph_more, graph_kept}

module _ (n : ℕ) (table : Table) (g h : ℕ) where
  abbrev from_one : List Edge → List Edge
  from_one = select (λ e. eqb e.from g)

  -- One arrow more, from the group, counts on both sides.
  own_counted : (k : ℕ) (numbers : List ℕ) (edges : List Edge) → count_into table numbers h ≡ in_degree edges h →
      count_into table (k ∷ numbers) h ≡ in_degree (edges ++ edge_at table k ∷ []) h
  unfolding count_into in_degree select
  own_counted k numbers edges same =
      decided (eqb (target_at table k) h)
      (λ t. rw t (ap suc same ∙ sym (count_own (λ e. eqb e.to h) edges (edge_at table k) t)))
      (λ t. rw t (same ∙ sym (count_other (λ e. eqb e.to h) edges (edge_at table k) t)))

  -- No arrow, and one arrow more.
  list_none : count_into table (numbers_out n table 0 g) h ≡ in_degree (from_one (graph_to n table 0)) h
  unfolding numbers_by numbers_from count_into in_degree select
  list_none = refl

  list_more : (k : ℕ) → count_into table (numbers_out n table k g) h ≡ in_degree (from_one (graph_to n table k)) h →
      count_into table (numbers_out n table (suc k) g) h ≡ in_degree (from_one (graph_to n table (suc k))) h
  unfolding numbers_by
  list_more k same =
      decided (among n (edge_at table k))
      (λ t. decided (eqb g (source_at table k))
      (λ u.
      let e : g ≡ source_at table k = eqb-true g (source_at table k) u in
      let from : eqb (source_at table k) g ≡ true = eq-eqb (source_at table k) g (sym e) in
      rw (t, u, ← e, graph_more n table k t, select_own (λ d. eqb d.from g) (graph_to n table k) (edge_at table k) from)
      (own_counted k (numbers_out n table k g) (from_one (graph_to n table k)) same))
      (λ u.
      let ne : ¬ (g ≡ source_at table k) = eqb-false g (source_at table k) u in
      let from : eqb (source_at table k) g ≡ false = ne_eqb (source_at table k) g (λ e. ne (sym e)) in
      rw (t, u, graph_more n table k t, select_other (λ d. eqb d.from g) (graph_to n table k) (edge_at table k) from) same))
      (λ t. rw (t, graph_kept n table k t) same)

  pub list_counts : (k : ℕ) → count_into table (numbers_out n table k g) h ≡ in_degree (from_one (graph_to n table k)) h
  list_counts zero = list_none
  list_counts (suc k) = list_more k (list_counts k)

-- They lead to groups.
pub list_within : (n : ℕ) (table : Table) (k g edge : ℕ) → edge ∈ numbers_out n table k g → target_at table edge < n
list_within n table k g edge m =
    let (below, inside, own) = numbers_sound (in_graph n table) (source_at table) k g edge m in
    ltb-true (target_at table edge) n (and-true (ltb (source_at table edge) n) (ltb (target_at table edge) n) inside).1
