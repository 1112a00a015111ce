-- What lists and counts stand for. Numbers stand in lists by a key: the arrows between groups by the group that they come from, and counted by the one
-- that they lead to.
use Rattle.std.specs.Prelude.{ℕ, zero, suc, ◌≡◌, Bool, List, [], ◌∷◌, map, eqb, length}
use Rattle.model.specs.Limits.{max_items, max_edges}
use Rattle.model.specs.Choice.{when, select, numbers_from}
use Rattle.model.specs.HappensBefore.{Edge}
use Rattle.memory.specs.Tables.{Table}
use Rattle.chains.specs.Chains.{Listed}
use Rattle.graph.specs.Edges.{edge_at, source_at, target_at, among}
use Rattle.indexing.specs.Degrees.{in_degrees}
use Rattle.indexing.specs.declared.Index.{Index}

-- Of the numbers below a count those that pass a test and have one key, the last first.
unfoldable pub numbers_by : (test : ℕ → Bool) → (key : ℕ → ℕ) → (count group : ℕ) → List ℕ
numbers_by test key zero group = []
numbers_by test key (suc count) group =
    when (test count)
    (λ _.
    when (eqb group (key count))
    (λ _. count ∷ numbers_by test key count (key count))
    (λ _. numbers_by test key count group))
    (λ _. numbers_by test key count group)

-- Arrays that hold these lists, with a head for each group and a link for each arrow.
pub record ListsBy (test : ℕ → Bool) (key : ℕ → ℕ) (count : ℕ) (heads links : List ℕ) : Type 0 where
  pub heads_long : length heads ≡ max_items
  pub links_long : length links ≡ max_edges
  pub lists : Listed heads links count (numbers_by test key count)

-- The first arrows of a table that are between groups, and the numbers of those that come from one group, the last first.
abbrev pub graph_to : (groups : ℕ) → Table → (count : ℕ) → List Edge
graph_to groups table count = select (among groups) (map (edge_at table) (numbers_from 0 count))

abbrev pub in_graph : (groups : ℕ) → Table → (edge : ℕ) → Bool
in_graph groups table edge = among groups (edge_at table edge)

abbrev pub numbers_out : (groups : ℕ) → Table → (count group : ℕ) → List ℕ
numbers_out groups table = numbers_by (in_graph groups table) (source_at table)

-- How many of these arrows lead into a group.
unfoldable pub count_into : Table → (edges : List ℕ) → (group : ℕ) → ℕ
unfolding select
count_into table edges group = length (select (λ edge. eqb (target_at table edge) group) edges)

-- The first arrows are noted: in the lists of the groups that they come from, and in the counts of those that they lead to.
pub record Indexed (groups : ℕ) (table : Table) (count : ℕ) (i : Index) : Type 0 where
  pub by_source : ListsBy (in_graph groups table) (source_at table) count i.heads i.links
  pub counted : i.waiting ≡ in_degrees (graph_to groups table count)
