-- What the placing looks up: lists of the arrows by the group that they come from, and for each group how many arrows lead into it. The definitions
-- branch where the code does, and are total: what has no room changes nothing.
use Rattle.std.specs.Prelude.{ℕ, ◌+◌, min, List, [], ◌∷◌, ltb, eqb, get_or, set, replicate}
use Rattle.model.specs.Limits.{max_items, max_edges}
use Rattle.model.specs.Choice.{when, numbers_from}
use Rattle.memory.specs.Tables.{Table}
use Rattle.chains.specs.Chains.{heads_after, links_after}
use Rattle.bitmap.specs.Bitmaps.{inserted}
use Rattle.graph.specs.Edges.{edge_at, source_at, target_at, among}
use Rattle.indexing.specs.declared.Index.{Index}

-- The lists by group, and the counts.
abbrev pub index : (heads links waiting : List ℕ) → Index
index heads links waiting = record { heads = heads; links = links; waiting = waiting }

abbrev pub empty_index : Index
empty_index = index (replicate max_items 0) (replicate max_edges 0) (replicate max_items 0)

-- One arrow more leads into a group. No group has more of them than there are arrows.
unfoldable pub raised : (waiting : List ℕ) → (group : ℕ) → List ℕ
raised waiting group =
    when (ltb group max_items)
    (λ _. when (ltb (get_or waiting group 0) max_edges) (λ _. set waiting group (get_or waiting group 0 + 1)) (λ _. waiting))
    (λ _. waiting)

-- The arrow with this number is noted, if it is one between groups.
unfoldable pub indexed_edge : (groups : ℕ) → Table → (edge : ℕ) → Index → Index
indexed_edge groups table edge i =
    when (ltb edge max_edges)
    (λ _.
    when (among groups (edge_at table edge))
    (λ _.
    index
    (heads_after i.heads i.links (source_at table edge) (edge + 1))
    (links_after i.heads i.links (source_at table edge) (edge + 1))
    (raised i.waiting (target_at table edge)))
    (λ _. i))
    (λ _. i)

unfoldable pub indexed_edges : (groups : ℕ) → Table → (edges : List ℕ) → Index → Index
indexed_edges groups table [] i = i
indexed_edges groups table (edge ∷ edges) i = indexed_edges groups table edges (indexed_edge groups table edge i)

-- The first arrows of a table, so many.
abbrev pub indexed : (groups count : ℕ) → Table → Index → Index
indexed groups count table = indexed_edges groups table (numbers_from 0 (min count max_edges))

-- A group into which no arrow leads can be placed.
unfoldable pub readied : (waiting : List ℕ) → (group : ℕ) → (ready : List ℕ) → List ℕ
readied waiting group ready =
    when (ltb group max_items) (λ _. when (eqb (get_or waiting group 0) 0) (λ _. inserted ready group) (λ _. ready)) (λ _. ready)

unfoldable pub readied_all : (waiting : List ℕ) → (groups : List ℕ) → (ready : List ℕ) → List ℕ
readied_all waiting [] ready = ready
readied_all waiting (group ∷ groups) ready = readied_all waiting groups (readied waiting group ready)
