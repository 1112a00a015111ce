-- A placed group releases the groups that its arrows lead to: each waits for one arrow fewer, and one that waits for none can be placed.
use Rattle.std.specs.Prelude.{ℕ, ◌-◌, List, [], ◌∷◌, ltb, eqb, get_or, set}
use Rattle.model.specs.Limits.{max_items}
use Rattle.model.specs.Choice.{when}
use Rattle.memory.specs.Tables.{Table}
use Rattle.chains.specs.Chains.{members}
use Rattle.bitmap.specs.Bitmaps.{inserted}
use Rattle.graph.specs.Edges.{target_at}
use Rattle.indexing.specs.Entries.{entry_at}
use Rattle.placing.specs.declared.counts.Counts.{Counts}

-- How many arrows each group waits for, and the groups that can be placed.
abbrev pub counts : (waiting ready : List ℕ) → Counts
counts waiting ready = record { waiting = waiting; ready = ready }

-- One arrow fewer leads into a group.
unfoldable pub released : (group : ℕ) → Counts → Counts
released group c =
    when (ltb group max_items)
    (λ _.
    when (eqb (get_or c.waiting group 0) 0)
    (λ _. c)
    (λ _.
    counts (set c.waiting group (get_or c.waiting group 0 - 1))
    (when (eqb (get_or c.waiting group 0) 1) (λ _. inserted c.ready group) (λ _. c.ready))))
    (λ _. c)

-- The arrows with these numbers are gone.
unfoldable pub released_edges : Table → (edges : List ℕ) → Counts → Counts
released_edges table [] c = c
released_edges table (edge ∷ edges) c = released_edges table edges (released (target_at table edge) c)

-- The arrows that come from a group.
abbrev pub edges_from_group : (heads links : List ℕ) → (group : ℕ) → List ℕ
edges_from_group heads links group = members links (entry_at heads group)
