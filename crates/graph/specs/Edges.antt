-- Arrows between groups in tables, and groups in lists, as the code has them.
use Rattle.std.specs.Prelude.{ℕ, min, Bool, ◌&&◌, List, [], ◌∷◌, map, ltb, get_or, replicate}
use Rattle.model.specs.Limits.{max_items, max_edges}
use Rattle.model.specs.Choice.{when, select, numbers_from}
use Rattle.model.specs.HappensBefore.{Edge}
use Rattle.model.specs.Checks.{fill}
use Rattle.memory.specs.Tables.{Table, Size, zeros}

abbrev pub edges_size : Size
edges_size = record { rows = max_edges; width = 2 }

-- The two groups of an arrow; 0 outside the table.
unfoldable pub source_at : Table → (edge : ℕ) → ℕ
source_at table edge = when (ltb edge max_edges) (λ _. get_or (get_or table edge []) 0 0) (λ _. 0)

unfoldable pub target_at : Table → (edge : ℕ) → ℕ
target_at table edge = when (ltb edge max_edges) (λ _. get_or (get_or table edge []) 1 0) (λ _. 0)

abbrev pub edge_at : Table → (edge : ℕ) → Edge
edge_at table edge = record { from = source_at table edge; to = target_at table edge }

-- The first arrows of a table, so many.
abbrev pub edges_in : (count : ℕ) → Table → List Edge
edges_in count table = map (edge_at table) (numbers_from 0 (min count max_edges))

-- A table of arrows; the other rows are 0.
abbrev pub edge_row : Edge → List ℕ
edge_row e = e.from ∷ e.to ∷ []

abbrev pub edge_table : List Edge → Table
edge_table edges = fill (map edge_row edges) (zeros edges_size)

-- So many groups, but no more than the arrays have entries for.
unfoldable pub groups_in : ℕ → ℕ
groups_in groups = when (ltb groups max_items) (λ _. groups) (λ _. max_items)

-- An arrow between two of so many groups.
abbrev pub among : (groups : ℕ) → Edge → Bool
among groups e = ltb e.from groups && ltb e.to groups

-- The arrows of a table that are between groups. What the code draws are all such.
abbrev pub graph_in : (groups count : ℕ) → Table → List Edge
graph_in groups count table = select (among (groups_in groups)) (edges_in count table)

-- A list of groups in an array; the other entries are 0.
abbrev pub group_list : List ℕ → List ℕ
group_list groups = fill groups (replicate max_items 0)
