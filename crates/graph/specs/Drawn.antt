-- What the drawing of arrows leaves: a table of arrows, and how many there are.
use Rattle.std.specs.Prelude.{ℕ, ◌+◌, List, ltb, length, set}
use Rattle.model.specs.Limits.{max_edges}
use Rattle.model.specs.Choice.{when}
use Rattle.model.specs.HappensBefore.{Edge}
use Rattle.memory.specs.Tables.{Table, zeros}
use Rattle.graph.specs.declared.Drawn.{Drawn}
use Rattle.graph.specs.Edges.{edges_size, edge_row, edge_table}

-- So many arrows in a table.
abbrev pub drawn : (count : ℕ) → (edges : Table) → Drawn
drawn count edges = record { count = count; edges = edges }

-- No arrow yet, in a cleared table.
abbrev pub none_drawn : Drawn
none_drawn = drawn 0 (zeros edges_size)

-- A table of these arrows in their order; the other rows are 0.
abbrev pub drawn_as : List Edge → Drawn
drawn_as edges = drawn (length edges) (edge_table edges)

-- An arrow more, where there is room for it.
unfoldable pub one_more : Edge → Drawn → Drawn
one_more e d =
    when (ltb d.count max_edges) (λ _. drawn (d.count + 1) (set d.edges d.count (edge_row e))) (λ _. d)
