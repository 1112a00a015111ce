-- The verdict on what a trail tells, by way of a table of arrows.
use Rattle.std.specs.Prelude.{ℕ}
use Rattle.model.specs.HappensBefore.{edges_of}
use Rattle.model.specs.Orders.{Verdict, verdict}
use Rattle.memory.specs.Tables.{Table}
use Rattle.graph.specs.declared.Drawn.{Drawn}
use Rattle.graph.specs.Drawn.{drawn_as}
use Rattle.graph.specs.Edges.{groups_in, graph_in}
use Rattle.happens_before.specs.Told.{events_told}

abbrev pub verdict_drawn : (groups : ℕ) → Drawn → Verdict
verdict_drawn groups drawn = verdict (groups_in groups) (graph_in groups drawn.count drawn.edges)

-- The verdict on so many groups and the arrows that the first rows of a trail tell of.
unfoldable pub verdict_told : (groups items : ℕ) → (trail : Table) → Verdict
verdict_told groups items trail = verdict_drawn groups (drawn_as (edges_of (events_told items trail)))
