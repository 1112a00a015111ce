-- What the placing of groups answers, by the definition's `place`.
use Rattle.std.specs.Prelude.{length}
use Rattle.model.specs.Orders.{Placing}
use Rattle.graph.specs.Edges.{group_list}
use Rattle.indexing.specs.Degrees.{in_degrees}
use Rattle.placing.specs.declared.Placed.{Placed}

-- How many groups are placed, a list of them, and for each group how many arrows from unplaced groups lead into it.
abbrev pub placed_as : Placing → Placed
placed_as p = record { count = length p.placed; order = group_list p.placed; waiting = in_degrees p.edges }
