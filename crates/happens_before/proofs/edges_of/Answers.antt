-- `edges_of`: the tables of either size have an entry for each cell that is accessed.
use Rattle.happens_before.proofs.Tests.{inside_any}
use Rattle.happens_before.proofs.Turns.{rows_drawn}
use Rattle.happens_before.proofs.edges_of.Goals as goal

pub draw_items-requires-else-is_small-clause-inside :
    goal.draw_items-requires-else-is_small-clause-inside
draw_items-requires-else-is_small-clause-inside c = inside_any _ _

pub returns-then-is_small : goal.returns-then-is_small
returns-then-is_small c = rows_drawn _ _ _ c.min-last.ensures c.draw_items.ensures

pub returns-else-is_small : goal.returns-else-is_small
returns-else-is_small c = rows_drawn _ _ _ c.min-last.ensures c.draw_items-else-is_small.ensures
