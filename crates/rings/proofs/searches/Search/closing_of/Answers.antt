-- `closing_of`: the best of the arrows up to here. Each turn is a law of `Ending`.
use Rattle.rings.proofs.Ending.{closing_more, closing_all}
use Rattle.rings.proofs.searches.Search.closing_of.Goals as goal

pub loop-edge-preserved : goal.loop-edge-preserved
loop-edge-preserved c =
    let first = rw c.in-Some.is at c.next.ensures.steps in
    closing_more c.loop-edge.invariant first c.target-to.ensures c.closing_by.ensures c.better-best.ensures

pub returns : goal.returns
returns c =
    let none = rw c.in-None.is at c.next.ensures.steps in closing_all c.loop-edge.invariant none.0
