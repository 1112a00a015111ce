-- `step_back`: the arrows up to here were gone back. Each turn is a law of `GoingBack`.
use Rattle.rings.proofs.GoingBack.{back_visit, back_done}
use Rattle.rings.proofs.searches.Search.step_back.Goals as goal

pub loop-edge-preserved : goal.loop-edge-preserved
loop-edge-preserved c =
    let first = rw c.in-Some.is at c.next.ensures.steps in back_visit c.loop-edge.invariant first c.source.ensures c.visit.ensures

pub returns : goal.returns
returns c =
    let none = rw c.in-None.is at c.next.ensures.steps in back_done c.loop-edge.invariant none.0
