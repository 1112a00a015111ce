-- `entered`: the arrows that were looked at come from below.
use Rattle.rings.proofs.Looking.{looked_none}
use Rattle.rings.proofs.roots.entered.Goals as goal

pub returns : goal.returns
returns c =
    let none = rw c.in-None.is at c.next.ensures.steps in looked_none c.loop-edge.invariant none.0
