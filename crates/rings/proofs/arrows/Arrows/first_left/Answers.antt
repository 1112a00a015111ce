-- `first_left`: the members up to the next lead to groups that are taken out.
use Rattle.rings.proofs.GoingBack.{back_less}
use Rattle.rings.proofs.Thinning.{left_begins, left_more, left_none}
use Rattle.rings.proofs.arrows.Arrows.first_left.Goals as goal

pub loop-next-init : goal.loop-next-init
loop-next-init c = search left_begins

pub loop-next-smaller : goal.loop-next-smaller
loop-next-smaller c = search back_less

pub loop-next-preserved : goal.loop-next-preserved
loop-next-preserved c = search left_more

pub returns : goal.returns
returns c = search left_none
