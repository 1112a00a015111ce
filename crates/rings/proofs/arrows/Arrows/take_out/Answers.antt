-- `take_out`: what is released after the group itself.
use Rattle.rings.proofs.Thinning.{taken_out}
use Rattle.rings.proofs.arrows.Arrows.take_out.Goals as goal

pub returns : goal.returns
returns c = taken_out c.requires c.release_all.ensures
