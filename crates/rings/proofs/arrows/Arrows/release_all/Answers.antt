-- `release_all`: the groups up to here in the queue were released.
use Rattle.rings.proofs.Thinning.{thinned_same, thinned_more, release_less}
use Rattle.rings.proofs.arrows.Arrows.release_all.Goals as goal

pub loop-at-init : goal.loop-at-init
loop-at-init c = search thinned_same

pub loop-at-smaller : goal.loop-at-smaller
loop-at-smaller c = search release_less

pub loop-at-preserved : goal.loop-at-preserved
loop-at-preserved c = search thinned_more
