-- `follow`: what was met stands in the array. Each turn is a law of `Round`.
use Rattle.rings.proofs.Round.{followed_none, followed_more, followed_all}
use Rattle.rings.proofs.nexts.follow.Goals as goal

pub loop-place-init : goal.loop-place-init
loop-place-init c = search followed_none

pub loop-place-preserved : goal.loop-place-preserved
loop-place-preserved c = search followed_more

pub returns : goal.returns
returns c = search followed_all
