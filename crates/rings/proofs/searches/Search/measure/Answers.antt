-- `measure`: the arrows were gone back into the groups of the queue up to here. Each group is met once, so the queue never overflows.
use Rattle.rings.proofs.Ending.{exploring_first, goes_back, far_enough, nothing_left, exploring_less, exploring_more}
use Rattle.rings.proofs.searches.Search.measure.Goals as goal

pub loop-at-init : goal.loop-at-init
loop-at-init c = rw (c.begin.ensures.groups, c.begin.ensures.end) (exploring_first c.requires)

pub returns-then-most-next : goal.returns-then-most-next
returns-then-most-next c =
    far_enough c.loop-at.invariant c.loop-at-test.true c.reached_at-next.ensures c.if-most-next.true

pub step_back-requires : goal.step_back-requires
step_back-requires c = search goes_back

pub loop-at-smaller : goal.loop-at-smaller
loop-at-smaller c = search exploring_less

pub loop-at-preserved : goal.loop-at-preserved
loop-at-preserved c = search exploring_more

pub returns : goal.returns
returns c = search nothing_left
