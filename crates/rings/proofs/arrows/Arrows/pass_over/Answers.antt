-- `pass_over`: the cursor is moved, or nothing changes.
use Rattle.rings.proofs.Thinning.{passed_over, passed_out}
use Rattle.rings.proofs.arrows.Arrows.pass_over.Goals as goal

pub returns-then-next-eq0 : goal.returns-then-next-eq0
returns-then-next-eq0 c = rw (c.push.ensures.groups, c.push.ensures.end) (search passed_out)

pub returns-else-next-eq0 : goal.returns-else-next-eq0
returns-else-next-eq0 c = search passed_over
