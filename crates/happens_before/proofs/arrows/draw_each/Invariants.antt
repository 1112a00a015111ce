use Rattle.std.proofs.Common.{◌≡◌}
use Rattle.chains.specs.Chains.{members}
use Rattle.happens_before.specs.Drawing.{added, from_each}
use Rattle.happens_before.proofs.arrows.draw_each.Given as goal

abbrev pub invariant-loop-member : goal.invariant-loop-member
invariant-loop-member l =
    added (from_each l.trail (members l.links l.newest) l.to) l.initial.drawn ≡
    added (from_each l.trail (members l.links l.member) l.to) l.drawn

abbrev pub decreases-loop-member : goal.decreases-loop-member
decreases-loop-member l = l.member
