use Rattle.rings.specs.Removing.{FirstLeft}
use Rattle.rings.proofs.arrows.Arrows.first_left.Given as goal

abbrev pub invariant-loop-next : goal.invariant-loop-next
invariant-loop-next l = FirstLeft l.self.edges.now l.self.onward l.cursors l.member l.next

abbrev pub decreases-loop-next : goal.decreases-loop-next
decreases-loop-next l = l.next
