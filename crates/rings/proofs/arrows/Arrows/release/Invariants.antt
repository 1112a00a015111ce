use Rattle.rings.specs.Removing.{Thinned}
use Rattle.rings.proofs.arrows.Arrows.release.Given as goal

abbrev pub invariant-loop-edge : goal.invariant-loop-edge
invariant-loop-edge l = Thinned l.self.edges.now l.self.onward l.initial.cursors l.cursors l.queue.groups l.queue.end
