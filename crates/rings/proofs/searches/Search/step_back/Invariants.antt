use Rattle.chains.specs.Chains.{members}
use Rattle.rings.proofs.GoingBack.{Going-back}
use Rattle.rings.proofs.searches.Search.step_back.Given as goal

abbrev pub invariant-loop-edge : goal.invariant-loop-edge
invariant-loop-edge l =
    Going-back l.distance l.low l.at l.initial.self.queue.end l.arrows.edges.now l.arrows.heads l.arrows.links l.left l.initial.self.distances
    l.initial.self.lows l.initial.self.queue.groups l.self.distances l.self.lows l.self.queue.groups l.self.queue.end (members l.edge-iterator.links.now l.edge-iterator.next)
