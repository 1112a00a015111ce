use Rattle.chains.specs.Chains.{members}
use Rattle.rings.specs.Searches.{closing_in}
use Rattle.rings.proofs.Ending.{Closing-of}
use Rattle.rings.proofs.searches.Search.closing_of.Given as goal

abbrev pub invariant-loop-edge : goal.invariant-loop-edge
invariant-loop-edge l =
    Closing-of l.root l.most l.arrows.edges.now l.arrows.onward l.left l.self.distances l.self.lows (closing_in l.best) (members l.edge-iterator.links.now l.edge-iterator.next)
