use Rattle.chains.specs.Chains.{members}
use Rattle.rings.proofs.Looking.{Looked}
use Rattle.rings.proofs.roots.entered.Given as goal

abbrev pub invariant-loop-edge : goal.invariant-loop-edge
invariant-loop-edge l = Looked l.root l.arrows.edges.now l.arrows.heads l.arrows.links (members l.edge-iterator.links.now l.edge-iterator.next)
