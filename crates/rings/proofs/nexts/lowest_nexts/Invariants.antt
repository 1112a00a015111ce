use Rattle.rings.proofs.Gathering.{Gathered}
use Rattle.rings.proofs.nexts.lowest_nexts.Given as goal

abbrev pub invariant-loop-edge : goal.invariant-loop-edge
invariant-loop-edge l = Gathered l.groups l.waiting l.edges l.distances l.edge-end l.next l.edge
