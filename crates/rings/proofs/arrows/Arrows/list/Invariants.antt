use Rattle.std.proofs.Common.{◌≡◌}
use Rattle.rings.proofs.Noting.{Noting}
use Rattle.rings.proofs.arrows.Arrows.list.Given as goal

abbrev pub invariant-loop-edge : goal.invariant-loop-edge
invariant-loop-edge l =
    (l.self.edges ≡ l.initial.self.edges)
    × Noting l.groups l.waiting l.self.edges.now l.self.heads l.self.links l.self.tails l.self.onward l.edge-end l.edge
