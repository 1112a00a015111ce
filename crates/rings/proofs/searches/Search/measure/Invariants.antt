use Prim.Native.Nat.{◌-◌}
use Rattle.model.specs.Limits.{max_items}
use Rattle.rings.proofs.Ending.{Exploring}
use Rattle.rings.proofs.searches.Search.measure.Given as goal

abbrev pub invariant-loop-at : goal.invariant-loop-at
invariant-loop-at l =
    Exploring l.root l.most l.arrows.edges.now l.arrows.heads l.arrows.links l.left l.self.distances l.self.lows l.self.queue.groups l.self.queue.end l.at

abbrev pub decreases-loop-at : goal.decreases-loop-at
decreases-loop-at l = max_items - l.at
