use Prim.Native.Nat.{◌-◌}
use Rattle.model.specs.Limits.{max_items}
use Rattle.rings.specs.Removing.{Thinned}
use Rattle.rings.proofs.arrows.Arrows.release_all.Given as goal

abbrev pub invariant-loop-at : goal.invariant-loop-at
invariant-loop-at l = Thinned l.self.edges.now l.self.onward l.initial.cursors l.cursors l.queue.groups l.queue.end

abbrev pub decreases-loop-at : goal.decreases-loop-at
decreases-loop-at l = max_items - l.at
