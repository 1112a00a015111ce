use Prim.Native.Nat.{◌-◌}
use Rattle.model.specs.Limits.{max_items}
use Rattle.rings.proofs.Looking.{Trying}
use Rattle.rings.proofs.roots.closest.Given as goal

abbrev pub invariant-loop-best : goal.invariant-loop-best
invariant-loop-best l = Trying l.groups l.most l.arrows.tails l.search.lows l.search.queue.groups

abbrev pub decreases-loop-best : goal.decreases-loop-best
decreases-loop-best l = max_items - l.most
