use Rattle.rings.specs.Searches.{closing_in}
use Rattle.rings.proofs.Looking.{Best}
use Rattle.rings.proofs.roots.closest_within.Given as goal

abbrev pub invariant-loop-group : goal.invariant-loop-group
invariant-loop-group l = Best l.groups l.most l.arrows.edges.now l.arrows.heads l.arrows.links l.arrows.tails l.arrows.onward l.cursors l.search.lows l.search.queue.groups (closing_in l.best) l.group
