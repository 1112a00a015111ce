use Rattle.std.proofs.Common.{◌≡◌}
use Rattle.chains.specs.Chains.{members}
use Rattle.placing.specs.Releases.{released_edges, edges_from_group}
use Rattle.placing.proofs.counts.Counts.release.Given as goal

abbrev pub invariant-loop-member : goal.invariant-loop-member
invariant-loop-member l =
    released_edges l.edges (edges_from_group l.index.heads l.index.links l.group) l.initial.self ≡
    released_edges l.edges (members l.index.links l.member) l.self

abbrev pub decreases-loop-member : goal.decreases-loop-member
decreases-loop-member l = l.member
