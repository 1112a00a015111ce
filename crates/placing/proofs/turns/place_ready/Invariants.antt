use Rattle.std.proofs.Common.{◌≡◌, ◌-◌}
use Rattle.placing.specs.Turns.{place_on}
use Rattle.placing.proofs.turns.place_ready.Given as goal

abbrev pub invariant-loop-count : goal.invariant-loop-count
invariant-loop-count l =
    place_on l.edges l.index.heads l.index.links l.groups 0 l.initial.order l.initial.counts ≡
    place_on l.edges l.index.heads l.index.links (l.groups - l.count) l.count l.order l.counts
