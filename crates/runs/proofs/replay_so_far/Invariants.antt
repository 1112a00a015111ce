use Rattle.std.proofs.Common.{◌-◌}
use Rattle.runs.proofs.Turns.{ItemsLeft}
use Rattle.runs.proofs.replay_so_far.Given as goal

abbrev pub invariant-loop : goal.invariant-loop
invariant-loop l =
    ItemsLeft l.program l.starts l.header l.recorded l.count l.initial.cells l.initial.trail l.machine l.cells l.progress l.trail
    (l.count - l.counter) l.place
