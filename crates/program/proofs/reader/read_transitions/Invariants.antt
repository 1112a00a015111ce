use Rattle.program.proofs.Loops.{Passed}
use Rattle.program.proofs.reader.read_transitions.Given as goal

abbrev pub invariant-loop-start : goal.invariant-loop-start
invariant-loop-start l = Passed l.header l.bytes l.at l.entries l.place l.start-index
