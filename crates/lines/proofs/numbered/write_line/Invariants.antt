use Rattle.lines.proofs.Spaced.{Lining}
use Rattle.lines.proofs.numbered.write_line.Given as goal

abbrev pub invariant-loop-number : goal.invariant-loop-number
invariant-loop-number l = Lining l.initial.text l.word l.numbers l.text l.at l.number-index
