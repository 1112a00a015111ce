use Rattle.lines.proofs.Spaced.{Counting}
use Rattle.lines.proofs.numbered.line_length.Given as goal

abbrev pub invariant-loop-number : goal.invariant-loop-number
invariant-loop-number l = Counting l.word l.numbers l.count l.number-index
