use Rattle.marked.specs.Maps.{bits_of}
use Rattle.marking.proofs.Gathering.{Gathering}
use Rattle.marking.proofs.values_of.Given as goal

abbrev pub invariant-loop-done : goal.invariant-loop-done
invariant-loop-done l = Gathering l.map l.values l.marked l.done-iterator.count (bits_of l.done-iterator.iter.0)
