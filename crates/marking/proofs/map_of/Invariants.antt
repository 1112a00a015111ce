use Rattle.marking.proofs.Mapping.{Mapping}
use Rattle.marking.proofs.map_of.Given as goal

abbrev pub invariant-loop-bit : goal.invariant-loop-bit
invariant-loop-bit l = Mapping l.values l.map l.bit-iterator.count l.bit-iterator.iter.n l.bit-iterator.iter.iter.rest.now
