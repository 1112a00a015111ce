use Rattle.starts.proofs.Gathering.{Gathering}
use Rattle.starts.proofs.entries.entries_of.Given as goal

abbrev pub invariant-loop-i : goal.invariant-loop-i
invariant-loop-i l =
    Gathering l.bytes l.entries l.i-iterator.count l.i-iterator.iter.n l.i-iterator.iter.iter.rest.now l.i-iterator.iter.iter.size
