use Rattle.rank_counts.proofs.Tallies.{Tallying}
use Rattle.rank_counts.proofs.command_counts.Given as goal

abbrev pub invariant-loop-told : goal.invariant-loop-told
invariant-loop-told l = Tallying l.trail l.items l.counts l.told-iterator.n l.told-iterator.iter.rest.now
