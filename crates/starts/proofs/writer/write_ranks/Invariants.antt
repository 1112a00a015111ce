use Rattle.starts.proofs.RankTurns.{Putting}
use Rattle.starts.proofs.writer.write_ranks.Given as goal

abbrev pub invariant-loop-row : goal.invariant-loop-row
invariant-loop-row l = Putting l.cells l.ranks l.width l.initial.start l.start l.at l.row
