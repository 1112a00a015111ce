use Rattle.starts.proofs.RankTurns.{Counting}
use Rattle.starts.proofs.writer.ranks_length.Given as goal

abbrev pub invariant-loop-row : goal.invariant-loop-row
invariant-loop-row l = Counting l.cells l.ranks l.width l.length l.row
