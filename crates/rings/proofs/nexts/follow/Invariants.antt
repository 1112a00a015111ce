use Rattle.rings.proofs.Round.{Followed}
use Rattle.rings.proofs.nexts.follow.Given as goal

abbrev pub invariant-loop-place : goal.invariant-loop-place
invariant-loop-place l = Followed l.start l.count l.next l.ring l.at l.place
