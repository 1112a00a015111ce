-- `at_end`: the row first, then the queues.
use Rattle.replay.proofs.Ending.{ends_open, ends_left, ends_accepted}
use Rattle.replay.proofs.at_end.Goals as goal

pub returns-then-reached-ne0 : goal.returns-then-reached-ne0
returns-then-reached-ne0 c = search ends_open

pub returns-then-not-reached : goal.returns-then-not-reached
returns-then-not-reached c = search ends_left

pub returns : goal.returns
returns c = search ends_accepted
