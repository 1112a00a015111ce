-- `conclude`: at each end the law of what the replay's answer tells there.
use Rattle.checker.proofs.Accepting.{ends_refused, ends_accepted}
use Rattle.checker.proofs.conclusion.conclude.Goals as goal

pub returns-in-Err : goal.returns-in-Err
returns-in-Err c = search ends_refused

pub returns-in-Ok : goal.returns-in-Ok
returns-in-Ok c = search ends_accepted
