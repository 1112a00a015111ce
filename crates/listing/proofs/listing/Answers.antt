-- `listing`: what the replay answers is printed.
use Rattle.listing.proofs.Listed.{listed_refusal, listed_verdict}
use Rattle.listing.proofs.listing.Goals as goal

pub returns-in-Err : goal.returns-in-Err
returns-in-Err c = search listed_refusal

pub returns-in-Ok : goal.returns-in-Ok
returns-in-Ok c = search listed_verdict
