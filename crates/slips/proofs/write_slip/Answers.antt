-- `write_slip` meets its contract: the replay's refusal, or the slip of the counts that its trail tells.
use Rattle.std.proofs.lemmas.Result.{err_from_is_err_and}
use Rattle.slips.proofs.Accepting.{written_refused, written_accepted}
use Rattle.slips.proofs.write_slip.Goals as goal

pub returns-in_err-run : goal.returns-in_err-run
returns-in_err-run c =
    let p = err_from_is_err_and c.from_residual.result c.from_residual.ensures.1 in
    rw (p.1, p.2) (written_refused _ _ _ c.replay.ensures _ c.in_err-run.was)

pub returns : goal.returns
returns c = written_accepted _ _ _ c.replay.ensures _ c.in_ok-run.was _ c.command_counts-counts.ensures c.write_counts.ensures
