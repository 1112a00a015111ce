-- `write_start` meets its contract: the program's refusal, or the start of the list for its header.
use Rattle.std.proofs.lemmas.Result.{err_from_is_err_and}
use Rattle.starts.proofs.Answering.{program_readable, write_refused, numbers_listed, write_numbers}
use Rattle.starts.proofs.write_start.Goals as goal

pub returns-in_err-read : goal.returns-in_err-read
returns-in_err-read c =
    let p = err_from_is_err_and c.from_residual.result c.from_residual.ensures.1 in
    rw (p.1, p.2) (write_refused _ _ _ c.in_err-read.ensures)

pub write_list-requires : goal.write_list-requires
write_list-requires c = numbers_listed (program_readable _ c.in_ok-read.ensures) _

pub returns : goal.returns
returns c = write_numbers (program_readable _ c.in_ok-read.ensures) _ _ c.write_list.ensures
