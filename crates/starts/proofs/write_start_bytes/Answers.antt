-- `write_start_bytes` meets its contract: the program's refusal, or the start of the list's entries for its header.
use Rattle.std.proofs.lemmas.Result.{err_from_is_err_and}
use Rattle.starts.proofs.Answering.{program_readable, write_bytes_refused, bytes_listed, write_words}
use Rattle.starts.proofs.write_start_bytes.Goals as goal

pub returns-in_err-read : goal.returns-in_err-read
returns-in_err-read c =
    let p = err_from_is_err_and c.from_residual.result c.from_residual.ensures.1 in
    rw (p.1, p.2) (write_bytes_refused _ _ _ c.in_err-read.ensures)

pub write_list-requires : goal.write_list-requires
write_list-requires c = bytes_listed (program_readable _ c.in_ok-read.ensures) _ c.entries_of-list.ensures

pub returns : goal.returns
returns c = write_words (program_readable _ c.in_ok-read.ensures) _ _ c.entries_of-list.ensures c.write_list.ensures
