-- `read_program`: the header, and what follows it; by the laws of `Programs` that is the definition's own reader. Assumes nothing.
use Rattle.std.proofs.Common.{sym}
use Rattle.std.proofs.lemmas.Result.{err_from_is_err_and}
use Rattle.program.proofs.Programs.{no_header, begun, after_header_lem}
use Rattle.program.proofs.reader.read_program.Goals as goal

pub read_transitions-requires : goal.read_transitions-requires
read_transitions-requires c = begun _ (sym c.in_ok-header.ensures)

pub returns-in_err-header : goal.returns-in_err-header
returns-in_err-header c =
    let p = err_from_is_err_and c.from_residual.result c.from_residual.ensures.1 in
    rw (p.1, p.2) (no_header _ (sym c.in_err-header.ensures))

pub returns : goal.returns
returns c = after_header_lem _ (sym c.in_ok-header.ensures) c.read_transitions.ensures
