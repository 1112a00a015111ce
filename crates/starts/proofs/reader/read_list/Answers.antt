-- `reader::read_list` meets its contract: the program's refusal, the start's, the list's, or the readings in it.
use Rattle.std.proofs.lemmas.Result.{err_from_is_err_and}
use Rattle.starts.proofs.Reading.{no_program, no_start, list_short, list_filled}
use Rattle.starts.proofs.reader.read_list.Goals as goal

pub returns-in_err-header : goal.returns-in_err-header
returns-in_err-header g c =
    let p = err_from_is_err_and c.from_residual.result c.from_residual.ensures.1 in
    rw (p.1, p.2) (no_program _ _ _ _ _ c.in_err-header.ensures)

pub returns-in_err-start_cells : goal.returns-in_err-start_cells
returns-in_err-start_cells g c =
    let p = err_from_is_err_and c.from_residual-in_err-start_cells.result c.from_residual-in_err-start_cells.ensures.1 in
    rw (p.1, p.2) (no_start _ _ _ _ _ c.in_ok-header.ensures c.start_cells.ensures c.in_err-start_cells.was)

pub returns-then-list-WIDTH : goal.returns-then-list-WIDTH
returns-then-list-WIDTH g c =
    list_short _ _ _ _ _ c.in_ok-header.ensures c.start_cells.ensures c.in_ok-start_cells.was (rw c.WIDTH.ensures at c.if-list-WIDTH.true)

pub returns : goal.returns
returns g c =
    list_filled _ _ _ _ _ c.in_ok-header.ensures c.start_cells.ensures c.in_ok-start_cells.was (rw c.WIDTH.ensures at c.if-list-WIDTH.false)
    c.write_cells.ensures
