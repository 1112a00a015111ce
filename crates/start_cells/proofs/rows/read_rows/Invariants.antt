use Rattle.std.proofs.Common.{◌≡◌, ◌-◌}
use Rattle.start_cells.specs.Reading.{rows_from}
use Rattle.start_cells.proofs.rows.read_rows.Given as goal

-- What is left to read from here, into the table as it is, is the whole.
abbrev pub invariant-loop-row : goal.invariant-loop-row
invariant-loop-row l =
    rows_from l.header.cells l.header.ranks 0 l.initial.table l.start 0
    ≡ rows_from l.header.cells (l.header.ranks - l.row) l.row l.table l.start l.at
