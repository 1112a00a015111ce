-- `rows::read_rows`: each turn reads a row.
use Rattle.std.proofs.Common.{rules, ℕ, suc, ◌≡◌, ◌+◌, ◌-◌, ◌<◌, arith}
use borrow.Author.Tests.{lt-ltb, le-ltb}
use Rattle.model.specs.Limits.{max_ranks}
use Rattle.model.specs.Refusals.{Ok}
use Rattle.start_cells.specs.Reading.{row_reader, rows_from}
use Rattle.start_cells.proofs.rows.read_rows.Goals as goal
use Rattle.start_cells.proofs.rows.read_rows.Goals.{then-row-lt-RANKS, else-row-lt-RANKS}

one_left : (row ranks : ℕ) → row < ranks → ranks - row ≡ suc (ranks - (row + 1))
one_left row ranks more = omega arith

pub returns-in_err-next : goal.returns-in_err-next
unfolding rows_from
returns-in_err-next c = rw (c.loop-row.invariant, one_left c.loop-row.row c.args.header.ranks (search rules)) (search rules)

pub loop-row-preserved : goal.loop-row-preserved
unfolding rows_from
loop-row-preserved c =
    let e = one_left c.loop-row.row c.args.header.ranks (search rules) in
    let read : row_reader c.args.header.cells c.args.start.now c.loop-row.at ≡ Ok c.in_ok-next.field-0 = search rules in
    elim c.if-row-lt-RANKS.branch [
      | then-row-lt-RANKS w ↦ rw (c.loop-row.invariant, e, read, lt-ltb c.loop-row.row max_ranks (omega arith), w.table-is)
      | else-row-lt-RANKS w ↦ rw (c.loop-row.invariant, e, read, le-ltb c.loop-row.row max_ranks (omega arith), w.table-is)
    ]

pub returns : goal.returns
unfolding rows_from
returns c = let e : c.args.header.ranks - c.loop-row.row ≡ 0 = omega arith in rw (c.loop-row.invariant, e) (search rules)
