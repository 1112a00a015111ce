-- `writer::ranks_length` meets its contract. The invariant: the bytes of so many ranks are counted.
use native.Mathlib.Omega.{arith}
use Rattle.starts.proofs.RankTurns.{counting_none, counting_more, counting_all, row_small, row_inside, length_small}
use Rattle.starts.proofs.writer.ranks_length.Goals as goal

pub slice_bounds-rank_length-end : goal.slice_bounds-rank_length-end
slice_bounds-rank_length-end c = row_inside _ _ _ c.loop-row.invariant c.loop-row-test.true

pub overflow_add-length : goal.overflow_add-length
overflow_add-length c =
    let small = length_small _ _ _ c.loop-row.invariant c.loop-row-test.true c.rank_length-length.ensures in
    omega (arith, small)

pub loop-row-preserved : goal.loop-row-preserved
loop-row-preserved c =
    counting_more _ _ _ c.loop-row.invariant c.loop-row-test.true c.rank_length-length.ensures

pub loop-row-init : goal.loop-row-init
loop-row-init c = counting_none _ _ _ c.requires

pub overflow_mul-first : goal.overflow_mul-first
overflow_mul-first c = let small = row_small _ _ _ c.loop-row.invariant c.loop-row-test.true in omega (arith, small)

pub overflow_add-end : goal.overflow_add-end
overflow_add-end c = let small = row_small _ _ _ c.loop-row.invariant c.loop-row-test.true in omega (arith, small, c.loop-row.invariant.has.few_cells)

pub offset_bounds-cells-first : goal.offset_bounds-cells-first
offset_bounds-cells-first c = let small = row_small _ _ _ c.loop-row.invariant c.loop-row-test.true in omega (arith, small)

pub returns : goal.returns
returns c = counting_all _ _ _ c.loop-row.invariant c.loop-row-test.false
