-- `writer::write_ranks` meets its contract. The invariant: the bytes of so many ranks stand in front.
use native.Mathlib.Omega.{arith}
use Rattle.starts.proofs.RankTurns.{putting_none, putting_more, putting_all}
use Rattle.starts.proofs.RankTurns.{row_small, row_inside, length_small, behind_inside, rank_room}
use Rattle.starts.proofs.writer.write_ranks.Goals as goal

pub slice_bounds-write_rank-end : goal.slice_bounds-write_rank-end
slice_bounds-write_rank-end c = row_inside _ _ _ c.loop-row.invariant.counted c.loop-row-test.true

-- The bytes behind those that are written.
pub slice_bounds-write_rank-count-in-loop-row : goal.slice_bounds-write_rank-count-in-loop-row
slice_bounds-write_rank-count-in-loop-row c = behind_inside _ _ _ c.loop-row.invariant

pub write_rank-at-requires : goal.write_rank-at-requires
write_rank-at-requires c =
    rank_room _ _ _ c.loop-row.invariant c.loop-row-test.true

pub overflow_add-at : goal.overflow_add-at
overflow_add-at c =
    let small =
    length_small _ _ _ c.loop-row.invariant.counted c.loop-row-test.true c.write_rank-at.ensures.counts in
    omega (arith, small)

pub loop-row-preserved : goal.loop-row-preserved
loop-row-preserved c = putting_more _ _ _ c.loop-row.invariant c.loop-row-test.true c.write_rank-at.ensures

pub loop-row-init : goal.loop-row-init
loop-row-init c = putting_none _ _ _ _ c.requires.has c.requires.room

pub overflow_mul-first : goal.overflow_mul-first
overflow_mul-first c = let small = row_small _ _ _ c.loop-row.invariant.counted c.loop-row-test.true in omega (arith, small)

pub overflow_add-end : goal.overflow_add-end
overflow_add-end c = let small = row_small _ _ _ c.loop-row.invariant.counted c.loop-row-test.true in omega (arith, small, c.loop-row.invariant.counted.has.few_cells)

pub offset_bounds-cells-first : goal.offset_bounds-cells-first
offset_bounds-cells-first c = let small = row_small _ _ _ c.loop-row.invariant.counted c.loop-row-test.true in omega (arith, small)

pub shape_of-start : goal.shape_of-start
shape_of-start c = c.loop-row.invariant.long

pub returns : goal.returns
returns c = putting_all _ _ _ c.loop-row.invariant c.loop-row-test.false
