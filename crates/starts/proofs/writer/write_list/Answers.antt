-- `writer::write_list` meets its contract: each way out is a law of `Answering`.
use native.Mathlib.Omega.{arith}
use Rattle.starts.proofs.Answering.{count_small, list_short, list_has, memory_short, memory_has, memory_filled}
use Rattle.starts.proofs.writer.write_list.Goals as goal

pub returns-then-entries-count : goal.returns-then-entries-count
returns-then-entries-count c = list_short _ _ _ c.requires _ c.if-entries-count.true

pub ranks_length-needed-requires : goal.ranks_length-needed-requires
ranks_length-needed-requires c = list_has _ _ _ c.requires c.if-entries-count.false

pub returns-then-start-needed : goal.returns-then-start-needed
returns-then-start-needed c =
    memory_short _ _ _ c.requires c.if-entries-count.false c.ranks_length-needed.ensures _ c.if-start-needed.true

pub write_ranks-requires : goal.write_ranks-requires
write_ranks-requires c =
    memory_has _ _ _ c.requires c.if-entries-count.false c.ranks_length-needed.ensures _ c.if-start-needed.false

pub returns : goal.returns
returns c =
    memory_filled _ _ _ c.requires c.if-entries-count.false c.ranks_length-needed.ensures _ c.if-start-needed.false
    c.write_ranks.ensures

pub overflow_mul-count : goal.overflow_mul-count
overflow_mul-count c = let small = count_small _ _ _ c.requires in omega (arith, small)
