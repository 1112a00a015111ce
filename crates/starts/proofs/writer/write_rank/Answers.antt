-- `writer::write_rank` meets its contract: there is room for the map, and for its values behind it.
use native.Mathlib.Omega.{arith}
use Rattle.starts.proofs.RankBytes.{count_few, rank_put}
use Rattle.starts.proofs.writer.write_rank.Goals as goal

pub returns : goal.returns
returns c =
    rank_put _ c.map_of-map.ensures c.ones_in-count.ensures _ c.requires
    c.write_map.ensures
    c.values_of-values.ensures c.write.ensures

pub overflow_mul-result : goal.overflow_mul-result
overflow_mul-result c = let small = count_few _ c.map_of-map.ensures c.ones_in-count.ensures in omega (arith, small)

pub overflow_add-result : goal.overflow_add-result
overflow_add-result c = let small = count_few _ c.map_of-map.ensures c.ones_in-count.ensures in omega (arith, small)
