-- `write_counts` meets its contract.
use Rattle.slips.proofs.Putting.{slip_short, map_room, counts_room, slip_put}
use Rattle.slips.proofs.write_counts.Goals as goal

pub returns-then-slip-needed : goal.returns-then-slip-needed
returns-then-slip-needed c =
    slip_short _ _ c.map_of-map.ensures c.slip_length-needed.ensures _ c.if-slip-needed.true

pub write_map-requires : goal.write_map-requires
write_map-requires c =
    let given = c.args in
    map_room given.ranks _ c.map_of-map.ensures c.slip_length-needed.ensures given.slip.now c.if-slip-needed.false

pub slice_bounds-write-count : goal.slice_bounds-write-count
slice_bounds-write-count c =
    counts_room _ _ c.map_of-map.ensures c.slip_length-needed.ensures _ c.if-slip-needed.false
    c.map_length-behind.ensures c.write_map.ensures

pub slice_bounds-write-start : goal.slice_bounds-write-start
slice_bounds-write-start c = slice_bounds-write-count c

pub returns : goal.returns
returns c =
    slip_put _ _ c.map_of-map.ensures c.slip_length-needed.ensures _ c.if-slip-needed.false
    c.map_length-behind.ensures c.write_map.ensures c.values_of-listed.ensures c.ones_in.ensures
    c.write.ensures
