-- `write_map` meets its contract: the map's low bytes stand in front.
use Rattle.slips.proofs.Putting.{map_put}
use Rattle.slips.proofs.write_map.Goals as goal

pub returns : goal.returns
returns c = map_put c.args.ranks c.args.map c.map_length-length.ensures c.to_be_bytes.ensures c.copy_from_slice.ensures.after _
