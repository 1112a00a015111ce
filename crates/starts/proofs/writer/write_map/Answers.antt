-- `writer::write_map` meets its contract: the map's bytes stand in front.
use Rattle.std.proofs.Common.{◌∙◌}
use Rattle.model.specs.Checks.{fill}
use Rattle.model.specs.Limits.{map_size}
use Rattle.model.proofs.BigEndian.{big_length}
use Rattle.starts.proofs.MapBytes.{eight_bytes}
use Rattle.starts.proofs.writer.write_map.Goals as goal

pub returns : goal.returns
unfolding fill
returns c = rw (c.copy_from_slice.ensures.after ∙ c.to_be_bytes.ensures ∙ eight_bytes c.args.map, big_length map_size c.args.map)
