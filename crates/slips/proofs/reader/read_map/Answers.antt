-- `reader::read_map`: a field that is judged.
use Rattle.slips.proofs.Reading.{map_judged}
use Rattle.slips.proofs.reader.read_map.Goals as goal

pub returns : goal.returns
returns c = rw (c.within.ensures, c.map_field.ensures) (map_judged _ _ _ c.full_map.ensures)
