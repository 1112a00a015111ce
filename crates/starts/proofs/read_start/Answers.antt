-- `read_start` meets its contract: an entry of the list is a number.
use Rattle.starts.proofs.Reading.{read_numbers}
use Rattle.starts.proofs.read_start.Goals as goal

pub returns : goal.returns
returns c = read_numbers _ _ c.read_list.ensures
