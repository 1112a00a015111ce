-- `read_start_bytes` meets its contract: an entry of the list is two bytes.
use Rattle.starts.proofs.Reading.{read_words}
use Rattle.starts.proofs.read_start_bytes.Goals as goal

pub returns : goal.returns
returns c = read_words _ _ c.read_list.ensures
