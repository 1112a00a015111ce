-- `lellmusu_read_start`: the start reader's promise, with its answer in two numbers.
use Rattle.lellmusu.proofs.Telling.{tells}
use Rattle.lellmusu.proofs.lellmusu_read_start.Goals as goal

pub returns : goal.returns
returns c =
    tells c.read_start_bytes.ensures c.tell.ensures.counts c.tell.ensures.returns
