-- `lellmusu_read_slip`: the slip reader's promise, with its answer in two numbers.
use Rattle.lellmusu.proofs.Telling.{tells}
use Rattle.lellmusu.proofs.lellmusu_read_slip.Goals as goal

pub returns : goal.returns
returns c =
    tells c.read_slip.ensures c.tell.ensures.counts c.tell.ensures.returns
