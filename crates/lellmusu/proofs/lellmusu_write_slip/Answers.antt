-- `lellmusu_write_slip`: the slip writer's promise, with its answer in two numbers.
use Rattle.lellmusu.proofs.Telling.{tells}
use Rattle.lellmusu.proofs.lellmusu_write_slip.Goals as goal

pub returns : goal.returns
returns c =
    tells c.write_slip.ensures c.tell.ensures.counts c.tell.ensures.returns
