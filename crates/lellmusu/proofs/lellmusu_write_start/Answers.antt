-- `lellmusu_write_start`: the start writer's promise, with its answer in two numbers.
use Rattle.lellmusu.proofs.Telling.{tells}
use Rattle.lellmusu.proofs.lellmusu_write_start.Goals as goal

pub returns : goal.returns
returns c =
    tells c.write_start_bytes.ensures c.tell.ensures.counts c.tell.ensures.returns
