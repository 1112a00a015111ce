-- `lellmusu_check`: the check's promise, with its answer in two numbers.
use Rattle.lellmusu.proofs.Reporting.{reports}
use Rattle.lellmusu.proofs.lellmusu_check.Goals as goal

pub returns : goal.returns
returns c =
    reports c.check_bytes-answer.ensures c.value_of.ensures c.number_of.ensures
