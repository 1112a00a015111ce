-- `lellmusu_list`: the listing's promise, with its answer in two numbers.
use Rattle.lellmusu.proofs.Telling.{prints}
use Rattle.lellmusu.proofs.lellmusu_list.Goals as goal

pub returns : goal.returns
returns c =
    prints c.listing-listed.ensures c.text_length.ensures c.number_of.ensures
