-- `lists::fill_list` meets its contract: each way out is a law of `Lending`.
use Rattle.lists.proofs.Lending.{lends_first, lends_none}
use Rattle.lists.proofs.fill_list.Goals as goal

pub returns-then-list-needed : goal.returns-then-list-needed
returns-then-list-needed c = search lends_none

pub returns : goal.returns
returns c = search lends_first
