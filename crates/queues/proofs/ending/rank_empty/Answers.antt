-- `queues::ending::rank_empty` meets its contract: the queues are tested in turn.
use Rattle.std.proofs.Common.{refl, ◌∙◌, arith, rules}
use Rattle.std.proofs.lemmas.Iterator.{YieldsList-from_range}
use Rattle.std.proofs.lemmas.Iterator.Search.{all_from_yields_List}
use Rattle.queues.specs.Endings.{queue_empty}
use Rattle.queues.proofs.Every.{all_every}
use Rattle.queues.proofs.ending.rank_empty.Goals as goal

pub returns : goal.returns
returns c =
    all_from_yields_List (queue_empty c.args.ends.now c.args.rank) _ _ c.all.result c.all.ensures.ran
    (YieldsList-from_range 0 c.args.queues c.args.queues refl (omega arith)) (λ x b q k. search rules)
    ∙ all_every _ _ _
