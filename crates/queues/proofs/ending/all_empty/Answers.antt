-- `queues::ending::all_empty` meets its contract: the ranks are tested in turn.
use Rattle.std.proofs.Common.{◌+◌, refl, ◌∙◌, arith, rules}
use Rattle.std.proofs.lemmas.Iterator.{YieldsList-from_range}
use Rattle.std.proofs.lemmas.Iterator.Search.{all_from_yields_List}
use Rattle.queues.specs.Endings.{rank_empty}
use Rattle.queues.proofs.Every.{all_next}
use Rattle.queues.proofs.ending.all_empty.Goals as goal

pub returns : goal.returns
returns c =
    all_from_yields_List (λ n. rank_empty c.args.ends.now c.args.queues (n + 1)) _ _ c.all.result c.all.ensures.ran
    (YieldsList-from_range 0 c.args.ranks c.args.ranks refl (omega arith)) (λ x b q k. search rules)
    ∙ all_next (rank_empty c.args.ends.now c.args.queues) 0 c.args.ranks
