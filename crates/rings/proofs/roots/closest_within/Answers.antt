-- `closest_within`: the best of the groups that were looked from. Each turn is a law of `Looking`.
use Rattle.rings.proofs.Looking.{best_begins, best_ready, best_removable, best_looked, best_low, best_gone, best_chosen}
use Rattle.rings.proofs.roots.closest_within.Goals as goal

pub loop-group-init : goal.loop-group-init
loop-group-init c = search best_begins

pub search-found-requires : goal.search-found-requires
search-found-requires c = search best_ready

pub take_out-requires : goal.take_out-requires
take_out-requires c =
    best_removable c.loop-group.invariant c.loop-group-test.true c.limit_of.ensures c.search-found.ensures

pub loop-group-preserved-then-entered : goal.loop-group-preserved-then-entered
loop-group-preserved-then-entered c =
    best_looked c.loop-group.invariant c.loop-group-test.true c.limit_of.ensures c.search-found.ensures
    c.better-best.ensures c.take_out.ensures

pub loop-group-preserved-else-entered : goal.loop-group-preserved-else-entered
loop-group-preserved-else-entered c = search best_low

pub loop-group-preserved : goal.loop-group-preserved
loop-group-preserved c =
    best_gone c.loop-group.invariant c.loop-group-test.true c.entry.ensures c.if-entry-gt0.false

pub returns : goal.returns
returns c = search best_chosen
