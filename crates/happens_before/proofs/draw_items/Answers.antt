-- `draw_items`: each turn is a law of `Turns`.
use native.Mathlib.Omega.{arith}
use Rattle.happens_before.proofs.Turns.{turn_first, turn_next, turn_last}
use Rattle.happens_before.proofs.draw_items.Goals as goal

pub loop-item-init : goal.loop-item-init
loop-item-init g c = rw c.none-kept.ensures (turn_first _ _ _ _)

pub loop-item-preserved : goal.loop-item-preserved
loop-item-preserved g c = turn_next c.loop-item.invariant c.requires.few c.requires.inside (omega arith) c.draw_item.ensures

pub returns : goal.returns
returns g c = turn_last c.loop-item.invariant c.requires.few c.requires.inside (omega arith)
