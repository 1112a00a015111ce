-- `read_items`: an item that is found leaves one less from the next place, and one that is refused ends the reading. Assumes nothing.
use Rattle.std.proofs.Common.{rules, arith, ◌≡◌, ◌-◌, sym, ◌∙◌}
use Rattle.model.specs.Bytes.{times}
use Rattle.record.specs.Places.{items_end}
use Rattle.record.proofs.Places.{item_fails, item_found}
use Rattle.record.proofs.reader.read_items.Goals as goal

pub returns-in_err-at : goal.returns-in_err-at
returns-in_err-at c =
    let fails = item_fails _ _ _ _ _ c.loop-test.true (sym c.read_item.ensures ∙ c.in_err-at.was) in
    rw (← c.loop.invariant, ← fails) (search rules)

pub loop-preserved : goal.loop-preserved
loop-preserved c = item_found _ _ _ _ _ c.loop-test.true (sym c.read_item.ensures ∙ c.in_ok-at.was) ∙ c.loop.invariant

pub returns : goal.returns
unfolding items_end times
returns c =
    let none : c.args.count - c.loop.counter ≡ 0 = omega arith in
    rw none at c.loop.invariant
