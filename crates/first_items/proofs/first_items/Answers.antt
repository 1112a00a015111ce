-- `first_items`: what is left of the items, from where the loop stands, is what all of them are from the start.
use mathlib.Core.Path.{sym, ◌∙◌}
use Rattle.first_items.proofs.Turns.{from_start, none_left, turn_unread, turn_noted}
use Rattle.first_items.proofs.first_items.Goals as goal

pub loop-number-init : goal.loop-number-init
loop-number-init c = from_start _ _ _ _

pub returns-in-Err : goal.returns-in-Err
returns-in-Err c =
    sym
    (c.loop-number.invariant
    ∙ turn_unread _ _ _ _ _ _ _ c.loop-number-test.true (sym c.in-Err.ensures))

pub loop-number-preserved : goal.loop-number-preserved
loop-number-preserved c =
    rw c.note.ensures
    (c.loop-number.invariant
    ∙ turn_noted _ _ _ _ _ _ _ c.loop-number-test.true (sym c.in-Ok.ensures))

pub returns : goal.returns
returns c = sym (c.loop-number.invariant ∙ none_left _ _ _ _ _ _ _ c.loop-number-test.false)
