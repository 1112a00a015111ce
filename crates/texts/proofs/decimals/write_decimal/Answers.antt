-- `texts::decimals::write_decimal` meets its contract. The invariant: the text with the digits that are left over it is the text with all of them.
use Rattle.std.proofs.Common.{◌≡◌, ◌-◌, ◌<◌}
use native.Mathlib.Omega.{arith}
use Rattle.model.proofs.Listings.{decimal_some}
use Rattle.texts.proofs.Texts.{wrote_none}
use Rattle.texts.proofs.Digiting.{digiting_none, digiting_more, digiting_all, digits_more, digits_last}
use Rattle.texts.proofs.decimals.write_decimal.Goals as goal

pub returns-then-text-count : goal.returns-then-text-count
returns-then-text-count c = wrote_none _ _ (omega arith)

pub loop-at-init : goal.loop-at-init
loop-at-init c = digiting_none _ _ (omega (arith, decimal_some c.args.number)) (omega arith)

pub loop-at-preserved : goal.loop-at-preserved
loop-at-preserved c =
    let so_far = c.loop-at.invariant in
    digiting_more _ _ so_far (digits_more so_far.place (omega arith))

pub overflow_cast-text-2 : goal.overflow_cast-text-2
overflow_cast-text-2 c =
    let last : c.loop-at.left < 10 = digits_last c.loop-at.invariant.place (omega arith) in
    omega arith

pub overflow_add-text-2 : goal.overflow_add-text-2
overflow_add-text-2 c =
    let last : c.loop-at.left < 10 = digits_last c.loop-at.invariant.place (omega arith) in
    omega arith

pub returns : goal.returns
returns c =
    let so_far = c.loop-at.invariant in
    let first : c.loop-at.at - 1 ≡ 0 = omega arith in
    rw first at (digiting_all _ _ so_far (digits_last so_far.place (omega arith)) c.decimal_length-count.ensures)
