-- `texts::decimals::decimal_length` meets its contract. The invariant: the digits counted, and those that are left, one of them counted already, are
-- all of them.
use native.Mathlib.Omega.{arith}
use Rattle.model.proofs.Listings.{digit_length, more_length, decimal_few}
use Rattle.texts.proofs.decimals.decimal_length.Goals as goal

pub loop-rest-init : goal.loop-rest-init
loop-rest-init c = omega arith

pub overflow_add-count : goal.overflow_add-count
overflow_add-count c = omega (arith, decimal_few c.args.number (omega arith))

pub loop-rest-smaller : goal.loop-rest-smaller
loop-rest-smaller c = omega arith

pub loop-rest-preserved : goal.loop-rest-preserved
loop-rest-preserved c = omega (arith, more_length _ c.loop-rest-test.true)

pub returns : goal.returns
returns c = omega (arith, digit_length _ c.loop-rest-test.false)
