-- `lines::numbered::line_length` meets its contract. The invariant: the word, the line feed and so many numbers are counted.
use Prim.Native.Nat.{◌≤◌}
use native.Mathlib.Omega.{arith}
use lib.ListN.{get_or}
use Rattle.model.proofs.Listings.{decimal_few}
use Rattle.lines.proofs.Spaced.{counting_none, counting_more, counting_all}
use Rattle.lines.proofs.numbered.line_length.Goals as goal

pub loop-number-init : goal.loop-number-init
loop-number-init c = counting_none _ _ (omega arith)

-- The next number's digits are few.
pub overflow_add-decimal_length : goal.overflow_add-decimal_length
overflow_add-decimal_length c =
    let number = get_or c.args.numbers.now c.loop-number.number-index 0 in
    omega (arith, c.decimal_length.ensures, decimal_few number (omega arith))

pub loop-number-preserved : goal.loop-number-preserved
loop-number-preserved c =
    let number = get_or c.args.numbers.now c.loop-number.number-index 0 in
    let few : c.decimal_length.result ≤ 20 = omega (arith, c.decimal_length.ensures, decimal_few number (omega arith)) in
    search (counting_more, few)

pub returns : goal.returns
returns c = search counting_all
