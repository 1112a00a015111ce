-- `lines::numbered::write_line` meets its contract. The invariant: the word and so many numbers are written, one behind the other.
use native.Mathlib.Omega.{arith}
use Rattle.texts.proofs.Texts.{wrote_none, wrote_inside}
use Rattle.lines.proofs.Spaced.{lining_none, lining_more, lining_all}
use Rattle.lines.proofs.numbered.write_line.Goals as goal

pub returns-then-text-line_length : goal.returns-then-text-line_length
returns-then-text-line_length c = wrote_none _ _ (omega arith)

pub loop-number-init : goal.loop-number-init
loop-number-init c = lining_none (omega arith) c.write_word-at.ensures

pub loop-number-preserved : goal.loop-number-preserved
loop-number-preserved c = lining_more c.loop-number.invariant c.loop-number-test.true c.write_number-at.ensures

pub overflow_add-at : goal.overflow_add-at
overflow_add-at c =
    let so_far = (lining_more c.loop-number.invariant c.loop-number-test.true c.write_number-at.ensures).grown in
    record { fits = omega (arith, so_far.place, so_far.inside) }

pub returns : goal.returns
returns c = lining_all c.loop-number.invariant c.write_word-at.ensures c.loop-number-test.false c.write_word.ensures

pub overflow_add-result : goal.overflow_add-result
overflow_add-result c =
    let whole = lining_all c.loop-number.invariant c.write_word-at.ensures c.loop-number-test.false c.write_word.ensures in
    record { fits = omega (arith, wrote_inside whole) }
