-- `lines::numbered::write_number` meets its contract: a space, and the number behind it.
use mathlib.Core.Path.{refl}
use native.Mathlib.Omega.{arith}
use Rattle.texts.proofs.Texts.{wrote_none, wrote_inside, grown_first, grown_more, grown_wrote, grown_inside}
use Rattle.lines.proofs.numbered.write_number.Goals as goal

pub returns-then-text-decimal_length : goal.returns-then-text-decimal_length
returns-then-text-decimal_length c = wrote_none _ _ (omega arith)

pub slice_bounds-write_decimal-count : goal.slice_bounds-write_decimal-count
slice_bounds-write_decimal-count c = grown_inside (grown_first c.write_word-at.ensures (omega arith))

pub slice_bounds-write_decimal-start : goal.slice_bounds-write_decimal-start
slice_bounds-write_decimal-start c = grown_inside (grown_first c.write_word-at.ensures (omega arith))

pub returns : goal.returns
returns c =
    let started = grown_first c.write_word-at.ensures (omega arith) in
    grown_wrote (grown_more started c.write_decimal.ensures (omega arith)) refl

pub overflow_add-result : goal.overflow_add-result
overflow_add-result c =
    let started = grown_first c.write_word-at.ensures (omega arith) in
    record { fits = omega (arith, wrote_inside (grown_wrote (grown_more started c.write_decimal.ensures (omega arith)) refl)) }
