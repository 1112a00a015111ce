-- `bitmap::take_lowest` meets its contract: it takes the lowest bit out of the first word, which may leave the summary then.
use mathlib.Core.Path.{◌≡◌, sym}
use Prim.Native.Nat.{◌+◌, ◌*◌}
use Rattle.bitmap.specs.Bitmaps.{word_bits, number_in}
use Rattle.bitmap.proofs.Taking.{none_taken, word_emptied, word_kept}
use Rattle.bitmap.proofs.take_lowest.Goals as goal
use Rattle.bitmap.proofs.take_lowest.Goals.{then-rest-eq0, else-rest-eq0}

pub returns-in_err-word : goal.returns-in_err-word
returns-in_err-word c = rw c.from_residual.ensures (none_taken _ (sym c.in_err-word.ensures.is))

pub returns : goal.returns
returns c =
    let the_word = sym c.in_ok-word.ensures.is in
    let number : c.in_ok-word.word * word_bits + c.lowest_bit.result ≡ number_in c.args.bitmap.now c.in_ok-word.word = rw c.lowest_bit.ensures in
    elim c.if-rest-eq0.branch [
      | then-rest-eq0 w ↦ word_emptied _ the_word number c.in_ok-word.ensures.marks.below w.if-rest-eq0.true w.bitmap-is
      | else-rest-eq0 w ↦ word_kept _ the_word number w.if-rest-eq0.false w.bitmap-is
    ]
