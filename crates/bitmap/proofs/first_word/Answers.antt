-- `bitmap::first_word` meets its contract: the tests are those of the definition.
use Rattle.bitmap.proofs.Taking.{beyond_words, word_zero, word_found, word_marked}
use Rattle.bitmap.proofs.first_word.Goals as goal
use Rattle.bitmap.proofs.first_word.Goals.{
  else-word-lt-WORDS-via-then-word-lt-WORDS+else-bitmap-word-ne0,
  else-word-lt-WORDS-via-else-word-lt-WORDS,
}

pub returns-then-bitmap-word-ne0 : goal.returns-then-bitmap-word-ne0
returns-then-bitmap-word-ne0 c =
    let word = c.lowest_bit-word.ensures in
    record {
      is = word_found _ _ word c.if-word-lt-WORDS.true c.if-bitmap-word-ne0.true;
      marks = word_marked _ _ word c.if-word-lt-WORDS.true c.if-bitmap-word-ne0.true;
    }

pub returns-else-word-lt-WORDS : goal.returns-else-word-lt-WORDS
returns-else-word-lt-WORDS c =
    record {
      is =
          elim c.else-word-lt-WORDS.branch [
            | else-word-lt-WORDS-via-then-word-lt-WORDS+else-bitmap-word-ne0 w ↦ word_zero _ _ c.lowest_bit-word.ensures w.if-bitmap-word-ne0.false
            | else-word-lt-WORDS-via-else-word-lt-WORDS w ↦ beyond_words _ _ c.lowest_bit-word.ensures w.if-word-lt-WORDS.false
          ];
      marks = tt;
    }
