-- Both changes of a bitmap put a new word in one place and a new summary behind the words. A number's word is n / 64, so numbers of other words keep
-- their bits; of the numbers in the word, one alone has the bit that changes.
use Prim.Native.Nat.{ℕ, ◌/◌, ◌%◌, ◌^◌, ◌<◌}
use mathlib.Core.Path.{◌≡◌, sym, ap, ◌∙◌}
use mathlib.Core.Bool.{Bool, true, false, not, true≢false}
use mathlib.Core.List.{List}
use native.Mathlib.Omega.{arith}
use lib.Dec.{eqb}
use lib.ListN.{length, set, length-set}
use lib.Seq.{get_or-set_same, get_or-set_other}
use borrow.Author.Tests.{eqb-true, eqb-false, eq-eqb, ne_eqb}
use Rattle.model.specs.Limits.{max_items}
use Rattle.model.specs.Choice.{bit}
use Rattle.model.proofs.Laws.{decided}
use Rattle.bitmap.specs.Bitmaps.{words, word_bits, bitmap_length, word_at, summary_of, Holds}
use Rattle.bitmap.proofs.Bits.{bit_zero}

-- A bitmap with a word and the summary changed.
pub record Changed (b c : List ℕ) (word bits summary : ℕ) : Type 0 where
  pub long : length c ≡ bitmap_length
  pub at_word : word_at c word ≡ bits
  pub at_summary : summary_of c ≡ summary
  pub elsewhere : (other : ℕ) → ¬ (other ≡ word) → ¬ (other ≡ words) → word_at c other ≡ word_at b other

module _ (b : List ℕ) (word bits : ℕ) (long : length b ≡ bitmap_length) (below : word < words) where
  pub word_changed : Changed b (set b word bits) word bits (summary_of b)
  word_changed =
      record {
        long = length-set b word bits ∙ long;
        at_word = get_or-set_same b word bits 0 (omega arith);
        at_summary = get_or-set_other b word words bits 0 (λ e. omega arith);
        elsewhere = λ other e s. get_or-set_other b word other bits 0 e;
      }

  pub both_changed : (summary : ℕ) → Changed b (set (set b word bits) words summary) word bits summary
  both_changed summary =
      let once = word_changed in
      let long' = once.long in
      record {
        long = length-set (set b word bits) words summary ∙ long';
        at_word = get_or-set_other (set b word bits) words word summary 0 (λ e. omega arith) ∙ once.at_word;
        at_summary = get_or-set_same (set b word bits) words summary 0 (omega arith);
        elsewhere = λ other e s. get_or-set_other (set b word bits) words other summary 0 s ∙ once.elsewhere other e s;
      }

-- What the new word and the new summary have to be, for a test that changes in one word only.
pub record Fitting (b : List ℕ) (p q : ℕ → Bool) (word bits summary : ℕ) : Type 0 where
  pub fits : bits < 2 ^ word_bits
  pub in_word : (n : ℕ) → n < max_items → n / word_bits ≡ word → bit (n % word_bits) bits ≡ q n
  pub others : (n : ℕ) → ¬ (n / word_bits ≡ word) → p n ≡ q n
  pub summary_fits : summary < 2 ^ words
  pub marks : bit word summary ≡ not (eqb bits 0)
  pub other_marks : (other : ℕ) → other < words → ¬ (other ≡ word) → bit other summary ≡ bit other (summary_of b)

pub changed_holds : {b c : List ℕ} {p q : ℕ → Bool} {word bits summary : ℕ} → Holds b p → Changed b c word bits summary →
    Fitting b p q word bits summary → Holds c q
changed_holds {b} {c} {p} {q} {word} {bits} {summary} h new fit =
    record {
      long = new.long;
      fits = λ other. fits other;
      held = λ n below.
          decided (eqb (n / word_bits) word)
          (λ t. let e = eqb-true (n / word_bits) word t in
          ap (λ w. bit (n % word_bits) (word_at c w)) e ∙ ap (bit (n % word_bits)) new.at_word ∙ fit.in_word n below e)
          (λ t. let e = eqb-false (n / word_bits) word t in
          ap (bit (n % word_bits)) (new.elsewhere (n / word_bits) e (λ s. omega arith)) ∙ h.held n below ∙ fit.others n e);
      summary_fits = rw new.at_summary fit.summary_fits;
      summary_held = λ other below.
          decided (eqb other word)
          (λ t. let e = eqb-true other word t in
          ap (bit other) new.at_summary
          ∙ ap (λ w. bit w summary) e
          ∙ fit.marks
          ∙ sym (ap (λ x. not (eqb x 0)) (ap (word_at c) e ∙ new.at_word)))
          (λ t. let e = eqb-false other word t in
          ap (bit other) new.at_summary
          ∙ fit.other_marks other below e
          ∙ h.summary_held other below
          ∙ sym (ap (λ x. not (eqb x 0)) (new.elsewhere other e (λ s. omega arith))));
    }
  where
    fits : (other : ℕ) → word_at c other < 2 ^ word_bits
    fits other =
        decided (eqb other word)
        (λ t. let e = eqb-true other word t in rw (ap (word_at c) e ∙ new.at_word) fit.fits)
        (λ t. let e = eqb-false other word t in
        decided (eqb other words)
        (λ u. let s = eqb-true other words u in
        let small = fit.summary_fits in
        rw (ap (word_at c) s ∙ new.at_summary) (omega arith))
        (λ u. let s = eqb-false other words u in rw (new.elsewhere other e s) (h.fits other)))

-- Two numbers of one word are equal where their bits' places are, and numbers of two words are not equal.
pub same_place : (m n : ℕ) → m / word_bits ≡ n / word_bits → eqb (m % word_bits) (n % word_bits) ≡ eqb m n
same_place m n e =
    decided (eqb m n)
    (λ t. let s = eqb-true m n t in eq-eqb (m % word_bits) (n % word_bits) (ap (λ k. k % word_bits) s) ∙ sym t)
    (λ t. let d = eqb-false m n t in ne_eqb (m % word_bits) (n % word_bits) (λ s. d (omega arith)) ∙ sym t)

pub other_word : (m n : ℕ) → ¬ (m / word_bits ≡ n / word_bits) → eqb m n ≡ false
other_word m n d = ne_eqb m n (λ e. d (ap (λ k. k / word_bits) e))

-- A word with a bit is not 0.
pub not_zero : (bits place : ℕ) → bit place bits ≡ true → not (eqb bits 0) ≡ true
not_zero bits place t =
    ap not (ne_eqb bits 0 (λ e. true≢false (sym t ∙ ap (bit place) e ∙ bit_zero place)))
