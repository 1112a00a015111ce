-- What a bitmap holds: nothing, then one number more by an insertion, and one less by taking the lowest. The crates above cite these laws and never
-- look at a bit.
use Rattle.std.specs.Prelude.{Option, Some, None}
use Rattle.model.proofs.Options.{none-ne-some, some-injective}
use Prim.Native.Nat.{ℕ, zero, suc, ◌/◌, ◌%◌, ◌<◌}
use mathlib.Core.Path.{◌≡◌, refl, sym, subst, ap, ap₂, ◌∙◌}
use mathlib.Core.Bool.{Bool, true, false, not, ◌&&◌, ◌||◌, or_comm, or-true, or-false}
use mathlib.Core.List.{List}
use native.Mathlib.Omega.{arith}
use lib.Dec.{eqb}
use lib.ListN.{replicate, length-replicate}
use borrow.Author.Tests.{ne_eqb, lt-ltb}
use Rattle.model.specs.Limits.{max_items}
use Rattle.model.specs.Choice.{bit}
use Rattle.model.proofs.Laws.{eqb_refl}
use Rattle.bitmap.specs.Bitmaps.{
  words,
  word_bits,
  bitmap_length,
  empty_bitmap,
  word_at,
  summary_of,
  with_bit,
  inserted,
  number_in,
  cleared_in,
  lowest_of,
  rest_of,
  lowest_in,
  lowest_taken,
  Holds,
  IsLowest,
}
use Rattle.bitmap.proofs.Bits.{bit_zero, bit_added, added_fits}
use Rattle.bitmap.proofs.Changes.{Fitting, word_changed, both_changed, changed_holds, same_place, other_word, not_zero}
use Rattle.bitmap.proofs.FirstWord.{First, no_word, the_word, first, number_lowest, cleared_holds}

-- A bitmap of zeros holds nothing.
zero_word : (count word : ℕ) → word_at (replicate count 0) word ≡ 0
zero_word zero word = refl
zero_word (suc count) zero = refl
zero_word (suc count) (suc word) = zero_word count word

pub empty_holds : Holds empty_bitmap (λ n. false)
empty_holds =
    record {
      long = length-replicate {A = ℕ} bitmap_length 0;
      fits = λ word. rw (zero_word bitmap_length word) (omega arith);
      held = λ n b. ap (bit (n % word_bits)) (zero_word bitmap_length (n / word_bits)) ∙ bit_zero (n % word_bits);
      summary_fits = omega (arith, zero_word bitmap_length words);
      summary_held = λ word b. bit_zero word ∙ sym (ap (λ x. not (eqb x 0)) (zero_word bitmap_length word));
    }

-- A bitmap holds what passes either of two tests that agree on the numbers.
pub same_holds : {b : List ℕ} {p q : ℕ → Bool} → ((n : ℕ) → n < max_items → p n ≡ q n) → Holds b p → Holds b q
same_holds same h =
    record {
      long = h.long;
      fits = h.fits;
      held = λ n b. h.held n b ∙ same n b;
      summary_fits = h.summary_fits;
      summary_held = h.summary_held;
    }

-- One number more.
module _ {b : List ℕ} {p : ℕ → Bool} (h : Holds b p) (n : ℕ) (below : n < max_items) where
  insert_fitting : Fitting b p (λ m. eqb m n || p m) (n / word_bits)
      (with_bit (word_at b (n / word_bits)) (n % word_bits)) (with_bit (summary_of b) (n / word_bits))
  insert_fitting =
      record {
        fits = added_fits word_bits (n % word_bits) (word_at b (n / word_bits)) (h.fits (n / word_bits)) (omega arith);
        in_word = λ m small e.
            bit_added (m % word_bits) (n % word_bits) (word_at b (n / word_bits))
            ∙ ap₂ (λ t u. t || u) (ap (λ w. bit (m % word_bits) (word_at b w)) (sym e) ∙ h.held m small) (same_place m n e)
            ∙ or_comm (p m) (eqb m n);
        others = λ m d. sym (ap (λ t. t || p m) (other_word m n d));
        summary_fits = added_fits words (n / word_bits) (summary_of b) h.summary_fits (omega arith);
        marks =
            bit_itself (n / word_bits) (summary_of b)
            ∙ sym (not_zero (with_bit (word_at b (n / word_bits)) (n % word_bits)) (n % word_bits)
            (bit_itself (n % word_bits) (word_at b (n / word_bits))));
        other_marks = λ other small d.
            bit_added other (n / word_bits) (summary_of b)
            ∙ ap (λ t. bit other (summary_of b) || t) (ne_eqb other (n / word_bits) d)
            ∙ or-false (bit other (summary_of b));
      }
    where
      bit_itself : (place bits : ℕ) → bit place (with_bit bits place) ≡ true
      bit_itself place bits =
          bit_added place place bits ∙ ap (λ t. bit place bits || t) (eqb_refl place) ∙ or-true (bit place bits)

  pub insert_holds : Holds (inserted b n) (λ m. eqb m n || p m)
  unfolding inserted
  insert_holds =
      let new = both_changed b (n / word_bits) (with_bit (word_at b (n / word_bits)) (n % word_bits)) h.long (omega arith) in
      let once = word_changed b (n / word_bits) (with_bit (word_at b (n / word_bits)) (n % word_bits)) h.long (omega arith) in
      rw (lt-ltb n max_items below)
      (rw once.at_summary (changed_holds h (new (with_bit (summary_of b) (n / word_bits))) insert_fitting))

-- The laws, by whether there is a first word.
module _ {b : List ℕ} {p : ℕ → Bool} (h : Holds b p) where
  none_in : {word : Option ℕ} → First b word → lowest_of b word ≡ None → (n : ℕ) → n < max_items → p n ≡ false
  none_in (no_word zeros) e n below =
      sym (h.held n below) ∙ ap (bit (n % word_bits)) (zeros (n / word_bits) (omega arith)) ∙ bit_zero (n % word_bits)
  none_in (the_word {word} f) e n below = absurd (none-ne-some (number_in b word) (sym e))

  some_in : {word : Option ℕ} {n : ℕ} → First b word → lowest_of b word ≡ Some n → IsLowest p n
  some_in {n = n} (no_word zeros) e = absurd (none-ne-some n e)
  some_in (the_word f) e = subst (IsLowest p) (some-injective _ _ e) (number_lowest h f)

  rest_in : {word : Option ℕ} {n : ℕ} → First b word → lowest_of b word ≡ Some n → Holds (rest_of b word) (λ m. p m && not (eqb m n))
  rest_in {n = n} (no_word zeros) e = absurd (none-ne-some n e)
  rest_in (the_word {word} f) e =
      subst (λ n. Holds (cleared_in b word) (λ m. p m && not (eqb m n))) (some-injective _ _ e) (cleared_holds h f)

  pub lowest_none : lowest_in b ≡ None → (n : ℕ) → n < max_items → p n ≡ false
  unfolding lowest_in
  lowest_none = none_in (first h)

  pub lowest_some : {n : ℕ} → lowest_in b ≡ Some n → IsLowest p n
  unfolding lowest_in
  lowest_some = some_in (first h)

  pub taken_holds : {n : ℕ} → lowest_in b ≡ Some n → Holds (lowest_taken b) (λ m. p m && not (eqb m n))
  unfolding lowest_in lowest_taken
  taken_holds = rest_in (first h)
