-- The first word that is not 0 has the lowest number of the set, and without that number's bit the bitmap holds the others.
use Rattle.std.specs.Prelude.{Option, Some, None}
use Prim.Native.Nat.{ℕ, ◌/◌, ◌%◌, ◌^◌, ◌<◌}
use mathlib.Core.Path.{◌≡◌, refl, sym, ap, ap₂, ◌∙◌}
use mathlib.Core.Bool.{Bool, true, false, not, ◌&&◌, and-true, and-false, true≢false}
use mathlib.Core.List.{List}
use native.Mathlib.Omega.{arith}
use lib.Dec.{ltb, eqb}
use borrow.Author.Tests.{eqb-true, eqb-false, ne_eqb, lt-ltb, ltb-true, ltb-false, not-true, not-false}
use Rattle.model.specs.Limits.{max_items}
use Rattle.model.specs.Choice.{bit}
use Rattle.model.proofs.Laws.{decided, eqb_refl}
use Rattle.bitmap.specs.Bitmaps.{
  words,
  word_bits,
  word_at,
  summary_of,
  lowest_bit,
  without_lowest,
  first_marked,
  first_word,
  number_in,
  cleared_in,
  Holds,
  IsLowest,
}
use Rattle.bitmap.proofs.Bits.{Nonzero, bit_zero, bit_beyond, lowest_fits, bit_lowest, bit_below_lowest, bit_without, without_fits}
use Rattle.bitmap.proofs.Changes.{Fitting, word_changed, both_changed, changed_holds, same_place, other_word}

-- The first word that is not 0.
pub record IsFirst (b : List ℕ) (word : ℕ) : Type 0 where
  pub below : word < words
  pub summary_nonzero : Nonzero word_bits (summary_of b)
  pub lowest : word ≡ first_marked b
  pub nonzero : Nonzero word_bits (word_at b word)
  pub least : (other : ℕ) → other < word → word_at b other ≡ 0

pub data First (b : List ℕ) : Option ℕ → Type 0 where
  no_word : ((word : ℕ) → word < words → word_at b word ≡ 0) → First b None
  the_word : {word : ℕ} → IsFirst b word → First b (Some word)

module _ {b : List ℕ} {p : ℕ → Bool} (h : Holds b p) where
  -- A word is 0 where the summary does not mark it, and else it is not.
  unmarked : (word : ℕ) → word < words → bit word (summary_of b) ≡ false → word_at b word ≡ 0
  unmarked word below t = eqb-true (word_at b word) 0 (not-false (eqb (word_at b word) 0) (sym (h.summary_held word below) ∙ t))

  is_marked : (word : ℕ) → word < words → bit word (summary_of b) ≡ true → Nonzero word_bits (word_at b word)
  is_marked word below t =
      let other = eqb-false (word_at b word) 0 (not-true (eqb (word_at b word) 0) (sym (h.summary_held word below) ∙ t)) in
      record { positive = omega (arith, other); fits = h.fits word }

  module _ (d : ¬ (summary_of b ≡ 0)) where
    summary_nonzero_lem : Nonzero word_bits (summary_of b)
    summary_nonzero_lem = let small = h.summary_fits in record { positive = omega (arith, d); fits = omega arith }

    marked_below : first_marked b < words
    marked_below =
        let stands = bit_lowest word_bits (summary_of b) summary_nonzero_lem in
        decided (ltb (first_marked b) words)
        (λ t. ltb-true (first_marked b) words t)
        (λ t. absurd (true≢false (sym stands ∙ bit_beyond words (summary_of b) (first_marked b) h.summary_fits (ltb-false (first_marked b) words t))))

    marked_first : IsFirst b (first_marked b)
    marked_first =
        let below = marked_below in
        record {
          below = below;
          summary_nonzero = summary_nonzero_lem;
          lowest = refl;
          nonzero = is_marked (first_marked b) below (bit_lowest word_bits (summary_of b) summary_nonzero_lem);
          least = λ other l. unmarked other (omega arith) (bit_below_lowest word_bits (summary_of b) other l);
        }

  pub first : First b (first_word b)
  unfolding first_word
  first =
      decided (eqb (summary_of b) 0)
      (λ t. let e = eqb-true (summary_of b) 0 t in
      rw t (no_word (λ word l. unmarked word l (ap (bit word) e ∙ bit_zero word))))
      (λ t.
      let found = marked_first (eqb-false (summary_of b) 0 t) in
      let positive = found.nonzero.positive in
      rw (t, lt-ltb _ _ found.below, ne_eqb (word_at b (first_marked b)) 0 (λ e. omega arith)) (the_word found))

-- The lowest number is the lowest of the first word.
module _ {b : List ℕ} {p : ℕ → Bool} (h : Holds b p) {word : ℕ} (f : IsFirst b word) where
  place_fits : lowest_bit (word_at b word) < word_bits
  place_fits = lowest_fits word_bits (word_at b word) f.nonzero

  its_word : number_in b word / word_bits ≡ word
  its_word = omega (arith, place_fits)

  its_place : number_in b word % word_bits ≡ lowest_bit (word_at b word)
  its_place = omega (arith, place_fits)

  number_below_lem : number_in b word < max_items
  number_below_lem = omega (arith, place_fits, f.below)

  pub number_lowest : IsLowest p (number_in b word)
  number_lowest =
      record {
        below = number_below_lem;
        is =
            sym (h.held (number_in b word) number_below_lem)
            ∙ ap₂ (λ i w. bit i (word_at b w)) its_place its_word
            ∙ bit_lowest word_bits (word_at b word) f.nonzero;
        least = λ m l.
            let limit = number_below_lem in
            let place = place_fits in
            sym (h.held m (omega arith))
            ∙ decided (eqb (m / word_bits) word)
            (λ t. let e = eqb-true (m / word_bits) word t in
            ap (λ w. bit (m % word_bits) (word_at b w)) e
            ∙ bit_below_lowest word_bits (word_at b word) (m % word_bits) (omega arith))
            (λ t. let d = eqb-false (m / word_bits) word t in
            ap (bit (m % word_bits)) (f.least (m / word_bits) (omega (arith, d))) ∙ bit_zero (m % word_bits));
      }

  -- Without it the word has its other bits, and the summary its other marks.
  word_fits : without_lowest (word_at b word) < 2 ^ word_bits
  word_fits = without_fits word_bits (word_at b word) (h.fits word)

  in_word_lem : (m : ℕ) → m < max_items → m / word_bits ≡ word →
      bit (m % word_bits) (without_lowest (word_at b word)) ≡ (p m && not (eqb m (number_in b word)))
  in_word_lem m small e =
      bit_without word_bits (word_at b word) (m % word_bits) f.nonzero
      ∙ ap₂ (λ t u. t && not u) (ap (λ w. bit (m % word_bits) (word_at b w)) (sym e) ∙ h.held m small)
      (ap (eqb (m % word_bits)) (sym its_place) ∙ same_place m (number_in b word) (e ∙ sym its_word))

  other_words : (m : ℕ) → ¬ (m / word_bits ≡ word) → p m ≡ (p m && not (eqb m (number_in b word)))
  other_words m d =
      sym (ap (λ t. p m && not t) (other_word m (number_in b word) (λ e. d (e ∙ its_word))) ∙ and-true (p m))

  mark : (other : ℕ) → bit other (without_lowest (summary_of b)) ≡ (bit other (summary_of b) && not (eqb other word))
  mark other =
      bit_without word_bits (summary_of b) other f.summary_nonzero
      ∙ ap (λ w. bit other (summary_of b) && not (eqb other w)) (sym f.lowest)

  -- The word becomes 0 and loses its mark, or keeps both.
  emptied : without_lowest (word_at b word) ≡ 0 →
      Fitting b p (λ m. p m && not (eqb m (number_in b word))) word (without_lowest (word_at b word)) (without_lowest (summary_of b))
  emptied e =
      record {
        fits = word_fits;
        in_word = in_word_lem;
        others = other_words;
        summary_fits = without_fits words (summary_of b) h.summary_fits;
        marks =
            mark word
            ∙ ap (λ t. bit word (summary_of b) && not t) (eqb_refl word)
            ∙ and-false (bit word (summary_of b))
            ∙ sym (ap (λ x. not (eqb x 0)) e);
        other_marks = λ other small d.
            mark other ∙ ap (λ t. bit other (summary_of b) && not t) (ne_eqb other word d) ∙ and-true (bit other (summary_of b));
      }

  kept : ¬ (without_lowest (word_at b word) ≡ 0) →
      Fitting b p (λ m. p m && not (eqb m (number_in b word))) word (without_lowest (word_at b word)) (summary_of b)
  kept d =
      record {
        fits = word_fits;
        in_word = in_word_lem;
        others = other_words;
        summary_fits = h.summary_fits;
        marks =
            let positive = f.nonzero.positive in
            h.summary_held word f.below
            ∙ ap not (ne_eqb (word_at b word) 0 (λ e. omega arith) ∙ sym (ne_eqb (without_lowest (word_at b word)) 0 d));
        other_marks = λ other small d. refl;
      }

  pub cleared_holds : Holds (cleared_in b word) (λ m. p m && not (eqb m (number_in b word)))
  cleared_holds =
      let bits : ℕ = without_lowest (word_at b word) in
      decided (eqb bits 0)
      (λ t. let e = eqb-true bits 0 t in
      rw t (changed_holds h (both_changed b word bits h.long f.below (without_lowest (summary_of b))) (emptied e)))
      (λ t. let d = eqb-false bits 0 t in
      rw t (changed_holds h (word_changed b word bits h.long f.below) (kept d)))
