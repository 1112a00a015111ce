-- Finding the first word and taking the lowest number, by cases as the code meets them.
use Rattle.std.specs.Prelude.{Option, Some, None}
use Prim.Native.Nat.{ℕ, ◌≤◌, ◌<◌}
use mathlib.Core.Path.{◌≡◌, ap, sym, ◌∙◌}
use mathlib.Core.List.{List}
use native.Mathlib.Omega.{arith}
use lib.Count.{count_trailing_zeros}
use lib.Dec.{ltb, eqb}
use lib.ListN.{set}
use lib.Seq.{get_or-set_other}
use borrow.Author.Tests.{lt-ltb, le-ltb, eq-eqb, ne_eqb}
use Rattle.model.proofs.Laws.{decided}
use Rattle.bitmap.specs.Bitmaps.{
  words,
  word_bits,
  word_at,
  summary_of,
  lowest_bit,
  without_lowest,
  first_marked,
  first_word,
  number_in,
  cleared_in,
  lowest_of,
  rest_of,
  lowest_in,
  lowest_taken,
  IsMarked,
  Taken,
}

module _ (b : List ℕ) where
  -- A summary of 0 has no lowest bit: the place is beyond the words.
  marks_none : summary_of b ≡ 0 → words ≤ first_marked b
  unfolding count_trailing_zeros
  marks_none e = let beyond : first_marked b ≡ word_bits = ap lowest_bit e in omega arith

  -- The word that the code found in the summary.
  module _ (word : ℕ) (e : word ≡ first_marked b) where
    pub beyond_words : words ≤ word → None ≡ first_word b
    unfolding first_word
    beyond_words h =
        let h' : words ≤ first_marked b = rw e at h in
        decided (eqb (summary_of b) 0) (λ t. rw t) (λ t. rw (t, le-ltb _ _ h'))

    pub word_zero : word_at b word ≡ 0 → None ≡ first_word b
    unfolding first_word
    word_zero z =
        let z' : word_at b (first_marked b) ≡ 0 = rw e at z in
        decided (eqb (summary_of b) 0)
        (λ t. rw t)
        (λ t. decided (ltb (first_marked b) words) (λ u. rw (t, u, eq-eqb _ _ z')) (λ u. rw (t, u)))

    module _ (h : word < words) (z : ¬ (word_at b word ≡ 0)) where
      summary_some : ¬ (summary_of b ≡ 0)
      summary_some s = let beyond = marks_none s in omega (arith, beyond, e, h)

      pub word_found : Some word ≡ first_word b
      unfolding first_word
      word_found =
          let h' : first_marked b < words = rw e at h in
          let z' : ¬ (word_at b (first_marked b) ≡ 0) = rw e at z in
          rw (e, ne_eqb _ _ summary_some, lt-ltb _ _ h', ne_eqb _ _ z')

      pub word_marked : IsMarked b word
      word_marked = record { below = h; word_positive = omega (arith, z); summary_positive = omega (arith, summary_some) }

  pub none_taken : first_word b ≡ None → Taken b b None
  unfolding lowest_in lowest_taken
  none_taken e = record { answers = sym (ap (lowest_of b) e); leaves = sym (ap (rest_of b) e) }

  -- What the code leaves, with the number that it found in the word.
  module _ {word number : ℕ} {c : List ℕ} (e : first_word b ≡ Some word) (f : number ≡ number_in b word) where
    some_taken : c ≡ cleared_in b word → Taken b c (Some number)
    unfolding lowest_in lowest_taken
    some_taken s = record { answers = ap {B = Option ℕ} Some f ∙ sym (ap (lowest_of b) e); leaves = s ∙ sym (ap (rest_of b) e) }

    -- The summary is looked at behind the change of the word, which leaves it.
    pub word_emptied : word < words → without_lowest (word_at b word) ≡ 0 →
        c
        ≡ set (set b word (without_lowest (word_at b word))) words
        (without_lowest (summary_of (set b word (without_lowest (word_at b word))))) →
        Taken b c (Some number)
    word_emptied h z s =
        let same = get_or-set_other b word words (without_lowest (word_at b word)) 0 (λ e. omega (arith, e, h)) in
        some_taken (rw same at s ∙ rw (eq-eqb (without_lowest (word_at b word)) 0 z))

    pub word_kept : ¬ (without_lowest (word_at b word) ≡ 0) →
        c ≡ set b word (without_lowest (word_at b word)) → Taken b c (Some number)
    word_kept d s = some_taken (s ∙ rw (ne_eqb (without_lowest (word_at b word)) 0 d))
