-- Sets of numbers below 1,024 as bits in words of 64, with the words that are not 0 marked in a summary word behind them. The definitions branch
-- where the code does, and are total: what no bit stands for changes nothing.
use Rattle.std.specs.Prelude.{ℕ, ◌+◌, ◌-◌, ◌*◌, ◌/◌, ◌%◌, ◌^◌, ◌<◌, ◌≡◌, Bool, true, false, not, List, ltb, eqb, length, get_or, set, replicate, Option, Some, None}
use Rattle.std.specs.Int.Bits.{bit_and, bit_or}
use Rattle.std.specs.Int.Count.{count_trailing_zeros}
use Rattle.model.specs.Limits.{max_items}
use Rattle.model.specs.Choice.{when, bit}

abbrev pub words : ℕ
words = 16

abbrev pub word_bits : ℕ
word_bits = 64

-- The summary stands behind the words.
abbrev pub bitmap_length : ℕ
bitmap_length = words + 1

abbrev pub empty_bitmap : List ℕ
empty_bitmap = replicate bitmap_length 0

-- The word under an index, and the summary.
abbrev pub word_at : List ℕ → (word : ℕ) → ℕ
word_at bitmap word = get_or bitmap word 0

abbrev pub summary_of : List ℕ → ℕ
summary_of bitmap = word_at bitmap words

-- A word with one bit more, the place of its lowest bit, and the word without that bit.
abbrev pub with_bit : (word place : ℕ) → ℕ
with_bit word place = bit_or word (2 ^ place)

abbrev pub lowest_bit : (word : ℕ) → ℕ
lowest_bit word = count_trailing_zeros word_bits word

abbrev pub without_lowest : (word : ℕ) → ℕ
without_lowest word = bit_and word (word - 1)

-- The bitmap with one bit more in one of its words.
abbrev pub marked : List ℕ → (word place : ℕ) → List ℕ
marked bitmap word place = set bitmap word (with_bit (word_at bitmap word) place)

-- The set with a number more.
unfoldable pub inserted : List ℕ → (number : ℕ) → List ℕ
inserted bitmap number =
    when (ltb number max_items)
    (λ _. marked (marked bitmap (number / word_bits) (number % word_bits)) words (number / word_bits))
    (λ _. bitmap)

-- The first word that the summary marks, and whether it is one that is not 0.
abbrev pub first_marked : List ℕ → ℕ
first_marked bitmap = lowest_bit (summary_of bitmap)

unfoldable pub first_word : List ℕ → Option ℕ
first_word bitmap =
    when (eqb (summary_of bitmap) 0)
    (λ _. None)
    (λ _.
    when (ltb (first_marked bitmap) words)
    (λ _. when (eqb (word_at bitmap (first_marked bitmap)) 0) (λ _. None) (λ _. Some (first_marked bitmap)))
    (λ _. None))

-- What stands of a word that the summary marks: it is one of the words, and neither it nor the summary is 0.
pub record IsMarked (bitmap : List ℕ) (word : ℕ) : Type 0 where
  pub below : word < words
  pub word_positive : 0 < word_at bitmap word
  pub summary_positive : 0 < summary_of bitmap

-- The lowest number of the set, given its word; and what is left of the bitmap without it: a word that becomes 0 leaves the summary.
abbrev pub number_in : List ℕ → (word : ℕ) → ℕ
number_in bitmap word = word * word_bits + lowest_bit (word_at bitmap word)

abbrev pub cleared_in : List ℕ → (word : ℕ) → List ℕ
cleared_in bitmap word =
    when (eqb (without_lowest (word_at bitmap word)) 0)
    (λ _. set (set bitmap word (without_lowest (word_at bitmap word))) words (without_lowest (summary_of bitmap)))
    (λ _. set bitmap word (without_lowest (word_at bitmap word)))

abbrev pub lowest_of : List ℕ → Option ℕ → Option ℕ
lowest_of bitmap None = None
lowest_of bitmap (Some word) = Some (number_in bitmap word)

abbrev pub rest_of : List ℕ → Option ℕ → List ℕ
rest_of bitmap None = bitmap
rest_of bitmap (Some word) = cleared_in bitmap word

-- The lowest number of the set, and the set without it.
unfoldable pub lowest_in : List ℕ → Option ℕ
unfolding first_word
lowest_in bitmap = lowest_of bitmap (first_word bitmap)

unfoldable pub lowest_taken : List ℕ → List ℕ
unfolding first_word
lowest_taken bitmap = rest_of bitmap (first_word bitmap)

-- What taking the lowest number answers and leaves.
pub record Taken (before after : List ℕ) (answer : Option ℕ) : Type 0 where
  pub answers : answer ≡ lowest_in before
  pub leaves : after ≡ lowest_taken before

-- A bitmap holds the numbers below `max_items` that pass a test. Its laws are in proofs/Holding.antt.
pub record Holds (bitmap : List ℕ) (p : ℕ → Bool) : Type 0 where
  pub long : length bitmap ≡ bitmap_length
  pub fits : (word : ℕ) → word_at bitmap word < 2 ^ word_bits
  pub held : (n : ℕ) → n < max_items → bit (n % word_bits) (word_at bitmap (n / word_bits)) ≡ p n
  pub summary_fits : summary_of bitmap < 2 ^ words
  pub summary_held : (word : ℕ) → word < words → bit word (summary_of bitmap) ≡ not (eqb (word_at bitmap word) 0)

-- The lowest number that passes a test.
pub record IsLowest (p : ℕ → Bool) (n : ℕ) : Type 0 where
  pub below : n < max_items
  pub is : p n ≡ true
  pub least : (m : ℕ) → m < n → p m ≡ false
