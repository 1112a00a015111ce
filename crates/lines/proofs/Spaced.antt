-- A line of a word and numbers, number by number.
use Prim.Native.Nat.{ℕ, ◌+◌, ◌-◌, ◌*◌, ◌≤◌, ◌<◌, min}
use mathlib.Core.Path.{◌≡◌, refl, sym, ap, ◌∙◌}
use mathlib.Core.List.{List, [], ◌∷◌, ◌++◌, map, append_assoc, append-nil}
use native.Mathlib.Numerals.{add-one}
use native.Mathlib.Omega.{arith}
use lib.ListN.{length, take, drop, get_or, length-append, take-append-drop}
use lib.Seq.{take-suc, take_all}
use Rattle.model.specs.Listings.{decimal, line, space, line_feed}
use Rattle.texts.specs.Texts.{Wrote}
use Rattle.lines.specs.Lines.{largest, LengthTold}
use Rattle.texts.proofs.Texts.{wrote_length, Grown, grown_first, grown_here, grown_since, grown_more, grown_wrote}

-- Numbers with a space before each.
unfoldable pub spaced : List ℕ → List ℕ
spaced [] = []
spaced (n ∷ numbers) = space ∷ decimal n ++ spaced numbers

-- A line is its word, its fields and a line feed.
pub line_spaced : (word numbers : List ℕ) → line word (map decimal numbers) ≡ (word ++ spaced numbers) ++ line_feed ∷ []
unfolding line spaced
line_spaced word [] = rw append-nil
line_spaced word (n ∷ numbers) =
    rw (line_spaced (decimal n) numbers) (simp append_assoc)

pub spaced_append : (a b : List ℕ) → spaced (a ++ b) ≡ spaced a ++ spaced b
unfolding spaced
spaced_append [] b = refl
spaced_append (n ∷ a) b = rw (spaced_append a b) (simp append_assoc)

pub spaced_none : spaced [] ≡ []
unfolding spaced
spaced_none = refl

spaced_one : (n : ℕ) → spaced (n ∷ []) ≡ space ∷ decimal n
unfolding spaced
spaced_one n = rw append-nil

pub spaced_more : (numbers : List ℕ) (next : ℕ) → next < length numbers →
    spaced (take (next + 1) numbers) ≡ spaced (take next numbers) ++ space ∷ decimal (get_or numbers next 0)
spaced_more numbers next h =
    rw (add-one, take-suc numbers next 0 h, spaced_append, spaced_one)

-- The line in lengths: with its word and its line feed, and the first numbers.
pub line_length : (word numbers : List ℕ) → length (line word (map decimal numbers)) ≡ length word + 1 + length (spaced numbers)
line_length word numbers =
    ap length (line_spaced word numbers)
    ∙ length-append (word ++ spaced numbers) (line_feed ∷ [])
    ∙ omega (arith, length-append word (spaced numbers))

pub more_spaced : (numbers : List ℕ) (next : ℕ) → next < length numbers →
    length (spaced (take (next + 1) numbers)) ≡ length (spaced (take next numbers)) + (1 + length (decimal (get_or numbers next 0)))
more_spaced numbers next h =
    ap length (spaced_more numbers next h)
    ∙ length-append (spaced (take next numbers)) (space ∷ decimal (get_or numbers next 0))
    ∙ omega arith

pub some_spaced : (numbers : List ℕ) (next : ℕ) → length (spaced (take next numbers)) ≤ length (spaced numbers)
some_spaced numbers next =
    let e : spaced (take next numbers) ++ spaced (drop next numbers) ≡ spaced numbers =
    sym (spaced_append (take next numbers) (drop next numbers)) ∙ ap spaced (take-append-drop next numbers) in
    omega (arith, simp length-append at (ap length e))

-- What is told is the length, where there are few numbers.
pub told_exactly : {word numbers : List ℕ} {r : ℕ} → LengthTold word numbers r → length word + 21 * length numbers < largest →
    r ≡ length (line word (map decimal numbers))
told_exactly told few = omega (arith, told.is, told.short)

-- The word, the line feed and so many numbers are counted.
pub record Counting (word numbers : List ℕ) (count next : ℕ) : Type 0 where
  pub within : next ≤ length numbers
  pub counted : count ≡ min (length word + 1 + length (spaced (take next numbers))) largest
  pub few : length (spaced (take next numbers)) ≤ 21 * next

module _ (word numbers : List ℕ) where
  pub counting_none : length word < largest → Counting word numbers (length word + 1) 0
  unfolding spaced
  counting_none h = record { within = omega arith; counted = omega arith; few = omega arith }

  pub counting_more : {count next n more : ℕ} → Counting word numbers count next → next < length numbers → n ≡ length (decimal (get_or numbers next 0)) →
      n ≤ 20 → more ≡ min (count + (1 + n)) largest → Counting word numbers more (next + 1)
  counting_more {next = next} so_far inside e few sum =
      let one = more_spaced numbers next inside in
      record { within = omega arith; counted = omega (arith, one, so_far.counted); few = omega (arith, one, so_far.few) }

  pub counting_all : {count next : ℕ} → Counting word numbers count next → length numbers ≤ next → LengthTold word numbers count
  counting_all {count} {next} so_far h =
      let e = ap (λ l. length (spaced l)) (take_all next numbers h) in
      let size = line_length word numbers in
      record { is = omega (arith, e, size, so_far.counted); short = omega (arith, e, size, so_far.few, so_far.within) }

-- A text with the first numbers of a line behind its word, which was there already.
pub record Lining (found word numbers text : List ℕ) (at next : ℕ) : Type 0 where
  pub room : length (line word (map decimal numbers)) ≤ length found
  pub within : next ≤ length numbers
  pub grown : Grown found (word ++ spaced (take next numbers)) text at

module _ {found word numbers : List ℕ} where
  pub lining_none : {text : List ℕ} {at : ℕ} → length (line word (map decimal numbers)) ≤ length found → Wrote word found text at →
      Lining text word numbers text at 0
  unfolding spaced
  lining_none {text} {at} room w =
      record {
        room = omega (arith, wrote_length w);
        within = omega arith;
        grown = rw append-nil (grown_here (grown_first w (omega (arith, line_length word numbers))));
      }

  module _ {text : List ℕ} {at next : ℕ} (so_far : Lining found word numbers text at next) where
    pub lining_more : {left : List ℕ} {n : ℕ} → next < length numbers →
        Wrote (space ∷ decimal (get_or numbers next 0)) (take (length text - at) (drop at text)) left n →
        Lining found word numbers (take at text ++ (left ++ drop (length text - at) (drop at text))) (at + n) (next + 1)
    lining_more more w =
        let fits : length (word ++ spaced (take next numbers)) + length (space ∷ decimal (get_or numbers next 0)) ≤ length found =
        omega (
          arith,
          length-append word (spaced (take next numbers)),
          more_spaced numbers next more,
          some_spaced numbers (next + 1),
          line_length word numbers,
          so_far.room,
        ) in
        record {
          room = so_far.room;
          within = omega arith;
          grown =
              rw (spaced_more numbers next more, ← append_assoc word (spaced (take next numbers))) (grown_more so_far.grown w fits);
        }

    -- The line feed is the end, and the whole is written into what was there before the word.
    pub lining_all : {start : List ℕ} {n : ℕ} → Wrote word start found n → length numbers ≤ next → {left : List ℕ} {m : ℕ} →
        Wrote (line_feed ∷ []) (take (length text - at) (drop at text)) left m →
        Wrote (line word (map decimal numbers)) start (take at text ++ (left ++ drop (length text - at) (drop at text))) (at + m)
    lining_all first h w =
        let e : take next numbers ≡ numbers = take_all next numbers h in
        let size = line_length word numbers in
        let there = grown_first first (omega (arith, size, so_far.room, wrote_length first)) in
        let fits : length (word ++ spaced numbers) + 1 ≤ length found =
        omega (arith, length-append word (spaced numbers), size, so_far.room) in
        let ended = grown_more (rw e at so_far.grown) w fits in
        grown_wrote (grown_since there (spaced numbers ++ line_feed ∷ []) (rw append_assoc at ended))
        (sym (line_spaced word numbers ∙ append_assoc word (spaced numbers) (line_feed ∷ [])))
