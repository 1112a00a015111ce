-- The digits of a number, written into a text from the last one on.
use Prim.Native.Nat.{ℕ, ◌+◌, ◌-◌, ◌/◌, ◌%◌, ◌≤◌, ◌<◌}
use mathlib.Core.Path.{◌≡◌, refl, sym, ap, ◌∙◌}
use mathlib.Core.List.{List, []}
use native.Mathlib.Omega.{arith}
use lib.Dec.{ltb}
use lib.ListN.{length, set, length-set}
use borrow.Author.Tests.{ltb-true, ltb-false}
use Rattle.model.specs.Checks.{fill}
use Rattle.model.specs.Listings.{decimal}
use Rattle.texts.specs.Texts.{Wrote}
use Rattle.model.proofs.Laws.{decided}
use Rattle.model.proofs.Listings.{decimal_digit, decimal_more, digit_length, more_length, decimal_some}
use Rattle.texts.proofs.Texts.{wrote_all, fill_last, fill_none}

-- The text with the digits that are left over it is the text with all of them.
pub record Digiting (found : List ℕ) (number : ℕ) (text : List ℕ) (at left : ℕ) : Type 0 where
  pub room : length (decimal number) ≤ length found
  pub long : length text ≡ length found
  pub place : at + 1 ≡ length (decimal left)
  pub inside : length (decimal left) ≤ length found
  pub same : fill (decimal left) text ≡ fill (decimal number) found

module _ (found : List ℕ) (number : ℕ) where
  pub digiting_none : {at : ℕ} → at + 1 ≡ length (decimal number) → length (decimal number) ≤ length found → Digiting found number found at number
  digiting_none place room = record { room = room; long = refl; place = place; inside = room; same = refl }

  pub digiting_more : {text : List ℕ} {at left : ℕ} → Digiting found number text at left → 10 ≤ left →
      Digiting found number (set text at (48 + left % 10)) (at - 1) (left / 10)
  digiting_more {text} {at} {left} so_far more =
      let e : at ≡ length (decimal (left / 10)) = omega (arith, so_far.place, more_length left more) in
      let some : 0 < length (decimal (left / 10)) = decimal_some (left / 10) in
      record {
        room = so_far.room;
        long = length-set text at (48 + left % 10) ∙ so_far.long;
        place = omega arith;
        inside = omega (arith, so_far.place, so_far.inside);
        same =
            let here : length (decimal (left / 10)) < length text = omega (arith, so_far.place, so_far.inside, so_far.long) in
            ap (λ n. fill (decimal (left / 10)) (set text n (48 + left % 10))) e
            ∙ sym (fill_last (decimal (left / 10)) (48 + left % 10) text here)
            ∙ ap (λ l. fill l text) (sym (decimal_more left more))
            ∙ so_far.same;
      }

  pub place_inside : {text : List ℕ} {at left : ℕ} → Digiting found number text at left → at < length text
  place_inside so_far = omega (arith, so_far.place, so_far.inside, so_far.long)

  pub place_left : {text : List ℕ} {at left : ℕ} → Digiting found number text at left → 10 ≤ left → 1 ≤ at
  place_left {text} {at} {left} so_far more = omega (arith, so_far.place, more_length left more, decimal_some (left / 10))

  pub digiting_all : {text : List ℕ} {at left : ℕ} {count : ℕ} → Digiting found number text at left → left < 10 → count ≡ length (decimal number) →
      Wrote (decimal number) found (set text at (48 + left)) count
  digiting_all {text} {at} {left} so_far less counted =
      let e : at ≡ 0 = omega (arith, so_far.place, digit_length left less) in
      let some : 0 < length text = omega (arith, place_inside so_far) in
      wrote_all (decimal number) found so_far.room
      (ap (λ n. set text n (48 + left)) e
      ∙ sym (fill_last [] (48 + left) text some ∙ fill_none (set text 0 (48 + left)))
      ∙ ap (λ l. fill l text) (sym (decimal_digit left less))
      ∙ so_far.same)
      counted

-- Where a digit is to be written before another there is more than one, and where none is the one that is left is the first.
pub digits_more : {at left : ℕ} → at + 1 ≡ length (decimal left) → 0 < at → 10 ≤ left
digits_more {at} {left} place some =
    decided (ltb left 10)
    (λ t. absurd (omega (arith, place, digit_length left (ltb-true left 10 t))))
    (λ f. ltb-false left 10 f)

pub digits_last : {at left : ℕ} → at + 1 ≡ length (decimal left) → at ≤ 0 → left < 10
digits_last {at} {left} place none =
    decided (ltb left 10)
    (λ t. ltb-true left 10 t)
    (λ f. absurd (omega (arith, place, more_length left (ltb-false left 10 f), decimal_some (left / 10))))
