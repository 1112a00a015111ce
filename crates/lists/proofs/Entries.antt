-- Entries of one width, pasted into a list one behind the other.
use Rattle.std.specs.Prelude.{flat_map, true, false}
use Prim.Native.Nat.{ℕ, ◌+◌, ◌-◌, ◌*◌, ◌/◌, ◌≤◌, ◌<◌}
use mathlib.Core.Path.{◌≡◌, sym, ap, ap₂, ◌∙◌}
use mathlib.Core.List.{List, [], ◌∷◌}
use native.Mathlib.Nat.{mul-add, mul-suc, mul-div-le, mul-le-mul_left}
use native.Mathlib.Numerals.{add-one}
use native.Mathlib.Omega.{arith}
use lib.ListN.{length, take, get_or, length-append}
use lib.Seq.{paste, length-take-le}
use borrow.Rule.Slice.PartMut.{put_mid}
use Rattle.std.proofs.lemmas.List.{flat_map_more, take_more}
use Rattle.std.proofs.lemmas.List.Edits.{paste-paste}
use Rattle.std.proofs.lemmas.Slice.{put_mid-paste}
use Rattle.model.proofs.Laws.{when_true, when_false}
use Rattle.lists.specs.Written.{fits, entries_written}
use Rattle.lists.proofs.Room.{fits_true}

-- Numbers that fit: the next one is given, and its entry lies within the list.
pub record Next (width size at given count i : ℕ) : Type 0 where
  pub first : at + i ≤ size / width
  pub inside : width * (at + i) + width ≤ size
  pub some : i < given
  pub read : i < count

module _ (width size at count : ℕ) (numbers : List ℕ) (fit : fits (size / width) at (length numbers) count ≡ true) where
  pub all_given : count ≡ length (take count numbers)
  all_given = sym (length-take-le count numbers (fits_true _ _ _ _ fit).enough)

  pub next_fits : {i : ℕ} → i < length (take count numbers) → Next width size at (length numbers) count i
  next_fits {i} more =
      let room = fits_true _ _ _ _ fit in
      let last : width * (at + i + 1) ≤ width * (size / width) = mul-le-mul_left width (omega (arith, room.inside, all_given)) in
      record {
        first = omega (arith, room.inside, all_given);
        inside = omega (arith, last, mul-div-le size width, mul-add width (at + i) 1);
        some = omega (arith, room.enough, all_given);
        read = omega (arith, all_given);
      }

module _ {A : Type 0} (width : ℕ) (shown : ℕ → List A) (wide : (n : ℕ) → length (shown n) ≡ width) where
  pub elements_length : (numbers : List ℕ) → length (flat_map shown numbers) ≡ width * length numbers
  elements_length [] = omega arith
  elements_length (n ∷ numbers) =
      length-append (shown n) (flat_map shown numbers)
      ∙ omega (arith, wide n, elements_length numbers, mul-suc width (length numbers))

  module _ (old : List A) (at : ℕ) (numbers : List ℕ) (i : ℕ) where
    abbrev pub Pasted : List A → Type 0
    Pasted now = now ≡ paste old (width * at) (flat_map shown (take i numbers)) (width * i)

    -- One entry more.
    pub entry_more : (now part : List A) (place end : ℕ) → place ≡ width * (at + i) → end ≡ place + width →
        width * (at + i) + width ≤ length old → i < length numbers → Pasted now → part ≡ shown (get_or numbers i 0) →
        put_mid place (end - place) now part ≡ paste old (width * at) (flat_map shown (take (i + 1) numbers)) (width * (i + 1))
    entry_more now part place end p e inside more so_far is =
        let x = get_or numbers i 0 in
        let front = flat_map shown (take i numbers) in
        let from : place ≡ width * at + width * i = omega (arith, mul-add width at i) in
        let long : width * i ≡ length front = sym (elements_length (take i numbers) ∙ ap (λ n. width * n) (length-take-le i numbers (omega arith))) in
        put_mid-paste place (end - place) now part (shown x) width is (omega arith) (sym (wide x))
        ∙ ap₂ (λ l n. paste l n (shown x) width) so_far from
        ∙ paste-paste old (width * at) front (shown x) (width * i) width long (sym (wide x)) (omega arith)
        ∙ ap₂ (paste old (width * at)) (flat_map_more shown [] (take i numbers) x ∙ ap (flat_map shown) (sym (take_more numbers i 0 more)))
        (omega (arith, mul-suc width i, ap (λ n. width * n) (add-one i)))

-- The width is the form's.
module _ {A : Type 0} {width own : ℕ} (is : width ≡ own) (shown : ℕ → List A) (list : List A) (at : ℕ) (numbers : List ℕ) (count : ℕ) where
  pub none_written : fits (length list / width) at (length numbers) count ≡ false → list ≡ entries_written own shown list at numbers count
  unfolding entries_written
  none_written short = sym (when_false _ _ (rw is at short))

  pub all_written : fits (length list / width) at (length numbers) count ≡ true → {now : List A} {i : ℕ} → i ≤ length (take count numbers) →
      length (take count numbers) ≤ i → now ≡ paste list (own * at) (flat_map shown (take i numbers)) (own * i) →
      now ≡ entries_written own shown list at numbers count
  unfolding entries_written
  all_written fit {i = i} within done made =
      let e : i ≡ count = omega (arith, all_given width (length list) at count numbers fit) in
      made ∙ ap (λ n. paste list (own * at) (flat_map shown (take n numbers)) (own * n)) e ∙ sym (when_true _ _ (rw is at fit))
