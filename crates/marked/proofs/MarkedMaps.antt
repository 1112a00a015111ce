-- The map of numbers with a value: its bits tell which numbers have one, it has as many ones as there are such numbers, and a number with the same
-- bits is the same map. Each law goes up the numbers, one bit at a time.
use Prim.Native.Nat.{ℕ, zero, suc, ◌+◌, ◌-◌, ◌*◌, ◌/◌, ◌%◌, ◌^◌, ◌<◌}
use mathlib.Core.Path.{◌≡◌, refl, sym, ap, ◌∙◌}
use mathlib.Core.Bool.{Bool, true, false, ◌||◌}
use mathlib.Core.List.{List, [], ◌∷◌, ◌++◌}
use native.Mathlib.Nat.{pow-suc, add_assoc, add-zero, zero-add, zero-mul, one-mul, add_comm, zero-lt-suc, not-suc-le-zero, le_refl}
use native.Mathlib.Nat.{mod-one, mod-eq_of_lt}
use native.Mathlib.Omega.{arith}
use lib.Bits.{bit_or, or_shifted_r}
use lib.Count.{ones, ones_cat}
use lib.Dec.{ltb, eqb}
use lib.ListN.{length}
use lib.Pow.{mod-pow-add}
use borrow.Author.Tests.{eqb-true, eqb-false, eq-eqb}
use Rattle.model.specs.Choice.{when, bit, select, numbers_from}
use Rattle.model.specs.Marked.{marked_map}
use Rattle.model.proofs.Laws.{decided}
use Rattle.model.proofs.Selections.{count_own, count_other}
use Rattle.record_facts.proofs.Rows.{numbers_snoc}
use Rattle.bitmap.proofs.Bits.{bit_added, bit_beyond}

module _ (first : ℕ) (f : ℕ → ℕ) where
  -- A bit whose number has a value.
  abbrev pub held : (i : ℕ) → Bool
  held i = ltb 0 (f (first + i))

  -- The map of so many numbers.
  abbrev pub map_to : (count : ℕ) → ℕ
  map_to count = marked_map first f (numbers_from first count)

  map-append : (l m : List ℕ) → marked_map first f (l ++ m) ≡ marked_map first f l + marked_map first f m
  unfolding marked_map
  map-append [] m = sym (zero-add (marked_map first f m))
  map-append (r ∷ l) m =
      ap (λ n. when (ltb 0 (f r)) (λ _. 2 ^ (r - first)) (λ _. 0) + n) (map-append l m) ∙ sym (add_assoc _ (marked_map first f l) (marked_map first f m))

  map_none : map_to 0 ≡ 0
  unfolding marked_map numbers_from
  map_none = refl

  -- One number more.
  map_one : (n : ℕ) → marked_map first f ((first + n) ∷ []) ≡ when (held n) (λ _. 2 ^ n) (λ _. 0)
  unfolding marked_map
  map_one n = let e : first + n - first ≡ n = omega arith in rw e (add-zero _)

  map_more : (n : ℕ) → map_to (suc n) ≡ map_to n + when (held n) (λ _. 2 ^ n) (λ _. 0)
  map_more n =
      ap (marked_map first f) (sym (numbers_snoc first n)) ∙ map-append (numbers_from first n) ((first + n) ∷ []) ∙ ap (λ m. map_to n + m) (map_one n)

  map_with_lem : (n : ℕ) → held n ≡ true → map_to (suc n) ≡ map_to n + 2 ^ n
  map_with_lem n t = map_more n ∙ rw t

  pub map_without : (n : ℕ) → held n ≡ false → map_to (suc n) ≡ map_to n
  map_without n t = map_more n ∙ rw t (add-zero (map_to n))

  pub map_fits : (n : ℕ) → map_to n < 2 ^ n
  map_fits zero = rw map_none (zero-lt-suc 0)
  map_fits (suc n) =
      let small = map_fits n in
      let double = pow-suc 2 n in
      decided (held n) (λ t. rw (map_with_lem n t) (omega arith)) (λ t. rw (map_without n t) (omega arith))

  -- With a bit more, the sum is the union.
  pub map_joined : (n : ℕ) → held n ≡ true → map_to (suc n) ≡ bit_or (map_to n) (2 ^ n)
  map_joined n t =
      let once = one-mul (2 ^ n) in
      map_with_lem n t
      ∙ add_comm (map_to n) (2 ^ n)
      ∙ sym (ap (bit_or (map_to n)) (sym once) ∙ or_shifted_r 1 n (map_to n) (map_fits n) ∙ ap (λ k. k + map_to n) once)

  -- The bits tell which numbers have a value.
  pub map_bit : (n i : ℕ) → i < n → bit i (map_to n) ≡ held i
  map_bit zero i below = absurd (not-suc-le-zero below)
  map_bit (suc n) i below =
      decided (eqb i n)
      (λ s.
      let e : i ≡ n = eqb-true i n s in
      let beyond : bit n (map_to n) ≡ false = bit_beyond n (map_to n) n (map_fits n) (le_refl n) in
      rw e
      (decided (held n)
      (λ t. ap (bit n) (map_joined n t) ∙ bit_added n n (map_to n) ∙ rw (beyond, eq-eqb n n refl) (sym t))
      (λ t. ap (bit n) (map_without n t) ∙ beyond ∙ sym t)))
      (λ s.
      let ne : ¬ (i ≡ n) = eqb-false i n s in
      let rest = map_bit n i (omega arith) in
      decided (held n)
      (λ t. ap (bit i) (map_joined n t) ∙ bit_added i n (map_to n) ∙ rw (s, rest) (or_no (held i)))
      (λ t. ap (bit i) (map_without n t) ∙ rest))
    where
      or_no : (b : Bool) → (b || false) ≡ b
      or_no true = refl
      or_no false = refl

  -- There are as many ones as numbers with a value.
  ones_none : ones (map_to 0) ≡ length (select held (numbers_from 0 0))
  unfolding ones select numbers_from marked_map
  ones_none = refl

  one_more_lem : {a b : ℕ} → a ≡ b → ones 1 + a ≡ suc b
  unfolding ones
  one_more_lem e = omega arith

  pub map_ones : (n : ℕ) → ones (map_to n) ≡ length (select held (numbers_from 0 n))
  map_ones zero = ones_none
  map_ones (suc n) =
      let rest = map_ones n in
      let all : numbers_from 0 (suc n) ≡ numbers_from 0 n ++ n ∷ [] =
      sym (numbers_snoc 0 n) ∙ ap (λ k. numbers_from 0 n ++ k ∷ []) (zero-add n) in
      rw all
      (decided (held n)
      (λ t.
      ap ones (map_with_lem n t ∙ add_comm (map_to n) (2 ^ n) ∙ ap (λ k. k + map_to n) (sym (one-mul (2 ^ n))))
      ∙ ones_cat n 1 (map_to n) (map_fits n)
      ∙ one_more_lem rest
      ∙ sym (count_own held (numbers_from 0 n) n t))
      (λ t. ap ones (map_without n t) ∙ rest ∙ sym (count_other held (numbers_from 0 n) n t)))

  -- A number with the same bits.
  pub map_same : (n m : ℕ) → ((i : ℕ) → i < n → bit i m ≡ held i) → map_to n ≡ m % 2 ^ n
  map_same zero m same = map_none ∙ sym (mod-one m)
  map_same (suc n) m same =
      let rest = map_same n m (λ i below. same i (omega arith)) in
      let e : 1 + n ≡ suc n = omega arith in
      let digit : ℕ = m / 2 ^ n % 2 in
      let split : m % 2 ^ suc n ≡ digit * 2 ^ n + m % 2 ^ n = ap (λ k. m % 2 ^ k) (sym e) ∙ mod-pow-add m 1 n in
      let here : bit n m ≡ held n = same n (omega arith) in
      decided (held n)
      (λ t.
      let one : digit ≡ 1 = eqb-true digit 1 (here ∙ t) in
      map_with_lem n t
      ∙ add_comm (map_to n) (2 ^ n)
      ∙ ap (λ k. 2 ^ n + k) rest
      ∙ sym (split ∙ ap (λ d. d * 2 ^ n + m % 2 ^ n) one ∙ ap (λ k. k + m % 2 ^ n) (one-mul (2 ^ n))))
      (λ t.
      let other = eqb-false digit 1 (here ∙ t) in
      let none : digit ≡ 0 = omega (arith, other) in
      map_without n t
      ∙ rest
      ∙ sym (split ∙ ap (λ d. d * 2 ^ n + m % 2 ^ n) none ∙ ap (λ k. k + m % 2 ^ n) (zero-mul (2 ^ n)) ∙ zero-add (m % 2 ^ n)))

  pub map_is : (n m : ℕ) → m < 2 ^ n → ((i : ℕ) → i < n → bit i m ≡ held i) → map_to n ≡ m
  map_is n m small same = map_same n m same ∙ mod-eq_of_lt small
