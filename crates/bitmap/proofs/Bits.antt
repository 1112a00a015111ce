-- Bits of a number, whatever its width: after one more bit is set, and after the lowest one is cleared. Each law goes down the digits, lowest first,
-- as the bit operations and the count of trailing zeros do.
use Prim.Native.Nat.{ℕ, zero, suc, ◌+◌, ◌-◌, ◌*◌, ◌/◌, ◌%◌, ◌^◌, ◌≤◌, ◌<◌, min, max}
use mathlib.Core.Path.{◌≡◌, refl, sym, ap, ap₂, ◌∙◌}
use mathlib.Core.Bool.{true, false, not, ◌&&◌, ◌||◌, and-true}
use native.Mathlib.Nat.{
  not-suc-le-zero,
  zero-div,
  div-one,
  one-mul,
  mul-mod_left,
  mul-div_cancel,
  pow-suc,
  add-zero,
  zero-lt-suc,
  zero-min,
  lt_of_le_of_lt,
  lt_of_lt_of_le,
  div-eq_of_lt,
}
use native.Mathlib.Omega.{arith}
use lib.Arith.{digits_mod}
use lib.Bits.{bit_and, bit_or, and_step, and_self, and_le_l, or_step, or_shr, or_lt}
use lib.Count.{count_trailing_zeros}
use lib.Dec.{eqb, eqb-zero-suc, eqb-suc-zero, eqb-suc-suc}
use lib.Pow.{shr-shr, shl_exact, pow-lt, pow_mono}
use borrow.Author.Tests.{eqb-true, eqb-false}
use Rattle.model.specs.Choice.{bit}
use Rattle.model.proofs.Laws.{decided}

-- The lowest digit is 0 or 1.
by_digit : {P : Type 0} (n : ℕ) → (n % 2 ≡ 0 → P) → (n % 2 ≡ 1 → P) → P
by_digit n even odd =
    decided (eqb (n % 2) 1)
    (λ t. odd (eqb-true (n % 2) 1 t))
    (λ t. let other = eqb-false (n % 2) 1 t in even (omega (arith, other)))

-- The lowest bit, and the bits above it.
bit_first : (n : ℕ) → bit 0 n ≡ eqb (n % 2) 1
bit_first n = ap (λ x. eqb (x % 2) 1) (div-one n)

bit_next : (i n : ℕ) → bit (suc i) n ≡ bit i (n / 2)
bit_next i n =
    let e : 1 + i ≡ suc i = omega arith in
    ap (λ x. eqb (x % 2) 1) (ap (λ k. n / 2 ^ k) (sym e) ∙ sym (shr-shr n 1 i))

pub bit_zero : (i : ℕ) → bit i 0 ≡ false
bit_zero i = ap (λ x. eqb (x % 2) 1) (zero-div (2 ^ i))

-- The bits of a number with a 0 added below.
twice_first : (n : ℕ) → bit 0 (n * 2) ≡ false
twice_first n = bit_first (n * 2) ∙ ap (λ x. eqb x 1) (mul-mod_left n 2)

twice_next : (i n : ℕ) → bit (suc i) (n * 2) ≡ bit i n
twice_next i n = bit_next i (n * 2) ∙ ap (bit i) (mul-div_cancel n (zero-lt-suc 1))

-- A power of two has one bit.
pub bit_power : (i j : ℕ) → bit i (2 ^ j) ≡ eqb i j
bit_power zero zero = refl
bit_power zero (suc j) = ap (bit 0) (pow-suc 2 j) ∙ twice_first (2 ^ j) ∙ sym (eqb-zero-suc j)
bit_power (suc i) zero = bit_next i 1 ∙ bit_zero i ∙ sym (eqb-suc-zero i)
bit_power (suc i) (suc j) = ap (bit (suc i)) (pow-suc 2 j) ∙ twice_next i (2 ^ j) ∙ bit_power i j ∙ sym (eqb-suc-suc i j)

-- The power as the code shifts it into a word.
pub shifted : (k i : ℕ) → i < k → 1 * 2 ^ i % 2 ^ k ≡ 2 ^ i
shifted k i b = shl_exact 1 i k (omega arith) (omega arith) ∙ one-mul (2 ^ i)

-- Bits of two numbers joined.
or_digit : (a b : ℕ) → eqb (bit_or a b % 2) 1 ≡ (eqb (a % 2) 1 || eqb (b % 2) 1)
or_digit a b =
    by_digit a
    (λ p. by_digit b (λ q. rw (lowest, p, q)) (λ q. rw (lowest, p, q)))
    (λ p. by_digit b (λ q. rw (lowest, p, q)) (λ q. rw (lowest, p, q)))
  where
    small : max (a % 2) (b % 2) < 2
    small = omega arith

    lowest : bit_or a b % 2 ≡ max (a % 2) (b % 2)
    lowest = ap (λ x. x % 2) (or_step a b) ∙ digits_mod (bit_or (a / 2) (b / 2)) small

pub bit_or_lem : (i a b : ℕ) → bit i (bit_or a b) ≡ (bit i a || bit i b)
bit_or_lem i a b = ap (λ x. eqb (x % 2) 1) (or_shr a b i) ∙ or_digit (a / 2 ^ i) (b / 2 ^ i)

-- A number with one bit more.
pub bit_added : (i j n : ℕ) → bit i (bit_or n (2 ^ j)) ≡ (bit i n || eqb i j)
bit_added i j n = bit_or_lem i n (2 ^ j) ∙ ap (λ t. bit i n || t) (bit_power i j)

pub added_fits : (k j n : ℕ) → n < 2 ^ k → j < k → bit_or n (2 ^ j) < 2 ^ k
added_fits k j n h b = or_lt k n (2 ^ j) h (pow-lt b)

-- The place of the lowest bit, by the lowest digit.
trailing_even : (k n : ℕ) → n % 2 ≡ 0 → count_trailing_zeros (suc k) n ≡ suc (count_trailing_zeros k (n / 2))
unfolding count_trailing_zeros
trailing_even k n e = rw e

trailing_odd : (k n : ℕ) → n % 2 ≡ 1 → count_trailing_zeros (suc k) n ≡ 0
unfolding count_trailing_zeros
trailing_odd k n e = rw e

half_fits : (k n : ℕ) → n < 2 ^ suc k → n / 2 < 2 ^ k
half_fits k n h = omega (arith, pow-suc 2 k)

-- A number that is not 0 and has k digits.
pub record Nonzero (k n : ℕ) : Type 0 where
  pub positive : 0 < n
  pub fits : n < 2 ^ k

-- Without its lowest digit it is not 0 either, where that digit is 0.
half_nonzero : (k n : ℕ) → n % 2 ≡ 0 → Nonzero (suc k) n → Nonzero k (n / 2)
half_nonzero k n e s =
    let p = s.positive in
    record { positive = omega arith; fits = half_fits k n s.fits }

no_digits : {P : Type 0} {n : ℕ} → Nonzero 0 n → P
no_digits s = absurd (omega (arith, s.positive, s.fits))

-- Below a lowest digit of 1 is no digit.
none_below : {P : Type 0} (k n i : ℕ) → n % 2 ≡ 1 → i < count_trailing_zeros (suc k) n → P
none_below k n i e h = let none : i < 0 = rw (trailing_odd k n e) at h in absurd (not-suc-le-zero none)

-- Its lowest bit stands, and below it no bit does.
pub lowest_fits : (k n : ℕ) → Nonzero k n → count_trailing_zeros k n < k
lowest_fits zero n s = no_digits s
lowest_fits (suc k) n s =
    by_digit n
    (λ e. let rest = lowest_fits k (n / 2) (half_nonzero k n e s) in rw (trailing_even k n e) (omega arith))
    (λ e. rw (trailing_odd k n e) (zero-lt-suc k))

pub bit_lowest : (k n : ℕ) → Nonzero k n → bit (count_trailing_zeros k n) n ≡ true
bit_lowest zero n s = no_digits s
bit_lowest (suc k) n s =
    by_digit n
    (λ e. ap (λ i. bit i n) (trailing_even k n e) ∙ bit_next (count_trailing_zeros k (n / 2)) n ∙ bit_lowest k (n / 2) (half_nonzero k n e s))
    (λ e. ap (λ i. bit i n) (trailing_odd k n e) ∙ bit_first n ∙ ap (λ x. eqb x 1) e)

pub bit_below_lowest : (k n i : ℕ) → i < count_trailing_zeros k n → bit i n ≡ false
unfolding count_trailing_zeros
bit_below_lowest zero n i h = absurd (not-suc-le-zero h)
bit_below_lowest (suc k) n zero h = by_digit n (λ e. bit_first n ∙ ap (λ x. eqb x 1) e) (λ e. none_below k n 0 e h)
bit_below_lowest (suc k) n (suc i) h =
    by_digit n
    (λ e.
    let below : suc i < suc (count_trailing_zeros k (n / 2)) = rw (trailing_even k n e) at h in
    bit_next i n ∙ bit_below_lowest k (n / 2) i (omega arith))
    (λ e. none_below k n (suc i) e h)

-- A number of k digits has no bit beyond them.
pub bit_beyond : (k n i : ℕ) → n < 2 ^ k → k ≤ i → bit i n ≡ false
bit_beyond k n i h b = ap (λ x. eqb (x % 2) 1) (div-eq_of_lt (lt_of_lt_of_le h (pow_mono b)))

-- A number without its lowest bit, by the lowest digit.
without_even : (n : ℕ) → 0 < n → n % 2 ≡ 0 → bit_and n (n - 1) ≡ bit_and (n / 2) (n / 2 - 1) * 2
without_even n p e =
    let half : (n - 1) / 2 ≡ n / 2 - 1 = omega arith in
    and_step n (n - 1)
    ∙ ap₂ (λ x y. bit_and (n / 2) x * 2 + y) half (ap (λ x. min x ((n - 1) % 2)) e ∙ zero-min ((n - 1) % 2))
    ∙ add-zero (bit_and (n / 2) (n / 2 - 1) * 2)

without_odd : (n : ℕ) → n % 2 ≡ 1 → bit_and n (n - 1) ≡ n / 2 * 2
without_odd n e =
    let half : (n - 1) / 2 ≡ n / 2 = omega arith in
    let digit : (n - 1) % 2 ≡ 0 = omega arith in
    and_step n (n - 1)
    ∙ ap₂ (λ x y. bit_and (n / 2) x * 2 + y) half (ap₂ min e digit)
    ∙ add-zero (bit_and (n / 2) (n / 2) * 2)
    ∙ ap (λ x. x * 2) (and_self (n / 2))

-- Every bit but the lowest is left.
pub bit_without : (k n i : ℕ) → Nonzero k n → bit i (bit_and n (n - 1)) ≡ (bit i n && not (eqb i (count_trailing_zeros k n)))
bit_without zero n i s = no_digits s
bit_without (suc k) n zero s =
    by_digit n
    (λ e.
    ap (bit 0) (without_even n s.positive e)
    ∙ twice_first (bit_and (n / 2) (n / 2 - 1))
    ∙ sym (ap (λ t. t && not (eqb 0 (count_trailing_zeros (suc k) n))) (bit_first n ∙ ap (λ x. eqb x 1) e)))
    (λ e.
    ap (bit 0) (without_odd n e)
    ∙ twice_first (n / 2)
    ∙ sym (ap₂ (λ t u. t && not (eqb 0 u)) (bit_first n ∙ ap (λ x. eqb x 1) e) (trailing_odd k n e)))
bit_without (suc k) n (suc i) s =
    by_digit n
    (λ e.
    ap (bit (suc i)) (without_even n s.positive e)
    ∙ twice_next i (bit_and (n / 2) (n / 2 - 1))
    ∙ bit_without k (n / 2) i (half_nonzero k n e s)
    ∙ sym (ap₂ (λ t u. t && not u) (bit_next i n) (ap (eqb (suc i)) (trailing_even k n e) ∙ eqb-suc-suc i (count_trailing_zeros k (n / 2)))))
    (λ e.
    ap (bit (suc i)) (without_odd n e)
    ∙ twice_next i (n / 2)
    ∙ sym (bit_next i n)
    ∙ sym (and-true (bit (suc i) n))
    ∙ sym (ap (λ u. bit (suc i) n && not u) (ap (eqb (suc i)) (trailing_odd k n e) ∙ eqb-suc-zero i)))

pub without_fits : (k n : ℕ) → n < 2 ^ k → bit_and n (n - 1) < 2 ^ k
without_fits k n h = lt_of_le_of_lt (and_le_l n (n - 1)) h
