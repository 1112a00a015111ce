-- How long the parts of a listing's lines are. The digits of a number are those of the rest with the last one behind them; the definition's size
-- plays no part once it is large enough.
use Prim.Native.Nat.{ℕ, zero, suc, ◌+◌, ◌/◌, ◌%◌, ◌^◌, ◌≤◌, ◌<◌}
use mathlib.Core.Path.{◌≡◌, refl, ap, ◌∙◌}
use mathlib.Core.List.{[], ◌∷◌, ◌++◌}
use native.Mathlib.Nat.{pow-suc}
use native.Mathlib.Omega.{arith}
use lib.Dec.{ltb}
use lib.ListN.{length, length-append}
use borrow.Author.Tests.{ltb-true, ltb-false, lt-ltb, le-ltb}
use Rattle.model.specs.declared.Kind.{Kind}
use Rattle.model.specs.declared.Kind.TheVariants.{Load, Store, Assign, Assume, Read, Write, Popa, Popb, Bar}
use Rattle.model.specs.Listings.{digits, decimal, kind_word}
use Rattle.model.proofs.Laws.{decided}

digits_same : (a b n : ℕ) → n ≤ a → n ≤ b → digits a n ≡ digits b n
unfolding digits
digits_same zero zero n p q = refl
digits_same zero (suc b) zero p q = refl
digits_same zero (suc b) (suc n) p q = absurd (omega arith)
digits_same (suc a) zero zero p q = refl
digits_same (suc a) zero (suc n) p q = absurd (omega arith)
digits_same (suc a) (suc b) n p q =
    decided (ltb n 10) (λ t. rw t)
    (λ f. rw f (ap (λ l. l ++ (48 + n % 10) ∷ []) (digits_same a b (n / 10) (omega (arith, ltb-false n 10 f)) (omega (arith, ltb-false n 10 f)))))

-- A digit alone, and one behind others.
pub decimal_digit : (n : ℕ) → n < 10 → decimal n ≡ (48 + n) ∷ []
unfolding decimal digits
decimal_digit zero h = refl
decimal_digit (suc n) h = rw (lt-ltb _ _ h)

pub decimal_more : (n : ℕ) → 10 ≤ n → decimal n ≡ decimal (n / 10) ++ (48 + n % 10) ∷ []
unfolding decimal digits
decimal_more zero h = absurd (omega arith)
decimal_more (suc n) h =
    rw (le-ltb _ _ h) (ap (λ l. l ++ (48 + suc n % 10) ∷ []) (digits_same n (suc n / 10) (suc n / 10) (omega arith) (omega arith)))

pub digit_length : (n : ℕ) → n < 10 → length (decimal n) ≡ 1
digit_length n h = ap length (decimal_digit n h)

pub more_length : (n : ℕ) → 10 ≤ n → length (decimal n) ≡ length (decimal (n / 10)) + 1
more_length n h = ap length (decimal_more n h) ∙ length-append (decimal (n / 10)) ((48 + n % 10) ∷ [])

-- A number below a power of ten has at most so many digits.
pub decimal_short : (k n : ℕ) → n < 10 ^ suc k → length (decimal n) ≤ suc k
decimal_short zero n h = omega (arith, digit_length n (omega arith))
decimal_short (suc k) n h =
    decided (ltb n 10) (λ t. omega (arith, digit_length n (ltb-true n 10 t)))
    (λ f.
    let large : 10 ≤ n = ltb-false n 10 f in
    let rest : n / 10 < 10 ^ suc k = omega (arith, pow-suc 10 (suc k)) in
    omega (arith, more_length n large, decimal_short k (n / 10) rest))

pub decimal_few : (n : ℕ) → n < 2 ^ 64 → length (decimal n) ≤ 20
decimal_few n h = decimal_short 19 n (omega arith)

pub decimal_some : (n : ℕ) → 0 < length (decimal n)
decimal_some n =
    decided (ltb n 10) (λ t. omega (arith, digit_length n (ltb-true n 10 t))) (λ f. omega (arith, more_length n (ltb-false n 10 f)))

-- A kind's word.
pub kind_short : (kind : Kind) → length (kind_word kind) ≤ 6
kind_short Load = omega arith
kind_short Store = omega arith
kind_short Assign = omega arith
kind_short Assume = omega arith
kind_short Read = omega arith
kind_short Write = omega arith
kind_short Popa = omega arith
kind_short Popb = omega arith
kind_short Bar = omega arith
