-- Ranges of numbers: what holds of a whole range holds of each number in it, and the other way round.
use Prim.Native.Nat.{ℕ, zero, suc, ◌+◌, ◌≤◌, ◌<◌}
use mathlib.Core.Path.{◌≡◌, refl, ap, ap₂, ◌∙◌}
use mathlib.Core.Bool.{Bool, true, false, false≢true}
use mathlib.Core.List.{[], ◌∷◌, ◌++◌, map}
use native.Mathlib.Omega.{arith}
use lib.Dec.{eqb}
use borrow.Author.Tests.{eqb-true, eqb-false}
use Rattle.model.specs.Choice.{when, numbers_from}
use Rattle.model.specs.Replay.{every}
use Rattle.model.proofs.Laws.{decided}

-- A choice that fails on one side passes only on the other.
when_passes : (t b : Bool) → when t (λ _. b) (λ _. false) ≡ true → (t ≡ true) × (b ≡ true)
when_passes true b h = (refl, h)
when_passes false b h = absurd (false≢true h)

-- A test passes for every number of a range: for each.
pub every_each : (test : ℕ → Bool) (first count : ℕ) → every test (numbers_from first count) ≡ true →
    (n : ℕ) → first ≤ n → n < first + count → test n ≡ true
unfolding every numbers_from
every_each test first zero h n low high = absurd (omega arith)
every_each test first (suc count) h n low high =
    let both = when_passes (test first) (every test (numbers_from (first + 1) count)) h in
    decided (eqb n first)
    (λ t. rw (eqb-true n first t) both.0)
    (λ t. every_each test (first + 1) count both.1 n (omega (arith, eqb-false n first t)) (omega arith))

-- A test passes for each number of a range: for every.
pub each_every : (test : ℕ → Bool) (first count : ℕ) → ((n : ℕ) → first ≤ n → n < first + count → test n ≡ true) →
    every test (numbers_from first count) ≡ true
unfolding every numbers_from
each_every test first zero h = refl
each_every test first (suc count) h =
    rw (h first (omega arith) (omega arith)) (each_every test (first + 1) count (λ n low high. h n (omega arith) (omega arith)))

-- A longer range has one number more at its end.
pub numbers_from_snoc : (first count : ℕ) → numbers_from first (suc count) ≡ numbers_from first count ++ (first + count) ∷ []
unfolding numbers_from
numbers_from_snoc first zero = ap (λ n. n ∷ []) (omega arith)
numbers_from_snoc first (suc count) =
    ap (λ l. first ∷ l)
    (numbers_from_snoc (first + 1) count ∙ ap (λ n. numbers_from (first + 1) count ++ n ∷ []) (omega arith))

-- Functions that agree on a range.
pub map_numbers : {A : Type 0} (f g : ℕ → A) (first count : ℕ) → ((n : ℕ) → first ≤ n → n < first + count → f n ≡ g n) →
    map f (numbers_from first count) ≡ map g (numbers_from first count)
unfolding numbers_from
map_numbers f g first zero h = refl
map_numbers f g first (suc count) h =
    ap₂ ◌∷◌ (h first (omega arith) (omega arith)) (map_numbers f g (first + 1) count (λ n low high. h n (omega arith) (omega arith)))
