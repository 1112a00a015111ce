-- `all` over consecutive numbers has the answer of the definition, which tests them in turn; and two tests that agree on the numbers.
use Prim.Native.Nat.{ℕ, zero, suc, ◌+◌, ◌≤◌, ◌<◌}
use mathlib.Core.Path.{◌≡◌, refl, ap}
use mathlib.Core.Bool.{Bool, false}
use native.Mathlib.Omega.{arith}
use Rattle.std.specs.List.{list_all, range_with_len}
use Rattle.model.specs.Choice.{when, numbers_from}
use Rattle.model.specs.Replay.{every}
use Rattle.model.proofs.Laws.{decided}

module _ (test : ℕ → Bool) where
  pub all_every : (first count : ℕ) → list_all test (range_with_len first count) ≡ every test (numbers_from first count)
  unfolding every numbers_from
  all_every first zero = refl
  all_every first (suc count) =
      decided (test first) (λ t. rw t (all_every (first + 1) count)) (λ t. rw t refl)

  -- The same where the numbers are counted from one less.
  pub all_next : (first count : ℕ) → list_all (λ n. test (n + 1)) (range_with_len first count) ≡ every test (numbers_from (first + 1) count)
  unfolding every numbers_from
  all_next first zero = refl
  all_next first (suc count) =
      decided (test (first + 1)) (λ t. rw t (all_next (first + 1) count)) (λ t. rw t refl)

-- Two tests that agree on the numbers.
pub every_same : (f g : ℕ → Bool) (first count : ℕ) → ((n : ℕ) → first ≤ n → n < first + count → f n ≡ g n) →
    every f (numbers_from first count) ≡ every g (numbers_from first count)
unfolding every numbers_from
every_same f g first zero h = refl
every_same f g first (suc count) h =
    rw (h first (omega arith) (omega arith))
    (ap (λ b. when (g first) (λ _. b) (λ _. false)) (every_same f g (first + 1) count (λ n l u. h n (omega arith) (omega arith))))
