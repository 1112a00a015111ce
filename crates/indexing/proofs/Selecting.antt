-- How many are selected from a list, and numbers in a row.
use Prim.Native.Nat.{ℕ, zero, suc, ◌+◌, ◌≤◌}
use mathlib.Core.Path.{◌≡◌, ap}
use mathlib.Core.Bool.{Bool}
use mathlib.Core.List.{List, [], ◌∷◌, ◌++◌}
use native.Mathlib.Omega.{arith}
use lib.ListN.{length}
use Rattle.model.specs.Choice.{select, numbers_from}
use Rattle.model.proofs.Laws.{decided}
use Rattle.model.proofs.Selections.{select_yes, select_no}

-- No more are selected than there are.
pub count_within : {A : Type 0} (p : A → Bool) (l : List A) → length (select p l) ≤ length l
unfolding select
count_within p [] = omega arith
count_within p (x ∷ l) =
    let rest = count_within p l in
    decided (p x)
    (λ t. rw (select_yes p x l t) (omega (arith, rest)))
    (λ t. rw (select_no p x l t) (omega (arith, rest)))

-- The numbers from one on, with the last one apart.
pub numbers_last : (first count : ℕ) → numbers_from first (suc count) ≡ numbers_from first count ++ (first + count) ∷ []
unfolding numbers_from
numbers_last first zero = let z : first + 0 ≡ first = omega arith in rw z
numbers_last first (suc count) =
    let e : first + suc count ≡ first + 1 + count = omega arith in
    rw e (ap {B = List ℕ} (λ l. first ∷ l) (numbers_last (first + 1) count))
