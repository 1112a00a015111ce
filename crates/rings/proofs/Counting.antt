-- How many entries of an array are not 0: no more than it has, and one more where one that was 0 is set.
use Prim.Native.Nat.{ℕ, zero, suc, ◌≤◌, ◌<◌}
use mathlib.Core.Path.{◌≡◌, refl, ap}
use mathlib.Core.List.{List, [], ◌∷◌}
use native.Mathlib.Omega.{arith}
use lib.Dec.{eqb}
use lib.ListN.{length, get_or, set, length-set, replicate}
use borrow.Author.Tests.{eq-eqb, ne_eqb}
use Rattle.model.specs.Choice.{select}
use Rattle.model.proofs.Laws.{decided}
use Rattle.rings.specs.Searches.{ones}

pub ones-le : (l : List ℕ) → ones l ≤ length l
unfolding ones select
ones-le [] = omega arith
ones-le (x ∷ l) = decided (eqb x 0) (λ t. rw t (omega (arith, ones-le l))) (λ t. rw t (omega (arith, ones-le l)))

pub ones_set : (l : List ℕ) (i v : ℕ) → i < length l → get_or l i 0 ≡ 0 → ¬ (v ≡ 0) → ones (set l i v) ≡ suc (ones l)
unfolding ones select
ones_set [] i v b z n = absurd (omega arith)
ones_set (x ∷ l) zero v b z n = rw (eq-eqb x 0 z, ne_eqb v 0 n)
ones_set (x ∷ l) (suc i) v b z n =
    let rest = ones_set l i v (omega arith) z n in
    decided (eqb x 0) (λ t. rw t rest) (λ t. rw t (ap suc rest))

pub ones_room : (l : List ℕ) (i : ℕ) → i < length l → get_or l i 0 ≡ 0 → ones l < length l
ones_room l i b z = omega (arith, ones_set l i 1 b z (λ e. omega (arith, e)), ones-le (set l i 1), length-set l i 1)

pub ones_none : (n : ℕ) → ones (replicate n 0) ≡ 0
unfolding ones select
ones_none zero = refl
ones_none (suc n) = ones_none n
