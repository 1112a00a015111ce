-- Tables: what holds of every row holds of what is found under a number.
use Rattle.std.specs.Prelude.{Option, Some, None}
use Rattle.model.proofs.Options.{none-ne-some, some-injective}
use Prim.Native.Nat.{ℕ}
use mathlib.Core.Path.{◌≡◌, subst}
use mathlib.Core.Bool.{Bool, true, false≢true, ◌&&◌}
use mathlib.Core.List.{List, [], ◌∷◌}
use lib.Dec.{eqb}
use borrow.Author.Tests.{eqb-true}
use Rattle.model.specs.Choice.{lookup, member, Each, all, one}
use Rattle.model.specs.Replay.{every}
use Rattle.model.proofs.Laws.{decided, and-true}

-- What a table has under a number, whether it has something or not.
pub lookup_holds : {A : Type 0} (Holds : Option A → Type 0) (n : ℕ) (rows : List (ℕ × A)) → Holds None → Each (λ row. Holds (Some row.1)) rows →
    Holds (lookup n rows)
unfolding lookup
lookup_holds Holds n [] missing all = missing
lookup_holds Holds n (row ∷ rows) missing (one holds rest) =
    decided (eqb n row.0) (λ t. rw t holds) (λ t. rw t (lookup_holds Holds n rows missing rest))

-- A test that is computed over a whole table, of what the table has under a number.
unfoldable pub every_row : {A : Type 0} → (ℕ → A → Bool) → List (ℕ × A) → Bool
every_row test [] = true
every_row test (row ∷ rows) = test row.0 row.1 && every_row test rows

pub looked_up : {A : Type 0} (test : ℕ → A → Bool) (n : ℕ) (rows : List (ℕ × A)) {a : A} → every_row test rows ≡ true →
    lookup n rows ≡ Some a → test n a ≡ true
unfolding lookup every_row
looked_up test n [] e h = absurd (none-ne-some _ h)
looked_up test n (row ∷ rows) e h =
    let (first, rest) = and-true (test row.0 row.1) (every_row test rows) e in
    decided (eqb n row.0)
    (λ t. subst (λ a. test n a ≡ true) (some-injective _ _ (rw t at h)) (rw (eqb-true n row.0 t) first))
    (λ t. looked_up test n rows rest (rw t at h))

-- What is one of a list.
pub one_of : {Holds : ℕ → Type 0} (n : ℕ) (xs : List ℕ) → Each Holds xs → member n xs ≡ true → Holds n
unfolding member
one_of n [] e h = absurd (false≢true h)
one_of {Holds} n (x ∷ xs) (one p e) h =
    decided (eqb n x) (λ t. rw (eqb-true n x t) p) (λ t. one_of n xs e (rw t at h))

-- A test that is computed over a whole list, of one of it.
pub every_one : (test : ℕ → Bool) (n : ℕ) (xs : List ℕ) → every test xs ≡ true → member n xs ≡ true → test n ≡ true
unfolding every member
every_one test n [] e h = absurd (false≢true h)
every_one test n (x ∷ xs) e h =
    decided (test x)
    (λ passes.
    decided (eqb n x) (λ t. rw (eqb-true n x t) passes) (λ t. every_one test n xs (rw passes at e) (rw t at h)))
    (λ fails. absurd (false≢true (rw fails at e)))
