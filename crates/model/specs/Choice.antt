-- Choices that compute one side only, small tests, and tables: what the other files are written with.
use Rattle.std.specs.Prelude.{ℕ, ◌+◌, ◌/◌, ◌%◌, ◌^◌, Bool, true, false, ◌&&◌, List, [], ◌∷◌, leb, eqb, Option, Some, None}

-- The first where the test passes, the second where it fails. Only that side is computed.
abbrev pub when {ℓ} : {A : Type ℓ} → Bool → (Unit {0} → A) → (Unit {0} → A) → A
when true a b = a tt
when false a b = b tt

-- low ≤ n ≤ high.
abbrev pub between : ℕ → ℕ → ℕ → Bool
between low high n = leb low n && leb n high

-- "Bit 0 is the lowest": bit i of a map stands.
abbrev pub bit : ℕ → ℕ → Bool
bit i map = eqb (map / 2 ^ i % 2) 1

-- What a table has under a number.
unfoldable pub lookup : {A : Type 0} → ℕ → List (ℕ × A) → Option A
lookup n [] = None
lookup n (row ∷ rows) = when (eqb n row.0) (λ _. Some row.1) (λ _. lookup n rows)

-- A number is one of a list.
unfoldable pub member : ℕ → List ℕ → Bool
member n [] = false
member n (x ∷ xs) = when (eqb n x) (λ _. true) (λ _. member n xs)

-- The members of a list that pass a test, in order.
unfoldable pub select : {A : Type 0} → (A → Bool) → List A → List A
select test [] = []
select test (a ∷ rest) = when (test a) (λ _. a ∷ select test rest) (λ _. select test rest)

-- first, first + 1, .., count numbers in all.
unfoldable pub numbers_from : ℕ → ℕ → List ℕ
numbers_from first ℕ.zero = []
numbers_from first (ℕ.suc count) = first ∷ numbers_from (first + 1) count

-- What holds of each member.
pub data Each {A : Type 0} (Holds : A → Type 0) : List A → Type 0 where
  all : Each Holds []
  one : {a : A} {rest : List A} → Holds a → Each Holds rest → Each Holds (a ∷ rest)
