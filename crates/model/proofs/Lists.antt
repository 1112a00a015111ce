-- Lists of numbers: membership, distinctness, one number taken out, and the pigeonhole. A list of distinct numbers that all stand in another list is
-- no longer than that one: take its first number out of both, and go on with the rest.
use Rattle.std.specs.Prelude.{Some, slice_get}
use Rattle.model.proofs.Options.{none-ne-some, some-injective}
use Prim.Native.Nat.{ℕ, zero, suc, ◌+◌, ◌≤◌, ◌<◌}
use mathlib.Core.Path.{◌≡◌, refl, sym, ap, ◌∙◌}
use mathlib.Core.Bool.{true, false, false≢true}
use mathlib.Core.List.Memᴰ
use mathlib.Core.List.{List, [], ◌∷◌, ◌++◌}
pub use mathlib.Core.List.Memᴰ.{head as here}
pub use mathlib.Core.List.Memᴰ.{tail as there}
use mathlib.Core.Logic.{⊎_elim}
use native.Mathlib.Omega.{arith}
use lib.Dec.{eqb}
use lib.ListN.{length}
use borrow.Author.Tests.{eqb-true, eqb-false}
use Rattle.model.specs.Choice.{member, numbers_from}
use Rattle.model.specs.Orders.{without}
use Rattle.model.specs.Lists.{◌∈◌, Precedes, Distinct, Rising}
use Rattle.model.proofs.Laws.{decided}

-- What stands in a list has a place there, and what has a place stands there.
pub position : {A : Type 0} {a : A} {l : List A} → a ∈ l → (i : ℕ) × (slice_get l i ≡ Some a)
position (here e) = (0, ap Some (sym e))
position (there m) = (suc (position m).0, (position m).1)

pub at_position : {A : Type 0} (l : List A) (i : ℕ) {a : A} → slice_get l i ≡ Some a → a ∈ l
at_position [] i h = absurd (none-ne-some _ h)
at_position (x ∷ l) zero h = here (sym (some-injective _ _ h))
at_position (x ∷ l) (suc i) h = there (at_position l i h)

-- The test for membership says what it should.
pub member_true : (g : ℕ) (l : List ℕ) → member g l ≡ true → g ∈ l
unfolding member
member_true g [] h = absurd (false≢true h)
member_true g (x ∷ l) h = decided (eqb g x) (λ t. here (eqb-true g x t)) (λ t. there (member_true g l (rw t at h)))

pub member_false : (g : ℕ) (l : List ℕ) → member g l ≡ false → ¬ (g ∈ l)
unfolding member
member_false g [] h m = Memᴰ.not-nil m
member_false g (x ∷ l) h m =
    decided (eqb g x)
    (λ t. absurd (false≢true (sym (rw t at h))))
    (λ t. ⊎_elim (eqb-false g x t) (member_false g l (rw t at h)) (Memᴰ.cases_cons m))

-- In a list of distinct numbers each has one place.
pub one_place : (l : List ℕ) → Distinct l → (i j : ℕ) {g : ℕ} → slice_get l i ≡ Some g → slice_get l j ≡ Some g → i ≡ j
one_place [] d i j p q = absurd (none-ne-some _ p)
one_place (x ∷ l) d zero zero p q = refl
one_place (x ∷ l) d zero (suc j) p q = absurd (d.0 (Memᴰ.cast (some-injective _ _ p) (at_position l j q)))
one_place (x ∷ l) d (suc i) zero p q = absurd (d.0 (Memᴰ.cast (some-injective _ _ q) (at_position l i p)))
one_place (x ∷ l) d (suc i) (suc j) p q = ap suc (one_place l d.1 i j p q)

-- The first of a list stands before all others; and what stands before another does so behind one more.
pub precedes_rest : (g : ℕ) {h : ℕ} {l : List ℕ} → h ∈ l → Precedes (g ∷ l) g h
precedes_rest g m = let p = position m in record { i = 0; j = suc p.0; first = refl; second = p.1; before = omega arith }

pub precedes_later : {g h : ℕ} {l : List ℕ} (x : ℕ) → Precedes l g h → Precedes (x ∷ l) g h
precedes_later x p = record { i = suc p.i; j = suc p.j; first = p.first; second = p.second; before = omega (arith, p.before) }

-- In a list of distinct numbers this is an order: it can be chained, and nothing stands before itself.
pub precedes_trans : (l : List ℕ) → Distinct l → {g h k : ℕ} → Precedes l g h → Precedes l h k → Precedes l g k
precedes_trans l d p q =
    let meet : p.j ≡ q.i = one_place l d p.j q.i p.second q.first in
    record { i = p.i; j = q.j; first = p.first; second = q.second; before = omega (arith, p.before, q.before) }

pub precedes_irreflexive : (l : List ℕ) → Distinct l → {g : ℕ} → ¬ Precedes l g g
precedes_irreflexive l d p = omega (arith, p.before, one_place l d p.i p.j p.first p.second)

-- The front of a list of distinct numbers; and one more at its end.
pub distinct_front : (l m : List ℕ) → Distinct (l ++ m) → Distinct l
distinct_front [] m d = tt
distinct_front (x ∷ l) m d = ((λ h. d.0 (Memᴰ.append_left m h)), distinct_front l m d.1)

pub distinct_last : (l : List ℕ) (x : ℕ) → ¬ (x ∈ l) → Distinct l → Distinct (l ++ x ∷ [])
distinct_last [] x h d = (Memᴰ.not-nil, tt)
distinct_last (y ∷ l) x h d = (
  (λ m. ⊎_elim d.0 (λ n. ⊎_elim (λ e. h (here (sym e))) Memᴰ.not-nil (Memᴰ.cases_cons n)) (Memᴰ.append_cases l m)),
  distinct_last l x (λ m. h (there m)) d.1,
)

-- The numbers but one: the others stay, and there is one fewer.
pub without_keeps : (g h : ℕ) (l : List ℕ) → h ∈ l → ¬ (h ≡ g) → h ∈ without g l
unfolding without
without_keeps g h [] m n = absurd (Memᴰ.not-nil m)
without_keeps g h (x ∷ l) m n =
    decided (eqb x g)
    (λ t. rw t (⊎_elim (λ e. absurd (n (e ∙ eqb-true x g t))) (λ k. k) (Memᴰ.cases_cons m)))
    (λ t. rw t (⊎_elim (λ e. here e) (λ k. there (without_keeps g h l k n)) (Memᴰ.cases_cons m)))

pub without_within : (g h : ℕ) (l : List ℕ) → h ∈ without g l → h ∈ l
unfolding without
without_within g h [] m = m
without_within g h (x ∷ l) m =
    decided (eqb x g)
    (λ t. there (rw t at m))
    (λ t. ⊎_elim (λ e. here e) (λ k. there (without_within g h l k)) (Memᴰ.cases_cons (rw t at m)))

pub without_length : (g : ℕ) (l : List ℕ) → g ∈ l → suc (length (without g l)) ≡ length l
unfolding without
without_length g [] m = absurd (Memᴰ.not-nil m)
without_length g (x ∷ l) m =
    decided (eqb x g)
    (λ t. rw t)
    (λ t. rw t (ap suc (without_length g l (⊎_elim (λ e. absurd (eqb-false x g t (sym e))) (λ k. k) (Memᴰ.cases_cons m)))))

pub without_distinct : (g : ℕ) (l : List ℕ) → Distinct l → Distinct (without g l)
unfolding without
without_distinct g [] d = tt
without_distinct g (x ∷ l) d =
    decided (eqb x g)
    (λ t. rw t d.1)
    (λ t. rw t ((λ m. d.0 (without_within g x l m)), without_distinct g l d.1))

pub without_rising : (g : ℕ) (l : List ℕ) → Rising l → Rising (without g l)
unfolding without
without_rising g [] r = tt
without_rising g (x ∷ l) r =
    decided (eqb x g) (λ t. rw t r.1) (λ t. rw t ((λ y m. r.0 y (without_within g y l m)), without_rising g l r.1))

-- Of distinct numbers, the one taken out is gone.
pub without_gone : (g : ℕ) (l : List ℕ) → Distinct l → ¬ (g ∈ without g l)
unfolding without
without_gone g [] d m = Memᴰ.not-nil m
without_gone g (x ∷ l) d m =
    decided (eqb x g)
    (λ t. d.0 (Memᴰ.cast (eqb-true x g t) (rw t at m)))
    (λ t. ⊎_elim (λ e. eqb-false x g t (sym e)) (without_gone g l d.1) (Memᴰ.cases_cons (rw t at m)))

-- The pigeonhole: distinct numbers that all stand in a list are no more than the list has.
pub distinct_within : (l m : List ℕ) → Distinct l → ((g : ℕ) → g ∈ l → g ∈ m) → length l ≤ length m
distinct_within [] m d h = omega arith
distinct_within (x ∷ l) m d h =
    let rest : length l ≤ length (without x m) =
    distinct_within l (without x m) d.1 (λ g k. without_keeps x g m (h g (there k)) (λ e. d.0 (Memᴰ.cast (sym e) k))) in
    omega (arith, without_length x m (h x (here refl)))

-- The numbers from one on are those, each once.
pub numbers_from_length : (first count : ℕ) → length (numbers_from first count) ≡ count
unfolding numbers_from
numbers_from_length first zero = refl
numbers_from_length first (suc count) = ap suc (numbers_from_length (first + 1) count)

pub in_numbers_from : (first count g : ℕ) → first ≤ g → g < first + count → g ∈ numbers_from first count
unfolding numbers_from
in_numbers_from first zero g p q = absurd (omega arith)
in_numbers_from first (suc count) g p q =
    decided (eqb g first)
    (λ t. here (eqb-true g first t))
    (λ t. let ne : ¬ (g ≡ first) = eqb-false g first t in there (in_numbers_from (first + 1) count g (omega arith) (omega arith)))

pub numbers_from_bounds : (first count g : ℕ) → g ∈ numbers_from first count → (first ≤ g) × (g < first + count)
unfolding numbers_from
numbers_from_bounds first zero g m = absurd (Memᴰ.not-nil m)
numbers_from_bounds first (suc count) g m =
    ⊎_elim
    (λ e. (omega arith, omega arith))
    (λ k. let b : (first + 1 ≤ g) × (g < first + 1 + count) = numbers_from_bounds (first + 1) count g k in (omega arith, omega arith))
    (Memᴰ.cases_cons m)

pub numbers_from_distinct : (first count : ℕ) → Distinct (numbers_from first count)
unfolding numbers_from
numbers_from_distinct first zero = tt
numbers_from_distinct first (suc count) = (
  (λ m. let b : (first + 1 ≤ first) × (first < first + 1 + count) = numbers_from_bounds (first + 1) count first m in omega arith),
  numbers_from_distinct (first + 1) count,
)

pub numbers_from_rising : (first count : ℕ) → Rising (numbers_from first count)
unfolding numbers_from
numbers_from_rising first zero = tt
numbers_from_rising first (suc count) = (
  (λ y m. let b : (first + 1 ≤ y) × (y < first + 1 + count) = numbers_from_bounds (first + 1) count y m in omega arith),
  numbers_from_rising (first + 1) count,
)

-- Distinct numbers below n are at most n.
pub pigeonhole : (n : ℕ) (l : List ℕ) → Distinct l → ((g : ℕ) → g ∈ l → g < n) → length l ≤ n
pigeonhole n l d h =
    let within : (g : ℕ) → g ∈ l → g ∈ numbers_from 0 n = λ g m. in_numbers_from 0 n g (omega arith) (omega (arith, h g m)) in
    omega (arith, distinct_within l (numbers_from 0 n) d within, numbers_from_length 0 n)
