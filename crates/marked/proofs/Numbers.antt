-- Selections, from any list and from the numbers from a first one on.
use Prim.Native.Nat.{ℕ, zero, suc, ◌+◌, ◌≤◌, ◌<◌}
use mathlib.Core.Path.{◌≡◌, refl, sym, ap, ap₂, ◌∙◌}
use mathlib.Core.Bool.{Bool, true, false, not, ◌&&◌}
use mathlib.Core.List.{List, [], ◌∷◌, ◌++◌, map}
use native.Mathlib.Nat.{le_refl, zero-add}
use native.Mathlib.Omega.{arith}
use lib.Dec.{eqb}
use lib.ListN.{length}
use borrow.Author.Tests.{eqb-true, eqb-false, eq-eqb, ne_eqb}
use Rattle.model.specs.Choice.{select, numbers_from}
use Rattle.model.proofs.Laws.{decided}
use Rattle.model.proofs.Selections.{select_yes, select_no, select_other}
use Rattle.record_facts.proofs.Rows.{numbers_snoc}

-- No more are selected than there are.
pub selected_few : {A : Type 0} (p : A → Bool) (l : List A) → length (select p l) ≤ length l
unfolding select
selected_few p [] = omega arith
selected_few p (x ∷ l) =
    let rest = selected_few p l in
    decided (p x) (λ t. rw t (omega (arith, rest))) (λ t. rw t (omega (arith, rest)))

-- Two tests that agree on the numbers select the same.
pub numbers_same : (p q : ℕ → Bool) (first count : ℕ) → ((n : ℕ) → first ≤ n → n < first + count → p n ≡ q n) →
    select p (numbers_from first count) ≡ select q (numbers_from first count)
unfolding numbers_from select
numbers_same p q first zero same = refl
numbers_same p q first (suc count) same =
    let rest = numbers_same p q (first + 1) count (λ n low high. same n (omega arith) (omega arith)) in
    let here : p first ≡ q first = same first (le_refl first) (omega arith) in
    decided (q first)
    (λ t. rw (here ∙ t, t) (ap {B = List ℕ} (λ l. first ∷ l) rest))
    (λ t. rw (here ∙ t, t) rest)

-- What two functions that agree on the numbers make of those selected.
pub numbers_mapped : {A : Type 0} (f g : ℕ → A) (p : ℕ → Bool) (first count : ℕ) → ((n : ℕ) → first ≤ n → n < first + count → f n ≡ g n) →
    map f (select p (numbers_from first count)) ≡ map g (select p (numbers_from first count))
unfolding numbers_from select
numbers_mapped f g p first zero same = refl
numbers_mapped {A} f g p first (suc count) same =
    let rest = numbers_mapped f g p (first + 1) count (λ n low high. same n (omega arith) (omega arith)) in
    decided (p first)
    (λ t. rw t (ap₂ {C = List A} ◌∷◌ (same first (le_refl first) (omega arith)) rest))
    (λ t. rw t rest)

-- Numbers that all fail.
pub numbers_none : (p : ℕ → Bool) (first count : ℕ) → ((n : ℕ) → first ≤ n → n < first + count → p n ≡ false) →
    select p (numbers_from first count) ≡ []
unfolding numbers_from select
numbers_none p first zero none = refl
numbers_none p first (suc count) none =
    rw (none first (le_refl first) (omega arith)) (numbers_none p (first + 1) count (λ n low high. none n (omega arith) (omega arith)))

-- The lowest number that passes stands first, before those that pass without it.
pub numbers_lowest : (p q : ℕ → Bool) (lowest : ℕ) → p lowest ≡ true → ((n : ℕ) → n < lowest → p n ≡ false) →
    ((n : ℕ) → q n ≡ (p n && not (eqb n lowest))) → (first count : ℕ) → first ≤ lowest → lowest < first + count →
    select p (numbers_from first count) ≡ lowest ∷ select q (numbers_from first count)
unfolding numbers_from
numbers_lowest p q lowest is least others first zero low high = absurd (omega arith)
numbers_lowest p q lowest is least others first (suc count) low high =
    decided (eqb first lowest)
    (λ t.
    let e : first ≡ lowest = eqb-true first lowest t in
    let out : q first ≡ false = others first ∙ rw (e, eq-eqb lowest lowest refl, is) in
    rw (select_yes p first (numbers_from (first + 1) count) (ap p e ∙ is), select_no q first (numbers_from (first + 1) count) out, e)
    (ap {B = List ℕ} (λ l. lowest ∷ l)
    (numbers_same p q (lowest + 1) count (λ n from to. sym (others n ∙ rw (ne_eqb n lowest (λ s. omega (arith, s))) (and_yes (p n)))))))
    (λ t.
    let ne : ¬ (first ≡ lowest) = eqb-false first lowest t in
    let none : p first ≡ false = least first (omega arith) in
    let out : q first ≡ false = others first ∙ rw none in
    rw (select_no p first (numbers_from (first + 1) count) none, select_no q first (numbers_from (first + 1) count) out)
    (numbers_lowest p q lowest is least others (first + 1) count (omega arith) (omega arith)))
  where
    and_yes : (t : Bool) → (t && true) ≡ t
    and_yes true = refl
    and_yes false = refl

-- Where the last numbers all fail, the others are enough.
pub numbers_front : (p : ℕ → Bool) (few count : ℕ) → few ≤ count → ((n : ℕ) → few ≤ n → n < count → p n ≡ false) →
    select p (numbers_from 0 count) ≡ select p (numbers_from 0 few)
numbers_front p few zero h none = let e : few ≡ 0 = omega arith in rw e
numbers_front p few (suc count) h none =
    decided (eqb few (suc count))
    (λ t. rw (eqb-true few (suc count) t))
    (λ t.
    let ne : ¬ (few ≡ suc count) = eqb-false few (suc count) t in
    let all : numbers_from 0 (suc count) ≡ numbers_from 0 count ++ count ∷ [] =
    sym (numbers_snoc 0 count) ∙ ap (λ k. numbers_from 0 count ++ k ∷ []) (zero-add count) in
    ap (select p) all
    ∙ select_other p (numbers_from 0 count) count (none count (omega arith) (omega arith))
    ∙ numbers_front p few count (omega arith) (λ n low high. none n low (omega arith)))

-- What is selected first is one of the numbers.
pub first_below : (p : ℕ → Bool) (first count : ℕ) {x : ℕ} {l : List ℕ} → select p (numbers_from first count) ≡ x ∷ l → x < first + count
unfolding numbers_from select
first_below p first zero is = cc
first_below p first (suc count) {x} {l} is =
    decided (p first)
    (λ t.
    let all : first ∷ select p (numbers_from (first + 1) count) ≡ x ∷ l = rw t at is in
    let e : first ≡ x = cc in
    omega arith)
    (λ t. let rest = first_below p (first + 1) count (rw t at is) in omega arith)
