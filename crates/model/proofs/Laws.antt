-- Laws about the definitions' building stones: results, tests, and functions with one value changed. A proof about a definition cites these instead
-- of unfolding the same stones again.
use Rattle.std.specs.Prelude.{Option, Some, None, slice_get}
use Rattle.model.proofs.Options.{none-ne-some, some-injective}
use Prim.Native.Nat.{ℕ, zero, suc, ◌+◌, ◌<◌, ◌≤◌}
use mathlib.Core.Path.{◌≡◌, refl, sym, subst, ◌∙◌, ap, fun_ext}
use mathlib.Core.Bool.{Bool, true, false, ◌&&◌, ◌||◌, false≢true}
use mathlib.Core.List.{List, [], ◌∷◌, ◌++◌, map}
use native.Mathlib.Nat.{zero-lt-suc, not-suc-le-zero, le_of_suc-le-suc}
use native.Mathlib.Omega.{arith}
use lib.Dec.{eqb, leb}
use lib.ListN.{length, take}
use borrow.Author.Tests.{eq-eqb, ne_eqb, eqb-true, leb-true, le-leb}
use Rattle.model.specs.declared.Refusal.{Refusal}
use Rattle.model.specs.Refusals.{Result, Ok, Err, refuse, require, present, ◌>>=◌}
use Rattle.model.specs.Choice.{when, between, Each, all, one}
use Rattle.model.specs.Machine.{put, put₂}

-- A value is no refusal, and tells what it is a value of.
IsOk : {A : Type 0} → Result A → Type 0
IsOk (Ok a) = Unit {0}
IsOk (Err r) = ⊥

pub refused≢ok : {A : Type 0} {r : Refusal} {a : A} → ¬ (◌≡◌ {A = Result A} (Err r) (Ok a))
unfolding IsOk
refused≢ok h = subst IsOk (sym h) tt

pub ok_injective : {A : Type 0} {a b : A} → ◌≡◌ {A = Result A} (Ok a) (Ok b) → a ≡ b
ok_injective h = cc

-- Two refusals that are one have one place.
place_of : {A : Type 0} → Result A → ℕ
place_of (Ok a) = 0
place_of (Err r) = r.place

pub same_place : {A : Type 0} {number other place place' : ℕ} → refuse {A = A} number place ≡ refuse other place' → place ≡ place'
unfolding place_of
same_place h = ap place_of h

-- A result that is a value came from values all the way.
pub bind_ok : {A B : Type 0} (m : Result A) (f : A → Result B) {b : B} → (m >>= f) ≡ Ok b → (a : A) × (m ≡ Ok a) × (f a ≡ Ok b)
bind_ok (Ok a) f h = (a, refl, h)
bind_ok (Err r) f h = absurd (refused≢ok h)

pub required : {B : Type 0} (t : Bool) (number place : ℕ) (f : Unit {0} → Result B) {b : B} →
    (require t number place >>= f) ≡ Ok b → (t ≡ true) × (f tt ≡ Ok b)
required true number place f h = (refl, h)
required false number place f h = absurd (refused≢ok h)

pub presented : {A B : Type 0} (o : Option A) (number place : ℕ) (f : A → Result B) {b : B} →
    (present o number place >>= f) ≡ Ok b → (a : A) × (o ≡ Some a) × (f a ≡ Ok b)
presented (Some a) number place f h = (a, refl, h)
presented None number place f h = absurd (refused≢ok h)

-- What follows matters only at the value that was found, and it may be put together first or last.
pub bind_cong : {A B : Type 0} (m : Result A) (f g : A → Result B) → ((a : A) → m ≡ Ok a → f a ≡ g a) → (m >>= f) ≡ (m >>= g)
bind_cong (Ok a) f g h = h a refl
bind_cong (Err r) f g h = refl

pub bind_assoc : {A B C : Type 0} (m : Result A) (f : A → Result B) (g : B → Result C) → ((m >>= f) >>= g) ≡ (m >>= (λ a. f a >>= g))
bind_assoc (Ok a) f g = refl
bind_assoc (Err r) f g = refl

-- An answer that keeps all that was found tells it again: what the answer is known to be says what the reader found.
pub told : {A B : Type 0} (answer : Result A → B) (result : B → Result A) → ((m : Result A) → result (answer m) ≡ m) →
    (m : Result A) {b c : B} → b ≡ answer m → b ≡ c → m ≡ result c
told answer result back m p q = sym (back m) ∙ ap result (sym p ∙ q)

-- The two sides of a choice.
pub when_true {ℓ} : {A : Type ℓ} {t : Bool} (a b : Unit {0} → A) → t ≡ true → when t a b ≡ a tt
when_true a b h = rw h

pub when_false {ℓ} : {A : Type ℓ} {t : Bool} (a b : Unit {0} → A) → t ≡ false → when t a b ≡ b tt
when_false a b h = rw h

-- Tests joined.
pub and-true : (a b : Bool) → (a && b) ≡ true → (a ≡ true) × (b ≡ true)
and-true true b h = (refl, h)
and-true false b h = absurd (false≢true h)

pub true_and : (a b : Bool) → a ≡ true → b ≡ true → (a && b) ≡ true
true_and a b p q = rw (p, q)

pub or-true : (a b : Bool) → a ≡ false → (a || b) ≡ true → b ≡ true
or-true a b p h = rw p at h

-- Every test passes or fails.
pub decided : {P : Type 0} (t : Bool) → (t ≡ true → P) → (t ≡ false → P) → P
decided true yes' no' = yes' refl
decided false yes' no' = no' refl

-- A number within a range, as the test says.
pub record Within (least most n : ℕ) : Type 0 where
  pub low : least ≤ n
  pub high : n ≤ most

pub between_true : (least most n : ℕ) → between least most n ≡ true → Within least most n
between_true least most n h =
    let (low, high) = and-true (leb least n) (leb n most) h in
    record { low = leb-true least n low; high = leb-true n most high }

pub true_between : (least most n : ℕ) → Within least most n → between least most n ≡ true
true_between least most n h = true_and (leb least n) (leb n most) (le-leb least n h.low) (le-leb n most h.high)

pub between_false : (least most n : ℕ) → ¬ (Within least most n) → between least most n ≡ false
between_false least most n h = decided (between least most n) (λ t. absurd (h (between_true least most n t))) (λ f. f)

pub eqb_refl : (n : ℕ) → eqb n n ≡ true
eqb_refl n = eq-eqb n n refl

-- A function with one value changed, there and elsewhere.
pub put_same : {A : Type 0} (f : ℕ → A) (i : ℕ) (v : A) → put f i v i ≡ v
unfolding put
put_same f i v = rw (eqb_refl i)

pub put_other : {A : Type 0} (f : ℕ → A) (i : ℕ) (v : A) (j : ℕ) → ¬ (j ≡ i) → put f i v j ≡ f j
unfolding put
put_other f i v j h = rw (ne_eqb j i h)

pub put₂_same : {A : Type 0} (f : ℕ → ℕ → A) (i j : ℕ) (v : A) → put₂ f i j v i j ≡ v
unfolding put₂
put₂_same f i j v = rw (eqb_refl i, eqb_refl j)

pub put₂_other : {A : Type 0} (f : ℕ → ℕ → A) (i j : ℕ) (v : A) (k l : ℕ) → ¬ ((k ≡ i) × (l ≡ j)) → put₂ f i j v k l ≡ f k l
unfolding put₂
put₂_other f i j v k l h =
    decided (eqb k i && eqb l j)
    (λ t. absurd (h (eqb-true k i (and-true (eqb k i) (eqb l j) t).0, eqb-true l j (and-true (eqb k i) (eqb l j) t).1)))
    (λ t. rw t)

-- A row of such a function, where one of its own values changes, and where another row's does.
pub put₂_row : {A : Type 0} (f : ℕ → ℕ → A) (i j : ℕ) (v : A) → put₂ f i j v i ≡ put (f i) j v
unfolding put put₂
put₂_row f i j v = fun_ext λ l. rw (eqb_refl i)

pub put₂_other_row : {A : Type 0} (f : ℕ → ℕ → A) (i j : ℕ) (v : A) (k : ℕ) → ¬ (k ≡ i) → put₂ f i j v k ≡ f k
put₂_other_row f i j v k other = fun_ext λ l. put₂_other f i j v k l (λ same. other same.0)

-- Such a function, seen through another.
pub put₂_map : {A B : Type 0} (F : A → B) (f : ℕ → ℕ → A) (i j : ℕ) (v : A) → (λ k l. F (put₂ f i j v k l)) ≡ put₂ (λ k l. F (f k l)) i j (F v)
unfolding put₂
put₂_map F f i j v = fun_ext λ k. fun_ext λ l. decided (eqb k i && eqb l j) (λ t. rw t) (λ t. rw t)

-- What holds of all its values.
pub put₂_holds : {A : Type 0} (Holds : A → Type 0) (f : ℕ → ℕ → A) (i j : ℕ) {v : A} → Holds v → ((k l : ℕ) → Holds (f k l)) →
    (k l : ℕ) → Holds (put₂ f i j v k l)
unfolding put₂
put₂_holds Holds f i j here others k l = decided (eqb k i && eqb l j) (λ t. rw t here) (λ t. rw t (others k l))

-- What holds of each member: something weaker, two things at once, and of the members of two lists in a row.
pub each_weaker : {A : Type 0} {Holds Weaker : A → Type 0} {l : List A} → ((a : A) → Holds a → Weaker a) → Each Holds l → Each Weaker l
each_weaker weaker all = all
each_weaker weaker (one h rest) = one (weaker _ h) (each_weaker weaker rest)

pub each_both : {A : Type 0} {Holds Others Both : A → Type 0} {l : List A} → ((a : A) → Holds a → Others a → Both a) → Each Holds l → Each Others l →
    Each Both l
each_both both all all = all
each_both both (one h rest) (one k others) = one (both _ h k) (each_both both rest others)

pub each_append : {A : Type 0} {Holds : A → Type 0} {l m : List A} → Each Holds l → Each Holds m → Each Holds (l ++ m)
each_append all behind = behind
each_append (one h rest) behind = one h (each_append rest behind)

-- The numbered members of a list.
pub slice_get_bound : {A : Type 0} (l : List A) (i : ℕ) {a : A} → slice_get l i ≡ Some a → i < length l
slice_get_bound [] i h = absurd (none-ne-some _ h)
slice_get_bound (x ∷ l) zero h = zero-lt-suc _
slice_get_bound (x ∷ l) (suc i) h = omega (arith, slice_get_bound l i h)

pub slice_get_below : {A : Type 0} (l : List A) (i : ℕ) → i < length l → (a : A) × (slice_get l i ≡ Some a)
slice_get_below [] i h = absurd (not-suc-le-zero h)
slice_get_below (x ∷ l) zero h = (x, refl)
slice_get_below (x ∷ l) (suc i) h = slice_get_below l i (le_of_suc-le-suc h)

-- Those of a list's front, and of its images.
pub slice_get_take : {A : Type 0} (l : List A) (i j : ℕ) {a : A} → j < i → slice_get l j ≡ Some a → slice_get (take i l) j ≡ Some a
slice_get_take [] i j less h = absurd (none-ne-some _ h)
slice_get_take (x ∷ l) zero j less h = absurd (not-suc-le-zero less)
slice_get_take (x ∷ l) (suc i) zero less h = h
slice_get_take (x ∷ l) (suc i) (suc j) less h = slice_get_take l i j (le_of_suc-le-suc less) h

pub slice_get_taken : {A : Type 0} (l : List A) (i j : ℕ) {a : A} → slice_get (take i l) j ≡ Some a → (slice_get l j ≡ Some a) × (j < i)
slice_get_taken l zero j h = absurd (none-ne-some _ h)
slice_get_taken [] (suc i) j h = absurd (none-ne-some _ h)
slice_get_taken (x ∷ l) (suc i) zero h = (h, zero-lt-suc i)
slice_get_taken (x ∷ l) (suc i) (suc j) h = let (there, less) = slice_get_taken l i j h in (there, omega arith)

pub slice_get_map : {A B : Type 0} (f : A → B) (l : List A) (i : ℕ) {a : A} → slice_get l i ≡ Some a → slice_get (map f l) i ≡ Some (f a)
slice_get_map f [] i h = absurd (none-ne-some _ h)
slice_get_map f (x ∷ l) zero {a} h = ap (λ y. Some (f y)) (some-injective x a h)
slice_get_map f (x ∷ l) (suc i) h = slice_get_map f l i h

pub slice_get_mapped : {A B : Type 0} (f : A → B) (l : List A) (i : ℕ) {b : B} → slice_get (map f l) i ≡ Some b →
    (a : A) × (slice_get l i ≡ Some a) × (f a ≡ b)
slice_get_mapped f [] i h = absurd (none-ne-some _ h)
slice_get_mapped f (x ∷ l) zero {b} h = (x, refl, some-injective (f x) b h)
slice_get_mapped f (x ∷ l) (suc i) h = slice_get_mapped f l i h

pub take_map : {A B : Type 0} (f : A → B) (n : ℕ) (l : List A) → take n (map f l) ≡ map f (take n l)
take_map f zero l = refl
take_map f (suc n) [] = refl
take_map {B = B} f (suc n) (x ∷ l) = ap {B = List B} (λ r. f x ∷ r) (take_map f n l)

-- What holds of each member holds of a numbered one.
pub each_at : {A : Type 0} {Holds : A → Type 0} (l : List A) → Each Holds l → (i : ℕ) {x : A} → slice_get l i ≡ Some x → Holds x
each_at l all i h = absurd (none-ne-some _ h)
each_at {Holds = Holds} l (one {a} holds rest) zero {x} h = subst Holds (some-injective a x h) holds
each_at l (one {rest = others} holds rest) (suc i) h = each_at others rest i h

-- Those of two lists in a row.
pub slice_get_front : {A : Type 0} (l m : List A) (i : ℕ) {a : A} → slice_get l i ≡ Some a → slice_get (l ++ m) i ≡ Some a
slice_get_front [] m i h = absurd (none-ne-some _ h)
slice_get_front (x ∷ l) m zero h = h
slice_get_front (x ∷ l) m (suc i) h = slice_get_front l m i h

pub slice_get_behind : {A : Type 0} (l m : List A) (i : ℕ) → slice_get (l ++ m) (length l + i) ≡ slice_get m i
slice_get_behind [] m i = let z : 0 + i ≡ i = omega arith in rw z
slice_get_behind (x ∷ l) m i = let z : suc (length l) + i ≡ suc (length l + i) = omega arith in rw z (slice_get_behind l m i)
