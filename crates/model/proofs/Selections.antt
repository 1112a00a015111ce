-- Selections from lists. Where a member stands in the selection is how many are selected before it; so two lists with one selection have its
-- members in one order, and agree on what is selected before each of them.
use Rattle.std.specs.Prelude.{Some, slice_get}
use Rattle.model.proofs.Options.{none-ne-some}
use Prim.Native.Nat.{ℕ, zero, suc, ◌<◌, ◌≤◌, ◌+◌}
use mathlib.Core.Path.{◌≡◌, refl, sym, ◌∙◌, ap, ap₂}
use mathlib.Core.Bool.{Bool, true, false, not, true≢false}
use mathlib.Core.List.Memᴰ
use mathlib.Core.List.{List, [], ◌∷◌, ◌++◌, append-nil}
use mathlib.Core.List.Memᴰ.{head as here}
use mathlib.Core.List.Memᴰ.{tail as there}
use mathlib.Core.List.{Memᴰ as Member}
use mathlib.Core.Logic.{⊎_elim}
use native.Mathlib.Nat.{le_of_suc-le-suc, not-suc-le-zero, zero-lt-suc, lt_of_not-le}
use native.Mathlib.Omega.{arith}
use native.Mathlib.Numerals.{add-one}
use lib.ListN.{length, take, length-append}
use Rattle.model.specs.Choice.{select}
use Rattle.model.proofs.Laws.{decided}

-- The first member is selected, or passed over; a selection goes part by part.
pub select_yes : {A : Type 0} (p : A → Bool) (x : A) (l : List A) → p x ≡ true → select p (x ∷ l) ≡ x ∷ select p l
unfolding select
select_yes p x l h = rw h

pub select_no : {A : Type 0} (p : A → Bool) (x : A) (l : List A) → p x ≡ false → select p (x ∷ l) ≡ select p l
unfolding select
select_no p x l h = rw h

pub select_append : {A : Type 0} (p : A → Bool) (l m : List A) → select p (l ++ m) ≡ select p l ++ select p m
unfolding select
select_append p [] m = refl
select_append p (x ∷ l) m =
    decided (p x)
    (λ h. rw (h, select) (ap {B = List _} (λ r. x ∷ r) (select_append p l m)))
    (λ h. rw (h, select) (select_append p l m))

pub count_append : {A : Type 0} (p : A → Bool) (l m : List A) → length (select p (l ++ m)) ≡ length (select p l) + length (select p m)
count_append p l m = ap length (select_append p l m) ∙ length-append (select p l) (select p m)

-- One more member behind a list is selected, or passed over.
module _ {A : Type 0} (p : A → Bool) (l : List A) (x : A) where
  pub select_own : p x ≡ true → select p (l ++ x ∷ []) ≡ select p l ++ x ∷ []
  unfolding select
  select_own h = select_append p l (x ∷ []) ∙ ap (select p l ++◌) (select_yes p x [] h)

  pub select_other : p x ≡ false → select p (l ++ x ∷ []) ≡ select p l
  unfolding select
  select_other h = select_append p l (x ∷ []) ∙ ap (select p l ++◌) (select_no p x [] h) ∙ append-nil (select p l)

  pub count_own : p x ≡ true → length (select p (l ++ x ∷ [])) ≡ suc (length (select p l))
  count_own h = ap length (select_own h) ∙ length-append (select p l) (x ∷ []) ∙ add-one (length (select p l))

  pub count_other : p x ≡ false → length (select p (l ++ x ∷ [])) ≡ length (select p l)
  count_other h = ap length (select_other h)

-- Two selections may be made in either order.
pub select_commute : {A : Type 0} (p q : A → Bool) (l : List A) → select p (select q l) ≡ select q (select p l)
unfolding select
select_commute p q [] = refl
select_commute p q (x ∷ l) =
    decided (p x)
    (λ hp. decided (q x)
    (λ hq. rw (select_yes q x l hq, select_yes p x l hp, select_yes p x (select q l) hp, select_yes q x (select p l) hq)
    (ap {B = List _} (λ r. x ∷ r) (select_commute p q l)))
    (λ hq. rw (select_no q x l hq, select_yes p x l hp, select_no q x (select p l) hq) (select_commute p q l)))
    (λ hp. decided (q x)
    (λ hq. rw (select_yes q x l hq, select_no p x l hp, select_no p x (select q l) hp) (select_commute p q l))
    (λ hq. rw (select_no q x l hq, select_no p x l hp) (select_commute p q l)))

-- What stands behind a list is its next member.
pub split_at : {A : Type 0} (l : List A) (x : A) (m : List A) → slice_get (l ++ x ∷ m) (length l) ≡ Some x
split_at [] x m = refl
split_at (y ∷ l) x m = split_at l x m

-- A selected member stands in the selection behind those that are selected before it.
pub select_at : {A : Type 0} (p : A → Bool) (l : List A) (i : ℕ) {x : A} → slice_get l i ≡ Some x → p x ≡ true →
    slice_get (select p l) (length (select p (take i l))) ≡ Some x
unfolding select
select_at p [] i h t = absurd (none-ne-some _ h)
select_at p (y ∷ l) zero {x} h t =
    let e : y ≡ x = cc in
    rw (select_yes p y l (ap p e ∙ t)) h
select_at p (y ∷ l) (suc i) h t =
    decided (p y)
    (λ hy. rw (select_yes p y l hy, select_yes p y (take i l) hy) (select_at p l i h t))
    (λ hy. rw (select_no p y l hy, select_no p y (take i l) hy) (select_at p l i h t))

-- What is selected before a place is the front of the selection.
pub select_take : {A : Type 0} (p : A → Bool) (l : List A) (i : ℕ) → take (length (select p (take i l))) (select p l) ≡ select p (take i l)
unfolding select
select_take p [] zero = refl
select_take p [] (suc i) = refl
select_take p (y ∷ l) zero = refl
select_take p (y ∷ l) (suc i) =
    decided (p y)
    (λ hy. rw (select_yes p y l hy, select_yes p y (take i l) hy) (ap {B = List _} (λ r. y ∷ r) (select_take p l i)))
    (λ hy. rw (select_no p y l hy, select_no p y (take i l) hy) (select_take p l i))

-- A member of the selection comes from a place of the list.
pub record Selected {A : Type 0} (p : A → Bool) (l : List A) (k : ℕ) (x : A) : Type 0 where
  pub i : ℕ
  pub at : slice_get l i ≡ Some x
  pub passes : p x ≡ true
  pub before : length (select p (take i l)) ≡ k

skipped : {A : Type 0} (p : A → Bool) (y : A) (l : List A) (k : ℕ) {x : A} → p y ≡ false → Selected p l k x → Selected p (y ∷ l) k x
skipped p y l k hy s =
    record { i = suc s.i; at = s.at; passes = s.passes; before = ap length (select_no p y (take s.i l) hy) ∙ s.before }

kept : {A : Type 0} (p : A → Bool) (y : A) (l : List A) (k : ℕ) {x : A} → p y ≡ true → Selected p l k x → Selected p (y ∷ l) (suc k) x
kept p y l k hy s =
    record {
      i = suc s.i;
      at = s.at;
      passes = s.passes;
      before = ap length (select_yes p y (take s.i l) hy) ∙ ap suc s.before;
    }

first_selected : {A : Type 0} (p : A → Bool) (y : A) (l : List A) {x : A} → p y ≡ true → Some y ≡ Some x → Selected p (y ∷ l) 0 x
unfolding select
first_selected p y l {x} hy h =
    let e : y ≡ x = cc in
    record { i = 0; at = h; passes = rw e at hy; before = refl }

pub select_from : {A : Type 0} (p : A → Bool) (l : List A) (k : ℕ) {x : A} → slice_get (select p l) k ≡ Some x → Selected p l k x
unfolding select
select_from p [] k h = absurd (none-ne-some _ h)
select_from p (y ∷ l) zero h =
    decided (p y)
    (λ hy. first_selected p y l hy (rw (select_yes p y l hy) at h))
    (λ hy. skipped p y l 0 hy (select_from p l 0 (rw (select_no p y l hy) at h)))
select_from p (y ∷ l) (suc k) h =
    decided (p y)
    (λ hy. kept p y l k hy (select_from p l k (rw (select_yes p y l hy) at h)))
    (λ hy. skipped p y l (suc k) hy (select_from p l (suc k) (rw (select_no p y l hy) at h)))

-- The longer the front, the more is selected of it, and a member that passes counts.
pub select_grows : {A : Type 0} (p : A → Bool) (l : List A) (i j : ℕ) → i ≤ j → length (select p (take i l)) ≤ length (select p (take j l))
unfolding select
select_grows p l zero j h = omega arith
select_grows p l (suc i) zero h = absurd (not-suc-le-zero h)
select_grows p [] (suc i) (suc j) h = omega arith
select_grows p (y ∷ l) (suc i) (suc j) h =
    let ih = select_grows p l i j (le_of_suc-le-suc h) in
    decided (p y)
    (λ hy. rw (select_yes p y (take i l) hy, select_yes p y (take j l) hy) (omega (arith, ih)))
    (λ hy. rw (select_no p y (take i l) hy, select_no p y (take j l) hy) ih)

pub select_rises : {A : Type 0} (p : A → Bool) (l : List A) (i j : ℕ) {x : A} → slice_get l i ≡ Some x → p x ≡ true → i < j →
    length (select p (take i l)) < length (select p (take j l))
unfolding select
select_rises p [] i j h t before = absurd (none-ne-some _ h)
select_rises p (y ∷ l) zero zero h t before = absurd (not-suc-le-zero before)
select_rises p (y ∷ l) zero (suc j) {x} h t before =
    let e : y ≡ x = cc in
    rw (select_yes p y (take j l) (ap p e ∙ t)) (zero-lt-suc _)
select_rises p (y ∷ l) (suc i) zero h t before = absurd (not-suc-le-zero before)
select_rises p (y ∷ l) (suc i) (suc j) h t before =
    let ih = select_rises p l i j h t (le_of_suc-le-suc before) in
    decided (p y)
    (λ hy. rw (select_yes p y (take i l) hy, select_yes p y (take j l) hy) (omega (arith, ih)))
    (λ hy. rw (select_no p y (take i l) hy, select_no p y (take j l) hy) ih)

pub selected_rises : {A : Type 0} {p : A → Bool} {l : List A} {i j : ℕ} {x y : A} (sx : Selected p l i x) (sy : Selected p l j y) → i < j →
    sx.i < sy.i
selected_rises {p = p} {l = l} sx sy before =
    lt_of_not-le (λ le. let more = select_grows p l sy.i sx.i le in omega (arith, more, sx.before, sy.before, before))

-- Hence in two lists with one selection its members come in one order ..
pub select_order : {A : Type 0} (p : A → Bool) (l m : List A) → select p l ≡ select p m → (i j : ℕ) {x y : A} →
    slice_get l i ≡ Some x → slice_get l j ≡ Some y → p x ≡ true → p y ≡ true → i < j →
    (i' : ℕ) × (j' : ℕ) × (slice_get m i' ≡ Some x) × (slice_get m j' ≡ Some y) × (i' < j')
select_order p l m same i j {x} {y} hx hy px py before =
    let sx : Selected p m (length (select p (take i l))) x = select_from p m _ (rw same at (select_at p l i hx px)) in
    let sy : Selected p m (length (select p (take j l))) y = select_from p m _ (rw same at (select_at p l j hy py)) in
    (sx.i, sy.i, sx.at, sy.at, selected_rises sx sy (select_rises p l i j hx px before))

-- .. and what is selected before a member is the same in both.
pub select_before : {A : Type 0} (p : A → Bool) (l m : List A) → select p l ≡ select p m → (i : ℕ) {x : A} →
    slice_get l i ≡ Some x → p x ≡ true →
    (j : ℕ) × (slice_get m j ≡ Some x) × (select p (take j m) ≡ select p (take i l))
select_before p l m same i {x} hx px =
    let s : Selected p m (length (select p (take i l))) x = select_from p m _ (rw same at (select_at p l i hx px)) in (
      s.i,
      s.at,
      sym (select_take p m s.i) ∙ ap₂ take s.before (sym same) ∙ select_take p l i,
    )

-- A selection by a test that all members pass, or none.
pub select_all : {A : Type 0} (p : A → Bool) (l : List A) → ((i : ℕ) (x : A) → slice_get l i ≡ Some x → p x ≡ true) → select p l ≡ l
unfolding select
select_all p [] h = refl
select_all p (x ∷ l) h = rw (select_yes p x l (h 0 x refl)) (ap {B = List _} (λ r. x ∷ r) (select_all p l (λ i. h (suc i))))

pub select_none : {A : Type 0} (p : A → Bool) (l : List A) → ((i : ℕ) (x : A) → slice_get l i ≡ Some x → p x ≡ false) → select p l ≡ []
unfolding select
select_none p [] h = refl
select_none p (x ∷ l) h = rw (select_no p x l (h 0 x refl)) (select_none p l (λ i. h (suc i)))

-- Where no member that passes stands behind one that does not, those that pass are the front.
pub passing_first : {A : Type 0} (p : A → Bool) (l : List A) →
    ((i j : ℕ) (x y : A) → slice_get l i ≡ Some x → slice_get l j ≡ Some y → i < j → p y ≡ true → p x ≡ true) →
    select p l ++ select (λ x. not (p x)) l ≡ l
unfolding select
passing_first p [] h = refl
passing_first {A} p (x ∷ l) h =
    decided (p x)
    (λ t. rw (select_yes p x l t, select_no (λ y. not (p y)) x l (ap not t))
    (ap {B = List _} (λ r. x ∷ r) (passing_first p l (λ i j y z hy hz before. h (suc i) (suc j) y z hy hz (omega (arith, before))))))
    (λ t.
    let others : (i : ℕ) (y : A) → slice_get l i ≡ Some y → p y ≡ false =
    λ i y hy. decided (p y) (λ ty. absurd (true≢false (sym (h 0 (suc i) x y refl hy (zero-lt-suc i) ty) ∙ t))) (λ ty. ty) in
    rw (
      select_no p x l t,
      select_yes (λ y. not (p y)) x l (ap not t),
      select_none p l others,
      select_all (λ y. not (p y)) l (λ i y hy. ap not (others i y hy)),
    ) refl)

-- What stands in a selection stands in the list and passes, and what stands there and passes is selected.
pub select_keeps : {A : Type 0} (p : A → Bool) (l : List A) {x : A} → Member x l → p x ≡ true → Member x (select p l)
unfolding select
select_keeps p [] m t = absurd (Memᴰ.not-nil m)
select_keeps p (y ∷ l) {x} m t =
    decided (p y)
    (λ hy. rw (select_yes p y l hy) (⊎_elim here (λ k. there (select_keeps p l k t)) (Memᴰ.cases_cons m)))
    (λ hy. rw (select_no p y l hy)
    (⊎_elim (λ same. absurd (true≢false (sym t ∙ ap p same ∙ hy))) (λ k. select_keeps p l k t) (Memᴰ.cases_cons m)))

pub select_within : {A : Type 0} (p : A → Bool) (l : List A) {x : A} → Member x (select p l) → Member x l × (p x ≡ true)
unfolding select
select_within p [] m = absurd (Memᴰ.not-nil m)
select_within p (y ∷ l) {x} m =
    decided (p y)
    (λ hy. ⊎_elim
    (λ same. (here same, ap p same ∙ hy))
    (λ k. let r = select_within p l k in (there r.0, r.1))
    (Memᴰ.cases_cons (rw (select_yes p y l hy) at m)))
    (λ hy. let r = select_within p l (rw (select_no p y l hy) at m) in (there r.0, r.1))
