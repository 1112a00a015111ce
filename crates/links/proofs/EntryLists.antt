-- Lists of entries: what holds of all of them, that none stands twice, and how the links run when a part of a list is exchanged.
use Prim.Native.Nat.{ℕ, ◌≤◌}
use mathlib.Core.Path.{◌≡◌, refl, sym, ap, ◌∙◌}
use mathlib.Core.Logic.{◌≢◌}
use mathlib.Core.List.{List, [], ◌∷◌, ◌++◌, map}
use native.Mathlib.Omega.{arith}
use lib.ListN.{length}
use Rattle.model.specs.Choice.{numbers_from}
use Rattle.model.specs.Lists.{◌∈◌, Distinct}
use Rattle.model.proofs.Lists.{here, there, distinct_within, numbers_from_length, in_numbers_from}
use Rattle.memory.specs.Tables.{Row}
use Rattle.links.specs.Chains.{first, last_or, All, Once, Run}

-- What holds of all entries.
module _ (P : ℕ → Type 0) where
  pub all_append : (xs ys : List ℕ) → All P xs → All P ys → All P (xs ++ ys)
  all_append [] ys p q = q
  all_append (a ∷ xs) ys (h, p) q = (h, all_append xs ys p q)

  pub all_left : (xs ys : List ℕ) → All P (xs ++ ys) → All P xs
  all_left [] ys p = tt
  all_left (a ∷ xs) ys (h, p) = (h, all_left xs ys p)

  pub all_right : (xs ys : List ℕ) → All P (xs ++ ys) → All P ys
  all_right [] ys p = p
  all_right (a ∷ xs) ys (h, p) = all_right xs ys p

  -- All but the one in the middle.
  pub all_but : (xs : List ℕ) (e : ℕ) (ys : List ℕ) → All P (xs ++ e ∷ ys) → All P (xs ++ ys)
  all_but xs e ys p = all_append xs ys (all_left xs (e ∷ ys) p) (all_right xs (e ∷ ys) p).1

  pub all_middle : (xs : List ℕ) (e : ℕ) (ys : List ℕ) → All P (xs ++ e ∷ ys) → P e
  all_middle xs e ys p = (all_right xs (e ∷ ys) p).0

  pub all_last : (none : ℕ) (xs : List ℕ) → P none → All P xs → P (last_or none xs)
  all_last none [] h p = h
  all_last none (a ∷ xs) h (q, p) = all_last a xs q p

  pub all_map : (Q : ℕ → Type 0) → ((e : ℕ) → P e → Q e) → (es : List ℕ) → All P es → All Q es
  all_map Q f [] p = tt
  all_map Q f (e ∷ es) (h, p) = (f e h, all_map Q f es p)

-- Two facts of all entries give a third.
pub all_both : (P Q R : ℕ → Type 0) → ((e : ℕ) → P e → Q e → R e) → (es : List ℕ) → All P es → All Q es → All R es
all_both P Q R f [] p q = tt
all_both P Q R f (e ∷ es) (h, p) (k, q) = (f e h k, all_both P Q R f es p q)

-- What holds of every number holds of all entries.
pub all_of : (P : ℕ → Type 0) → ((e : ℕ) → P e) → (es : List ℕ) → All P es
all_of P f [] = tt
all_of P f (e ∷ es) = (f e, all_of P f es)

-- The entry in the middle of a list without repeats is no other one, and the list without it has no repeats.
pub once_apart : (xs : List ℕ) (e : ℕ) (ys : List ℕ) → Once (xs ++ e ∷ ys) → All (λ x. x ≢ e) (xs ++ ys)
once_apart [] e ys (h, o) = h
once_apart (a ∷ xs) e ys (h, o) =
    ((λ p. all_middle (λ x. x ≢ a) xs e ys h (sym p)), once_apart xs e ys o)

pub once_but : (xs : List ℕ) (e : ℕ) (ys : List ℕ) → Once (xs ++ e ∷ ys) → Once (xs ++ ys)
once_but [] e ys (h, o) = o
once_but (a ∷ xs) e ys (h, o) = (all_but (λ x. x ≢ a) xs e ys h, once_but xs e ys o)

pub once_left : (xs ys : List ℕ) → Once (xs ++ ys) → Once xs
once_left [] ys o = tt
once_left (a ∷ xs) ys (h, o) = (all_left (λ x. x ≢ a) xs ys h, once_left xs ys o)

-- An entry that a list does not have may join it.
pub once_more : (es : List ℕ) (e : ℕ) → Once es → All (λ x. x ≢ e) es → Once (es ++ e ∷ [])
once_more [] e o free = (tt, tt)
once_more (x ∷ es) e (h, o) (n, free) =
    (all_append (λ y. y ≢ x) es (e ∷ []) h ((λ p. n (sym p)), tt), once_more es e o free)

-- The last of two lists.
pub last_append : (none : ℕ) (xs ys : List ℕ) → last_or none (xs ++ ys) ≡ last_or (last_or none xs) ys
last_append none [] ys = refl
last_append none (a ∷ xs) ys = last_append a xs ys

-- Links that stay keep a run.
pub run_kept : (next next' : ℕ → ℕ) (es : List ℕ) → All (λ e. next' e ≡ next e) es → Run next es → Run next' es
run_kept next next' [] same r = tt
run_kept next next' (e ∷ es) (s, same) (h, r) = (s ∙ h, run_kept next next' es same r)

pub run_right : (next : ℕ → ℕ) (xs ys : List ℕ) → Run next (xs ++ ys) → Run next ys
run_right next [] ys r = r
run_right next (a ∷ xs) ys (h, r) = run_right next xs ys r

-- Behind the first entries another list may follow: the last of them links to its first, and their other links stay.
pub run_exchanged : (next next' : ℕ → ℕ) (xs old more : List ℕ) → Once xs → Run next (xs ++ old) →
    All (λ x. x ≢ last_or 0 xs → next' x ≡ next x) xs → All (λ x. x ≡ last_or 0 xs → next' x ≡ first more) xs →
    Run next' more → Run next' (xs ++ more)
run_exchanged next next' [] old more o r kept new rest = rest
run_exchanged next next' (x ∷ []) old more o r kept (new, _) rest = (new refl, rest)
run_exchanged next next' (x ∷ y ∷ xs) old more (apart, o) (h, r) (k, kept) (_, new) rest = (
  k (λ p. all_last (λ z. z ≢ x) y xs apart.0 apart.1 (sym p)) ∙ h,
  run_exchanged next next' (y ∷ xs) old more o r kept new rest,
)

-- Two functions that agree on all entries give the same list.
pub map_same : {A : Type 0} (f g : ℕ → A) (es : List ℕ) → All (λ e. f e ≡ g e) es → map f es ≡ map g es
map_same f g [] p = refl
map_same {A} f g (e ∷ es) (h, p) = rw h (ap {B = List A} (λ l. g e ∷ l) (map_same f g es p))

-- In a list without repeats the later entries are none of the earlier ones.
pub once_across : (xs ys : List ℕ) → Once (xs ++ ys) → All (λ x. All (λ y. y ≢ x) ys) xs
once_across [] ys o = tt
once_across (x ∷ xs) ys (h, o) = (all_right (λ y. y ≢ x) xs ys h, once_across xs ys o)

-- What holds of all entries holds of one that stands there; so without repeats they are distinct, and no more than there are rows.
all_at : (P : ℕ → Type 0) (es : List ℕ) → All P es → {x : ℕ} → x ∈ es → P x
all_at P [] _ m = elim m [ ]
all_at P (e ∷ es) (h, all) (here same) = rw same h
all_at P (e ∷ es) (h, all) (there m) = all_at P es all m

once_distinct : (es : List ℕ) → Once es → Distinct es
once_distinct [] once = tt
once_distinct (e ∷ es) (apart, once) = ((λ m. all_at (λ x. x ≢ e) es apart m refl), once_distinct es once)

pub once_few : (rows : ℕ) (es : List ℕ) → Once es → All (Row rows) es → length es ≤ rows
once_few rows es once named =
    let within : (g : ℕ) → g ∈ es → g ∈ numbers_from 1 rows =
    λ g m. let row = all_at (Row rows) es named m in in_numbers_from 1 rows g row.first (omega (arith, row.last)) in
    omega (arith, distinct_within es (numbers_from 1 rows) (once_distinct es once) within, numbers_from_length 1 rows)
