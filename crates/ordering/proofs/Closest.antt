-- The group from which the fewest arrows lead back to it. What the search among a list of groups tells is put together from what it tells of the
-- first, which is the lowest, and of the rest.
use Rattle.std.specs.Prelude.{Option, Some, None}
use Prim.Native.Nat.{ℕ, ◌≤◌, ◌<◌}
use mathlib.Core.Path.{refl, sym, subst}
use mathlib.Core.List.Memᴰ
use mathlib.Core.List.{List, [], ◌∷◌}
use mathlib.Core.Logic.{⊎_elim}
use native.Mathlib.Omega.{arith}
use lib.Dec.{leb}
use borrow.Author.Tests.{leb-true, leb-false}
use Rattle.model.specs.HappensBefore.{Edge}
use Rattle.model.specs.Rings.{Closing, nearer, closest}
use Rattle.model.specs.Lists.{◌∈◌, Rising}
use Rattle.model.proofs.Laws.{decided}
use Rattle.model.proofs.Lists.{here, there}
use Rattle.ordering.specs.Walks.{Walk}
use Rattle.ordering.proofs.Lengths.{Fewest, unled, led, fewest_is}

-- So many arrows lead back to one of these groups, from none of them do fewer lead back, and no lower one has as few.
pub record Closest (groups : List ℕ) (edges : List Edge) (c : Closing) : Type 0 where
  pub inside : c.group ∈ groups
  pub one : 1 ≤ c.arrows
  pub walk : Walk edges c.arrows c.group c.group
  pub least : (x m : ℕ) → x ∈ groups → 1 ≤ m → Walk edges m x x → c.arrows ≤ m
  pub lowest : (x : ℕ) → x ∈ groups → Walk edges c.arrows x x → c.group ≤ x

-- What a search among these groups tells.
pub data Search (most : ℕ) (groups : List ℕ) (edges : List Edge) : Option Closing → Type 0 where
  nowhere : ((x m : ℕ) → x ∈ groups → 1 ≤ m → m ≤ most → ¬ Walk edges m x x) → Search most groups edges None
  somewhere : (c : Closing) → c.arrows ≤ most → Closest groups edges c → Search most groups edges (Some c)

module _ (most g : ℕ) (groups : List ℕ) (edges : List Edge) (lower : (x : ℕ) → x ∈ groups → g < x) where
  -- A walk that closes at one of the list closes at g or at one of the rest.
  by_place_lem : {P : ℕ → Type 0} (m : ℕ) → (Walk edges m g g → P g) → ((x : ℕ) → x ∈ groups → Walk edges m x x → P x) →
      (x : ℕ) → x ∈ g ∷ groups → Walk edges m x x → P x
  by_place_lem {P} m first rest x k w =
      ⊎_elim
      (λ s. subst P (sym s) (first (subst (λ (y : ℕ). Walk edges m y y) s w)))
      (λ n. rest x n w)
      (Memᴰ.cases_cons k)

  nearer_is : {o : Option ℕ} {later : Option Closing} → Fewest edges 1 most g g o → Search most groups edges later →
      Search most (g ∷ groups) edges (nearer g o later)
  unfolding nearer
  nearer_is (unled nothing) (nowhere none_later) =
      nowhere (λ x m k low high. by_place_lem {P = λ y. ⊥} m (nothing m low high) (λ y n. none_later y m n low high) x k)
  nearer_is (unled nothing) (somewhere c few is) =
      somewhere c few (record {
        inside = there is.inside;
        one = is.one;
        walk = is.walk;
        least = λ x m k low. by_place_lem {P = λ y. c.arrows ≤ m} m
            (λ w. decided (leb m most) (λ t. absurd (nothing m low (leb-true m most t) w)) (λ t. omega (arith, leb-false m most t, few)))
            (λ y n. is.least y m n low) x k;
        lowest = by_place_lem {P = λ y. c.group ≤ y} c.arrows (λ w. absurd (nothing c.arrows is.one few w)) is.lowest;
      })
  nearer_is (led n low few w least) (nowhere none_later) =
      somewhere (record { group = g; arrows = n }) few (record {
        inside = here refl;
        one = low;
        walk = w;
        least = λ x m k low'. by_place_lem {P = λ y. n ≤ m} m (least m low')
            (λ y j v. decided (leb m most) (λ t. absurd (none_later y m j low' (leb-true m most t) v)) (λ t. omega (arith, leb-false m most t, few))) x k;
        lowest = by_place_lem {P = λ y. g ≤ y} n (λ v. omega arith) (λ y j v. omega (arith, lower y j));
      })
  nearer_is (led n low few w least) (somewhere c few' is) =
      decided (leb n c.arrows)
      (λ t. rw t
      (somewhere (record { group = g; arrows = n }) few (record {
        inside = here refl;
        one = low;
        walk = w;
        least = λ x m k low'. by_place_lem {P = λ y. n ≤ m} m (least m low')
            (λ y j v. omega (arith, leb-true n c.arrows t, is.least y m j low' v)) x k;
        lowest = by_place_lem {P = λ y. g ≤ y} n (λ v. omega arith) (λ y j v. omega (arith, lower y j));
      })))
      (λ t. rw t
      (somewhere c few' (record {
        inside = there is.inside;
        one = is.one;
        walk = is.walk;
        least = λ x m k low'. by_place_lem {P = λ y. c.arrows ≤ m} m (λ v. omega (arith, leb-false n c.arrows t, least m low' v))
            (λ y j. is.least y m j low') x k;
        lowest = by_place_lem {P = λ y. c.group ≤ y} c.arrows
            (λ v. absurd (omega (arith, leb-false n c.arrows t, least c.arrows is.one v))) is.lowest;
      })))

-- Of groups that rise.
pub closest_is : (most : ℕ) (groups : List ℕ) (edges : List Edge) → Rising groups → Search most groups edges (closest most groups edges)
unfolding closest
closest_is most [] edges r = nowhere (λ x m k low high w. Memᴰ.not-nil k)
closest_is most (g ∷ groups) edges r =
    nearer_is most g groups edges r.0 (fewest_is edges most g g) (closest_is most groups edges r.1)
