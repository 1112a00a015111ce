-- Groups that stand rising, as a set selects them: the first into which no edge leads is the lowest, and one taken out leaves the set without it.
use Rattle.std.specs.Prelude.{Some, None}
use Prim.Native.Nat.{ℕ, zero, suc, ◌+◌, ◌≤◌, ◌<◌}
use mathlib.Core.Path.{◌≡◌, refl, sym, ap, ◌∙◌}
use mathlib.Core.Bool.{Bool, true, false, ◌&&◌, false≢true}
use mathlib.Core.List.{List, ◌∷◌}
use native.Mathlib.Omega.{arith}
use lib.Dec.{eqb}
use borrow.Author.Tests.{ne_eqb, eqb-true, eqb-false}
use Rattle.model.specs.Choice.{select, numbers_from}
use Rattle.model.specs.HappensBefore.{Edge}
use Rattle.model.specs.Orders.{first_free, without}
use Rattle.model.proofs.Laws.{decided}
use Rattle.model.proofs.Selections.{select_yes, select_no}
use Rattle.model.proofs.Lists.{numbers_from_bounds}
use Rattle.indexing.specs.Degrees.{in_degree}
use Rattle.placing.proofs.Selecting.{select_same}
use Rattle.placing.proofs.Degrees.{into_counted, but}

-- A group of the set into which no edge leads.
abbrev pub free : (left : ℕ → Bool) → List Edge → ℕ → Bool
free left edges g = left g && eqb (in_degree edges g) 0

module _ (left : ℕ → Bool) (edges : List Edge) where
  -- The first group of a list is passed over, or taken.
  first_passed : (g : ℕ) (rest : List ℕ) → free left edges g ≡ false →
      first_free edges (select left (g ∷ rest)) ≡ first_free edges (select left rest)
  unfolding first_free
  first_passed g rest h =
      decided (left g)
      (λ t.
      let counted : eqb (in_degree edges g) 0 ≡ false = rw t at h in
      rw (select_yes left g rest t, into_counted g edges, counted))
      (λ t. rw (select_no left g rest t))

  first_taken : (g : ℕ) (rest : List ℕ) → free left edges g ≡ true → first_free edges (select left (g ∷ rest)) ≡ Some g
  unfolding first_free
  first_taken g rest h =
      decided (left g)
      (λ t.
      let counted : eqb (in_degree edges g) 0 ≡ true = rw t at h in
      rw (select_yes left g rest t, into_counted g edges, counted))
      (λ t. absurd (false≢true (rw t at h)))

  -- None of the numbers is free.
  pub first_none : (first count : ℕ) → ((g : ℕ) → first ≤ g → g < first + count → free left edges g ≡ false) →
      first_free edges (select left (numbers_from first count)) ≡ None
  unfolding numbers_from select first_free
  first_none first zero h = refl
  first_none first (suc count) h =
      first_passed first (numbers_from (first + 1) count) (h first (omega arith) (omega arith))
      ∙ first_none (first + 1) count (λ g p q. h g (omega (arith, p)) (omega (arith, q)))

  -- The lowest that is free is the first.
  pub first_lowest : (first count g : ℕ) → first ≤ g → g < first + count → free left edges g ≡ true →
      ((h : ℕ) → h < g → free left edges h ≡ false) → first_free edges (select left (numbers_from first count)) ≡ Some g
  unfolding numbers_from
  first_lowest first zero g p q is least = absurd (omega arith)
  first_lowest first (suc count) g p q is least =
      decided (eqb first g)
      (λ t.
      let e : first ≡ g = eqb-true first g t in
      first_taken first (numbers_from (first + 1) count) (ap (free left edges) e ∙ is) ∙ ap Some e)
      (λ t.
      let ne : ¬ (first ≡ g) = eqb-false first g t in
      first_passed first (numbers_from (first + 1) count) (least first (omega arith))
      ∙ first_lowest (first + 1) count g (omega arith) (omega arith) is least)

-- One group taken out.
module _ (left : ℕ → Bool) (g : ℕ) where
  -- Numbers above it stay as they are.
  above : (first count : ℕ) → g < first → select left (numbers_from first count) ≡ select (but left g) (numbers_from first count)
  above first count h =
      select_same left (but left g) (numbers_from first count)
      (λ k m.
      let b = numbers_from_bounds first count k m in
      let ne : eqb k g ≡ false = ne_eqb k g (λ e. omega (arith, e, b.0, h)) in
      rw ne (sym (and_yes (left k))))
    where
      and_yes : (t : Bool) → (t && true) ≡ t
      and_yes true = refl
      and_yes false = refl

  pub without_but : (first count : ℕ) → without g (select left (numbers_from first count)) ≡ select (but left g) (numbers_from first count)
  unfolding numbers_from without select
  without_but first zero = refl
  without_but first (suc count) =
      decided (left first)
      (λ t. decided (eqb first g)
      (λ u. let e : first ≡ g = eqb-true first g u in rw (t, u) (above (first + 1) count (omega (arith, e))))
      (λ u. rw (t, u) (ap {B = List ℕ} (λ r. first ∷ r) (without_but (first + 1) count))))
      (λ t. rw t (without_but (first + 1) count))
