-- To follow the lowest next groups from the root is to go the first walk. A group from which the arrows that are left lead to the root, behind an arrow
-- of the way, lies just so far: were it nearer, a shorter walk would close. So the lowest next group by distance is the lowest by walks.
use Rattle.std.specs.Prelude.{Option, Some, None}
use Rattle.model.proofs.Options.{some-injective}
use Prim.Native.Nat.{ℕ, zero, suc, ◌+◌, ◌-◌, ◌≤◌, ◌<◌}
use mathlib.Core.Path.{◌≡◌, refl, sym, ap, ◌∙◌, subst}
use mathlib.Core.List.{List, [], ◌∷◌}
use native.Mathlib.Omega.{arith}
use lib.Dec.{eqb, ltb}
use borrow.Author.Tests.{eqb-true, eqb-false, ltb-true, ltb-false}
use Rattle.model.specs.Limits.{max_items}
use Rattle.model.specs.HappensBefore.{Edge, ◌⟶◌}
use Rattle.model.specs.Rings.{coming_to, lowest_next, onward, first_walk}
use Rattle.model.specs.Lists.{◌∈◌}
use Rattle.model.proofs.Laws.{decided}
use Rattle.ordering.specs.Walks.{Walk, step}
use Rattle.ordering.proofs.Lengths.{coming_walk, walk_coming}
use Rattle.ordering.proofs.FirstWalks.{next_sound, next_lowest}
use Rattle.rings.specs.Searches.{Distances}
use Rattle.rings.specs.Nexts.{Nexts, followed}

nothing_on : (o : Option ℕ) → onward (λ k. []) o ≡ []
unfolding onward
nothing_on None = refl
nothing_on (Some h) = refl

module _ (E : List Edge) (below : (x h : ℕ) → x ⟶ h ∈ E → (x < max_items) × (h < max_items)) (root n : ℕ)
    (round : Walk E (suc n) root root) (least : (m : ℕ) → 1 ≤ m → Walk E m root root → suc n ≤ m)
    (D D' N : ℕ → ℕ) (far : Distances E root (suc n) D) (D-root : D' root ≡ n + 2) (D-other : (x : ℕ) → ¬ (x ≡ root) → D' x ≡ D x)
    (nexts : Nexts E D' N) where
  -- From a group of the way the arrows that are left lead to the root.
  way : (m x : ℕ) → D' x ≡ m + 2 → Walk E (suc m) x root
  way m x d =
      decided (eqb x root)
      (λ t. let e : x ≡ root = eqb-true x root t in
      let same : n ≡ m = omega (arith, D-root, ap D' e, d) in
      subst (λ (y : ℕ). Walk E (suc m) y root) (sym e) (subst (λ (k : ℕ). Walk E (suc k) root root) same round))
      (λ t. let o = D-other x (eqb-false x root t) in
      let k : D x - 1 ≡ suc m = omega (arith, o, d) in
      subst (λ (j : ℕ). Walk E j x root) k (far.sound x (λ z. omega (arith, z, o, d))))

  not_root : (m h : ℕ) → suc m ≤ n → Walk E (suc m) h root → ¬ (h ≡ root)
  not_root m h few w e = omega (arith, few, least (suc m) (omega arith) (subst (λ (y : ℕ). Walk E (suc m) y root) e w))

  -- What lies behind an arrow of the way, with the arrows that are left, lies just so far.
  exact : (m x h : ℕ) → suc m ≤ n → D' x ≡ suc m + 2 → x ⟶ h ∈ E → Walk E (suc m) h root → D' h ≡ m + 2
  exact m x h few d a w =
      let o = D-other h (not_root m h few w) in
      let (n0, le) = far.complete (suc m) h (omega (arith, few)) w in
      let short : Walk E (suc (D h - 1)) x root = step a (far.sound h n0) in
      let j : suc (D h - 1) ≡ D h = omega (arith, n0) in
      let v : Walk E (D h) x root = subst (λ (k : ℕ). Walk E k x root) j short in
      decided (eqb x root)
      (λ t. let e : x ≡ root = eqb-true x root t in
      let back = least (D h) (omega (arith, n0)) (subst (λ (y : ℕ). Walk E (D h) y root) e v) in
      omega (arith, back, o, le, D-root, ap D' e, d))
      (λ t. let p = D-other x (eqb-false x root t) in
      decided (ltb (D h) (m + 2))
      (λ u. let (k, near) = far.complete (D h) x (omega (arith, few, ltb-true (D h) (m + 2) u)) v in
      absurd (omega (arith, near, p, d, ltb-true (D h) (m + 2) u)))
      (λ u. omega (arith, o, le, ltb-false (D h) (m + 2) u)))

  next_is : (m x : ℕ) → suc m ≤ n → D' x ≡ suc m + 2 → (lowest_next x (coming_to (suc m) root E) E ≡ Some (N x)) × (D' (N x) ≡ m + 2)
  next_is m x few d = found (way (suc m) x d)
    where
      found : Walk E (suc (suc m)) x root → (lowest_next x (coming_to (suc m) root E) E ≡ Some (N x)) × (D' (N x) ≡ m + 2)
      found (step {h = h} a w) =
          let (low, is, le) = next_lowest x (coming_to (suc m) root E) E a (walk_coming E w) in
          let (arrow, in_layer) = next_sound x (coming_to (suc m) root E) E low is in
          let lies : D' low ≡ m + 2 = exact m x low few d arrow (coming_walk (suc m) root E in_layer) in
          let under : N x ≤ low = nexts.lowest x low arrow ((λ z. omega (arith, z, lies)), omega (arith, lies, d)) in
          let (next, met_nearer) = nexts.sound x (below x low arrow).0 (omega (arith, under, (below x low arrow).1)) in
          let lies' : D' (N x) ≡ m + 2 = omega (arith, met_nearer.1, d) in
          let (low', is', le') = next_lowest x (coming_to (suc m) root E) E next (walk_coming E (way m (N x) lies')) in
          let one : low ≡ low' = some-injective _ _ (sym is ∙ is') in
          let same : low ≡ N x = omega (arith, under, le', one) in
          (is ∙ ap Some same, lies')

  follows : (m x : ℕ) → m ≤ n → D' x ≡ m + 2 → followed (suc m) x N ≡ first_walk (suc m) x root E
  unfolding followed first_walk onward
  follows zero x few d = ap (λ (l : List ℕ). x ∷ l) (sym (nothing_on (lowest_next x (coming_to 0 root E) E)))
  follows (suc m) x few d =
      let (is, lies) = next_is m x few d in
      rw is (ap (λ (l : List ℕ). x ∷ l) (follows m (N x) (omega (arith, few)) lies))

  pub followed_first : followed (suc n) root N ≡ first_walk (suc n) root root E
  followed_first = follows n root (omega arith) D-root
