-- The first of the walks of n arrows from x to g. Its next group is the lowest from which the rest of the way can be gone, and any walk's next group
-- is one of those: so it comes before every other when they are compared place by place.
use Rattle.std.specs.Prelude.{Option, Some, None}
use Rattle.model.proofs.Options.{none-ne-some, some-injective}
use Prim.Native.Nat.{ℕ, zero, suc, ◌≤◌}
use mathlib.Core.Path.{◌≡◌, refl, sym, ap, ◌∙◌, subst}
use mathlib.Core.Bool.{◌&&◌, false≢true}
use mathlib.Core.List.Memᴰ
use mathlib.Core.List.{List, [], ◌∷◌, ◌++◌}
use mathlib.Core.Logic.{⊎_elim}
use native.Mathlib.Nat.{min-le_left, min-le_right}
use native.Mathlib.Omega.{arith}
use lib.Dec.{eqb, ltb}
use lib.ListN.{length}
use borrow.Author.Tests.{eqb-true, ltb-true, ltb-false, eq-eqb}
use Rattle.model.specs.Choice.{member}
use Rattle.model.specs.HappensBefore.{Edge, ◌⟶◌}
use Rattle.model.specs.Rings.{coming_to, lower, lowest_next, onward, first_walk}
use Rattle.model.specs.Lists.{◌∈◌}
use Rattle.model.proofs.Laws.{decided, and-true, true_and}
use Rattle.model.proofs.Lists.{here, there, member_true, member_false}
use Rattle.ordering.specs.Walks.{Along, Walk, step}
use Rattle.ordering.proofs.WalkBack.{lower_either}
use Rattle.ordering.proofs.Lengths.{along_walk, coming_walk, walk_coming}
use Rattle.ordering.specs.Orders.{ComesFirst, end, less, equal}

-- The lowest next group has the arrow and is one of the list; and one that has both is no lower.
lower_le : (g : ℕ) (o : Option ℕ) → lower g o ≤ g
unfolding lower
lower_le g None = omega arith
lower_le g (Some h) = min-le_left g h

lower_le_some : (g : ℕ) (o : Option ℕ) (h : ℕ) → o ≡ Some h → lower g o ≤ h
unfolding lower
lower_le_some g o h e = rw e (min-le_right g h)

pub next_sound : (g : ℕ) (layer : List ℕ) (edges : List Edge) (h : ℕ) → lowest_next g layer edges ≡ Some h → (g ⟶ h ∈ edges) × (h ∈ layer)
unfolding lowest_next
next_sound g layer [] h e = absurd (none-ne-some _ e)
next_sound g layer (d ∷ edges) h e =
    decided (eqb d.from g && member d.to layer)
    (λ t. let low : lower d.to (lowest_next g layer edges) ≡ h = some-injective _ _ (rw t at e) in
    let (from, in_layer) = and-true (eqb d.from g) (member d.to layer) t in
    ⊎_elim
    (λ q. let to : h ≡ d.to = sym low ∙ q in
    (here (rw (to, ← eqb-true d.from g from)), Memᴰ.cast to (member_true d.to layer in_layer)))
    (λ q. let r = next_sound g layer edges h (q ∙ ap Some low) in (there r.0, r.1))
    (lower_either d.to (lowest_next g layer edges)))
    (λ t. let r = next_sound g layer edges h (rw t at e) in (there r.0, r.1))

pub next_lowest : (g : ℕ) (layer : List ℕ) (edges : List Edge) {h : ℕ} → g ⟶ h ∈ edges → h ∈ layer →
    (x : ℕ) × (lowest_next g layer edges ≡ Some x) × (x ≤ h)
unfolding lowest_next
next_lowest g layer [] m k = absurd (Memᴰ.not-nil m)
next_lowest g layer (d ∷ edges) {h} m k =
    decided (eqb d.from g && member d.to layer)
    (λ t. (
      lower d.to (lowest_next g layer edges),
      rw t,
      ⊎_elim
          (λ s. omega (arith, lower_le d.to (lowest_next g layer edges), ap (λ (c : Edge). c.to) s))
          (λ n. let (x, r, le) = next_lowest g layer edges n k in omega (arith, lower_le_some d.to (lowest_next g layer edges) x r, le))
          (Memᴰ.cases_cons m),
    ))
    (λ t. ⊎_elim
    (λ s. absurd (false≢true (sym t ∙ true_and (eqb d.from g) (member d.to layer)
    (eq-eqb d.from g (ap (λ (c : Edge). c.from) (sym s)))
    (decided (member d.to layer) (λ u. u)
    (λ u. absurd (member_false d.to layer u (Memᴰ.cast (ap (λ (c : Edge). c.to) (sym s)) k)))))))
    (λ n. let (x, r, le) = next_lowest g layer edges n k in (x, rw t r, le))
    (Memᴰ.cases_cons m))

-- The first walk of suc n arrows from x to g: x, then a list along which the arrows go to g, of n groups, that comes before every other such list.
pub record FirstWalk (edges : List Edge) (n x g : ℕ) : Type 0 where
  pub rest : List ℕ
  pub is : first_walk (suc n) x g edges ≡ x ∷ rest
  pub long : length rest ≡ n
  pub along : Along edges x (rest ++ g ∷ [])
  pub before : (other : List ℕ) → length other ≡ n → Along edges x (other ++ g ∷ []) → ComesFirst rest other

one_group : (h g : ℕ) → h ∈ g ∷ [] → h ≡ g
one_group h g m = ⊎_elim (λ e. e) (λ k. absurd (Memᴰ.not-nil k)) (Memᴰ.cases_cons m)

pub first_walk_lem : (edges : List Edge) (n x g : ℕ) → Walk edges (suc n) x g → FirstWalk edges n x g
unfolding first_walk coming_to onward
first_walk_lem edges zero x g (step {h = h} a w) =
    let (low, is, le) = next_lowest x (g ∷ []) edges a (walk_coming edges w) in
    let (arrow, in_layer) = next_sound x (g ∷ []) edges low is in
    record {
      rest = [];
      is = rw is;
      long = refl;
      along = (Memᴰ.cast (ap (λ (y : ℕ). x ⟶ y) (sym (one_group low g in_layer))) arrow, tt);
      before = λ other None b. none_first other None;
    }
  where
    none_first : (other : List ℕ) → length other ≡ 0 → ComesFirst [] other
    none_first [] e = end
    none_first (y ∷ other) e = absurd (omega arith)
first_walk_lem edges (suc n) x g (step {h = h} a w) =
    let (low, is, le) = next_lowest x (coming_to (suc n) g edges) edges a (walk_coming edges w) in
    let (arrow, in_layer) = next_sound x (coming_to (suc n) g edges) edges low is in
    let onwards = first_walk_lem edges n low g (coming_walk (suc n) g edges in_layer) in
    record {
      rest = low ∷ onwards.rest;
      is = rw is (ap (λ (l : List ℕ). x ∷ l) onwards.is);
      long = ap suc onwards.long;
      along = (arrow, onwards.along);
      before = λ other long b. then_first low is onwards other long b;
    }
  where
    then_first : (low : ℕ) → lowest_next x (coming_to (suc n) g edges) edges ≡ Some low → (r : FirstWalk edges n low g) → (other : List ℕ) →
        length other ≡ suc n → Along edges x (other ++ g ∷ []) → ComesFirst (low ∷ r.rest) other
    then_first low is r [] e b = absurd (omega arith)
    then_first low is r (y ∷ other) e b =
        let long : length other ≡ n = omega arith in
        let way : Walk edges (suc n) y g = subst (λ (k : ℕ). Walk edges (suc k) y g) long (along_walk edges y g other b.1) in
        let (low', is', le) = next_lowest x (coming_to (suc n) g edges) edges b.0 (walk_coming edges way) in
        let same : low ≡ low' = some-injective _ _ (sym is ∙ is') in
        decided (ltb low y)
        (λ t. less (ltb-true low y t))
        (λ t. let e : low ≡ y = omega (arith, ltb-false low y t, le, same) in equal e (r.before other long (rw e b.1)))
