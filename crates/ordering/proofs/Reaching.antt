-- Whether arrows lead from one group to another: some walk does exactly if one of no more arrows than there are groups does. A longer walk comes twice
-- through a group, and what lies between can be left out. So the fewest arrows from one group to another are found wherever any lead there.
use Rattle.std.specs.Prelude.{Option, Some, slice_get}
use Rattle.model.proofs.Options.{none-ne-some}
use Prim.Native.Nat.{ℕ, zero, suc, ◌+◌, ◌-◌, ◌<◌}
use mathlib.Core.Path.{◌≡◌, refl, ap, subst}
use mathlib.Core.List.Memᴰ
use mathlib.Core.List.{List, [], ◌∷◌, ◌++◌}
use mathlib.Core.Logic.{◌⊎◌, inl, inr, ⊎_elim, ◌↔◌}
use native.Mathlib.Omega.{arith}
use lib.ListN.{length}
use Rattle.model.specs.Choice.{member}
use Rattle.model.specs.HappensBefore.{Edge, ◌⟶◌}
use Rattle.model.specs.Rings.{fewest}
use Rattle.model.specs.Lists.{◌∈◌, Distinct}
use Rattle.model.proofs.Laws.{decided, slice_get_bound, slice_get_front}
use Rattle.model.proofs.Selections.{split_at}
use Rattle.model.proofs.Lists.{position, member_true, member_false, pigeonhole}
use Rattle.ordering.specs.Walks.{Along, Walk, stay, step}
use Rattle.ordering.specs.Orders.{Proper}
use Rattle.ordering.proofs.Lengths.{walk_join, walk_between, Fewest, unled, led, fewest_is}

-- A number that stands at two places of a list.
record Twice (l : List ℕ) : Type 0 where
  x : ℕ
  i : ℕ
  j : ℕ
  before : i < j
  first : slice_get l i ≡ Some x
  second : slice_get l j ≡ Some x

distinct_or_twice : (l : List ℕ) → Distinct l ⊎ Twice l
distinct_or_twice [] = inl tt
distinct_or_twice (x ∷ l) =
    decided (member x l)
    (λ t. let (j, p) = position (member_true x l t) in inr (record { x = x; i = 0; j = suc j; before = omega arith; first = refl; second = p }))
    (λ t. ⊎_elim
    (λ d. inl (member_false x l t, d))
    (λ w. inr (record { x = w.x; i = suc w.i; j = suc w.j; before = omega (arith, w.before); first = w.first; second = w.second }))
    (distinct_or_twice l))

-- A walk as a list: the groups behind its first.
walk_along : {edges : List Edge} {g h : ℕ} (m : ℕ) → Walk edges (suc m) g h → (l : List ℕ) × (length l ≡ m) × Along edges g (l ++ h ∷ [])
walk_along {edges} {g} {h} zero (step a (stay e)) = ([], refl, (subst (λ (k : ℕ). g ⟶ k ∈ edges) e a, tt))
walk_along (suc m) (step {h = k} a w) = let (l, long, b) = walk_along m w in (k ∷ l, ap suc long, (a, b))

module _ (groups : ℕ) (edges : List Edge) (proper : Proper groups edges) where
  -- The groups that a walk goes on from are below the number.
  along_below : (g : ℕ) (l : List ℕ) (h : ℕ) → Along edges g (l ++ h ∷ []) → (x : ℕ) → x ∈ g ∷ l → x < groups
  along_below g [] h a x m =
      ⊎_elim (λ e. omega (arith, e, (proper.below _ a.0).0)) (λ k. absurd (Memᴰ.not-nil k)) (Memᴰ.cases_cons m)
  along_below g (y ∷ l) h a x m =
      ⊎_elim (λ e. omega (arith, e, (proper.below _ a.0).0)) (λ k. along_below y l h a.1 x k) (Memᴰ.cases_cons m)

  -- A walk of no more arrows than there are groups.
  pub short_walk : (m g h : ℕ) → Walk edges (suc m) g h → (k : ℕ) × (k < groups) × Walk edges (suc k) g h
  short_walk m g h = go (suc m) m (omega arith)
    where
      go : (turns m : ℕ) → m < turns → Walk edges (suc m) g h → (k : ℕ) × (k < groups) × Walk edges (suc k) g h
      go zero m enough w = absurd (omega (arith, enough))
      go (suc turns) m enough w =
          let (l, long, a) = walk_along m w in
          ⊎_elim
          (λ d. (m, omega (arith, long, pigeonhole groups (g ∷ l) d (along_below g l h a)), w))
          (λ t. let late : t.j < suc m = omega (arith, slice_get_bound (g ∷ l) t.j t.second, long) in
          let to : Walk edges t.i g t.x =
          walk_between edges g (l ++ h ∷ []) a 0 t.i t.i refl (slice_get_front (g ∷ l) (h ∷ []) t.i t.first) (omega arith) in
          let ends : slice_get (g ∷ (l ++ h ∷ [])) (suc m) ≡ Some h =
          subst (λ (k : ℕ). slice_get (l ++ h ∷ []) k ≡ Some h) long (split_at l h []) in
          let on : Walk edges (suc m - t.j) t.x h =
          walk_between edges g (l ++ h ∷ []) a t.j (suc m) (suc m - t.j) (slice_get_front (g ∷ l) (h ∷ []) t.j t.second) ends (omega (arith, late)) in
          let fewer : t.i + (suc m - t.j) ≡ suc (t.i + (m - t.j)) = omega (arith, late) in
          go turns (t.i + (m - t.j)) (omega (arith, late, t.before, enough))
          (subst (λ (k : ℕ). Walk edges k g h) fewer (walk_join to on)))
          (distinct_or_twice (g ∷ l))

  -- The fewest arrows from one group to another are found exactly if any lead there.
  pub led_exactly : (g h : ℕ) → ((n : ℕ) × (fewest groups g h edges ≡ Some n)) ↔ ((m : ℕ) × Walk edges (suc m) g h)
  led_exactly g h = (found (fewest_is edges groups g h), λ (m, w). exists (fewest_is edges groups g h) (short_walk m g h w))
    where
      found : {o : Option ℕ} → Fewest edges 1 groups g h o → ((n : ℕ) × (o ≡ Some n)) → (m : ℕ) × Walk edges (suc m) g h
      found (unled nothing) (n, e) = absurd (none-ne-some _ e)
      found (led n low high w least) e =
          let one : n ≡ suc (n - 1) = omega (arith, low) in (n - 1, subst (λ (k : ℕ). Walk edges k g h) one w)

      exists : {o : Option ℕ} → Fewest edges 1 groups g h o → ((k : ℕ) × (k < groups) × Walk edges (suc k) g h) → (n : ℕ) × (o ≡ Some n)
      exists (unled nothing) (k, b, w) = absurd (nothing (suc k) (omega arith) (omega (arith, b)) w)
      exists (led n low high w least) k = (n, refl)
