-- The walk back. Where no group can be taken, an edge leads into each unplaced group, from an unplaced group; so the walk can always step back, and
-- since its groups are distinct and unplaced it meets one of them again before its turns run out. The walk goes along the edges, so its part up to
-- the group that is met again is closed. So wherever no group can be taken some walk closes, of no more groups than are left.
use Rattle.std.specs.Prelude.{Option, Some, None}
use Rattle.model.proofs.Options.{none-ne-some, some-injective}
use Prim.Native.Nat.{ℕ, zero, suc, ◌+◌, ◌<◌, min}
use mathlib.Core.Path.{◌≡◌, refl, sym, ap, ◌∙◌}
use mathlib.Core.Bool.{true, false≢true}
use mathlib.Core.List.Memᴰ
use mathlib.Core.List.{List, [], ◌∷◌, ◌++◌}
use mathlib.Core.Logic.{◌⊎◌, inl, inr, ⊎_elim}
use native.Mathlib.Nat.{min-eq_left, min-eq_right}
use native.Mathlib.Omega.{arith}
use lib.Dec.{eqb, leb}
use lib.ListN.{length}
use borrow.Author.Tests.{eqb-true, eqb-false, leb-true, leb-false}
use Rattle.model.specs.Choice.{when, member}
use Rattle.model.specs.HappensBefore.{Edge, ◌⟶◌}
use Rattle.model.specs.Orders.{has_edge_into, first_free}
use Rattle.model.specs.Rings.{lower}
use Rattle.model.specs.Lists.{◌∈◌, Distinct}
use Rattle.model.proofs.Laws.{decided}
use Rattle.model.proofs.Lists.{here, there, member_true, member_false, distinct_front, distinct_within}
use Rattle.ordering.proofs.Placing.{Within, none_free}
use Rattle.ordering.specs.Walks.{Along, Closed}
use Rattle.ordering.proofs.Walks.{along_front, closed_turns}

-- Of arrows that all come from unplaced groups, the lowest start of one that leads to g.
unfoldable pub predecessor : ℕ → List Edge → Option ℕ
unfolding lower
predecessor g [] = None
predecessor g (e ∷ edges) = when (eqb e.to g) (λ _. Some (lower e.from (predecessor g edges))) (λ _. predecessor g edges)

-- The list up to its first g, that one included.
unfoldable pub up_to_first : ℕ → List ℕ → List ℕ
up_to_first g [] = []
up_to_first g (h ∷ walk) = when (eqb h g) (λ _. h ∷ []) (λ _. h ∷ up_to_first g walk)

unfoldable pub step_back : (ℕ → List ℕ) → Option ℕ → List ℕ
step_back walk None = []
step_back walk (Some h) = walk h

-- Back each time to the lowest predecessor, until a group repeats; then the part between the repeats. The walk has its last group first, and each
-- group of it has an arrow to the one that it was reached from, so this order is along the arrows.
unfoldable pub walk_back : (turns : ℕ) → (walk : List ℕ) → (g : ℕ) → List Edge → List ℕ
unfolding member predecessor up_to_first step_back
walk_back zero walk g edges = []
walk_back (suc turns) walk g edges =
    when (member g walk) (λ _. up_to_first g walk) (λ _. step_back (λ h. walk_back turns (g ∷ walk) h edges) (predecessor g edges))

-- The smaller of two numbers is one of them.
pub min_either : (a b : ℕ) → (min a b ≡ a) ⊎ (min a b ≡ b)
min_either a b = decided (leb a b) (λ t. inl (min-eq_left (leb-true a b t))) (λ t. inr (min-eq_right (omega (arith, leb-false a b t))))

-- A predecessor has an edge to the group, and a group with an edge into it has one.
pub lower_either : (g : ℕ) (o : Option ℕ) → (lower g o ≡ g) ⊎ (o ≡ Some (lower g o))
unfolding lower
lower_either g None = inl refl
lower_either g (Some h) = ⊎_elim (λ e. inl e) (λ e. inr (ap Some (sym e))) (min_either g h)

pub predecessor_edge : (g : ℕ) (edges : List Edge) (h : ℕ) → predecessor g edges ≡ Some h → h ⟶ g ∈ edges
unfolding predecessor
predecessor_edge g [] h e = absurd (none-ne-some _ e)
predecessor_edge g (d ∷ edges) h e =
    decided (eqb d.to g)
    (λ t. let low : lower d.from (predecessor g edges) ≡ h = some-injective _ _ (rw t at e) in
    let to : d.to ≡ g = eqb-true d.to g t in
    ⊎_elim
    (λ q. let from : h ≡ d.from = sym low ∙ q in
    let same : ◌≡◌ {A = Edge} (h ⟶ g) d = rw (from, ← to) in
    here same)
    (λ q. there (predecessor_edge g edges h (q ∙ ap Some low)))
    (lower_either d.from (predecessor g edges)))
    (λ t. there (predecessor_edge g edges h (rw t at e)))

pub has_predecessor : (g : ℕ) (edges : List Edge) → has_edge_into g edges ≡ true → (h : ℕ) × (predecessor g edges ≡ Some h)
unfolding has_edge_into predecessor
has_predecessor g [] h = absurd (false≢true h)
has_predecessor g (d ∷ edges) h =
    decided (eqb d.to g) (λ t. (lower d.from (predecessor g edges), rw t)) (λ t. rw t (has_predecessor g edges (rw t at h)))

-- The walk up to a group that it has.
pub up_to_first_split : (g : ℕ) (walk : List ℕ) → g ∈ walk →
    (front : List ℕ) × (back : List ℕ) × (walk ≡ (front ++ g ∷ []) ++ back) × (up_to_first g walk ≡ front ++ g ∷ [])
unfolding up_to_first
up_to_first_split g [] m = absurd (Memᴰ.not-nil m)
up_to_first_split g (x ∷ walk) m =
    decided (eqb x g)
    (λ t. ([], walk, ap (λ (h : ℕ). h ∷ walk) (eqb-true x g t), rw t (ap (λ (h : ℕ). h ∷ []) (eqb-true x g t))))
    (λ t. let r = up_to_first_split g walk (⊎_elim (λ e. absurd (eqb-false x g t (sym e))) (λ k. k) (Memᴰ.cases_cons m)) in
    (x ∷ r.0, r.1, ap (λ (l : List ℕ). x ∷ l) r.2, rw t (ap (λ (l : List ℕ). x ∷ l) r.3)))

-- Distinct groups of a list, closed by edges.
pub record Circuit (groups : List ℕ) (edges : List Edge) (l : List ℕ) : Type 0 where
  pub closed : Closed edges l
  pub distinct : Distinct l
  pub within : (g : ℕ) → g ∈ l → g ∈ groups

-- The walk met g again.
met_again : (groups : List ℕ) (edges : List Edge) (walk : List ℕ) (g : ℕ) → Distinct walk → ((h : ℕ) → h ∈ walk → h ∈ groups) →
    Along edges g walk → g ∈ walk → Circuit groups edges (up_to_first g walk)
met_again groups edges walk g d w a m =
    let (front, back, split, part) = up_to_first_split g walk m in
    rw part (record {
      closed = closed_turns edges g front (along_front edges g (front ++ g ∷ []) back (rw split at a));
      distinct = distinct_front (front ++ g ∷ []) back (rw split at d);
      within = λ h k. w h (rw split (Memᴰ.append_left back k));
    })

-- Where no group can be taken the walk closes.
module _ (groups : List ℕ) (edges : List Edge) (between : Within groups edges) (stops : first_free edges groups ≡ None) where
  pub walk_closes : (turns : ℕ) (walk : List ℕ) (g : ℕ) → Distinct walk → ((h : ℕ) → h ∈ walk → h ∈ groups) → g ∈ groups → Along edges g walk →
      length groups < length walk + turns → Circuit groups edges (walk_back turns walk g edges)
  unfolding walk_back
  walk_closes zero walk g d w m a enough = absurd (omega (arith, distinct_within walk groups d w))
  walk_closes (suc turns) walk g d w m a enough =
      decided (member g walk)
      (λ t. rw t (met_again groups edges walk g d w a (member_true g walk t)))
      (λ t.
      let (h, e) = has_predecessor g edges (none_free edges groups stops g m) in
      let k : h ⟶ g ∈ edges = predecessor_edge g edges h e in
      rw (t, e)
      (walk_closes turns (g ∷ walk) h (member_false g walk t, d)
      (λ x n. ⊎_elim (λ q. Memᴰ.cast q m) (w x) (Memᴰ.cases_cons n))
      (between (h ⟶ g) k).0 (k, a) (omega arith)))
