-- Walks along the edges, as lists of groups. A closed walk has an edge from each place to the next and from the last to the first, and can be begun
-- at any of its groups. Whatever holds along every edge and can be chained holds all the way round: so a strict order of the groups leaves no closed
-- walk.
use Rattle.std.specs.Prelude.{Some, slice_get}
use Rattle.model.proofs.Options.{none-ne-some, some-injective}
use Prim.Native.Nat.{ℕ, zero, suc, ◌≤◌}
use mathlib.Core.Path.{◌≡◌, refl, sym}
use mathlib.Core.List.Memᴰ
use mathlib.Core.List.{List, [], ◌∷◌, ◌++◌}
use mathlib.Core.Logic.{⊎_elim}
use native.Mathlib.Omega.{arith}
use lib.ListN.{length}
use Rattle.model.specs.HappensBefore.{Edge, ◌⟶◌}
use Rattle.model.specs.Lists.{◌∈◌}
use Rattle.model.proofs.Lists.{here}
use Rattle.ordering.specs.Walks.{Along, Closed}

-- Along more edges; the front of a walk; one step more at its end.
pub along_more : {edges more : List Edge} → ((e : Edge) → e ∈ edges → e ∈ more) → (g : ℕ) (l : List ℕ) → Along edges g l → Along more g l
along_more up g [] a = tt
along_more up g (h ∷ l) a = (up (g ⟶ h) a.0, along_more up h l a.1)

pub along_front : (edges : List Edge) (g : ℕ) (l m : List ℕ) → Along edges g (l ++ m) → Along edges g l
along_front edges g [] m a = tt
along_front edges g (h ∷ l) m a = (a.0, along_front edges h l m a.1)

pub along_last : (edges : List Edge) (g : ℕ) (l : List ℕ) {x y : ℕ} → Along edges g (l ++ x ∷ []) → x ⟶ y ∈ edges →
    Along edges g ((l ++ x ∷ []) ++ y ∷ [])
along_last edges g [] a m = (a.0, (m, tt))
along_last edges g (h ∷ l) a m = (a.0, along_last edges h l a.1 m)

-- A closed walk stays closed if its first group is moved to its end.
pub closed_turns : (edges : List Edge) (g : ℕ) (l : List ℕ) → Closed edges (g ∷ l) → Closed edges (l ++ g ∷ [])
closed_turns edges g [] c = c
closed_turns edges g (h ∷ l) c = along_last edges h l c.1 c.0

pub closed_more : {edges more : List Edge} → ((e : Edge) → e ∈ edges → e ∈ more) → (l : List ℕ) → Closed edges l → Closed more l
closed_more up [] c = absurd c
closed_more up (g ∷ l) c = along_more up g (l ++ g ∷ []) c

-- Along the edges, from each place to the next; and to the end from the place before it.
pub along_next : (edges : List Edge) (g : ℕ) (l : List ℕ) → Along edges g l → (i : ℕ) {a b : ℕ} →
    slice_get (g ∷ l) i ≡ Some a → slice_get l i ≡ Some b → a ⟶ b ∈ edges
along_next edges g [] w i p q = absurd (none-ne-some _ q)
along_next edges g (h ∷ l) w zero p q = rw (sym (some-injective _ _ p), sym (some-injective _ _ q)) w.0
along_next edges g (h ∷ l) w (suc i) p q = along_next edges h l w.1 i p q

pub along_end : (edges : List Edge) (g : ℕ) (l : List ℕ) (x : ℕ) → Along edges g (l ++ x ∷ []) → (i : ℕ) {a : ℕ} → i ≡ length l →
    slice_get (g ∷ l) i ≡ Some a → a ⟶ x ∈ edges
along_end edges g [] x w zero e p = rw (sym (some-injective _ _ p)) w.0
along_end edges g [] x w (suc i) e p = absurd (omega arith)
along_end edges g (h ∷ l) x w zero e p = absurd (omega arith)
along_end edges g (h ∷ l) x w (suc i) e p = along_end edges h l x w.1 i (omega arith) p

pub closed_next : (edges : List Edge) (l : List ℕ) → Closed edges l → (i : ℕ) {a b : ℕ} → slice_get l i ≡ Some a → slice_get l (suc i) ≡ Some b →
    a ⟶ b ∈ edges
closed_next edges [] c i p q = absurd c
closed_next edges (g ∷ l) c i p q = along_next edges g l (along_front edges g l (g ∷ []) c) i p q

pub closed_back : (edges : List Edge) (l : List ℕ) → Closed edges l → (i : ℕ) {a b : ℕ} → suc i ≡ length l → slice_get l i ≡ Some a →
    slice_get l 0 ≡ Some b → a ⟶ b ∈ edges
closed_back edges [] c i e p q = absurd c
closed_back edges (g ∷ l) c i e p q = rw (sym (some-injective _ _ q)) (along_end edges g l g c i (omega arith) p)

-- A closed walk has at least two groups, if no edge leads from a group to itself.
pub closed_two : (edges : List Edge) → ((e : Edge) → e ∈ edges → ¬ (e.from ≡ e.to)) → (l : List ℕ) → Closed edges l → 2 ≤ length l
closed_two edges different [] c = absurd c
closed_two edges different (g ∷ []) c = absurd (different (g ⟶ g) c.0 refl)
closed_two edges different (g ∷ h ∷ l) c = omega arith

-- A transitive relation that each edge is in holds all along a walk; if nothing is in it with itself, no walk closes.
module _ (edges : List Edge) (R : ℕ → ℕ → Type 0) (chains : (g k h : ℕ) → R g k → R k h → R g h)
    (holds : (e : Edge) → e ∈ edges → R e.from e.to) where
  pub along_relates : (g : ℕ) (l : List ℕ) → Along edges g l → (h : ℕ) → h ∈ l → R g h
  along_relates g [] w h m = absurd (Memᴰ.not-nil m)
  along_relates g (x ∷ l) w h m =
      let first : R g x = holds (g ⟶ x) w.0 in
      ⊎_elim (λ e. rw e first) (λ k. chains g x h first (along_relates x l w.1 h k)) (Memᴰ.cases_cons m)

  pub not_closed : ((g : ℕ) → ¬ R g g) → (l : List ℕ) → ¬ Closed edges l
  not_closed irreflexive [] c = c
  not_closed irreflexive (g ∷ l) c = irreflexive g (along_relates g (l ++ g ∷ []) c g (Memᴰ.append_right l (here refl)))
