-- What an order and a cycle of the groups are, said by places and apart from how they are found.
use Rattle.std.specs.Prelude.{ℕ, suc, ◌≤◌, ◌<◌, ◌≡◌, List, [], ◌∷◌, length, Some, slice_get}
use Rattle.model.specs.Lists.{◌∈◌, Distinct, Precedes}
use Rattle.model.specs.HappensBefore.{Edge, ◌⟶◌}
use Rattle.ordering.specs.Walks.{Closed}

-- Edges between groups below this number, none from a group to itself.
pub record Proper (groups : ℕ) (edges : List Edge) : Type 0 where
  pub below : (e : Edge) → e ∈ edges → (e.from < groups) × (e.to < groups)
  pub different : (e : Edge) → e ∈ edges → ¬ (e.from ≡ e.to)

-- Topological orders (document 01: the order): "a permutation of all groups in which every arrow goes forward".
pub record TopologicalOrder (groups : ℕ) (edges : List Edge) (l : List ℕ) : Type 0 where
  pub below : (g : ℕ) → g ∈ l → g < groups
  pub each : (g : ℕ) → g < groups → g ∈ l
  pub once : Distinct l
  pub count : length l ≡ groups
  pub forward : (e : Edge) → e ∈ edges → Precedes l e.from e.to

-- Cycles (document 01: the ring): "two or more groups, no repeat, each with an arrow to the next and the last to the first; listed from its lowest
-- number".
pub record Cycle (groups : ℕ) (edges : List Edge) (l : List ℕ) : Type 0 where
  pub two : 2 ≤ length l
  pub below : (g : ℕ) → g ∈ l → g < groups
  pub once : Distinct l
  pub next : (i g h : ℕ) → slice_get l i ≡ Some g → slice_get l (suc i) ≡ Some h → g ⟶ h ∈ edges
  pub back : (i g h : ℕ) → suc i ≡ length l → slice_get l i ≡ Some g → slice_get l 0 ≡ Some h → g ⟶ h ∈ edges
  pub lowest : (g h : ℕ) → slice_get l 0 ≡ Some g → h ∈ l → g ≤ h

-- l comes before m when they are compared place by place, or is m.
pub data ComesFirst : List ℕ → List ℕ → Type 0 where
  end : ComesFirst [] []
  less : {g h : ℕ} {l m : List ℕ} → g < h → ComesFirst (g ∷ l) (h ∷ m)
  equal : {g h : ℕ} {l m : List ℕ} → g ≡ h → ComesFirst l m → ComesFirst (g ∷ l) (h ∷ m)

-- The shortest ring (document 02, #111): a cycle, "with as few groups as any closed walk along arrows has"; and it "comes first" of all that close
-- with as few, from whichever of their groups they are listed, and so from their lowest.
pub record ShortestRing (groups : ℕ) (edges : List Edge) (l : List ℕ) : Type 0 where
  pub cycle : Cycle groups edges l
  pub fewest : (walk : List ℕ) → Closed edges walk → length l ≤ length walk
  pub first : (walk : List ℕ) → Closed edges walk → length walk ≡ length l → ComesFirst l walk
