-- Walks along the arrows: as lists of groups, and by how many arrows they have.
use Rattle.std.specs.Prelude.{ℕ, zero, suc, ◌+◌, ◌≡◌, List, [], ◌∷◌, ◌++◌}
use Rattle.model.specs.Lists.{◌∈◌}
use Rattle.model.specs.HappensBefore.{Edge, ◌⟶◌}

-- A walk: edges lead from g to the first of the list, and from each of the list to the next.
abbrev pub Along : List Edge → ℕ → List ℕ → Type 0
Along edges g [] = Unit {0}
Along edges g (h ∷ l) = (g ⟶ h ∈ edges) × Along edges h l

-- A closed walk: edges lead from each to the next, and from the last to the first. It has a member.
abbrev pub Closed : List Edge → List ℕ → Type 0
Closed edges [] = ⊥
Closed edges (g ∷ l) = Along edges g (l ++ g ∷ [])

-- n arrows, one after the other, from x to g.
pub data Walk (edges : List Edge) : ℕ → ℕ → ℕ → Type 0 where
  stay : {x g : ℕ} → x ≡ g → Walk edges zero x g
  step : {n x h g : ℕ} → x ⟶ h ∈ edges → Walk edges n h g → Walk edges (suc n) x g

-- n arrows from x to h by way of z.
pub record Passes (edges : List Edge) (n x z h : ℕ) : Type 0 where
  pub i : ℕ
  pub j : ℕ
  pub to : Walk edges i x z
  pub on : Walk edges j z h
  pub whole : i + j ≡ n
