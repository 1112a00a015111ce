-- The way round: for each group the lowest next one that is an arrow nearer to the root, and the groups met by following them.
use Rattle.std.specs.Prelude.{ℕ, zero, suc, ◌+◌, ◌≤◌, ◌<◌, ◌≡◌, Bool, true, false, List, [], ◌∷◌}
use Rattle.model.specs.Limits.{max_items}
use Rattle.model.specs.HappensBefore.{Edge, ◌⟶◌}
use Rattle.model.specs.Lists.{◌∈◌}
use Rattle.indexing.specs.Entries.{entry_at}

-- h was met, and lies one arrow nearer than x.
abbrev pub Nearer : (D : ℕ → ℕ) → (x h : ℕ) → Type 0
Nearer D x h = (¬ (D h ≡ 0)) × (D x ≡ D h + 1)

pub record TellsNearer (distances : List ℕ) (from to : ℕ) (told : Bool) : Type 0 where
  pub yes : told ≡ true → Nearer (entry_at distances) from to
  pub no_nearer : told ≡ false → ¬ Nearer (entry_at distances) from to

-- For each group the lowest next one that lies nearer; a number that no group has, if there is none.
pub record Nexts (E : List Edge) (D N : ℕ → ℕ) : Type 0 where
  pub sound : (x : ℕ) → x < max_items → N x < max_items → (x ⟶ N x ∈ E) × Nearer D x (N x)
  pub lowest : (x h : ℕ) → x ⟶ h ∈ E → Nearer D x h → N x ≤ h

-- So many groups, each the next of the one before.
unfoldable pub followed : (turns at : ℕ) → (next : ℕ → ℕ) → List ℕ
followed zero at next = []
followed (suc turns) at next = at ∷ followed turns (next at) next
