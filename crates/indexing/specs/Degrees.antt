-- A number for each group, and how many arrows lead into each.
use Rattle.std.specs.Prelude.{ℕ, List, map, eqb, length}
use Rattle.model.specs.Limits.{max_items}
use Rattle.model.specs.Choice.{select, numbers_from}
use Rattle.model.specs.HappensBefore.{Edge}

-- A number for each group.
abbrev pub by_group : (ℕ → ℕ) → List ℕ
by_group f = map f (numbers_from 0 max_items)

-- How many arrows lead into a group.
unfoldable pub in_degree : List Edge → (group : ℕ) → ℕ
unfolding select
in_degree edges g = length (select (λ e. eqb e.to g) edges)

abbrev pub in_degrees : List Edge → List ℕ
in_degrees edges = by_group (in_degree edges)
