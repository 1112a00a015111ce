-- What the search for a ring answers, by the definition's `ring`.
use Rattle.std.specs.Prelude.{ℕ, Bool, not, ◌&&◌, List, eqb, length, get_or}
use Rattle.model.specs.Choice.{select, numbers_from}
use Rattle.model.specs.HappensBefore.{Edge}
use Rattle.model.specs.Rings.{ring}
use Rattle.graph.specs.Edges.{group_list, among}
use Rattle.rings.specs.declared.Found.{Found}

-- A group that waits for others: where nothing can be placed, the unplaced ones.
abbrev pub waits : (waiting : List ℕ) → (group : ℕ) → Bool
waits waiting g = not (eqb (get_or waiting g 0) 0)

-- The ring of the groups that wait, along the arrows from such groups.
unfoldable pub ring_among : (groups : ℕ) → (waiting : List ℕ) → List Edge → List ℕ
unfolding select numbers_from ring
ring_among groups waiting edges = ring (select (waits waiting) (numbers_from 0 groups)) (select (λ e. waits waiting e.from) edges)

abbrev pub found_as : List ℕ → Found
found_as ring = record { count = length ring; ring = group_list ring }

abbrev pub edge : (from to : ℕ) → Edge
edge from to = record { from = from; to = to }

-- An arrow between groups, from one that waits.
unfoldable pub counts : (groups : ℕ) → (waiting : List ℕ) → Edge → Bool
counts groups waiting e = among groups e && waits waiting e.from

-- Of all arrows those that count.
abbrev pub counted : (groups : ℕ) → (waiting : List ℕ) → List Edge → List Edge
counted groups waiting edges = select (λ e. waits waiting e.from) (select (among groups) edges)
