-- What the replay tells the drawing of arrows of each item, in a row of three numbers.
use Rattle.std.specs.Prelude.{ℕ, List, [], ◌∷◌, map, ltb, set}
use Rattle.model.specs.declared.Item.{Item}
use Rattle.model.specs.Limits.{max_items}
use Rattle.model.specs.Choice.{when}
use Rattle.model.specs.ItemKinds.{is_command_kind}
use Rattle.model.specs.Replay.{Event}
use Rattle.model.specs.Checks.{fill}
use Rattle.memory.specs.Tables.{Table, Size, zeros}
use Rattle.items.specs.Accesses.{access_number}

-- "Pops are not in program order": the rank of a command, and 0 for a pop.
abbrev pub command_rank : Item → ℕ
command_rank i = when (is_command_kind i.kind) (λ _. i.rank) (λ _. 0)

abbrev pub row : Item → (group access : ℕ) → List ℕ
row i group access = command_rank i ∷ group ∷ access ∷ []

abbrev pub trail_size : Size
trail_size = record { rows = max_items; width = 3 }

-- The trail with a row more, where there is room for it.
unfoldable pub told : Table → (at : ℕ) → Item → (group access : ℕ) → Table
told trail at i group access = when (ltb at max_items) (λ _. set trail at (row i group access)) (λ _. trail)

-- A row for each event; the other rows are 0.
abbrev pub row_of_event : Event → List ℕ
row_of_event e = row e.item e.group (access_number e.access)

abbrev pub trail_of : List Event → Table
trail_of events = fill (map row_of_event events) (zeros trail_size)
