-- How far the replay is after an item. Items and groups are counted up to what a record has.
use Rattle.std.specs.Prelude.{ℕ, ◌+◌, ltb}
use Rattle.model.specs.declared.Item.{Item}
use Rattle.model.specs.Limits.{max_items}
use Rattle.model.specs.Choice.{when}
use Rattle.model.specs.Replay.{joins_row, row_after}
use Rattle.items.specs.declared.rows.Progress.{Progress}

abbrev pub count_up : ℕ → ℕ
count_up n = when (ltb n max_items) (λ _. n + 1) (λ _. n)

unfoldable pub opened_next : (opened : ℕ) → Item → ℕ
unfolding joins_row
opened_next opened i = when (joins_row i) (λ _. opened) (λ _. count_up opened)

-- A pop leaves groups and rows as they are.
abbrev pub pop_progress : Progress → Progress
pop_progress p = record { at = count_up p.at; opened = p.opened; row = p.row }

abbrev pub command_progress : (ranks : ℕ) → Item → Progress → Progress
command_progress ranks i p = record { at = count_up p.at; opened = opened_next p.opened i; row = row_after ranks p.row i }
