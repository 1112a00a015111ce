-- Entries of an array with a number for each group.
use Rattle.std.specs.Prelude.{ℕ, List, ltb, get_or}
use Rattle.model.specs.Limits.{max_items}
use Rattle.model.specs.Choice.{when}

-- An entry; 0 outside the array.
unfoldable pub entry_at : List ℕ → (place : ℕ) → ℕ
entry_at l place = when (ltb place max_items) (λ _. get_or l place 0) (λ _. 0)
