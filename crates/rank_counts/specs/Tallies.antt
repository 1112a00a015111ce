-- How many command items each rank has, by what the replay tells of each item.
use Rattle.std.specs.Prelude.{ℕ, min, List, [], map, eqb, length, get_or}
use Rattle.model.specs.Limits.{max_items}
use Rattle.model.specs.Choice.{select, numbers_from}
use Rattle.memory.specs.Tables.{Table}
use Rattle.memory.specs.Made.{by_rank}

-- The rank that a row of the trail tells: 0 if its item is no command.
abbrev pub rank_told : Table → (item : ℕ) → ℕ
rank_told trail item = get_or (get_or trail item []) 0 0

unfoldable pub ranks_told : (items : ℕ) → Table → List ℕ
ranks_told items trail = map (rank_told trail) (numbers_from 0 (min items max_items))

-- How often a rank stands in a list, and that of all ranks, "rank 1 first".
abbrev pub times_in : List ℕ → (rank : ℕ) → ℕ
times_in ranks rank = length (select (λ r. eqb r rank) ranks)

unfoldable pub tallied : List ℕ → List ℕ
tallied ranks = by_rank (times_in ranks)
