-- The slip from one count for each rank that there may be, rank 1 first.
use Rattle.std.specs.Prelude.{ℕ, ◌+◌, ◌*◌, ◌/◌, ◌%◌, List, [], ◌∷◌, ◌++◌, ltb}
use Rattle.std.specs.Int.Count.{ones}
use Rattle.model.specs.Limits.{byte_ranks, byte_values}
use Rattle.model.specs.Choice.{when}
use Rattle.model.specs.Checks.{entry_bytes}
use Rattle.marking.specs.Marking.{map_of, values_of}

-- "the rank map takes two bytes if N is above 8 and one otherwise"
abbrev pub map_length : (ranks : ℕ) → ℕ
map_length ranks = when (ltb byte_ranks ranks) (λ _. 2) (λ _. 1)

-- "the slip has as many counts as the map has ones"
abbrev pub slip_length : (ranks map : ℕ) → ℕ
slip_length ranks map = map_length ranks + 2 * ones map

-- The map's low bytes: no rank above N has a bit in the others.
unfoldable pub map_written : (ranks map : ℕ) → List ℕ
map_written ranks map = when (ltb byte_ranks ranks) (λ _. map / byte_values % byte_values ∷ map % byte_values ∷ []) (λ _. map % byte_values ∷ [])

unfoldable pub slip_from : (ranks : ℕ) → (counts : List ℕ) → List ℕ
slip_from ranks counts = map_written ranks (map_of counts) ++ entry_bytes (values_of (map_of counts) counts)
