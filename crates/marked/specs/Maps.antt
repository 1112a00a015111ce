-- A map as bits, each of which stands for an entry of a list of values.
use Rattle.std.specs.Prelude.{ℕ, List, replicate}
use Rattle.std.specs.Int.Count.{count_trailing_zeros}
use Rattle.model.specs.Limits.{max_cells}
use Rattle.model.specs.Choice.{bit, select, numbers_from}

-- As many bits as a rank has cells at most.
abbrev pub map_bits : ℕ
map_bits = max_cells

-- The bits that stand, rising.
unfoldable pub bits_of : (map : ℕ) → List ℕ
bits_of map = select (λ i. bit i map) (numbers_from 0 map_bits)

-- Trailing zeros give the next one.
abbrev pub lowest_bit : (map : ℕ) → ℕ
lowest_bit map = count_trailing_zeros map_bits map

-- A value for each bit, all of them 0.
abbrev pub no_values : List ℕ
no_values = replicate map_bits 0
