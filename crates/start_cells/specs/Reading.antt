-- A start read row by row into a table of cells, by the bits of each rank's map. For a header that a program has, this is the definition's `read_start`
-- (proofs/Readings.antt); for any other it says what the code does.
use Rattle.std.specs.Prelude.{ℕ, zero, suc, ◌+◌, List, ltb, eqb, length, set}
use Rattle.model.specs.declared.Header.{Header}
use Rattle.model.specs.Limits.{max_ranks, max_value}
use Rattle.model.specs.Refusals.{Result, Ok, start_form}
use Rattle.model.specs.Choice.{when}
use Rattle.model.specs.Bytes.{Reader, ◌>>=◌, pure, whole}
use Rattle.model.specs.StartBytes.{start_map}
use Rattle.memory.specs.Tables.{Table, zeros, cells_size}
use Rattle.marked.specs.Reading.{values_at}

-- A rank's readings, one for each cell that there may be.
unfoldable pub row_reader : (cells : ℕ) → Reader (List ℕ)
row_reader cells = start_map cells >>= (λ map. values_at max_value start_form map)

-- The table with a row more; a row beyond it changes nothing.
abbrev pub with_row : Table → (row : ℕ) → (values : List ℕ) → Table
with_row table row values = when (ltb row max_ranks) (λ _. set table row values) (λ _. table)

-- The rows of so many ranks, from one on.
unfoldable pub rows_from : (cells count row : ℕ) → Table → Reader Table
rows_from cells zero row table = pure table
rows_from cells (suc count) row table = row_reader cells >>= (λ values. rows_from cells count (row + 1) (with_row table row values))

unfoldable pub cells_read : Header → (start : List ℕ) → Result Table
cells_read header start =
    when (eqb (length start) 0)
    (λ _. Ok (zeros cells_size))
    (λ _. whole start_form (rows_from header.cells header.ranks 0 (zeros cells_size)) start)
