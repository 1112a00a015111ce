-- Tables: a row of numbers for each of a count of things that are numbered from 1, as ranks are. A read outside a table gives 0, and a store there
-- changes nothing.
use Rattle.std.specs.Prelude.{ℕ, Option, Some, None, ◌-◌, ◌≤◌, ◌<◌, ◌≡◌, List, [], ltb, eqb, length, get_or, set, replicate}
use Rattle.model.specs.declared.Address.{Address}
use Rattle.model.specs.Limits.{max_ranks, max_cells, max_registers}
use Rattle.model.specs.Choice.{when}

abbrev pub Table : Type 0
Table = List (List ℕ)

-- How many rows a table has, and how many numbers each row.
pub record Size : Type 0 where
  pub rows : ℕ
  pub width : ℕ

abbrev pub sized : (rows width : ℕ) → Size
sized rows width = record { rows = rows; width = width }

abbrev pub cells_size : Size
cells_size = sized max_ranks max_cells

abbrev pub registers_size : Size
registers_size = sized max_ranks max_registers

-- The row that a number from 1 names; 0 names none.
abbrev pub row_named : (number : ℕ) → Option ℕ
row_named number = when (eqb number 0) (λ _. None) (λ _. Some (number - 1))

-- The same for a table of so many rows, where 0 names the one past the last.
abbrev pub row_of : (rows number : ℕ) → ℕ
row_of rows number = when (eqb number 0) (λ _. rows) (λ _. number - 1)

-- A number that has a row.
pub record Row (rows number : ℕ) : Type 0 where
  pub first : 1 ≤ number
  pub last : number ≤ rows

abbrev pub Rank : (rank : ℕ) → Type 0
Rank = Row max_ranks

-- An address that the arrays have a cell for.
pub record Place (a : Address) : Type 0 where
  pub rank_held : Rank a.rank
  pub cell_held : a.cell < max_cells

-- The row under a number, and a number of it.
unfoldable pub row_at : Size → Table → (number : ℕ) → List ℕ
row_at size table number =
    when (ltb (row_of size.rows number) size.rows) (λ _. get_or table (row_of size.rows number) []) (λ _. replicate size.width 0)

unfoldable pub number_at : Size → Table → (number index : ℕ) → ℕ
number_at size table number index =
    when (ltb (row_of size.rows number) size.rows)
    (λ _. when (ltb index size.width) (λ _. get_or (get_or table (row_of size.rows number) []) index 0) (λ _. 0))
    (λ _. 0)

-- The table with one number changed.
unfoldable pub stored : Size → Table → (number index value : ℕ) → Table
stored size table number index value =
    when (ltb (row_of size.rows number) size.rows)
    (λ _.
    when (ltb index size.width)
    (λ _. set table (row_of size.rows number) (set (get_or table (row_of size.rows number) []) index value))
    (λ _. table))
    (λ _. table)

-- The same for a list with one number for each rank.
unfoldable pub control_at : List ℕ → (rank : ℕ) → ℕ
control_at control rank = when (ltb (row_of max_ranks rank) max_ranks) (λ _. get_or control (row_of max_ranks rank) 0) (λ _. 0)

unfoldable pub control_stored : List ℕ → (rank state : ℕ) → List ℕ
control_stored control rank state =
    when (ltb (row_of max_ranks rank) max_ranks) (λ _. set control (row_of max_ranks rank) state) (λ _. control)

-- A table has all its rows, each with all its numbers.
pub record Shaped (size : Size) (table : Table) : Type 0 where
  pub tall : length table ≡ size.rows
  pub wide : (row : ℕ) → row < size.rows → length (get_or table row []) ≡ size.width

-- A table of zeros.
abbrev pub zeros : Size → Table
zeros size = replicate size.rows (replicate size.width 0)
