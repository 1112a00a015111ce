-- The start of a cell list, as the code writes it: rank after rank, each from its part of the list. For a header that a program has, these are the
-- definition's bytes (proofs/Writing.antt).
use Rattle.std.specs.Prelude.{ℕ, zero, suc, ◌+◌, ◌*◌, ◌≤◌, ◌≡◌, List, [], ◌++◌, map, leb, length, get_or, take, drop}
use Rattle.std.specs.Int.Count.{ones}
use Rattle.model.specs.declared.Header.{Header}
use Rattle.model.specs.Limits.{max_ranks, max_cells, map_size}
use Rattle.model.specs.Refusals.{Result, Ok, require, memory_too_short, ◌>>=◌}
use Rattle.model.specs.Choice.{numbers_from}
use Rattle.model.specs.Bytes.{big_endian_bytes}
use Rattle.model.specs.Programs.{HeaderFits}
use Rattle.model.specs.StartBytes.{listed_start, start_bytes}
use Rattle.model.specs.Checks.{fill, entry_bytes, two_by_two}
use Rattle.marking.specs.Marking.{map_of, values_of}

-- A rank's part of the list.
abbrev pub row_in : (width : ℕ) → (list : List ℕ) → (row : ℕ) → List ℕ
row_in width list row = take width (drop (row * width) list)

-- Its bytes, and how many they are: the map, then two for each value that the map marks.
unfoldable pub rank_written : (readings : List ℕ) → List ℕ
rank_written readings = big_endian_bytes map_size (map_of readings) ++ entry_bytes (values_of (map_of readings) readings)

abbrev pub rank_length : (readings : List ℕ) → ℕ
rank_length readings = map_size + 2 * ones (map_of readings)

-- So many ranks, from one on.
unfoldable pub ranks_written : (width : ℕ) → (list : List ℕ) → (row count : ℕ) → List ℕ
ranks_written width list row zero = []
ranks_written width list row (suc count) = rank_written (row_in width list row) ++ ranks_written width list (row + 1) count

-- A rank is written in front of these bytes, and so many are used.
pub record WritesRank (readings before after : List ℕ) (used : ℕ) : Type 0 where
  pub counts : used ≡ rank_length readings
  pub fills : after ≡ fill (rank_written readings) before

-- A list that has the cells of so many ranks.
pub record Has (list : List ℕ) (ranks width : ℕ) : Type 0 where
  pub few_ranks : ranks ≤ max_ranks
  pub few_cells : width ≤ max_cells
  pub enough : ranks * width ≤ length list

-- And bytes that have room for their readings.
pub record HasRoom (list bytes : List ℕ) (ranks width : ℕ) : Type 0 where
  pub has : Has list ranks width
  pub room : length (ranks_written width list 0 ranks) ≤ length bytes

-- What is to be written for a header, from a list that says that it has so many entries.
unfoldable pub start_of_list : Header → (entries : ℕ) → (list : List ℕ) → Result (List ℕ)
unfolding listed_start start_bytes
start_of_list header entries list = do
  let count : ℕ = header.ranks * header.cells
  _ ← require (leb count entries) memory_too_short count
  Ok (start_bytes header (listed_start header.cells list))

-- The header is a program's, and the list has as many of its entries as the header's machine has cells.
pub record Listed (header : Header) (entries : ℕ) (list : List ℕ) : Type 0 where
  pub fits : HeaderFits header
  pub enough : header.ranks * header.cells ≤ entries → header.ranks * header.cells ≤ length list

-- The entries of a list of bytes, as many as the largest machine has cells; where there are fewer, the others are 0.
abbrev pub max_entries : ℕ
max_entries = max_ranks * max_cells

abbrev pub entries_in : (bytes : List ℕ) → List ℕ
entries_in bytes = map (λ i. get_or (two_by_two bytes) i 0) (numbers_from 0 max_entries)
