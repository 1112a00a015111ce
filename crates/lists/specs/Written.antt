-- What lent lists hold after numbers are written into them: all of the numbers where there is room for all, and else nothing.
use Rattle.std.specs.Prelude.{ℕ, ◌-◌, ◌*◌, ◌/◌, ◌≤◌, Bool, ◌&&◌, List, [], ◌∷◌, leb, length, take, flat_map}
use Rattle.std.proofs.Math.Seq.{paste}
use Rattle.model.specs.Bytes.{word_bytes}
use Rattle.model.specs.Limits.{max_ranks, max_cells}
use Rattle.model.specs.Choice.{when}
use Rattle.model.specs.Checks.{fill, rank_by_rank}
use Rattle.memory.specs.Tables.{Table, cells_size, number_at}

-- So many numbers are given, and a list with so many entries has room for them from a place on.
unfoldable pub fits : (entries at given count : ℕ) → Bool
fits entries at given count = leb count given && leb count entries && leb at (entries - count)

-- A number as an entry of a list of numbers; in bytes an entry has two.
abbrev pub itself : ℕ → List ℕ
itself number = number ∷ []

-- The first `count` numbers, from the entry `at` on, in a list whose entries have so many elements each. "An odd last byte is never used."
unfoldable pub entries_written : {A : Type 0} (width : ℕ) (shown : ℕ → List A) (list : List A) (at : ℕ) (numbers : List ℕ) (count : ℕ) → List A
entries_written width shown list at numbers count =
    when (fits (length list / width) at (length numbers) count)
    (λ _. paste list (width * at) (flat_map shown (take count numbers)) (width * count))
    (λ _. list)

abbrev pub numbers_written : (list : List ℕ) → (at : ℕ) → (numbers : List ℕ) → (count : ℕ) → List ℕ
numbers_written = entries_written 1 itself

abbrev pub words_written : (bytes : List ℕ) → (at : ℕ) → (numbers : List ℕ) → (count : ℕ) → List ℕ
words_written = entries_written 2 word_bytes

-- The cells have so many ranks and so many cells of each, and a list with so many entries has room for them: the test, and the fact.
unfoldable pub cells_fit : (entries ranks width : ℕ) → Bool
cells_fit entries ranks width = leb ranks max_ranks && leb width max_cells && leb (ranks * width) entries

pub record CellsFit (entries ranks width : ℕ) : Type 0 where
  pub few_ranks : ranks ≤ max_ranks
  pub few_cells : width ≤ max_cells
  pub room : ranks * width ≤ entries

-- The first cells of the first ranks, "rank 1 first".
abbrev pub cells_listed : Table → (ranks width : ℕ) → List ℕ
cells_listed cells ranks width = rank_by_rank ranks width (number_at cells_size cells)

-- Those cells at the front of a list whose entries have so many elements each.
unfoldable pub cell_entries_written : {A : Type 0} (width : ℕ) (shown : ℕ → List A) (list : List A) (cells : Table) (ranks count : ℕ) → List A
cell_entries_written width shown list cells ranks count =
    when (cells_fit (length list / width) ranks count) (λ _. fill (flat_map shown (cells_listed cells ranks count)) list) (λ _. list)

abbrev pub cells_written : (list : List ℕ) → (cells : Table) → (ranks width : ℕ) → List ℕ
cells_written = cell_entries_written 1 itself

abbrev pub cell_words_written : (bytes : List ℕ) → (cells : Table) → (ranks width : ℕ) → List ℕ
cell_words_written = cell_entries_written 2 word_bytes
