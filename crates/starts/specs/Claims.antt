-- What is claimed of starts: "one start has one form", and a run starts from the last cells of another.
use Rattle.std.specs.Prelude.{ℕ, ◌≤◌, ◌<◌, ◌≡◌, List, [], get_or}
use Rattle.model.specs.declared.Header.{Header}
use Rattle.model.specs.Limits.{word_values}
use Rattle.model.specs.Refusals.{Ok}
use Rattle.model.specs.Machine.{Start, zero_start}
use Rattle.model.specs.StartBytes.{read_start, start_bytes}
use Rattle.model.specs.Starts.{start_from}

-- What a list of 16-bit numbers holds.
abbrev pub AreWords : List ℕ → Type 0
AreWords list = (i : ℕ) → get_or list i 0 < word_values

-- "No bytes at all .. mean that all is 0": the start of zeros is no bytes, or its maps.
pub data ZeroForm (header : Header) : List ℕ → Type 0 where
  no_bytes : ZeroForm header []
  the_maps : ZeroForm header (start_bytes header zero_start)

-- "one start has one form": these bytes are the same, or both are forms of the start of zeros; "only that start has a second form".
pub data OneForm (header : Header) : (bytes others : List ℕ) → Type 0 where
  the_same : {bytes : List ℕ} → OneForm header bytes bytes
  all_zero : {bytes others : List ℕ} → ZeroForm header bytes → ZeroForm header others → OneForm header bytes others

-- The writer takes this cell list, and what it writes is read as a start with these cells, for the ranks and cells that the header has.
pub record StartsFrom (program list : List ℕ) (header : Header) (cells : ℕ → ℕ → ℕ) : Type 0 where
  pub bytes : List ℕ
  pub readings : Start
  pub written : start_from program list ≡ Ok bytes
  pub read : read_start header bytes ≡ Ok readings
  pub same : (rank cell : ℕ) → 1 ≤ rank → rank ≤ header.ranks → cell < header.cells → readings rank cell ≡ cells rank cell
