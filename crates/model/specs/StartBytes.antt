-- Start bytes (document 02, #103): "for each rank in turn an eight-byte big-endian map, bit a for cell a, then a two-byte value for each standing bit,
-- cells rising." Their reader, and their writer.
use Rattle.std.specs.Prelude.{ℕ, zero, suc, ◌+◌, ◌*◌, ◌^◌, List, [], ◌∷◌, ◌++◌, ltb, get_or}
use Rattle.model.specs.declared.Header.{Header}
use Rattle.model.specs.Limits.{map_size, max_value}
use Rattle.model.specs.Refusals as Refusals
use Rattle.model.specs.Refusals.{Result, Ok, start_form}
use Rattle.model.specs.Choice.{numbers_from}
use Rattle.model.specs.Bytes.{Reader, ◌>>=◌, big_endian, big_endian_bytes, judged, times, whole}
use Rattle.model.specs.Marked.{marked_map, marked_bytes, read_marked}
use Rattle.model.specs.Machine.{Start, zero_start}

-- A rank's map: "a bit for a cell A or above" is its fault.
unfoldable pub start_map : (cells : ℕ) → Reader ℕ
unfolding big_endian judged
start_map cells = judged (λ map. ltb map (2 ^ cells)) start_form (big_endian start_form map_size 0)

-- A rank's readings, a number for each of its cells: "a listed 0" is a fault, and "Unlisted cells start at 0."
unfoldable pub rank_reader : (cells : ℕ) → Reader (List ℕ)
unfolding start_map read_marked numbers_from
rank_reader cells = do
  map ← start_map cells
  read_marked 0 max_value start_form map (numbers_from 0 cells)

-- "for each rank in turn"
unfoldable pub start_reader : Header → Reader (List (List ℕ))
unfolding rank_reader times
start_reader header = times header.ranks (rank_reader header.cells)

-- What these readings, rank 1's first, put into each cell.
unfoldable pub start_of : List (List ℕ) → Start
start_of readings zero cell = 0
start_of readings (suc row) cell = get_or (get_or readings row []) cell 0

-- "No bytes at all .. mean that all is 0 as before: only that start has a second form"; 19 "for a missing or left-over byte".
unfoldable pub read_start : Header → (start : List ℕ) → Result Start
unfolding zero_start whole start_reader start_of
read_start header [] = Ok zero_start
read_start header (first ∷ rest) =
    Refusals.◌>>=◌ (whole start_form (start_reader header) (first ∷ rest)) (λ readings. Ok (start_of readings))

-- What a cell list says, "as the check fills it": rank 1's A cells first.
unfoldable pub listed_start : (cells : ℕ) → List ℕ → Start
listed_start cells list zero cell = 0
listed_start cells list (suc row) cell = get_or list (row * cells + cell) 0

-- The bytes of a rank's readings, and those of all ranks: "the writer always writes the maps."
unfoldable pub rank_bytes : (cells : ℕ) → (readings : ℕ → ℕ) → List ℕ
unfolding big_endian_bytes marked_map marked_bytes numbers_from
rank_bytes cells readings =
    big_endian_bytes map_size (marked_map 0 readings (numbers_from 0 cells)) ++ marked_bytes readings (numbers_from 0 cells)

unfoldable pub ranks_bytes : (cells : ℕ) → Start → (ranks : List ℕ) → List ℕ
unfolding rank_bytes
ranks_bytes cells start [] = []
ranks_bytes cells start (r ∷ ranks) = rank_bytes cells (start r) ++ ranks_bytes cells start ranks

unfoldable pub start_bytes : Header → Start → List ℕ
unfolding ranks_bytes numbers_from
start_bytes header start = ranks_bytes header.cells start (numbers_from 1 header.ranks)
