-- Writer and reader of starts, as calls (document 02, #103): "Writer and reader are both needed, and one start has one form."
use Rattle.std.specs.Prelude.{ℕ, ◌*◌, List, leb, length}
use Rattle.model.specs.Refusals.{Result, Ok, require, memory_too_short, ◌>>=◌}
use Rattle.model.specs.Programs.{read_program_in, read_program}
use Rattle.model.specs.StartBytes.{read_start, listed_start, start_bytes}
use Rattle.model.specs.Checks.{rank_by_rank, two_by_two}
use Rattle.model.specs.Lending.{Lent, lend, lend_bytes}

-- "The writer takes the program and a cell list as the check fills it; list, then memory, too short gives 15." These are the bytes to be written.
unfoldable pub start_from : (program cells : List ℕ) → Result (List ℕ)
unfolding read_program_in listed_start start_bytes
start_from program cells = do
  P ← read_program program
  let count : ℕ = P.header.ranks * P.header.cells
  _ ← require (leb count (length cells)) memory_too_short count
  Ok (start_bytes P.header (listed_start P.header.cells cells))

-- What the reader fills the list with: as the check does, the program is refused first, and then the start.
unfoldable pub readings_in : (program start : List ℕ) → Result (List ℕ)
unfolding read_program_in read_start rank_by_rank
readings_in program start = do
  P ← read_program program
  readings ← read_start P.header start
  Ok (rank_by_rank P.header.ranks P.header.cells readings)

-- Both with a list of 16-bit numbers, and with a list of bytes.
unfoldable pub write_start : (program cells memory : List ℕ) → Lent
unfolding start_from lend
write_start program cells memory = lend memory (start_from program cells)

unfoldable pub write_start_bytes : (program cells memory : List ℕ) → Lent
unfolding start_from two_by_two lend
write_start_bytes program cells memory = lend memory (start_from program (two_by_two cells))

unfoldable pub read_start_into : (program start cells : List ℕ) → Lent
unfolding readings_in lend
read_start_into program start cells = lend cells (readings_in program start)

unfoldable pub read_start_into_bytes : (program start cells : List ℕ) → Lent
unfolding readings_in lend_bytes
read_start_into_bytes program start cells = lend_bytes cells (readings_in program start)
