-- No slip is longer than its map with a count for each rank of the largest machine, and no start than its maps with a reading for each cell.
use Prim.Native.Nat.{ℕ, zero, suc, ◌+◌, ◌*◌, ◌≤◌}
use mathlib.Core.Path.{◌≡◌}
use mathlib.Core.List.{List}
use native.Mathlib.Nat.{suc-mul}
use native.Mathlib.Omega.{arith}
use lib.Dec.{ltb}
use lib.ListN.{length, length-append}
use Rattle.model.specs.declared.Header.{Header}
use Rattle.model.specs.Limits.{byte_ranks, map_size}
use Rattle.model.specs.Refusals.{Ok}
use Rattle.model.specs.Choice.{numbers_from}
use Rattle.model.specs.Bytes.{word_bytes, big_endian_bytes}
use Rattle.model.specs.Marked.{marked_map, marked_bytes}
use Rattle.model.specs.Programs.{HeaderFits}
use Rattle.model.specs.Machine.{Start}
use Rattle.model.specs.StartBytes.{rank_bytes, ranks_bytes, start_bytes}
use Rattle.model.specs.Checks.{Accepted, accept}
use Rattle.model.specs.Slips.{map_bytes, slip_of}
use Rattle.model.proofs.Laws.{decided}
use Rattle.model.proofs.BigEndian.{big_length}
use Rattle.record_facts.proofs.Bounds.{accepted_bounds}
use Rattle.sizes.specs.Sizes.{max_start_bytes, max_slip_bytes}
use Rattle.sizes.proofs.Readings.{rank_size, ranks_size}

map_short : (ranks mapped : ℕ) → length (map_bytes ranks mapped) ≤ 2
unfolding map_bytes
map_short ranks mapped = decided (ltb byte_ranks ranks) (λ t. rw t (omega arith)) (λ t. rw t (omega arith))

marked_short : (value : ℕ → ℕ) (first count : ℕ) → length (marked_bytes value (numbers_from first count)) ≤ 2 * count
unfolding marked_bytes numbers_from
marked_short value first zero = omega arith
marked_short value first (suc count) =
    let rest = marked_short value (first + 1) count in
    decided (ltb 0 (value first))
    (λ t. rw t (omega (arith, length-append (word_bytes (value first)) (marked_bytes value (numbers_from (first + 1) count)), rest)))
    (λ t. rw t (omega (arith, rest)))

pub slip_short : (program start recorded : List ℕ) (a : Accepted) → accept program start recorded ≡ Ok a →
    length (slip_of a) ≤ max_slip_bytes
unfolding slip_of
slip_short program start recorded a h =
    let ranks = a.program.header.ranks in
    let taken = a.run.last.taken in
    let mapped = marked_map 1 taken (numbers_from 1 ranks) in
    let fits = (accepted_bounds program start recorded a h).header.ranks_fit in
    omega (
      arith,
      length-append (map_bytes ranks mapped) (marked_bytes taken (numbers_from 1 ranks)),
      map_short ranks mapped,
      marked_short taken 1 ranks,
      fits,
    )

rank_short : (cells : ℕ) (readings : ℕ → ℕ) → length (rank_bytes cells readings) ≤ rank_size cells
unfolding rank_bytes
rank_short cells readings =
    let map = marked_map 0 readings (numbers_from 0 cells) in
    omega (
      arith,
      length-append (big_endian_bytes map_size map) (marked_bytes readings (numbers_from 0 cells)),
      big_length map_size map,
      marked_short readings 0 cells,
    )

ranks_short : (cells : ℕ) (start : Start) (first count : ℕ) → length (ranks_bytes cells start (numbers_from first count)) ≤ count * rank_size cells
unfolding ranks_bytes numbers_from
ranks_short cells start first zero = omega arith
ranks_short cells start first (suc count) =
    omega (
      arith,
      length-append (rank_bytes cells (start first)) (ranks_bytes cells start (numbers_from (first + 1) count)),
      rank_short cells (start first),
      ranks_short cells start (first + 1) count,
      suc-mul count (rank_size cells),
    )

pub start_short : (header : Header) (start : Start) → HeaderFits header → length (start_bytes header start) ≤ max_start_bytes
unfolding start_bytes
start_short header start fits =
    omega (arith, ranks_short header.cells start 1 header.ranks, ranks_size header fits)
