-- The start of a cell list, rank after rank, is the definition's, for a header that a program has.
use Prim.Native.Nat.{ℕ, zero, suc, ◌+◌, ◌*◌, ◌≤◌, ◌<◌}
use mathlib.Core.Path.{◌≡◌, refl, sym, ap, ap₂, ◌∙◌}
use mathlib.Core.List.{List, ◌++◌}
use native.Mathlib.Nat.{zero-add}
use native.Mathlib.Omega.{arith}
use lib.Count.{ones, ones-le}
use lib.ListN.{length, get_or, length-append, get_or-eq_default}
use Rattle.model.specs.declared.Header.{Header}
use Rattle.model.specs.Limits.{max_cells, map_size}
use Rattle.model.specs.Choice.{numbers_from}
use Rattle.model.specs.Bytes.{big_endian_bytes}
use Rattle.model.specs.Machine.{Start}
use Rattle.model.specs.StartBytes.{rank_bytes, ranks_bytes, start_bytes}
use Rattle.model.specs.Checks.{entry_bytes}
use Rattle.lists.proofs.Forms.{entry_length}
use Rattle.marked.specs.Maps.{map_bits}
use Rattle.marking.specs.Marking.{map_of, values_of}
use Rattle.marking.proofs.Writing.{map_small, values_ones, map_whole, values_whole}
use Rattle.starts.specs.Writing.{row_in, rank_written, rank_length, ranks_written, Has}
use Rattle.model.proofs.BigEndian.{big_length}
use Rattle.starts.proofs.CellLists.{row_at, row_length}

-- A map marks no more values than it has bits.
pub ones_few : (readings : List ℕ) → ones (map_of readings) ≤ max_cells
ones_few readings = ones-le map_bits (map_of readings) (map_small readings)

pub rank_length_lem : (readings : List ℕ) → length (rank_written readings) ≡ rank_length readings
unfolding rank_written
rank_length_lem readings =
    let map = map_of readings in
    omega (
      arith,
      length-append (big_endian_bytes map_size map) (entry_bytes (values_of map readings)),
      big_length map_size map,
      entry_length (values_of map readings),
      values_ones map readings (map_small readings),
    )

-- A list that says these readings of the ranks' cells.
pub record Says (list : List ℕ) (ranks width : ℕ) (start : Start) : Type 0 where
  pub has : Has list ranks width
  pub same : (row cell : ℕ) → row < ranks → cell < width → get_or list (row * width + cell) 0 ≡ start (suc row) cell

-- A rank's readings are those of its part of the list.
module _ (list : List ℕ) (ranks width : ℕ) (start : Start) (says : Says list ranks width start) where
  rank_whole : (row : ℕ) → row < ranks → rank_written (row_in width list row) ≡ rank_bytes width (start (suc row))
  unfolding rank_written rank_bytes
  rank_whole row more =
      let readings = row_in width list row in
      let f = start (suc row) in
      let narrow = says.has.few_cells in
      let long = row_length ranks width list says.has.enough row more in
      let same : (i : ℕ) → i < width → get_or readings i 0 ≡ f (0 + i) =
      λ i few. row_at width list row i few ∙ says.same row i more few ∙ ap f (sym (zero-add i)) in
      let beyond : (i : ℕ) → width ≤ i → i < map_bits → get_or readings i 0 ≡ 0 = λ i low high. get_or-eq_default readings 0 (rw long low) in
      ap₂ ◌++◌
      (ap (big_endian_bytes map_size) (map_whole 0 f readings width narrow same beyond))
      (values_whole 0 f readings width narrow same beyond)

  ranks_whole : (count row : ℕ) → row + count ≤ ranks →
      ranks_written width list row count ≡ ranks_bytes width start (numbers_from (suc row) count)
  unfolding ranks_written ranks_bytes numbers_from
  ranks_whole zero row within = refl
  ranks_whole (suc count) row within =
      let e : suc (row + 1) ≡ suc row + 1 = omega arith in
      ap₂ ◌++◌ (rank_whole row (omega arith)) (ranks_whole count (row + 1) (omega arith) ∙ ap (λ n. ranks_bytes width start (numbers_from n count)) e)

pub start_whole : (header : Header) (list : List ℕ) (start : Start) → Says list header.ranks header.cells start →
    ranks_written header.cells list 0 header.ranks ≡ start_bytes header start
unfolding start_bytes
start_whole header list start says = ranks_whole list header.ranks header.cells start says header.ranks 0 (omega arith)
