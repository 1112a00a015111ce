-- "The last cell values, rank 1 first": where each cell's value stands in the list of all. The list is a row for each rank, and each row is as long
-- as a rank has cells.
use Rattle.std.specs.Prelude.{Some, slice_get}
use Prim.Native.Nat.{ℕ, zero, suc, ◌+◌, ◌-◌, ◌*◌, ◌<◌}
use mathlib.Core.Path.{◌≡◌, refl, sym, ap, ap₂, ◌∙◌}
use mathlib.Core.List.{List, [], ◌∷◌, map}
use native.Mathlib.Nat.{not-suc-le-zero, suc-mul, zero-mul}
use native.Mathlib.Omega.{arith}
use lib.ListN.{length, length-append, length-map}
use Rattle.model.specs.Choice.{numbers_from}
use Rattle.model.specs.Checks.{for_each_rank, rank_by_rank, last_cells, Accepted}
use Rattle.model.specs.Rules.{Rank, Cell}
use Rattle.model.proofs.Laws.{slice_get_front, slice_get_behind}
use Rattle.demands.specs.Demands.{cells_of}

-- A list that a function of numbers makes.
numbers_length : (first count : ℕ) → length (numbers_from first count) ≡ count
unfolding numbers_from
numbers_length first zero = refl
numbers_length first (suc count) = ap suc (numbers_length (first + 1) count)

at_number : {A : Type 0} (f : ℕ → A) (first count i : ℕ) → i < count → slice_get (map f (numbers_from first count)) i ≡ Some (f (first + i))
unfolding numbers_from
at_number f first zero i h = absurd (not-suc-le-zero h)
at_number f first (suc count) zero h = let z : first ≡ first + 0 = omega arith in ap (λ n. Some (f n)) z
at_number f first (suc count) (suc i) h =
    let e : first + 1 + i ≡ first + suc i = omega arith in
    at_number f (first + 1) count i (omega arith) ∙ ap (λ n. Some (f n)) e

module _ {A : Type 0} (count : ℕ) (f : ℕ → ℕ → A) where
  row : ℕ → List A
  row r = map (f r) (numbers_from 0 count)

  row_length : (r : ℕ) → length (row r) ≡ count
  unfolding row
  row_length r = length-map (numbers_from 0 count) (f r) ∙ numbers_length 0 count

  rows_length : (l : List ℕ) → length (for_each_rank count f l) ≡ length l * count
  unfolding for_each_rank row
  rows_length [] = sym (zero-mul count)
  rows_length (r ∷ rest) =
      length-append (row r) (for_each_rank count f rest)
      ∙ (ap₂ ◌+◌ (row_length r) (rows_length rest) ∙ omega (arith, suc-mul (length rest) count))

  -- Each member's place.
  abbrev others : (first ranks : ℕ) → List A
  others first ranks = for_each_rank count f (numbers_from (first + 1) ranks)

  at_row : (first ranks i cell : ℕ) → i < ranks → cell < count →
      slice_get (for_each_rank count f (numbers_from first ranks)) (i * count + cell) ≡ Some (f (first + i) cell)
  unfolding numbers_from for_each_rank row
  at_row first zero i cell h k = absurd (not-suc-le-zero h)
  at_row first (suc ranks) zero cell h k =
      let z : 0 * count + cell ≡ cell = omega (arith, zero-mul count) in
      let n : first + 0 ≡ first = omega arith in
      let c : 0 + cell ≡ cell = omega arith in
      rw (z, n) (slice_get_front (row first) (others first ranks) cell (rw c at (at_number (f first) 0 count cell k)))
  at_row first (suc ranks) (suc i) cell h k =
      let z : suc i * count + cell ≡ length (row first) + (i * count + cell) = omega (arith, suc-mul i count, row_length first) in
      let n : first + suc i ≡ first + 1 + i = omega arith in
      rw (z, n) (slice_get_behind (row first) (others first ranks) (i * count + cell) ∙ at_row (first + 1) ranks i cell (omega arith) k)

-- The last cells of an accepted record: how many they are, and where each one stands.
module _ (a : Accepted) where
  pub last_cells_length : length (last_cells a) ≡ cells_of a
  unfolding last_cells rank_by_rank
  last_cells_length =
      let header = a.program.header in
      rw (rows_length header.cells a.run.last.machine.cells, numbers_length 1 header.ranks)

  pub last_cell_at : (rank cell : ℕ) → Rank a.program rank → Cell a.program cell →
      slice_get (last_cells a) ((rank - 1) * a.program.header.cells + cell) ≡ Some (a.run.last.machine.cells rank cell)
  unfolding last_cells rank_by_rank
  last_cell_at rank cell r c =
      let header = a.program.header in
      let cells = a.run.last.machine.cells in
      let n : 1 + (rank - 1) ≡ rank = omega arith in
      rw n at (at_row header.cells cells 1 header.ranks (rank - 1) cell (omega arith) c)
