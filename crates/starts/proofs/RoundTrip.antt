-- The bytes of a start are read as its readings, and no other bytes are.
--
-- From a place on, each rank's map is read, which is no larger than the rank's cells have bits for, and then its readings, as `marking` has it. The
-- other way round, whatever is read stands there rank by rank as it would be written.
use Rattle.model.specs.declared.Found.{Found}
use Prim.Native.Nat.{ℕ, zero, suc, ◌+◌, ◌^◌, ◌≤◌, ◌<◌}
use mathlib.Core.Path.{◌≡◌, refl, sym, ap, ap₂, ◌∙◌}
use mathlib.Core.List.{List, [], ◌∷◌, ◌++◌, map, append-nil, append_assoc}
use native.Mathlib.Nat.{add-zero, zero-add}
use native.Mathlib.Omega.{arith}
use lib.Dec.{ltb}
use lib.ListN.{length, get_or, drop, length-append}
use lib.Pow.{pow_mono}
use lib.Seq.{drop-length, drop-drop, drop-append_seam}
use borrow.Author.Tests.{eq-eqb, ltb-true, lt-ltb}
use Rattle.model.specs.declared.Header.{Header}
use Rattle.model.specs.Limits.{max_cells, map_size, max_value, byte_values}
use Rattle.model.specs.Refusals as Refusals
use Rattle.model.specs.Refusals.{Ok, start_form}
use Rattle.model.specs.Choice.{numbers_from, Each, all, one}
use Rattle.model.specs.Bytes.{AreBytes, found, big_endian, big_endian_bytes, judged, times, whole}
use Rattle.model.specs.Marked.{marked_map, marked_bytes}
use Rattle.model.specs.Programs.{HeaderFits}
use Rattle.model.specs.Machine.{Start}
use Rattle.model.specs.StartBytes.{start_map, rank_reader, start_reader, start_of, read_start, rank_bytes, ranks_bytes, start_bytes}
use Rattle.model.proofs.Laws.{bind_ok, ok_injective}
use Rattle.model.proofs.Bytes.{finds_times, finds_counted, judged_ok, whole_ok, whole_finds}
use Rattle.memory.proofs.Filled.{numbers_at, list_of}
use Rattle.marked.proofs.MarkedMaps.{map_fits}
use Rattle.marking.proofs.RoundTrip.{marked_reads, marked_told}
use Rattle.start_cells.proofs.Readings.{rank_length_lem}
use Rattle.model.proofs.BigEndian.{big_length, big_read, big_stands}

-- Behind a part that stands at a place.
behind : (bytes : List ℕ) (at : ℕ) (part more : List ℕ) → drop at bytes ≡ part ++ more → drop (at + length part) bytes ≡ more
behind bytes at part more e = sym (drop-drop (length part) at bytes) ∙ ap (drop (length part)) e ∙ drop-append_seam part more

-- A rank's readings, as a list of their cells; and those of ranks from one on.
abbrev row_of : (cells : ℕ) → (readings : ℕ → ℕ) → List ℕ
row_of cells readings = map readings (numbers_from 0 cells)

abbrev rows_from : (cells : ℕ) → Start → (first count : ℕ) → List (List ℕ)
rows_from cells start first count = map (λ rank. row_of cells (start rank)) (numbers_from first count)

module _ (cells : ℕ) (narrow : cells ≤ max_cells) where
  -- A map of so many cells fits its bytes.
  map_byte : {n : ℕ} → n < 2 ^ cells → n < byte_values ^ map_size
  map_byte small = omega (arith, pow_mono narrow)

  -- What stands there is read.
  module _ (bytes : List ℕ) where
    rank_read : (f : ℕ → ℕ) → ((cell : ℕ) → f cell ≤ max_value) → (at : ℕ) (more : List ℕ) → drop at bytes ≡ rank_bytes cells f ++ more →
        rank_reader cells bytes at ≡ found (row_of cells f) (at + length (rank_bytes cells f))
    unfolding rank_reader start_map rank_bytes judged
    rank_read f few at more e =
        let mapped = marked_map 0 f (numbers_from 0 cells) in
        let small = map_fits 0 f cells in
        let map_bytes = big_endian_bytes map_size mapped in
        let values = marked_bytes f (numbers_from 0 cells) in
        let stands : drop at bytes ≡ map_bytes ++ (values ++ more) = e ∙ append_assoc map_bytes values more in
        let next = ap (λ n. drop (at + n) bytes) (sym (big_length map_size mapped)) ∙ behind bytes at map_bytes (values ++ more) stands in
        rw (
          big_read start_form bytes map_size mapped at (values ++ more) (map_byte small) stands,
          lt-ltb mapped (2 ^ cells) small,
          marked_reads f 0 max_value start_form few bytes cells (at + map_size) more next,
        )
        (ap (found _) (omega (arith, length-append map_bytes values, big_length map_size mapped)))

    ranks_read : (start : Start) → ((rank cell : ℕ) → start rank cell ≤ max_value) → (first count at : ℕ) (more : List ℕ) →
        drop at bytes ≡ ranks_bytes cells start (numbers_from first count) ++ more →
        times count (rank_reader cells) bytes at
        ≡ found (rows_from cells start first count) (at + length (ranks_bytes cells start (numbers_from first count)))
    unfolding times ranks_bytes numbers_from
    ranks_read start few first zero at more e = ap (found []) (sym (add-zero at))
    ranks_read start few first (suc count) at more e =
        let here = rank_bytes cells (start first) in
        let others = ranks_bytes cells start (numbers_from (first + 1) count) in
        let stands : drop at bytes ≡ here ++ (others ++ more) = e ∙ append_assoc here others more in
        rw (
          rank_read (start first) (few first) at (others ++ more) stands,
          ranks_read start few (first + 1) count (at + length here) more (behind bytes at here (others ++ more) stands),
        )
        (ap (found _) (omega (arith, length-append here others)))

    -- What is read stands there.
    module _ (bound : AreBytes bytes) where
      rank_told_lem : (f : ℕ → ℕ) (at next : ℕ) → rank_reader cells bytes at ≡ found (row_of cells f) next →
          drop at bytes ≡ rank_bytes cells f ++ drop next bytes
      unfolding rank_reader start_map rank_bytes
      rank_told_lem f at next h =
          let (m, first, rest) = bind_ok (start_map cells bytes at) _ h in
          let (read, test) = judged_ok (λ map. ltb map (2 ^ cells)) start_form (big_endian start_form map_size 0) bytes at first in
          let told = marked_told f 0 max_value start_form bytes bound m.value cells m.next next (ltb-true m.value (2 ^ cells) test) rest in
          let map_bytes = big_endian_bytes map_size (marked_map 0 f (numbers_from 0 cells)) in
          (big_stands start_form bytes bound map_size 0 at read).stands
          ∙ ap₂ (λ n more. big_endian_bytes map_size n ++ more) (sym told.mapped_is) told.stands
          ∙ sym (append_assoc map_bytes (marked_bytes f (numbers_from 0 cells)) (drop next bytes))

      ranks_told_lem : (start : Start) (first count at next : ℕ) →
          times count (rank_reader cells) bytes at ≡ found (rows_from cells start first count) next →
          drop at bytes ≡ ranks_bytes cells start (numbers_from first count) ++ drop next bytes
      unfolding times ranks_bytes numbers_from
      ranks_told_lem start first zero at next h = ap (λ n. drop n bytes) (ap (λ (g : Found (List (List ℕ))). g.next) (ok_injective h))
      ranks_told_lem start first (suc count) at next h =
          let (g, here, h₁) = bind_ok (rank_reader cells bytes at) _ h in
          let (rest, others, h₂) = bind_ok (times count (rank_reader cells) bytes g.next) _ h₁ in
          let rows : ◌≡◌ {A = List (List ℕ)} (g.value ∷ rest.value) (rows_from cells start first (suc count)) =
          ap (λ (f : Found (List (List ℕ))). f.value) (ok_injective h₂) in
          let row : g.value ≡ row_of cells (start first) = cc in
          let more : rest.value ≡ rows_from cells start (first + 1) count = cc in
          let ends : rest.next ≡ next = ap (λ (f : Found (List (List ℕ))). f.next) (ok_injective h₂) in
          rank_told_lem (start first) at g.next (here ∙ ap (λ v. found v g.next) row)
          ∙ ap (λ l. rank_bytes cells (start first) ++ l) (ranks_told_lem start (first + 1) count g.next next (others ∙ ap₂ found more ends))
          ∙ sym (append_assoc (rank_bytes cells (start first)) (ranks_bytes cells start (numbers_from (first + 1) count)) (drop next bytes))

-- What holds of each member holds of the one with this number.
each_at : {A : Type 0} {Holds : A → Type 0} {l : List A} (d : A) → Each Holds l → (i : ℕ) → i < length l → Holds (get_or l i d)
each_at d all i below = absurd (omega arith)
each_at d (one holds rest) zero below = holds
each_at d (one holds rest) (suc i) below = each_at d rest i (omega arith)

-- Rows with a number for each cell, one for each rank, are those of the start that they make.
rows_are : (cells ranks : ℕ) (rows : List (List ℕ)) → length rows ≡ ranks → Each (λ row. length row ≡ cells) rows →
    rows ≡ rows_from cells (start_of rows) 1 ranks
unfolding start_of
rows_are cells ranks rows long wide =
    list_of (λ rank. row_of cells (start_of rows rank)) 1 ranks [] rows long
    (λ row below.
    let e : 1 + row ≡ suc row = omega arith in
    rw e
    (list_of (start_of rows (suc row)) 0 cells 0 (get_or rows row []) (each_at [] wide row (rw long below))
    (λ cell _. let z : 0 + cell ≡ cell = omega arith in ap (λ c. get_or (get_or rows row []) c 0) (sym z))))

-- The readings of a machine with this header, rank 1 first.
abbrev pub rows_in : Header → Start → List (List ℕ)
rows_in header start = rows_from header.cells start 1 header.ranks

pub row_reads : (header : Header) (start : Start) (rank cell : ℕ) → 1 ≤ rank → rank ≤ header.ranks → cell < header.cells →
    start_of (rows_in header start) rank cell ≡ start rank cell
unfolding start_of
row_reads header start zero cell low high few = absurd (omega arith)
row_reads header start (suc row) cell low high few =
    let e : 1 + row ≡ suc row = omega arith in
    let z : 0 + cell ≡ cell = omega arith in
    ap (λ l. get_or l cell 0) (numbers_at (λ rank. row_of header.cells (start rank)) 1 header.ranks row [] (omega arith))
    ∙ numbers_at (start (1 + row)) 0 header.cells cell 0 few
    ∙ ap₂ start e z

-- Where there are bytes, they are read to the end.
read_some : (header : Header) (bytes : List ℕ) → 0 < length bytes →
    read_start header bytes ≡ Refusals.◌>>=◌ (whole start_form (start_reader header) bytes) (λ rows. Ok (start_of rows))
unfolding read_start
read_some header [] some = absurd (omega arith)
read_some header (first ∷ rest) some = refl

-- A start has a map for each rank at least.
ranks_some : (cells : ℕ) (start : Start) (ranks : ℕ) → 1 ≤ ranks → 0 < length (ranks_bytes cells start (numbers_from 1 ranks))
unfolding ranks_bytes rank_bytes numbers_from
ranks_some cells start zero low = absurd (omega arith)
ranks_some cells start (suc ranks) low =
    let map = marked_map 0 (start 1) (numbers_from 0 cells) in
    let values = marked_bytes (start 1) (numbers_from 0 cells) in
    omega (
      arith,
      length-append (rank_bytes cells (start 1)) (ranks_bytes cells start (numbers_from (1 + 1) ranks)),
      length-append (big_endian_bytes map_size map) values,
      big_length map_size map,
    )

module _ (header : Header) (fits : HeaderFits header) where
  bytes_some : (start : Start) → 0 < length (start_bytes header start)
  unfolding start_bytes
  bytes_some start = ranks_some header.cells start header.ranks fits.ranks_low

  -- What is written is read back.
  pub start_reads : (start : Start) → ((rank cell : ℕ) → start rank cell ≤ max_value) →
      read_start header (start_bytes header start) ≡ Ok (start_of (rows_in header start))
  unfolding whole start_reader start_bytes
  start_reads start few =
      let bytes = start_bytes header start in
      let read = ranks_read header.cells fits.cells_fit bytes start few 1 header.ranks 0 [] (sym (append-nil bytes)) in
      read_some header bytes (bytes_some start) ∙ rw (read, eq-eqb _ _ (zero-add (length bytes)))

  -- What is read was written so, unless there are no bytes.
  pub start_told : (bytes : List ℕ) {start : Start} → AreBytes bytes → 0 < length bytes → read_start header bytes ≡ Ok start →
      bytes ≡ start_bytes header start
  unfolding start_reader start_bytes
  start_told bytes {start} bound some h =
      let (rows, read, is) = bind_ok (whole start_form (start_reader header) bytes) _ (sym (read_some header bytes some) ∙ h) in
      let cells = header.cells in
      let long = whole_finds start_form (start_reader header) bytes _ (finds_counted header.ranks (rank_reader cells)) read in
      let each = finds_times header.ranks (rank_length_lem cells fits.cells_fit bytes) in
      let wide = whole_finds start_form (start_reader header) bytes _ each read in
      let rows_found =
      whole_ok start_form (start_reader header) bytes read ∙ ap (λ l. found l (length bytes)) (rows_are cells header.ranks rows long wide) in
      let written = ranks_bytes cells (start_of rows) (numbers_from 1 header.ranks) in
      ranks_told_lem cells fits.cells_fit bytes bound (start_of rows) 1 header.ranks 0 (length bytes) rows_found
      ∙ ap (λ l. written ++ l) (drop-length bytes)
      ∙ append-nil written
      ∙ ap (start_bytes header) (ok_injective is)
