-- Writer and reader together. "Writer and reader are both needed, and one start has one form."
--
-- What the writer writes from a cell list, the reader reads back as the list's first N × A entries (`read_back`), through lent memory too
-- (`written_read_back`, `written_read_back_bytes`). Two byte strings that are read as one start are the same, or both are forms of the start of zeros
-- (`one_form`), whose maps are all 0 (`zero_maps`). And a run may start from the last cells of another, as the check leaves them in its list
-- (`last_cells_start`, `checked_start`, `checked_start_bytes`).
use Rattle.std.specs.Prelude.{Ok}
use Prim.Native.Nat.{ℕ, zero, suc, ◌+◌, ◌*◌, ◌/◌, ◌≤◌}
use mathlib.Core.Path.{◌≡◌, refl, sym, ap, ap₂, subst, ◌∙◌}
use mathlib.Core.List.{List, [], ◌∷◌, ◌++◌}
use native.Mathlib.Nat.{suc-mul, zero-lt-suc}
use native.Mathlib.Omega.{arith}
use lib.Dec.{leb}
use lib.ListN.{length, take, drop, replicate, length-append, replicate-append-replicate}
use lib.Seq.{length-take-le}
use borrow.Author.Tests.{leb-true, le-leb}
use Rattle.model.specs.declared.Header.{Header}
use Rattle.model.specs.Limits.{map_size}
use Rattle.model.specs.Refusals.{Result, Ok, memory_too_short}
use Rattle.model.specs.Choice.{numbers_from}
use Rattle.model.specs.Bytes.{AreBytes, big_endian_bytes}
use Rattle.model.specs.Marked.{marked_map, marked_bytes}
use Rattle.model.specs.Programs.{Program, HeaderFits, read_program}
use Rattle.model.specs.Machine.{Start, zero_start}
use Rattle.model.specs.StartBytes.{start_of, read_start, listed_start, rank_bytes, ranks_bytes, start_bytes}
use Rattle.model.specs.Checks.{Accepted, accept, last_cells, fill, entry_bytes, two_by_two}
use Rattle.model.specs.Checks.{check_result_in, outcome, check_in, check, outcome_bytes, check_bytes_in, check_bytes}
use Rattle.model.specs.Lending.{answering, lend}
use Rattle.model.specs.Starts.{start_from, readings_in, write_start, write_start_bytes, read_start_into, read_start_into_bytes}
use Rattle.model.proofs.Laws.{required, ok_injective}
use Rattle.model.proofs.Ranges.{header_fits}
use Rattle.model.proofs.Accepted.{accepted_parts}
use Rattle.model.proofs.Lending.{Filling, filling, fill_front}
use Rattle.lists.proofs.Forms.{Form, as_numbers, as_words}
use Rattle.lists.proofs.Ranks.{rank_same, rank_length_lem}
use Rattle.starts.specs.Claims.{AreWords, ZeroForm, no_bytes, the_maps, OneForm, the_same, all_zero, StartsFrom}
use Rattle.starts.proofs.RoundTrip.{rows_in, row_reads, start_reads, start_told}
use Rattle.model.proofs.Entries.{two_length, two_entries}
use Rattle.starts.proofs.CellLists.{listed_again, listed_cells, listed_few, two_words, two_bytes}
use Rattle.starts.proofs.Lending.{lend_as, lend_numbers, lend_bytes_lem, lends_as}

-- The maps of the start of zeros are all 0.
none_marked : (numbers : List ℕ) → marked_map 0 (λ _. 0) numbers ≡ 0
unfolding marked_map
none_marked [] = refl
none_marked (n ∷ numbers) = omega (arith, none_marked numbers)

none_written : (numbers : List ℕ) → marked_bytes (λ _. 0) numbers ≡ []
unfolding marked_bytes
none_written [] = refl
none_written (n ∷ numbers) = none_written numbers

zero_ranks : (cells first count : ℕ) → ranks_bytes cells zero_start (numbers_from first count) ≡ replicate (count * map_size) 0
unfolding ranks_bytes rank_bytes numbers_from zero_start big_endian_bytes
zero_ranks cells first zero = refl
zero_ranks cells first (suc count) =
    let numbers = numbers_from 0 cells in
    let all : map_size + count * map_size ≡ suc count * map_size = omega (arith, suc-mul count map_size) in
    rw (none_marked numbers, none_written numbers, zero_ranks cells (first + 1) count)
    (replicate-append-replicate map_size (count * map_size) 0 ∙ ap (λ n. replicate n 0) all)

pub zero_maps : (header : Header) → start_bytes header zero_start ≡ replicate (header.ranks * map_size) 0
unfolding start_bytes
zero_maps header = zero_ranks header.cells 1 header.ranks

-- One start has one form.
zero_form : (header : Header) → HeaderFits header → (bytes : List ℕ) → AreBytes bytes → read_start header bytes ≡ Ok zero_start → ZeroForm header bytes
zero_form header fits [] bound h = no_bytes
zero_form header fits (first ∷ rest) bound h =
    subst (ZeroForm header) (sym (start_told header fits (first ∷ rest) bound (zero-lt-suc _) h)) the_maps

pub one_form : (header : Header) → HeaderFits header → (bytes others : List ℕ) {start : Start} → AreBytes bytes → AreBytes others →
    read_start header bytes ≡ Ok start → read_start header others ≡ Ok start → OneForm header bytes others
unfolding read_start
one_form header fits [] others bound bound' h h' = all_zero no_bytes (zero_form header fits others bound' (h' ∙ sym h))
one_form header fits (first ∷ rest) [] bound bound' h h' = all_zero (zero_form header fits (first ∷ rest) bound (h ∙ sym h')) no_bytes
one_form header fits (first ∷ rest) (other ∷ more) bound bound' h h' =
    subst (OneForm header (first ∷ rest))
    (start_told header fits (first ∷ rest) bound (zero-lt-suc _) h ∙ sym (start_told header fits (other ∷ more) bound' (zero-lt-suc _) h')) the_same

-- The bytes that were written, so many as the answer says.
written_front : {memory : List ℕ} {m : Result (List ℕ)} {n : ℕ} (w : Filling memory m n) → take n (lend memory m).memory ≡ w.entries
written_front {memory} w = ap₂ take w.counted w.holds ∙ fill_front w.entries memory

-- A program that can be read.
module _ (program : List ℕ) (P : Program) (readable : read_program program ≡ Ok P) where
  abbrev count : ℕ
  count = P.header.ranks * P.header.cells

  -- The list's first entries, and what is written of them.
  record FromList (cells bytes : List ℕ) : Type 0 where
    enough : count ≤ length cells
    is : bytes ≡ start_bytes P.header (listed_start P.header.cells cells)

  from_list : (cells bytes : List ℕ) → start_from program cells ≡ Ok bytes → FromList cells bytes
  unfolding start_from
  from_list cells bytes h =
      let (test, is) = required (leb count (length cells)) memory_too_short count _ (rw readable at h) in
      record { enough = leb-true count (length cells) test; is = sym (ok_injective is) }

  -- The reader gives back what the writer wrote.
  pub read_back : (cells bytes : List ℕ) → AreWords cells → start_from program cells ≡ Ok bytes → readings_in program bytes ≡ Ok (take count cells)
  unfolding readings_in
  read_back cells bytes words h =
      let from = from_list cells bytes h in
      let header = P.header in
      let start = listed_start header.cells cells in
      rw (readable, from.is, start_reads header (header_fits program readable) start (listed_few header.cells cells words))
      (ap Ok
      (rank_same header.ranks header.cells (start_of (rows_in header start)) start (row_reads header start)
      ∙ listed_again header.ranks header.cells cells from.enough))

  -- The same into lent lists.
  read_into : (form : Form) (cells bytes list : List ℕ) → AreWords cells → start_from program cells ≡ Ok bytes → count ≤ form.entries list →
      lend_as form list (readings_in program bytes) ≡ answering (Ok count) (fill (form.shown (take count cells)) list)
  read_into form cells bytes list words h room =
      rw (read_back cells bytes words h)
      (sym (lends_as form list (take count cells) (length-take-le count cells (from_list cells bytes h).enough) room))

  -- The writer's bytes, so many as it says, are read back into a list, whose other entries are untouched.
  pub written_read_back : (cells memory : List ℕ) {n : ℕ} → AreWords cells → (write_start program cells memory).answer ≡ Ok n →
      (list : List ℕ) → count ≤ length list →
      read_start_into program (take n (write_start program cells memory).memory) list ≡ answering (Ok count) (fill (take count cells) list)
  unfolding write_start read_start_into
  written_read_back cells memory words h list room =
      let w = filling memory (start_from program cells) h in
      rw (written_front w)
      (sym (lend_numbers list (readings_in program w.entries)) ∙ read_into as_numbers cells w.entries list words w.is room)

  -- And in bytes, two an entry.
  pub written_read_back_bytes : (cells memory : List ℕ) {n : ℕ} → AreBytes cells → (write_start_bytes program cells memory).answer ≡ Ok n →
      (list : List ℕ) → count ≤ length list / 2 →
      read_start_into_bytes program (take n (write_start_bytes program cells memory).memory) list
      ≡ answering (Ok count) (fill (take (2 * count) cells) list)
  unfolding write_start_bytes read_start_into_bytes
  written_read_back_bytes cells memory bound h list room =
      let w = filling memory (start_from program (two_by_two cells)) h in
      let enough = (from_list (two_by_two cells) w.entries w.is).enough in
      rw (written_front w)
      (sym (lend_bytes_lem list (readings_in program w.entries))
      ∙ read_into as_words (two_by_two cells) w.entries list (two_words cells bound) w.is room
      ∙ ap (λ l. answering (Ok count) (fill l list)) (two_bytes count cells bound (omega (arith, enough, two_length cells))))

-- Starting from the last cells of another run: the list that the check fills is one that the writer takes, whatever stands behind them.
module _ (program start recorded : List ℕ) (a : Accepted) (accepted : accept program start recorded ≡ Ok a) where
  abbrev header : Header
  header = a.program.header

  abbrev cell_count : ℕ
  cell_count = header.ranks * header.cells

  abbrev StartsFromLast : (list : List ℕ) → Type 0
  StartsFromLast list = StartsFrom program list header a.run.last.machine.cells

  pub last_cells_start : (rest : List ℕ) → AreWords (last_cells a ++ rest) → StartsFromLast (last_cells a ++ rest)
  unfolding start_from last_cells
  last_cells_start rest words =
      let readable = (accepted_parts program start recorded a accepted).program_read_lem in
      let cells = a.run.last.machine.cells in
      let list = last_cells a ++ rest in
      let begun = listed_start header.cells list in
      let enough : cell_count ≤ length list = omega (arith, length-append (last_cells a) rest, rank_length_lem header.cells cells header.ranks) in
      record {
        bytes = start_bytes header begun;
        readings = start_of (rows_in header begun);
        written = rw (readable, le-leb cell_count (length list) enough);
        read = start_reads header (header_fits program readable) begun (listed_few header.cells list words);
        same = λ rank cell low high few.
            row_reads header begun rank cell low high few
            ∙ listed_cells header.ranks header.cells cells rest rank cell low high few;
      }

  -- The list as the check leaves it, where both its lists are long enough for an answer.
  module _ (order cells : List ℕ) where
    pub checked_start : a.run.last.opened ≤ length order → cell_count ≤ length cells → AreWords (check program start recorded order cells).cells →
        StartsFromLast (check program start recorded order cells).cells
    unfolding check_in check_result_in outcome fill
    checked_start groups room words =
        let filled : (check program start recorded order cells).cells ≡ last_cells a ++ drop (length (last_cells a)) cells =
        rw (accepted, le-leb _ _ groups, le-leb _ _ room) in
        rw filled (last_cells_start _ (rw filled at words))

    -- And as a list of bytes.
    pub checked_start_bytes : a.run.last.opened ≤ length order / 2 → cell_count ≤ length cells / 2 →
        AreBytes (check_bytes program start recorded order cells).cells →
        StartsFromLast (two_by_two (check_bytes program start recorded order cells).cells)
    unfolding check_bytes_in check_result_in outcome_bytes fill
    checked_start_bytes groups room bound =
        let written = entry_bytes (last_cells a) in
        let filled : (check_bytes program start recorded order cells).cells ≡ written ++ drop (length written) cells =
        rw (accepted, le-leb _ _ groups, le-leb _ _ room) in
        let entries = ap two_by_two filled ∙ two_entries (last_cells a) (drop (length written) cells) in
        rw entries (last_cells_start _ (rw entries at (two_words (check_bytes program start recorded order cells).cells bound)))
