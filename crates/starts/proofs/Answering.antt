-- What the writer answers, and what the lent bytes hold then: the definition's, since the list is written as the definition has it.
use Rattle.std.specs.Prelude.{Ok, Err}
use Prim.Native.Nat.{ℕ, suc, ◌+◌, ◌*◌, ◌/◌, ◌≤◌, ◌<◌}
use mathlib.Core.Path.{◌≡◌, refl, sym, ap, ◌∙◌}
use mathlib.Core.List.{List}
use native.Mathlib.Nat.{mul-le-mul, mul-le-mul_right, zero-add, suc-mul}
use native.Mathlib.Omega.{arith}
use lib.ListN.{length, get_or, length-map}
use borrow.Author.Tests.{le-leb, lt-leb}
use Rattle.model.specs.declared.Header.{Header}
use Rattle.model.specs.declared.Refusal.{Refusal}
use Rattle.model.specs.Refusals.{Ok, Err}
use Rattle.model.specs.Choice.{numbers_from}
use Rattle.model.specs.Programs.{Program, HeaderFits, read_program}
use Rattle.model.specs.StartBytes.{listed_start, start_bytes}
use Rattle.model.specs.Checks.{fill, two_by_two}
use Rattle.model.specs.Lending.{Lent, answering, lend}
use Rattle.model.specs.Starts.{start_from, write_start, write_start_bytes}
use Rattle.model.proofs.Lending.{lends, lends_nothing}
use Rattle.memory.proofs.Filled.{numbers_length, numbers_at}
use Rattle.program.specs.declared.reader.Program as reader
use Rattle.program.specs.Starts.{Answers}
use Rattle.program.proofs.Programs.{readable, unreadable}
use Rattle.starts.specs.Reading.{too_short}
use Rattle.starts.specs.Writing.{ranks_written, Has, HasRoom, start_of_list, Listed, max_entries, entries_in}
use Rattle.model.proofs.Entries.{two_length}
use Rattle.starts.proofs.Writing.{start_whole}

-- The start of a list with so many entries.
module _ (header : Header) (entries : ℕ) (list : List ℕ) (listed : Listed header entries list) where
  abbrev count : ℕ
  count = header.ranks * header.cells

  abbrev all : List ℕ
  all = ranks_written header.cells list 0 header.ranks

  abbrev written : (start : List ℕ) → Lent
  written start = lend start (start_of_list header entries list)

  pub count_small : count ≤ max_entries
  count_small = mul-le-mul listed.fits.ranks_fit listed.fits.cells_fit

  pub list_short : (start : List ℕ) → entries < count → answering (too_short count) start ≡ written start
  unfolding start_of_list lend
  list_short start few = rw (lt-leb count entries few)

  module _ (enough : count ≤ entries) where
    pub list_has : Has list header.ranks header.cells
    list_has = record { few_ranks = listed.fits.ranks_fit; few_cells = listed.fits.cells_fit; enough = listed.enough enough }

    list_written : start_of_list header entries list ≡ Ok all
    unfolding start_of_list listed_start
    list_written =
        rw (le-leb count entries enough)
        (ap Ok (sym (start_whole header list (listed_start header.cells list) (record { has = list_has; same = λ _ _ _ _. refl }))))

    module _ {needed : ℕ} (long : needed ≡ length all) (start : List ℕ) where
      pub memory_short : length start < needed → answering (too_short needed) start ≡ written start
      memory_short few = lends_nothing start all (sym long) few ∙ ap (lend start) (sym list_written)

      module _ (room : needed ≤ length start) where
        pub memory_has : HasRoom list start header.ranks header.cells
        memory_has = record { has = list_has; room = rw (← long) room }

        pub memory_filled : {after : List ℕ} → after ≡ fill all start → answering (Ok needed) after ≡ written start
        memory_filled is = ap (answering (Ok needed)) is ∙ lends start all (sym long) room ∙ ap (lend start) (sym list_written)

-- A program that can be read, with this header.
pub record Readable (program : List ℕ) (header : Header) : Type 0 where
  pub P : Program
  pub is : read_program program ≡ Ok P
  pub same : P.header ≡ header
  pub fits : HeaderFits header

module _ (program : List ℕ) where
  pub program_readable : {read : reader.Program} → Answers program (Ok read) → Readable program read.header
  program_readable answers =
      let (P, is, placed) = readable program answers in
      record { P = P; is = is; same = placed.same; fits = placed.bounded }

  -- One that cannot be read is refused, and nothing is written.
  pub write_refused : (cells start : List ℕ) {r : Refusal} → Answers program (Err r) → answering (Err r) start ≡ write_start program cells start
  unfolding write_start start_from lend
  write_refused cells start answers = rw (unreadable program answers)

  pub write_bytes_refused : (cells start : List ℕ) {r : Refusal} → Answers program (Err r) →
      answering (Err r) start ≡ write_start_bytes program cells start
  unfolding write_start_bytes write_start
  write_bytes_refused cells start answers = write_refused (two_by_two cells) start answers

-- The list's start, for a program's header: of a list of numbers, and of one of bytes by its first entries.
module _ {program : List ℕ} {header : Header} (program_has : Readable program header) where
  pub numbers_listed : (list : List ℕ) → Listed header (length list) list
  numbers_listed list = record { fits = program_has.fits; enough = λ enough. enough }

  numbers_start : (list : List ℕ) → start_of_list header (length list) list ≡ start_from program list
  unfolding start_from start_of_list
  numbers_start list = ap (λ h. start_of_list h (length list) list) (sym program_has.same) ∙ rw program_has.is

  pub write_numbers : (cells start : List ℕ) {l : Lent} → l ≡ lend start (start_of_list header (length cells) cells) →
      l ≡ write_start program cells start
  unfolding write_start
  write_numbers cells start e = e ∙ ap (lend start) (numbers_start cells)

  module _ (bytes : List ℕ) where
    abbrev width : ℕ
    width = header.cells

    abbrev cell_count : ℕ
    cell_count = header.ranks * width

    few : cell_count ≤ max_entries
    few = mul-le-mul program_has.fits.ranks_fit program_has.fits.cells_fit

    entries_long : length (entries_in bytes) ≡ max_entries
    entries_long = length-map (numbers_from 0 max_entries) (λ i. get_or (two_by_two bytes) i 0) ∙ numbers_length 0 max_entries

    entries_has : Has (entries_in bytes) header.ranks width
    entries_has =
        record { few_ranks = program_has.fits.ranks_fit; few_cells = program_has.fits.cells_fit; enough = rw entries_long few }

    pub bytes_listed : {list : List ℕ} → list ≡ entries_in bytes → Listed header (length bytes / 2) list
    bytes_listed is = record { fits = program_has.fits; enough = λ _. rw is entries_has.enough }

    entry_same : (row cell : ℕ) → row < header.ranks → cell < width →
        get_or (entries_in bytes) (row * width + cell) 0 ≡ get_or (two_by_two bytes) (row * width + cell) 0
    entry_same row cell more narrow =
        let last : suc row * width ≤ cell_count = mul-le-mul_right width more in
        let inside : row * width + cell < max_entries = omega (arith, suc-mul row width, few) in
        numbers_at (λ i. get_or (two_by_two bytes) i 0) 0 max_entries (row * width + cell) 0 inside
        ∙ ap (λ n. get_or (two_by_two bytes) n 0) (zero-add (row * width + cell))

    start_same : start_bytes header (listed_start width (entries_in bytes)) ≡ start_bytes header (listed_start width (two_by_two bytes))
    unfolding listed_start
    start_same =
        sym (start_whole header (entries_in bytes) (listed_start width (entries_in bytes)) (record { has = entries_has; same = λ _ _ _ _. refl }))
        ∙ start_whole header (entries_in bytes) (listed_start width (two_by_two bytes)) (record { has = entries_has; same = entry_same })

    bytes_start : start_of_list header (length bytes / 2) (entries_in bytes) ≡ start_from program (two_by_two bytes)
    unfolding start_of_list
    bytes_start =
        rw (start_same, ← (two_length bytes)) (numbers_start (two_by_two bytes))

    pub write_words : (start : List ℕ) {list : List ℕ} → list ≡ entries_in bytes → {l : Lent} →
        l ≡ lend start (start_of_list header (length bytes / 2) list) → l ≡ write_start_bytes program bytes start
    unfolding write_start_bytes
    write_words start is e = e ∙ ap (lend start) (ap (start_of_list header (length bytes / 2)) is ∙ bytes_start)
