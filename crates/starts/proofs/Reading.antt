-- What the reader answers, and what the lent list holds then: the definition's, since the start is read as the definition reads it.
use Rattle.std.specs.Prelude.{Ok}
use Prim.Native.Nat.{ℕ, ◌*◌, ◌/◌, ◌≤◌, ◌<◌}
use mathlib.Core.Path.{◌≡◌, refl, sym, ap, ap₂, ◌∙◌}
use mathlib.Core.List.{List}
use native.Mathlib.Nat.{div-one}
use lib.Dec.{leb}
use lib.ListN.{length}
use borrow.Author.Tests.{le-leb, lt-leb}
use Rattle.model.specs.declared.Header.{Header}
use Rattle.model.specs.declared.Refusal.{Refusal}
use Rattle.model.specs.Refusals as Refusals
use Rattle.model.specs.Refusals.{Result, Ok, Err}
use Rattle.model.specs.Bytes.{word_bytes}
use Rattle.model.specs.Machine.{Start}
use Rattle.model.specs.StartBytes.{read_start}
use Rattle.model.specs.Checks.{rank_by_rank}
use Rattle.model.specs.Lending.{answering, lend, lend_bytes}
use Rattle.model.specs.Starts.{readings_in, read_start_into, read_start_into_bytes}
use Rattle.model.proofs.Laws.{decided, when_true}
use Rattle.memory.specs.Tables.{Table, cells_size}
use Rattle.memory.proofs.Filled.{made_holds}
use Rattle.program.specs.declared.reader.Program as reader
use Rattle.program.specs.Starts.{Answers}
use Rattle.program.proofs.Programs.{unreadable}
use Rattle.lists.specs.Written.{itself, cell_entries_written, cells_listed, CellsFit}
use Rattle.lists.proofs.Room.{true_cells_fit}
use Rattle.lists.proofs.Ranks.{rank_length_lem}
use Rattle.lists.proofs.Results.{cells_listed_lem}
use Rattle.lists.proofs.Forms.{numbers_themselves, numbers_as_words}
use Rattle.start_cells.specs.Reading.{cells_read}
use Rattle.start_cells.specs.Answers.{ReadsInto}
use Rattle.start_cells.proofs.Told.{start_refused, start_readable}
use Rattle.starts.specs.Reading.{too_short, Lends}
use Rattle.starts.proofs.Answering.{Readable, program_readable}

module _ {A : Type 0} (width : ℕ) (shown : ℕ → List A) (program start : List ℕ) (list : List A) where
  abbrev LendsTo : List A → Result ℕ → Type 0
  LendsTo = Lends width shown (readings_in program start) list

  pub no_program : {r : Refusal} → Answers program (Err r) → LendsTo list (Err r)
  unfolding readings_in
  no_program answers = rw (unreadable program answers) (record { answers = refl; leaves = refl })

  module _ {read : reader.Program} (answers : Answers program (Ok read)) {before after : Table} {r : Result (Unit {0})}
      (reads : ReadsInto (cells_read read.header start) before after r) where
    abbrev header : Header
    header = read.header

    has : Readable program header
    has = program_readable program answers

    abbrev count : ℕ
    count = header.ranks * header.cells

    abbrev listing : Result Start → Result (List ℕ)
    listing m = Refusals.◌>>=◌ m (λ readings. Ok (rank_by_rank header.ranks header.cells readings))

    readings_in_lem : readings_in program start ≡ listing (read_start header start)
    unfolding readings_in
    readings_in_lem = rw (has.is, has.same)

    pub no_start : {x : Refusal} → r ≡ Err x → LendsTo list (Err x)
    no_start is = rw (readings_in_lem, start_refused header has.fits start reads is) (record { answers = refl; leaves = refl })

    module _ (is : r ≡ Ok tt) where
      all_read : (readings_in program start ≡ Ok (cells_listed after header.ranks header.cells))
      all_read =
          let (readings, cells) = start_readable header has.fits start reads is in
          readings_in_lem
          ∙ ap listing cells.is
          ∙ ap Ok
          (sym
          (ap (λ t. cells_listed t header.ranks header.cells) cells.holds
          ∙ cells_listed_lem _ readings (made_holds cells_size readings) header.ranks header.cells has.fits.ranks_fit has.fits.cells_fit))

      all_long : length (cells_listed after header.ranks header.cells) ≡ count
      all_long = rank_length_lem header.cells _ header.ranks

      pub list_short : length list / width < count → LendsTo list (too_short count)
      list_short few =
          rw all_read (record { answers = rw (all_long, lt-leb count _ few); leaves = rw (all_long, lt-leb count _ few) })

      pub list_filled : count ≤ length list / width → {now : List A} →
          now ≡ cell_entries_written width shown list after header.ranks header.cells → LendsTo now (Ok count)
      unfolding cell_entries_written
      list_filled enough wrote =
          let fit : CellsFit (length list / width) header.ranks header.cells =
          record { few_ranks = has.fits.ranks_fit; few_cells = has.fits.cells_fit; room = enough } in
          rw all_read
          (record {
            answers = rw (all_long, le-leb count _ enough);
            leaves = wrote ∙ when_true _ _ (true_cells_fit _ _ _ fit) ∙ rw (all_long, le-leb count _ enough);
          })

-- A list of numbers, and one of bytes.
lends_numbers : (m : Result (List ℕ)) {list after : List ℕ} {r : Result ℕ} → Lends 1 itself m list after r → answering r after ≡ lend list m
unfolding lend
lends_numbers (Ok entries) {list} lends =
    let one : length list / 1 ≡ length list = div-one (length list) in
    ap₂ answering lends.answers lends.leaves
    ∙ rw (one, numbers_themselves entries) (decided (leb (length entries) (length list)) (λ t. rw t) (λ t. rw t))
lends_numbers (Err r) lends = ap₂ answering lends.answers lends.leaves

lends_words : (m : Result (List ℕ)) {list after : List ℕ} {r : Result ℕ} → Lends 2 word_bytes m list after r → answering r after ≡ lend_bytes list m
unfolding lend_bytes
lends_words (Ok entries) {list} lends =
    ap₂ answering lends.answers lends.leaves
    ∙ rw (numbers_as_words entries) (decided (leb (length entries) (length list / 2)) (λ t. rw t) (λ t. rw t))
lends_words (Err r) lends = ap₂ answering lends.answers lends.leaves

module _ (program start : List ℕ) {list after : List ℕ} {r : Result ℕ} where
  pub read_numbers : Lends 1 itself (readings_in program start) list after r → answering r after ≡ read_start_into program start list
  unfolding read_start_into
  read_numbers = lends_numbers (readings_in program start)

  pub read_words : Lends 2 word_bytes (readings_in program start) list after r → answering r after ≡ read_start_into_bytes program start list
  unfolding read_start_into_bytes
  read_words = lends_words (readings_in program start)
