-- Before the record: the program is read, then the start for it, each refused as the definition refuses it.
use Prim.Native.Nat.{ℕ}
use mathlib.Core.Path.{◌≡◌, sym, ap, subst}
use mathlib.Core.List.{List}
use native.Mathlib.Omega.{arith}
use Rattle.model.specs.declared.Header.{Header}
use Rattle.model.specs.declared.Refusal.{Refusal}
use Rattle.model.specs.Refusals.{Result, Ok, Err}
use Rattle.model.specs.Programs.{Program, read_program}
use Rattle.model.specs.Machine.{Start}
use Rattle.model.specs.StartBytes.{read_start}
use Rattle.model.specs.Checks.{accept_in, accept}
use Rattle.model.proofs.Ranges.{header_fits}
use Rattle.program.specs.declared.reader.Program as reader
use Rattle.program.specs.Starts as Starts
use Rattle.program.proofs.Programs.{Placed, readable, unreadable, entries_read}
use Rattle.step.specs.Standing.{Loaded}
use Rattle.memory.specs.Tables.{Table}
use Rattle.start_cells.specs.Reading.{cells_read}
use Rattle.start_cells.specs.Answers.{ReadsInto}
use Rattle.start_cells.proofs.Told.{start_refused, start_readable}
use Rattle.replay.specs.Handed.{Acceptance, Lent, lent, left_by, accept_items, accept_record, TakesRecord, HandsOver}
use Rattle.replay.proofs.Ending.{answers_refused}

-- A program that was read, with where its transitions start.
placed_loaded : {program starts : List ℕ} {header : Header} {P : Program} → read_program program ≡ Ok P → Placed program header starts P →
    Loaded program starts header P
placed_loaded {program} read placed =
    record {
      same = placed.same;
      fits = rw placed.same at (header_fits program read);
      stands = λ number h.
          let (t, end, named, found) = placed.transition number h in
          record { transition = t; end = end; named = named; read = found };
    }

-- The definition's `accept`, where the program or the start is refused, and where both are read.
module _ (program start recorded : List ℕ) where
  program_refused : {x : Refusal} → read_program program ≡ Err x → accept program start recorded ≡ Err x
  unfolding accept_in
  program_refused h = rw h

  module _ {P : Program} {header : Header} (read : read_program program ≡ Ok P) (same : P.header ≡ header) where
    start_unread : {x : Refusal} → read_start header start ≡ Err x → accept program start recorded ≡ Err x
    unfolding accept_in
    start_unread h = rw (read, same, h)

    start_taken : {readings : Start} → read_start header start ≡ Ok readings → accept program start recorded ≡ accept_record P readings recorded
    unfolding accept_in accept_record accept_items
    start_taken h = rw (read, same, h)

-- What the start's reader leaves in the cells: on a refusal what they held, and else the table that it read.
module _ {cells cells' : Table} {started : Result (Unit {0})} where
  refused_into : (m : Result Table) {x : Refusal} → ReadsInto m cells cells' started → started ≡ Err x →
      (m ≡ Err x) × (cells' ≡ cells)
  refused_into (Ok table) reads is = let z : ◌≡◌ {A = ℕ} 0 1 = cc reads.answers in absurd (omega arith)
  refused_into (Err y) {x} reads is = let same : y ≡ x = cc reads.answers in (ap Err same, reads.leaves)

  read_into : (m : Result Table) → ReadsInto m cells cells' started → started ≡ Ok tt → m ≡ Ok cells'
  read_into (Ok table) reads is = ap Ok (sym reads.leaves)
  read_into (Err y) reads is = let z : ◌≡◌ {A = ℕ} 0 1 = cc reads.answers in absurd (omega arith)

-- The whole, by what the readers answer: the program is refused; or it is read, and the start is refused; or that is read too, and the record follows.
module _ (program start recorded : List ℕ) {cells trail : Table} {read : Result reader.Program} (reads : Starts.Answers program read) where
  pub program_unread : {x : Refusal} {answer : Acceptance} → read ≡ Err x → answer ≡ Err x →
      HandsOver program start recorded (lent cells trail) (lent cells trail) answer
  unfolding left_by
  program_unread is a =
      let e = unreadable program (rw is at reads) in
      rw a (record { accepts = answers_refused (accept program start recorded) (program_refused program start recorded e); leaves = rw e })

  module _ {loaded : reader.Program} (is : read ≡ Ok loaded) {cells' : Table} {started : Result (Unit {0})}
      (starts : ReadsInto (cells_read loaded.header start) cells cells' started) where
    pub start_unreadable : {x : Refusal} {answer : Acceptance} → started ≡ Err x → answer ≡ Err x →
        HandsOver program start recorded (lent cells trail) (lent cells' trail) answer
    unfolding left_by
    start_unreadable e a =
        let (P, found, placed) = readable program (rw is at reads) in
        let (none, kept) = refused_into (cells_read loaded.header start) starts e in
        let unread = start_refused loaded.header (placed_loaded found placed).fits start starts e in
        rw a
        (record {
          accepts = answers_refused (accept program start recorded) (start_unread program start recorded found placed.same unread);
          leaves = rw (found, placed.same, none, kept);
        })

    pub record_follows : started ≡ Ok tt → {after : Lent} {r : Acceptance} →
        TakesRecord program loaded.starts loaded.header recorded (lent cells' trail) after r →
        HandsOver program start recorded (lent cells trail) after r
    unfolding left_by
    record_follows e takes =
        let (P, found, placed) = readable program (rw is at reads) in
        let same = entries_read program (rw is at reads) in
        let held = placed_loaded found placed in
        let (readings, begun) = start_readable loaded.header held.fits start starts e in
        record {
          accepts =
              rw (start_taken program start recorded found placed.same begun.is)
              (takes.accepts
              (record {
                P = P;
                loaded = subst (λ (starts : List ℕ). Loaded program starts loaded.header P) (sym same) held;
                readings = readings;
                table = begun.holds;
              }));
          leaves = rw (found, placed.same, read_into (cells_read loaded.header start) starts e, ← same) takes.leaves;
        }
