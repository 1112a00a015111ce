-- What the reader's answer tells of the definition's, for whoever calls it with a header that a program has.
use Prim.Native.Nat.{ℕ}
use mathlib.Core.Path.{◌≡◌, refl}
use mathlib.Core.List.{List}
use Rattle.model.specs.declared.Header.{Header}
use Rattle.model.specs.declared.Refusal.{Refusal}
use Rattle.model.specs.Refusals.{Result, Ok, Err, ◌>>=◌}
use Rattle.model.specs.Programs.{HeaderFits}
use Rattle.model.specs.Machine.{Start}
use Rattle.model.specs.StartBytes.{read_start}
use Rattle.memory.specs.Tables.{Table, cells_size}
use Rattle.memory.specs.Made.{table_of}
use Rattle.start_cells.specs.Reading.{cells_read}
use Rattle.start_cells.specs.Answers.{cells_after, ReadsInto}
use Rattle.start_cells.proofs.Readings.{tabled, cells_read_lem}

module _ (header : Header) (fits : HeaderFits header) (start : List ℕ) {before after : Table} {r : Result (Unit {0})}
    (reads : ReadsInto (cells_read header start) before after r) where
  told : ReadsInto (tabled header fits (read_start header start)) before after r
  told = rw (cells_read_lem header fits start) at reads

  pub start_refused : {x : Refusal} → r ≡ Err x → read_start header start ≡ Err x
  start_refused {x} is = go (read_start header start) told.answers
    where
      go : (m : Result Start) → r ≡ (tabled header fits m >>= λ table. Ok tt) → m ≡ Err x
      go (Ok readings) h = cc
      go (Err y) h = cc

  -- The readings, and that the cells hold them.
  pub record Holds (readings : Start) : Type 0 where
    pub is : read_start header start ≡ Ok readings
    pub holds : after ≡ table_of cells_size readings

  pub start_readable : r ≡ Ok tt → (readings : Start) × Holds readings
  start_readable is = go (read_start header start) refl told.answers told.leaves
    where
      go : (m : Result Start) → read_start header start ≡ m → r ≡ (tabled header fits m >>= λ table. Ok tt) →
          after ≡ cells_after (tabled header fits m) before → (readings : Start) × Holds readings
      go (Ok readings) e h leaves = (readings, record { is = e; holds = leaves })
      go (Err y) e h leaves = cc
