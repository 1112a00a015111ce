-- "One trace, one page" (document 02, #112): its three claims, of program, start and record bytes, and of what the check answers with long enough
-- memory, whichever form the lent lists have; and what follows for whoever merges logs.
use Rattle.model.specs.declared.Verdict.TheVariants.{Order, Ring}
use Rattle.std.specs.Prelude.{ℕ, ◌+◌, ◌*◌, ◌-◌, ◌≡◌, List, ◌∷◌, ◌++◌, length, Option, Some, slice_get}
use Rattle.model.specs.declared.Item.{Item}
use Rattle.model.specs.Refusals.{Ok}
use Rattle.model.specs.Bytes.{AreBytes, word_bytes}
use Rattle.model.specs.Records.{read_record}
use Rattle.model.specs.Machine.{Start}
use Rattle.model.specs.StartBytes.{read_start}
use Rattle.model.specs.Rules.{Rank, Cell}
use Rattle.model.specs.Replay.{Replayed}
use Rattle.model.specs.Traces.{SameTrace}
use Rattle.model.specs.Checks.{Accepted, Outcome, check, check_bytes, Answer}
use Rattle.model.specs.Slips.{slip_of}
use Rattle.record_bytes.specs.RecordBytes.{item_bytes, items_bytes}
use Rattle.traces.specs.Claims.{Exchangeable, DifferOffAccesses, SameLogs}
use Rattle.demands.specs.Entries.{Form, numbers, bytes, entries, first_entries}
use Rattle.demands.specs.Demands.{IsAccepted, Answerable, cells_of, count_in}

-- The check, by the form of the lent lists.
abbrev pub checked : Form → (program start recorded order cells : List ℕ) → Outcome
checked numbers = check
checked bytes = check_bytes

-- A call of the check on an accepted record, "with long enough memory".
pub record Call (program start recorded : List ℕ) (a : Accepted) : Type 0 where
  pub form : Form
  pub order : List ℕ
  pub cells : List ℕ
  pub answerable : Answerable form program start recorded order cells a

-- What comes of it: the outcome, the groups that it lists, the cell list, and the entry of a cell in that.
module _ {program start recorded : List ℕ} {a : Accepted} (call : Call program start recorded a) where
  abbrev pub outcome_of : Outcome
  outcome_of = checked call.form program start recorded call.order call.cells

  abbrev pub groups_in : List ℕ
  groups_in = first_entries call.form (count_in outcome_of.answer) outcome_of.order

  abbrev pub cells_in : List ℕ
  cells_in = first_entries call.form (cells_of a) outcome_of.cells

  abbrev pub entry_of : (rank cell : ℕ) → Option ℕ
  entry_of rank cell = slice_get (entries call.form outcome_of.cells) ((rank - 1) * a.program.header.cells + cell)

-- "the same kind of answer": an order or a ring, and of as many groups.
pub data SameKind : Answer → Answer → Type 0 where
  orders : (n : ℕ) → SameKind (Ok (Order n)) (Ok (Order n))
  rings : (n : ℕ) → SameKind (Ok (Ring n)) (Ok (Ring n))

-- Two accepted records of one program and start "get, with long enough memory, the same kind of answer and end with the same cells and registers". They
-- have the same slip, too.
pub record SameEnd (program start recorded other : List ℕ) (a b : Accepted) : Type 0 where
  pub kind : (k : Call program start recorded a) (m : Call program start other b) → SameKind (outcome_of k).answer (outcome_of m).answer
  pub listed_cells : (k : Call program start recorded a) (m : Call program start other b) → cells_in k ≡ cells_in m
  pub cells : (rank cell : ℕ) → a.run.last.machine.cells rank cell ≡ b.run.last.machine.cells rank cell
  pub registers : (rank : ℕ) → a.run.last.machine.registers rank ≡ b.run.last.machine.registers rank
  pub slip : slip_of a ≡ slip_of b

-- The program of an accepted record from these readings, with this run.
abbrev pub another : Accepted → Start → Replayed → Accepted
another a readings run = record { program = a.program; readings = readings; run = run }

-- Another record, which is accepted with the same trace; so all that goes by it is the same.
pub record AcceptedToo (program start recorded other : List ℕ) (a : Accepted) : Type 0 where
  pub run : Replayed
  pub accepted : IsAccepted program start other (another a a.readings run)
  pub trace : SameTrace a.run.events run.events
  pub same : SameEnd program start recorded other a (another a a.readings run)

-- A record's bytes, with those of two neighbouring items told apart: the count and the items before them, the one, the other, and the items behind.
abbrev pub neighbours : (count : ℕ) (before : List Item) (x y : Item) (after : List Item) → List ℕ
neighbours count before x y after = word_bytes count ++ (items_bytes before ++ (item_bytes x ++ (item_bytes y ++ items_bytes after)))

-- The record whose items are `before`, x, y and `after` has their bytes in this order; with the two byte strings exchanged its items are exchanged, and
-- it is accepted too.
pub record Exchanged (program start recorded : List ℕ) (a : Accepted) (before : List Item) (x y : Item) (after : List Item) : Type 0 where
  pub count : ℕ
  pub stands : recorded ≡ neighbours count before x y after
  pub are_bytes : AreBytes (neighbours count before y x after)
  pub read : read_record a.program.header (neighbours count before y x after) ≡ Ok (before ++ y ∷ x ∷ after)
  pub too : AcceptedToo program start recorded (neighbours count before y x after) a

-- From the other start, which has these readings, the record is accepted "with the same order or ring, and all other cells agree at the end": those in
-- which the starts do not differ. A cell in which they do keeps its reading. The slip is the same.
pub record FromOther (program start other recorded : List ℕ) (a : Accepted) (readings : Start) : Type 0 where
  pub run : Replayed
  pub accepted : IsAccepted program other recorded (another a readings run)
  pub answer : (k : Call program start recorded a) (m : Call program other recorded (another a readings run)) →
      (outcome_of k).answer ≡ (outcome_of m).answer
  pub groups : (k : Call program start recorded a) (m : Call program other recorded (another a readings run)) → groups_in k ≡ groups_in m
  pub listed_cells : (k : Call program start recorded a) (m : Call program other recorded (another a readings run)) →
      (rank cell : ℕ) → Rank a.program rank → Cell a.program cell → a.readings rank cell ≡ readings rank cell →
      entry_of k rank cell ≡ entry_of m rank cell
  pub own_cells : (m : Call program other recorded (another a readings run)) →
      (rank cell : ℕ) → Rank a.program rank → Cell a.program cell → ¬ (a.readings rank cell ≡ readings rank cell) →
      entry_of m rank cell ≡ Some (readings rank cell)
  pub registers : (rank : ℕ) → a.run.last.machine.registers rank ≡ run.last.machine.registers rank
  pub slip : slip_of a ≡ slip_of (another a readings run)

-- The claims, of an accepted record.
pub record OneTraceOnePage (program start recorded : List ℕ) (a : Accepted) : Type 0 where
  -- "two accepted records of one program and start with the same trace get, with long enough memory, the same kind of answer and end with the same
  -- cells and registers"
  pub one_trace : (other : List ℕ) (b : Accepted) → AreBytes other → IsAccepted program start other b →
      SameTrace a.run.events b.run.events → SameEnd program start recorded other a b
  -- "exchanging two neighbouring items of different ranks, neither a bar, whose accesses do not conflict, leaves the record accepted and its trace the
  -- same"
  pub exchange : (before : List Item) (x y : Item) (after : List Item) → read_record a.program.header recorded ≡ Ok (before ++ x ∷ y ∷ after) →
      Exchangeable a.run.events (length before) x y → Exchanged program start recorded a before x y after
  -- "if two starts differ only in cells that a record accepted from one of them never accesses, it is accepted from the other too, with the same order
  -- or ring, and all other cells agree at the end"
  pub other_start : (other : List ℕ) (readings : Start) → read_start a.program.header other ≡ Ok readings →
      DifferOffAccesses a.readings readings a.run.events → FromOther program start other recorded a readings
  -- Any record that is another merge of the same logs is as good: each rank's items and the rows stand in the same order, and so do each cell's accesses
  -- where one of two writes.
  pub any_merge : (items others : List Item) → read_record a.program.header recorded ≡ Ok items → (other : List ℕ) → AreBytes other →
      read_record a.program.header other ≡ Ok others → SameLogs items others → AcceptedToo program start recorded other a
