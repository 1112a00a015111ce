-- What is claimed of the bytes of items, records and headers: reader and writer undo each other, so each of them has one form.
use Rattle.model.specs.declared.Found.{Found}
use Rattle.std.specs.Prelude.{ℕ, ◌+◌, ◌≤◌, ◌≡◌, List, ◌++◌, length, drop}
use Rattle.model.specs.declared.Header.{Header}
use Rattle.model.specs.declared.Item.{Item}
use Rattle.model.specs.Limits.{max_items}
use Rattle.model.specs.Refusals.{Ok}
use Rattle.model.specs.Choice.{Each}
use Rattle.model.specs.Bytes.{AreBytes, found, Reader}
use Rattle.model.specs.Programs.{Program, HeaderFits, read_header, read_program}
use Rattle.model.specs.Records.{read_item, record_reader, read_record}
use Rattle.record_bytes.specs.RecordBytes.{item_bytes, record_bytes, Writable}
use Rattle.record_bytes.specs.HeaderBytes.{header_bytes, WritableHeader}

-- What was read at a place can be written, and its bytes stand there, up to the next place.
pub record StandsAt {A : Type 0} (written : A → List ℕ) (Can : A → Type 0) (bytes : List ℕ) (at : ℕ) (f : Found A) : Type 0 where
  pub can : Can f.value
  pub stands : drop at bytes ≡ written f.value ++ drop f.next bytes

-- A reader and a writer that undo each other, for the values that can be written.
pub record RoundTrip {A : Type 0} (read : Reader A) (written : A → List ℕ) (Can : A → Type 0) : Type 0 where
  -- What is written is bytes ..
  pub are_bytes : (a : A) → Can a → AreBytes (written a)
  -- .. which are read back wherever they stand, to their end.
  pub read_back : (a : A) → Can a → (bytes : List ℕ) (at : ℕ) (more : List ℕ) → drop at bytes ≡ written a ++ more →
      read bytes at ≡ found a (at + length (written a))
  -- What is read from bytes was written so.
  pub written_so : (bytes : List ℕ) → AreBytes bytes → (at : ℕ) (f : Found A) → read bytes at ≡ Ok f → StandsAt written Can bytes at f

-- Two byte strings that are read to their ends as one value are the same.
abbrev pub OneForm : {A : Type 0} → (read other : Reader A) → Type 0
OneForm {A} read other =
    (bytes others : List ℕ) (a : A) → AreBytes bytes → AreBytes others → read bytes 0 ≡ found a (length bytes) →
    other others 0 ≡ found a (length others) → bytes ≡ others

-- A record that can be written: at most 1,024 items, each of which can be.
pub record WritableRecord (h : Header) (items : List Item) : Type 0 where
  pub few : length items ≤ max_items
  pub each : Each (Writable h) items

-- The claims of items and records, for every header that a program can have.
pub record RecordForms (h : Header) : Type 0 where
  pub items : RoundTrip (read_item h) item_bytes (Writable h)
  pub records : RoundTrip (record_reader h) record_bytes (WritableRecord h)
  -- The bytes of any record that can be written are read back as that record, and what is read as a record is the bytes of one that can be written.
  pub read_back : (items : List Item) → WritableRecord h items → read_record h (record_bytes items) ≡ Ok items
  pub written_so : (bytes : List ℕ) (items : List Item) → AreBytes bytes → read_record h bytes ≡ Ok items →
      (bytes ≡ record_bytes items) × WritableRecord h items
  -- "each transition number has one form" (document 02, #107), and so has each item, whatever program it is of.
  pub one_form : (other : Header) → HeaderFits other → OneForm (read_item h) (read_item other)

-- The claims of headers: the six numbers that a program begins with have one form, so T has, in one byte or in three.
pub record HeaderForms : Type 0 where
  pub headers : RoundTrip read_header header_bytes WritableHeader
  pub one_form : OneForm read_header read_header
  -- What is read as a program begins with the bytes of its header.
  pub begins : (bytes : List ℕ) (P : Program) → AreBytes bytes → read_program bytes ≡ Ok P →
      (rest : List ℕ) × (bytes ≡ header_bytes P.header ++ rest)
