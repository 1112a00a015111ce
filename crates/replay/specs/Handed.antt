-- What the whole replay answers and hands over, by the definition's `accept`.
use Rattle.std.specs.Prelude.{ℕ, ◌≡◌, List, eqb, length}
use Rattle.model.specs.declared.Header.{Header}
use Rattle.model.specs.declared.Item.{Item}
use Rattle.model.specs.Refusals.{Result, Ok, Err, ◌>>=◌, barrier_row, queues_left}
use Rattle.model.specs.Choice.{when}
use Rattle.model.specs.Programs.{Program, read_program}
use Rattle.model.specs.Records.{read_record_in, read_record}
use Rattle.model.specs.Machine.{Start}
use Rattle.model.specs.Replay.{replay}
use Rattle.model.specs.Checks.{Accepted, accept}
use Rattle.program.specs.Starts.{read_starts, entries}
use Rattle.step.specs.Standing.{Loaded}
use Rattle.memory.specs.Tables.{Table, zeros, cells_size}
use Rattle.memory.specs.Made.{table_of}
use Rattle.start_cells.specs.Reading.{cells_read}
use Rattle.trails.specs.Trails.{trail_of, trail_size}
use Rattle.runs.specs.declared.Reached.{Reached}
use Rattle.runs.specs.Items.{Went, standing}
use Rattle.runs.specs.Promise.{went_from}
use Rattle.replay.specs.declared.Accepted as handed

-- The contents of the lent arrays.
pub record Lent : Type 0 where
  pub cells : Table
  pub trail : Table

abbrev pub lent : (cells trail : Table) → Lent
lent cells trail = record { cells = cells; trail = trail }

-- The answer: what the code tells of an accepted record, or the refusal.
abbrev pub Acceptance : Type 0
Acceptance = Result handed.Accepted

abbrev pub answer_of : Result Accepted → Acceptance
answer_of (Ok a) = Ok (record { header = a.program.header; items = (length a.run.events); groups = a.run.last.opened })
answer_of (Err r) = Err r

-- What is handed over of an accepted record: its last cells and, in a trail that was cleared, a row for each item.
pub record Hands (a : Accepted) (told : Table) (after : Lent) : Type 0 where
  pub cells : after.cells ≡ table_of cells_size a.run.last.machine.cells
  pub trail : told ≡ zeros trail_size → after.trail ≡ trail_of a.run.events

-- The answer by an acceptance, and what is handed over then; `told` is what the trail held before.
pub record Answers (accepted : Result Accepted) (told : Table) (after : Lent) (r : Acceptance) : Type 0 where
  pub answers : r ≡ answer_of accepted
  pub hands : (a : Accepted) → accepted ≡ Ok a → Hands a told after

-- What the lent arrays hold at the end, whatever is answered: what they held where a refusal was found.
abbrev pub unless_refused : {A : Type 0} → Lent → Result A → (A → Lent) → Lent
unless_refused before (Ok a) rest = rest a
unless_refused before (Err r) rest = before

abbrev pub went_to : Went → Lent
went_to went = lent (standing went).memory.cells (standing went).trail

unfoldable pub left_by_record : (program starts : List ℕ) → Header → (recorded : List ℕ) → Lent → Lent
left_by_record program starts header recorded before =
    unless_refused before (read_record header recorded) λ items.
    went_to (went_from program starts header recorded (length items) before.cells before.trail)

unfoldable pub left_by : (program start recorded : List ℕ) → Lent → Lent
unfolding left_by_record
left_by program start recorded before =
    unless_refused before (read_program program) λ P.
    unless_refused before (cells_read P.header start) λ cells.
    left_by_record program (entries (read_starts program)) P.header recorded (lent cells before.trail)

-- The promise: the definition's answer, and what the arrays hold after it, on a refusal too.
pub record HandsOver (program start recorded : List ℕ) (before after : Lent) (r : Acceptance) : Type 0 where
  pub accepts : Answers (accept program start recorded) before.trail after r
  pub leaves : after ≡ left_by program start recorded before

-- A program that was read, and a table that holds the readings at the start.
pub record Begun (program starts : List ℕ) (header : Header) (cells : Table) : Type 0 where
  pub P : Program
  pub loaded : Loaded program starts header P
  pub readings : Start
  pub table : cells ≡ table_of cells_size readings

-- The definition's `accept` once program and start are read, and once the record is read too.
unfoldable pub accept_items : Program → Start → List Item → Result Accepted
unfolding replay
accept_items P start items = do
  run ← replay P start items
  Ok (record { program = P; readings = start; run = run })

unfoldable pub accept_record : Program → Start → (recorded : List ℕ) → Result Accepted
unfolding read_record_in accept_items
accept_record P start recorded = do
  items ← read_record P.header recorded
  accept_items P start items

-- The same promise from there on.
pub record TakesRecord (program starts : List ℕ) (header : Header) (recorded : List ℕ) (before after : Lent) (r : Acceptance) : Type 0 where
  pub accepts : (given : Begun program starts header before.cells) →
      Answers (accept_record given.P given.readings recorded) before.trail after r
  pub leaves : after ≡ left_by_record program starts header recorded before

-- "An open row at the end is 12, placed at the item count, and comes before 13."
abbrev pub end_of : Header → (items : ℕ) → Reached → Acceptance
end_of header items reached =
    when (eqb reached.row 0)
    (λ _.
    when reached.quiet
    (λ _. Ok (record { header = header; items = items; groups = reached.groups }))
    (λ _. Err (record { number = queues_left; place = items })))
    (λ _. Err (record { number = barrier_row; place = items }))
