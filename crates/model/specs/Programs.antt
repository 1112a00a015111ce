-- Program bytes (document 01): "N, A, R, Q, S, T, one byte each, then T transitions"; and document 02's #107 on T.
use Rattle.std.specs.Prelude.{ℕ, ◌+◌, ◌≤◌, Bool, List, [], ◌∷◌, ltb, leb, eqb, Option, Some, None}
use Rattle.model.specs.declared.Header.{Header}
use Rattle.model.specs.declared.Kind.{Kind}
use Rattle.model.specs.declared.Kind.TheVariants.{Load, Store, Assign, Assume, Read, Write, Bar}
use Rattle.model.specs.Limits.{max_ranks, max_cells, max_registers, max_queues, max_states, short_transitions, max_transitions, long_count}
use Rattle.model.specs.Refusals.{Result, program_length, program_range, program_form}
use Rattle.model.specs.Choice.{when, between, bit, lookup}
use Rattle.model.specs.Bytes.{Reader, pure, here, fault, byte, word, judged, optional, times, whole, ◌>>=◌}
use Rattle.model.specs.Formats.{Format, today}
use Rattle.model.specs.Expressions.{Expression, constant, expression}

-- The command column of document 01's table of kinds.
pub data Command : Type 0 where
  -- "register takes cell e1 of its own rank"
  load : (register : ℕ) (e1 : Expression) → Command
  -- "own cell e1 takes value e2"
  store : (e1 e2 : Expression) → Command
  -- "register takes e1"
  assign : (register : ℕ) (e1 : Expression) → Command
  -- "passes if e1 is not 0"
  assume : (e1 : Expression) → Command
  -- "e1 own cell, e2 remote rank, e3 remote cell, e4 queue"
  read : (e1 e2 e3 e4 : Expression) → Command
  write : (e1 e2 e3 e4 : Expression) → Command
  bar : Command

unfoldable pub kind_of : Command → Kind
kind_of (load x e1) = Load
kind_of (store e1 e2) = Store
kind_of (assign x e1) = Assign
kind_of (assume e1) = Assume
kind_of (read e1 e2 e3 e4) = Read
kind_of (write e1 e2 e3 e4) = Write
kind_of bar = Bar

pub record Transition : Type 0 where
  pub source : ℕ
  pub target : ℕ
  pub command : Command

pub record Program : Type 0 where
  pub header : Header
  pub transitions : List Transition

-- "then only the fields whose map bit stands, in bit order: bit 0 a register (one byte); bits 1 to 4 expressions e1 to e4."
pub record Fields : Type 0 where
  pub register : ℕ
  pub e1 : Expression
  pub e2 : Expression
  pub e3 : Expression
  pub e4 : Expression

unfoldable pub read_fields : (registers map : ℕ) → Reader Fields
unfolding byte judged expression
read_fields registers map = do
  x ← optional (bit 0 map) 0 (judged (λ i. ltb i registers) program_range (byte program_length))
  e1 ← optional (bit 1 map) (constant 0) (expression registers)
  e2 ← optional (bit 2 map) (constant 0) (expression registers)
  e3 ← optional (bit 3 map) (constant 0) (expression registers)
  e4 ← optional (bit 4 map) (constant 0) (expression registers)
  pure (record { register = x; e1 = e1; e2 = e2; e3 = e3; e4 = e4 })

-- A row of the table of kinds: the map, and the command that the fields make.
pub record CommandForm : Type 0 where
  pub map : ℕ
  pub command : Fields → Command

unfoldable pub forms : List (ℕ × CommandForm)
forms =
    (1, record { map = 3; command = λ f. load f.register f.e1 }) ∷
    (2, record { map = 6; command = λ f. store f.e1 f.e2 }) ∷
    (3, record { map = 3; command = λ f. assign f.register f.e1 }) ∷
    (4, record { map = 2; command = λ f. assume f.e1 }) ∷
    (5, record { map = 30; command = λ f. read f.e1 f.e2 f.e3 f.e4 }) ∷
    (6, record { map = 30; command = λ f. write f.e1 f.e2 f.e3 f.e4 }) ∷
    (9, record { map = 0; command = λ f. bar }) ∷ []

-- "unknown kind, then map not the kind's": the map stands at `at`, the kind after it.
unfoldable pub judged_form : (at map : ℕ) → Option CommandForm → Reader CommandForm
judged_form at map None = fault program_form (at + 1)
judged_form at map (Some form) = when (eqb map form.map) (λ _. pure form) (λ _. fault program_form at)

-- "A transition is a map byte, a kind byte, a from state, a to state, then .. the fields .."; "map and kind are both read before either is judged."
unfoldable pub read_transition : Header → Reader Transition
unfolding byte judged lookup forms judged_form read_fields
read_transition header = do
  at ← here
  map ← byte program_length
  kind ← byte program_length
  form ← judged_form at map (lookup kind forms)
  source ← judged (λ q. ltb q header.states) program_range (byte program_length)
  target ← judged (λ q. ltb q header.states) program_range (byte program_length)
  fields ← read_fields header.registers map
  pure (record { source = source; target = target; command = form.command fields })

-- A header number, in its range.
unfoldable pub header_number : (low high : ℕ) → Reader ℕ
unfolding byte judged
header_number low high = judged (between low high) program_range (byte program_length)

-- "a count byte of 255 in the header says that a two-byte count follows, and that count is 129 or more"; "A count byte 129..254 or a two-byte count
-- not 129..400 gets 2." A format of at most 128 transitions has no count but the byte's.
abbrev pub count_byte : (most n : ℕ) → Bool
count_byte most n = when (eqb n long_count) (λ _. ltb short_transitions most) (λ _. leb n short_transitions)

unfoldable pub transition_count : (most : ℕ) → Reader ℕ
unfolding byte word judged
transition_count most = do
  count ← judged (count_byte most) program_range (byte program_length)
  optional (eqb count long_count) count (judged (between (short_transitions + 1) most) program_range (word program_length))

-- "N goes to 16", "A cells (1..64), R registers (1..16), Q queues (1..4)", "S control states (1..64)", and T.
unfoldable pub read_header_in : Format → Reader Header
unfolding header_number transition_count
read_header_in format = do
  ranks ← header_number 1 format.ranks
  cells ← header_number 1 max_cells
  registers ← header_number 1 max_registers
  queues ← header_number 1 max_queues
  states ← header_number 1 max_states
  transitions ← transition_count format.transitions
  pure
      (record {
        ranks = ranks;
        cells = cells;
        registers = registers;
        queues = queues;
        states = states;
        transitions = transitions;
      })

abbrev pub read_header : Reader Header
read_header = read_header_in today

-- A header with its numbers in these ranges: every one that is read (`header_fits`).
pub record HeaderFits (h : Header) : Type 0 where
  pub ranks_low : 1 ≤ h.ranks
  pub ranks_fit : h.ranks ≤ max_ranks
  pub cells_fit : h.cells ≤ max_cells
  pub registers_fit : h.registers ≤ max_registers
  pub queues_fit : h.queues ≤ max_queues
  pub states_fit : h.states ≤ max_states
  pub transitions_fit : h.transitions ≤ max_transitions

unfoldable pub program_reader_in : Format → Reader Program
unfolding read_header_in times read_transition
program_reader_in format = do
  header ← read_header_in format
  transitions ← times header.transitions (read_transition header)
  pure (record { header = header; transitions = transitions })

abbrev pub program_reader : Reader Program
program_reader = program_reader_in today

-- The program that these bytes are, or the refusal.
unfoldable pub read_program_in : Format → List ℕ → Result Program
unfolding whole program_reader_in
read_program_in format = whole program_length (program_reader_in format)

abbrev pub read_program : List ℕ → Result Program
read_program = read_program_in today
