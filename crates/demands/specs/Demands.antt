-- The three demands, of what the check answers and leaves in the lent lists. A caller lends an order list and a cell list, each of which holds its
-- entries as numbers or as bytes; `o` is the answer with what the two lists hold then.
use Rattle.model.specs.declared.Verdict.TheVariants.{Order, Ring}
use Rattle.std.specs.Prelude.{ℕ, ◌+◌, ◌-◌, ◌*◌, ◌≤◌, ◌≡◌, Bool, true, ◌||◌, List, ◌↔◌, eqb, length, drop, Some, slice_get, Err}
use Rattle.model.specs.declared.Item.{Item}
use Rattle.model.specs.declared.Refusal.{Refusal}
use Rattle.model.specs.Refusals.{Ok, program_length, memory_too_short, no_value, start_form}
use Rattle.model.specs.Choice.{between}
use Rattle.model.specs.Programs.{Program, read_program}
use Rattle.model.specs.Records.{read_record}
use Rattle.model.specs.Machine.{Start}
use Rattle.model.specs.StartBytes.{read_start}
use Rattle.model.specs.Rules.{Bare, Rank, Cell, IsRun}
use Rattle.model.specs.Replay.{Replayed}
use Rattle.model.specs.HappensBefore.{Edge, HappensBefore, edges_of, ◌⟶◌}
use Rattle.model.specs.Traces.{SameTrace, SerialRun}
use Rattle.model.specs.Checks.{accept, Accepted, order_items, Outcome, Answer}
use Rattle.model.specs.Lists.{◌∈◌}
use Rattle.acceptance.specs.Bare.{bare}
use Rattle.record_facts.specs.Transfers.{MarksAgree}
use Rattle.ordering.specs.Orders.{TopologicalOrder, ShortestRing}
use Rattle.serializability.specs.Claim.{Serialization}
use Rattle.demands.specs.Entries.{Form, width, entries, first_entries}

-- These bytes are accepted: the check reads this program and these readings, refuses nothing, and the machine is left in this state.
pub record AcceptedTo (program start recorded : List ℕ) (P : Program) (readings : Start) (last : Bare) : Type 0 where
  pub run : Replayed
  pub accepted : accept program start recorded ≡ Ok (record { program = P; readings = readings; run = run })
  pub state : bare run.last.machine ≡ last

-- These bytes are a run: a readable program, readings for it, a readable record for it, and its items record a run of the program under Table 1 from
-- the readings to this state, with empty queues.
pub record AreRun (program start recorded : List ℕ) (P : Program) (readings : Start) (last : Bare) : Type 0 where
  pub items : List Item
  pub program_read_lem : read_program program ≡ Ok P
  pub start_read_lem : read_start P.header start ≡ Ok readings
  pub record_read_lem : read_record P.header recorded ≡ Ok items
  pub is_run : IsRun P readings items last

-- A readable program and an accepted record of it, from these start bytes.
abbrev pub IsAccepted : (program start recorded : List ℕ) → Accepted → Type 0
IsAccepted program start recorded a = accept program start recorded ≡ Ok a

-- The groups of an accepted record, the arrows between them, and "N × A".
abbrev pub groups_of : Accepted → ℕ
groups_of a = a.run.last.opened

abbrev pub arrows_of : Accepted → List Edge
arrows_of a = edges_of a.run.events

abbrev pub cells_of : Accepted → ℕ
cells_of a = a.program.header.ranks * a.program.header.cells

-- "A readable program and an accepted record of it, with long enough result memory".
pub record Answerable (form : Form) (program start recorded order cells : List ℕ) (a : Accepted) : Type 0 where
  pub accepted : IsAccepted program start recorded a
  pub order_fits_lem : groups_of a ≤ length (entries form order)
  pub cells_fit : cells_of a ≤ length (entries form cells)

-- The answer is an order or a ring, of so many groups.
abbrev pub IsVerdict : Answer → Type 0
IsVerdict (Ok (Order n)) = Unit {0}
IsVerdict (Ok (Ring n)) = Unit {0}
IsVerdict (Err r) = ⊥

abbrev pub count_in : Answer → ℕ
count_in (Ok (Order n)) = n
count_in (Ok (Ring n)) = n
count_in (Err r) = 0

-- Behind its first so many entries a list is what it was, an odd last byte too.
pub record Untouched (form : Form) (count : ℕ) (before after : List ℕ) : Type 0 where
  pub size : length after ≡ length before
  pub beyond : drop (width form * count) after ≡ drop (width form * count) before

-- The check's numbers: of the table's rows 1 to 15, and document 02's 18 and 19.
abbrev pub is_check_number : ℕ → Bool
is_check_number number = between program_length memory_too_short number || eqb number no_value || eqb number start_form

-- "one number of document 01's table with its place, and lent memory holds what it held".
pub record RefusedAs (order cells : List ℕ) (o : Outcome) (r : Refusal) : Type 0 where
  pub tabled : is_check_number r.number ≡ true
  pub same_order : o.order ≡ order
  pub same_cells : o.cells ≡ cells

-- Demand 1. "A readable program and an accepted record of it, with long enough result memory, get an order or a ring, and the last contents of every
-- cell. All other input gets one number of document 01's table with its place, and lent memory holds what it held."
pub record Demand1 (form : Form) (program start recorded order cells : List ℕ) (o : Outcome) : Type 0 where
  pub verdict_exactly_if : IsVerdict o.answer ↔ ((a : Accepted) × Answerable form program start recorded order cells a)
  -- "The last cell values, rank 1 first, fill the first N × A entries of a second list."
  pub last_cells_lem : (a : Accepted) → Answerable form program start recorded order cells a →
      (rank cell : ℕ) → Rank a.program rank → Cell a.program cell →
      slice_get (entries form o.cells) ((rank - 1) * a.program.header.cells + cell) ≡ Some (a.run.last.machine.cells rank cell)
  -- "Entries beyond are untouched."
  pub cells_beyond : (a : Accepted) → Answerable form program start recorded order cells a → Untouched form (cells_of a) cells o.cells
  pub order_beyond : Untouched form (count_in o.answer) order o.order
  pub other_input : (r : Refusal) → o.answer ≡ Err r → RefusedAs order cells o r

-- Demand 2. "A record is accepted exactly if it is a run of the program under Table 1 of the source, ending with empty queues, and the arrows drawn
-- are its happens-before relation between groups." The check's answer `o` has no part in it: it says what `accept` means, the "accepted" of demands 1
-- and 3, by Table 1 alone; what the arrows mean that demand 3 tells orders and rings by; and which events are one group.
pub record Demand2 (program start recorded : List ℕ) : Type 0 where
  pub accepted_exactly_if_run : (P : Program) (readings : Start) (last : Bare) →
      AcceptedTo program start recorded P readings last ↔ AreRun program start recorded P readings last
  pub arrows_are_happens_before : (a : Accepted) → IsAccepted program start recorded a →
      (g h : ℕ) → (g ⟶ h ∈ arrows_of a) ↔ HappensBefore a.run.events g h
  -- "A group is a read or write with its popa and popb": each pop is in the group of the transfer that it is for, first in, first out.
  pub pops_with_their_transfers : (a : Accepted) → IsAccepted program start recorded a → (items : List Item) →
      read_record a.program.header recorded ≡ Ok items → MarksAgree a.program a.readings items a.run

-- No plain run of the program, of any length, from the same start has the record's trace: "A plain run begins from those readings too".
abbrev pub NoSerialRun : Accepted → Type 0
NoSerialRun a =
    (items : List Item) (run : Replayed) → SerialRun a.program a.readings items run → ¬ (SameTrace a.run.events run.events)

-- "two or more groups, no repeat, each with an arrow to the next and the last to the first; listed from its lowest number": so many, which are "as few
-- groups as any closed walk along arrows has", and of several such the first.
pub record IsRing (a : Accepted) (groups : List ℕ) (n : ℕ) : Type 0 where
  pub count : length groups ≡ n
  pub shortest : ShortestRing (groups_of a) (arrows_of a) groups

-- "a permutation of all groups in which every arrow goes forward"; and the items that it stands for are "a plain run with that trace, the record's
-- value at each access, and the same last cells and registers".
pub record IsOrder (a : Accepted) (groups : List ℕ) (n : ℕ) : Type 0 where
  pub count : n ≡ groups_of a
  pub forward : TopologicalOrder (groups_of a) (arrows_of a) groups
  pub run : Replayed
  pub serial : Serialization a.program a.readings a.run (order_items groups a.run.events) run

-- Demand 3. "For every readable program and every accepted record: a ring is returned exactly when no plain run of the program from the same start
-- has the record's trace; otherwise the returned order is a plain run with that trace, the record's value at each access, and the same last cells
-- and registers."
pub record Demand3 (form : Form) (a : Accepted) (o : Outcome) : Type 0 where
  pub ring_exactly_if : ((n : ℕ) × (o.answer ≡ Ok (Ring n))) ↔ NoSerialRun a
  pub ring_listed : (n : ℕ) → o.answer ≡ Ok (Ring n) → IsRing a (first_entries form n o.order) n
  pub order_listed : (n : ℕ) → o.answer ≡ Ok (Order n) → IsOrder a (first_entries form n o.order) n

-- All three, of what the check does with these bytes and these lists.
pub record MeetsDemands (form : Form) (program start recorded order cells : List ℕ) (o : Outcome) : Type 0 where
  pub demand1 : Demand1 form program start recorded order cells o
  pub demand2 : Demand2 program start recorded
  pub demand3 : (a : Accepted) → Answerable form program start recorded order cells a → Demand3 form a o
