-- Serializability of a record (document 01, "Groups and arrows", and the delivery's condition): one claim about the whole record and all serial runs.
use Rattle.std.specs.Prelude.{ℕ, ◌≡◌, List, ◌↔◌}
use Rattle.model.specs.declared.Item.{Item}
use Rattle.model.specs.Programs.{Program}
use Rattle.model.specs.Machine.{Start}
use Rattle.model.specs.Replay.{Event, Replayed}
use Rattle.model.specs.Orders.{ordered, cyclic}
use Rattle.model.specs.Traces.{Identified, SameTrace, SameValues, SerialRun}
use Rattle.model.specs.Checks.{verdict_on, order_items}
use Rattle.model.specs.Lists.{◌∈◌}

-- The items are a serial run with the record's trace, the record's value at each access, and the same last contents of all cells and registers.
pub record Serialization (P : Program) (start : Start) (run : Replayed) (items : List Item) (run' : Replayed) : Type 0 where
  pub serial : SerialRun P start items run'
  pub trace : SameTrace run.events run'.events
  pub values : SameValues run.events run'.events
  -- each event of the one has its counterpart in the other, so that trace and values speak of every access
  pub counterpart : (x : Event) → x ∈ run.events → (y : Event) × (y ∈ run'.events) × Identified x y
  pub original : (y : Event) → y ∈ run'.events → (x : Event) × (x ∈ run.events) × Identified x y
  pub cells : (rank cell : ℕ) → run.last.machine.cells rank cell ≡ run'.last.machine.cells rank cell
  pub registers : (rank index : ℕ) → run.last.machine.registers rank index ≡ run'.last.machine.registers rank index
  pub control : (rank : ℕ) → run.last.machine.control rank ≡ run'.last.machine.control rank

-- The answer is a ring exactly when no serial run, of any length, from the same start has the record's trace; and when it is an order, the items
-- that the order stands for are a serialization of the record.
pub record Serializable (P : Program) (start : Start) (run : Replayed) : Type 0 where
  pub order : (groups : List ℕ) → verdict_on run ≡ ordered groups →
      (run' : Replayed) × Serialization P start run (order_items groups run.events) run'
  pub ring : ((cycle : List ℕ) × (verdict_on run ≡ cyclic cycle)) ↔
      ((items : List Item) (run' : Replayed) → SerialRun P start items run' → ¬ (SameTrace run.events run'.events))
