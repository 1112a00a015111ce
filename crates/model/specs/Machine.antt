-- The machine (document 001, section 2.3; document 01, "The machine"): its state, and what a command asks for.
use Rattle.model.specs.declared.Action.TheVariants.{Loads, Stores, Assigns, Passes, Issues, Meets}
use Rattle.std.specs.Prelude.{ℕ, Bool, true, false, ◌&&◌, List, [], ltb, eqb, Option, Some}
use Rattle.model.specs.declared.Address.{Address}
use Rattle.model.specs.declared.Access as Declared
use Rattle.model.specs.declared.Action as DeclaredAction
use Rattle.model.specs.declared.Transfer as DeclaredTransfer
use Rattle.model.specs.Refusals.{Result, Ok, require, present, operand_range, assume_fails, no_value, ◌>>=◌}
use Rattle.model.specs.Choice.{when, between}
use Rattle.model.specs.Expressions.{Expression, evaluate}
use Rattle.model.specs.Programs.{Program, Command, load, store, assign, assume, read, write, bar}

abbrev pub address : (rank cell : ℕ) → Address
address rank cell = record { rank = rank; cell = cell }

-- "(own rank, e1, e2, e3) .. source rank and cell, then destination rank and cell"; document 02, #108: "A pending request now remembers its remote
-- rank (for a read, the rank read from)". The mark says which command asked; no rule looks at it.
pub record Request (Mark : Type 0) : Type 0 where
  pub remote : ℕ
  pub source : Address
  pub destination : Address
  pub mark : Mark

-- "destination and value"; of the remote rank: "and so does its delivery."
pub record Delivery (Mark : Type 0) : Type 0 where
  pub remote : ℕ
  pub destination : Address
  pub value : ℕ
  pub mark : Mark

-- The source's s = (st, m, fa, fb); m is `registers` and `cells`, `requests` is fa, `deliveries` is fb. "Cells, registers and queues are held per
-- rank": the first number is the rank.
pub record State (Mark : Type 0) : Type 0 where
  pub control : ℕ → ℕ
  pub registers : ℕ → ℕ → ℕ
  pub cells : ℕ → ℕ → ℕ
  pub requests : ℕ → ℕ → List (Request Mark)
  pub deliveries : ℕ → ℕ → List (Delivery Mark)

-- f[i := v]
unfoldable pub put : {A : Type 0} → (ℕ → A) → ℕ → A → ℕ → A
put f i v j = when (eqb j i) (λ _. v) (λ _. f j)

-- f[(i, j) := v]
unfoldable pub put₂ : {A : Type 0} → (ℕ → ℕ → A) → ℕ → ℕ → A → ℕ → ℕ → A
put₂ f i j v k l = when (eqb k i && eqb l j) (λ _. v) (λ _. f k l)

-- What the cell at an address holds.
abbrev pub cell_at : (ℕ → ℕ → ℕ) → Address → ℕ
cell_at cells a = cells a.rank a.cell

-- What the cells of every rank hold before the run. Document 01: "cells and registers start at 0".
abbrev pub Start : Type 0
Start = ℕ → ℕ → ℕ

unfoldable pub zero_start : Start
zero_start rank cell = 0

-- "A rank starts in state 0"; "all queues are empty".
unfoldable pub initial : {Mark : Type 0} → Start → State Mark
initial start =
    record {
      control = λ rank. 0;
      registers = λ rank index. 0;
      cells = start;
      requests = λ rank queue. [];
      deliveries = λ rank queue. [];
    }

-- The state with one part changed: st[r := q], m[(r, x) := v], m[a := v], fa[(r, q) := α], fb[(r, q) := β].
module _ {Mark : Type 0} (s : State Mark) where
  unfoldable pub move_to : (rank state : ℕ) → State Mark
  unfolding put
  move_to rank state =
      record {
        control = put s.control rank state;
        registers = s.registers;
        cells = s.cells;
        requests = s.requests;
        deliveries = s.deliveries;
      }

  unfoldable pub set_register : (rank index value : ℕ) → State Mark
  unfolding put₂
  set_register rank index value =
      record {
        control = s.control;
        registers = put₂ s.registers rank index value;
        cells = s.cells;
        requests = s.requests;
        deliveries = s.deliveries;
      }

  unfoldable pub set_cell : Address → (value : ℕ) → State Mark
  unfolding put₂
  set_cell a value =
      record {
        control = s.control;
        registers = s.registers;
        cells = put₂ s.cells a.rank a.cell value;
        requests = s.requests;
        deliveries = s.deliveries;
      }

  unfoldable pub set_requests : (rank queue : ℕ) → List (Request Mark) → State Mark
  unfolding put₂
  set_requests rank queue entries =
      record {
        control = s.control;
        registers = s.registers;
        cells = s.cells;
        requests = put₂ s.requests rank queue entries;
        deliveries = s.deliveries;
      }

  unfoldable pub set_deliveries : (rank queue : ℕ) → List (Delivery Mark) → State Mark
  unfolding put₂
  set_deliveries rank queue entries =
      record {
        control = s.control;
        registers = s.registers;
        cells = s.cells;
        requests = s.requests;
        deliveries = put₂ s.deliveries rank queue entries;
      }

-- An access of a cell. "Loads and popa read their cell; stores and popb write theirs."
abbrev pub Access : Type 0
Access = Declared.Access

abbrev pub read_of : Address → ℕ → Option Access
read_of a v = Some (record { writes = false; address = a; value = v })

abbrev pub write_of : Address → ℕ → Option Access
write_of a v = Some (record { writes = true; address = a; value = v })

-- What a command does once its expressions are evaluated.
abbrev pub Action : Type 0
Action = DeclaredAction.Action

-- The operands of a transfer, in their ranges: "own cell, remote rank, remote cell or queue".
abbrev pub Transfer : Type 0
Transfer = DeclaredTransfer.Transfer

-- "Expressions use the rank's registers before the step."
unfoldable pub value_of : Program → (rank : ℕ) → (registers : ℕ → ℕ) → Expression → Option ℕ
unfolding evaluate
value_of P = evaluate P.header.ranks

module _ (P : Program) (rank : ℕ) (registers : ℕ → ℕ) (item : ℕ) where
  -- The value of an expression, or 18 at the item where it has none.
  unfoldable pub value : Expression → Result ℕ
  unfolding value_of
  value e = present (value_of P rank registers e) no_value item

  -- 8 at the item where an own cell, a remote rank, a remote cell or a queue is outside its range.
  abbrev pub ranged : Bool → Result (Unit {0})
  ranged test = require test operand_range item

  unfoldable pub transfer : (e1 e2 e3 e4 : Expression) → Result Transfer
  unfolding value
  transfer e1 e2 e3 e4 = do
    own ← value e1
    remote ← value e2
    cell ← value e3
    queue ← value e4
    _ ← ranged (ltb own P.header.cells)
    _ ← ranged (between 1 P.header.ranks remote)
    _ ← ranged (ltb cell P.header.cells)
    _ ← ranged (ltb queue P.header.queues)
    Ok (record { own = address rank own; remote = address remote cell; queue = queue })

  -- What a command asks for, by its rank's registers alone: 18 for any of its expressions, then 8 and 9.
  unfoldable pub action : Command → Result Action
  unfolding value transfer
  action (load x e1) = do
    cell ← value e1
    _ ← ranged (ltb cell P.header.cells)
    Ok (Loads x cell)
  action (store e1 e2) = do
    cell ← value e1
    stored ← value e2
    _ ← ranged (ltb cell P.header.cells)
    Ok (Stores cell stored)
  action (assign x e1) = do
    assigned ← value e1
    Ok (Assigns x assigned)
  action (assume e1) = do
    assumed ← value e1
    _ ← require (ltb 0 assumed) assume_fails item
    Ok Passes
  -- "read appends (e2, e3, own rank, e1)"
  action (read e1 e2 e3 e4) = do
    t ← transfer e1 e2 e3 e4
    Ok (Issues t.queue t.remote.rank t.remote t.own)
  -- "write appends (own rank, e1, e2, e3) to the rank's queue e4 of requests"
  action (write e1 e2 e3 e4) = do
    t ← transfer e1 e2 e3 e4
    Ok (Issues t.queue t.remote.rank t.own t.remote)
  action bar = Ok Meets
