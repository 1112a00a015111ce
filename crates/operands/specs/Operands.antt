-- What a command asks for by the values of its expressions: all that the definition's `action` looks at.
use Rattle.model.specs.declared.Action.TheVariants.{Loads, Stores, Assigns, Passes, Issues, Meets}
use Rattle.std.specs.Prelude.{ℕ, Bool, ltb, Option}
use Rattle.model.specs.declared.Header.{Header}
use Rattle.model.specs.declared.Kind as Kind
use Rattle.model.specs.declared.Kind.{Kind}
use Rattle.model.specs.Refusals.{Result, Ok, require, present, ◌>>=◌, operand_range, assume_fails, no_value}
use Rattle.model.specs.Choice.{between}
use Rattle.model.specs.Machine.{Action, Transfer, address}
use Rattle.transitions.specs.declared.transition.Operands.{Operands}
use Rattle.transitions.specs.declared.transition.Command.{Command}
use Rattle.transitions.specs.declared.transition.Command.TheVariants.{Load, Store, Assign, Assume, Read, Write, Bar}

-- The kind of a transition, by its command.
abbrev pub kind_in : Command → Kind
kind_in (Load cell register) = Kind.TheVariants.Load
kind_in (Store cell value) = Kind.TheVariants.Store
kind_in (Assign value register) = Kind.TheVariants.Assign
kind_in (Assume value) = Kind.TheVariants.Assume
kind_in (Read operands) = Kind.TheVariants.Read
kind_in (Write operands) = Kind.TheVariants.Write
kind_in Bar = Kind.TheVariants.Bar

-- A value, or 18 at the item where there is none.
abbrev pub given : (at : ℕ) → Option ℕ → Result ℕ
given at v = present v no_value at

-- "own cell, remote rank, remote cell or queue outside its range"
unfoldable pub in_ranges : Header → (rank at own remote cell queue : ℕ) → Result Transfer
in_ranges h rank at own remote cell queue = do
  _ ← require (ltb own h.cells) operand_range at
  _ ← require (between 1 h.ranks remote) operand_range at
  _ ← require (ltb cell h.cells) operand_range at
  _ ← require (ltb queue h.queues) operand_range at
  Ok (record { own = address rank own; remote = address remote cell; queue = queue })

unfoldable pub transfer_by : Header → (rank at : ℕ) → Operands → Result Transfer
unfolding in_ranges
transfer_by h rank at o = do
  own ← given at o.own
  remote ← given at o.rank
  cell ← given at o.cell
  queue ← given at o.queue
  in_ranges h rank at own remote cell queue

-- "read appends (e2, e3, own rank, e1)"; "write appends (own rank, e1, e2, e3)". Both remember e2, "for a read, the rank read from".
abbrev pub reads : Transfer → Action
reads t = Issues t.queue t.remote.rank t.remote t.own

abbrev pub writes : Transfer → Action
writes t = Issues t.queue t.remote.rank t.own t.remote

-- 8 at the item for an operand outside its range.
abbrev pub ranged : (at : ℕ) → (test : Bool) → Result (Unit {0})
ranged at test = require test operand_range at

-- "register takes cell e1 of its own rank", "own cell e1 takes value e2", "register takes e1", "passes if e1 is not 0"
abbrev pub load_by : (cells at register : ℕ) → Option ℕ → Result Action
load_by cells at register v = do
  cell ← given at v
  _ ← ranged at (ltb cell cells)
  Ok (Loads register cell)

abbrev pub store_by : (cells at : ℕ) → (cell value : Option ℕ) → Result Action
store_by cells at v w = do
  cell ← given at v
  value ← given at w
  _ ← ranged at (ltb cell cells)
  Ok (Stores cell value)

abbrev pub assign_by : (at register : ℕ) → Option ℕ → Result Action
assign_by at register v = do
  value ← given at v
  Ok (Assigns register value)

abbrev pub assume_by : (at : ℕ) → Option ℕ → Result Action
assume_by at v = do
  value ← given at v
  _ ← require (ltb 0 value) assume_fails at
  Ok Passes

unfoldable pub action_by : Header → (rank at : ℕ) → Command → Result Action
unfolding transfer_by
action_by h rank at (Load cell register) = load_by h.cells at register cell
action_by h rank at (Store cell value) = store_by h.cells at cell value
action_by h rank at (Assign value register) = assign_by at register value
action_by h rank at (Assume value) = assume_by at value
action_by h rank at (Read operands) = transfer_by h rank at operands >>= (λ t. Ok (reads t))
action_by h rank at (Write operands) = transfer_by h rank at operands >>= (λ t. Ok (writes t))
action_by h rank at Bar = Ok Meets
