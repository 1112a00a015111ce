-- What a command asks for: the definition's action looks at the values of its expressions alone, and an action that it gives fits the arrays.
use Rattle.model.specs.declared.Action.TheVariants.{Loads, Stores, Assigns, Passes, Issues, Meets}
use Prim.Native.Nat.{ℕ, ◌<◌}
use mathlib.Core.Path.{◌≡◌, refl, ◌∙◌}
use mathlib.Core.List.{List}
use native.Mathlib.Omega.{arith}
use lib.ListN.{get_or}
use Rattle.model.specs.Limits.{max_cells, max_registers, max_queues}
use Rattle.model.specs.Refusals.{Ok}
use Rattle.model.specs.Expressions.{Expression}
use Rattle.model.specs.Programs.{Program, HeaderFits, Command, load, store, assign, assume, read, write, bar, kind_of}
use Rattle.model.specs.Machine.{Action, transfer, value, value_of, action}
use Rattle.model.proofs.Actions.{Asks, loading, storing, assigning, passing, reading, writing, meeting, action_asks}
use Rattle.expressions.specs.Values as Values
use Rattle.expressions.specs.declared.Environment.{Environment}
use Rattle.transitions.specs.Transitions.{operands_of, command_of}
use Rattle.operands.specs.Operands.{kind_in, given, in_ranges, transfer_by, action_by}
use Rattle.operands.proofs.Registers.{RegisterHeld}

module _ (P : Program) (rank at : ℕ) (own : List ℕ) where
  abbrev pub environment : Environment
  environment = record { header = P.header; rank = rank; registers = own }

  abbrev values : ℕ → ℕ
  values x = get_or own x 0

  given_by : (e : Expression) → given at (Values.value_of environment e) ≡ value P rank values at e
  unfolding value value_of
  given_by e = refl

  transfer_by_lem : (e1 e2 e3 e4 : Expression) →
      transfer P rank values at e1 e2 e3 e4 ≡ transfer_by P.header rank at (operands_of environment e1 e2 e3 e4)
  unfolding transfer transfer_by in_ranges
  transfer_by_lem e1 e2 e3 e4 = rw (given_by e1, given_by e2, given_by e3, given_by e4)

  pub action_by_lem : (command : Command) → action P rank values at command ≡ action_by P.header rank at (command_of environment command)
  unfolding action action_by
  action_by_lem (load x e1) = rw (given_by e1)
  action_by_lem (store e1 e2) = rw (given_by e1, given_by e2)
  action_by_lem (assign x e1) = rw (given_by e1)
  action_by_lem (assume e1) = rw (given_by e1)
  action_by_lem (read e1 e2 e3 e4) = rw (transfer_by_lem e1 e2 e3 e4)
  action_by_lem (write e1 e2 e3 e4) = rw (transfer_by_lem e1 e2 e3 e4)
  action_by_lem bar = refl

  pub kind_in_lem : (command : Command) → kind_in (command_of environment command) ≡ kind_of command
  unfolding kind_of
  kind_in_lem (load x e1) = refl
  kind_in_lem (store e1 e2) = refl
  kind_in_lem (assign x e1) = refl
  kind_in_lem (assume e1) = refl
  kind_in_lem (read e1 e2 e3 e4) = refl
  kind_in_lem (write e1 e2 e3 e4) = refl
  kind_in_lem bar = refl

-- The registers, cells and queues of an action are ones that the arrays have.
abbrev pub ActionFits : Action → Type 0
ActionFits (Loads x a) = (x < max_registers) × (a < max_cells)
ActionFits (Stores a v) = a < max_cells
ActionFits (Assigns x v) = x < max_registers
ActionFits Passes = Unit {0}
ActionFits (Issues q remote source destination) = q < max_queues
ActionFits Meets = Unit {0}

-- An action that the definition gives is one of a run's, so its operands passed. The arrays have room for all that a header allows.
module _ (P : Program) (rank at : ℕ) (own : List ℕ) (fits : HeaderFits P.header) where
  asked_fits : {command : Command} {a : Action} → RegisterHeld command → Asks P rank (λ x. get_or own x 0) command a → ActionFits a
  asked_fits held (loading here cell) = (held, omega (arith, fits.cells_fit, cell))
  asked_fits held (storing here stored cell) = omega (arith, fits.cells_fit, cell)
  asked_fits held (assigning assigned) = held
  asked_fits held (passing assumed test) = tt
  asked_fits held (reading operands) = omega (arith, fits.queues_fit, operands.queue)
  asked_fits held (writing operands) = omega (arith, fits.queues_fit, operands.queue)
  asked_fits held meeting = tt

  pub action_fits : (command : Command) → RegisterHeld command → {a : Action} →
      action_by P.header rank at (command_of (environment P rank at own) command) ≡ Ok a → ActionFits a
  action_fits command held e = asked_fits held (action_asks P rank (λ x. get_or own x 0) at command (action_by_lem P rank at own command ∙ e))
