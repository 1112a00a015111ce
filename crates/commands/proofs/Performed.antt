-- What an action does to the arrays, against what it does to the machine's state.
use Rattle.model.specs.declared.Action.TheVariants.{Loads, Stores, Assigns, Passes, Issues, Meets}
use Prim.Native.Nat.{ℕ, ◌+◌, ◌<◌}
use mathlib.Core.Path.{◌≡◌, refl}
use Rattle.model.specs.Machine.{Action, State, address, set_requests}
use Rattle.model.specs.Replay.{access_of, Origin, perform}
use Rattle.model.specs.Limits.{max_items, max_cells}
use Rattle.memory.specs.Tables.{Rank}
use Rattle.queues.proofs.Queued.{append_queued}
use Rattle.items.proofs.Accesses.{Placed}
use Rattle.operands.proofs.Asking.{ActionFits}
use Rattle.machine.specs.Arrays.{Memory, cells_in}
use Rattle.machine.specs.Standing.{Holds}
use Rattle.machine.proofs.Held.{holds_later, holds_register, holds_cell}
use Rattle.commands.specs.Commands.{perform_on}

module _ {most : ℕ} {m : Memory} {s : State Origin} (held : Holds most m s) (rank : ℕ) (r : Rank rank) where
  loaded : (a : ℕ) → a < max_cells → s.cells rank a ≡ cells_in m rank a
  loaded a b = held.cells.same rank a r b

  pub performed : (origin : Origin) (a : Action) → ActionFits a → most < max_items →
      Holds (most + 1) (perform_on rank most origin.group a m) (perform rank origin a s)
  unfolding perform_on perform set_requests
  performed origin (Loads x a) (b, c) few = rw (← loaded a c) (holds_register (holds_later held) rank x (s.cells rank a) r b)
  performed origin (Stores a v) b few = holds_cell (holds_later held) (address rank a) v (record { rank_held = r; cell_held = b })
  performed origin (Assigns x v) b few = holds_register (holds_later held) rank x v r b
  performed origin Passes b few = holds_later held
  performed origin (Issues q remote source destination) b few =
      record {
        controls = held.controls;
        registers = held.registers;
        cells = held.cells;
        queues =
            append_queued held.queues rank q (record { remote = remote; source = source; destination = destination; mark = origin })
            (record { rank_held = r; queue_held = b; item_held = few });
      }
  performed origin Meets b few = holds_later held

  -- The access that an action has by the state's cells is the one that it has by the arrays', and its cell is one that the arrays have.
  pub same_access_lem : (a : Action) → ActionFits a → access_of rank a s.cells ≡ access_of rank a (cells_in m)
  unfolding access_of
  same_access_lem (Loads x a) (b, c) = rw (loaded a c)
  same_access_lem (Stores a v) b = refl
  same_access_lem (Assigns x v) b = refl
  same_access_lem Passes b = refl
  same_access_lem (Issues q remote source destination) b = refl
  same_access_lem Meets b = refl

  pub access_placed : (a : Action) → ActionFits a → (cells : ℕ → ℕ → ℕ) → Placed (access_of rank a cells)
  unfolding access_of
  access_placed (Loads x a) (b, c) cells = record { rank_held = r; cell_held = c }
  access_placed (Stores a v) b cells = record { rank_held = r; cell_held = b }
  access_placed (Assigns x v) b cells = tt
  access_placed Passes b cells = tt
  access_placed (Issues q remote source destination) b cells = tt
  access_placed Meets b cells = tt

-- No action touches the control states.
pub control_kept : (rank at group : ℕ) (a : Action) (m : Memory) → (perform_on rank at group a m).control ≡ m.control
unfolding perform_on
control_kept rank at group (Loads x a) m = refl
control_kept rank at group (Stores a v) m = refl
control_kept rank at group (Assigns x v) m = refl
control_kept rank at group Passes m = refl
control_kept rank at group (Issues q remote source destination) m = refl
control_kept rank at group Meets m = refl
