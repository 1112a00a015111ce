-- What a store into the arrays does to the state that they hold.
use Prim.Native.Nat.{ℕ, ◌+◌, ◌<◌}
use native.Mathlib.Omega.{arith}
use Rattle.model.specs.declared.Address.{Address}
use Rattle.model.specs.Machine.{State, move_to, set_register, set_cell}
use Rattle.model.specs.Replay.{Origin}
use Rattle.model.specs.Limits.{max_registers}
use Rattle.memory.specs.Tables.{registers_size, cells_size, stored, control_stored, Rank, Place}
use Rattle.memory.proofs.Tied.{holds_stored, controls_stored}
use Rattle.queues.proofs.Queued.{later}
use Rattle.machine.specs.Arrays.{Memory, with_control, with_registers, with_cells}
use Rattle.machine.specs.Standing.{Holds}

module _ {most : ℕ} {m : Memory} {s : State Origin} (held : Holds most m s) where
  pub holds_later : Holds (most + 1) m s
  holds_later =
      record {
        controls = held.controls;
        registers = held.registers;
        cells = held.cells;
        queues = later held.queues (most + 1) (omega arith);
      }

  pub holds_moved : (rank target : ℕ) → Rank rank → Holds most (with_control m (control_stored m.control rank target)) (move_to s rank target)
  unfolding move_to
  holds_moved rank target r =
      record {
        controls = controls_stored held.controls rank target r;
        registers = held.registers;
        cells = held.cells;
        queues = held.queues;
      }

  pub holds_register : (rank x v : ℕ) → Rank rank → x < max_registers →
      Holds most (with_registers m (stored registers_size m.registers rank x v)) (set_register s rank x v)
  unfolding set_register
  holds_register rank x v r b =
      record {
        controls = held.controls;
        registers = holds_stored held.registers rank x v r b;
        cells = held.cells;
        queues = held.queues;
      }

  pub holds_cell : (a : Address) (v : ℕ) → Place a → Holds most (with_cells m (stored cells_size m.cells a.rank a.cell v)) (set_cell s a v)
  unfolding set_cell
  holds_cell a v p =
      record {
        controls = held.controls;
        registers = held.registers;
        cells = holds_stored held.cells a.rank a.cell v p.rank_held p.cell_held;
        queues = held.queues;
      }
