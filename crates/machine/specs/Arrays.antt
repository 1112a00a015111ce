-- The contents of the machine's arrays, as one thing.
use Rattle.std.specs.Prelude.{ℕ, List}
use Rattle.memory.specs.Tables.{Table, cells_size, number_at}
use Rattle.links.specs.declared.Queues.{Queues}
use Rattle.machine.specs.declared.Machine.{Machine}

pub record Memory : Type 0 where
  pub control : List ℕ
  pub registers : Table
  pub cells : Table
  pub queues : Queues

-- The machine's own arrays, and the cells that it was lent.
abbrev pub memory : Machine → (cells : Table) → Memory
memory m cells = record { control = m.control; registers = m.registers; cells = cells; queues = m.queues }

-- The cells by rank and number.
abbrev pub cells_in : Memory → ℕ → ℕ → ℕ
cells_in m = number_at cells_size m.cells

-- The memory with one part of it changed.
abbrev pub with_control : Memory → List ℕ → Memory
with_control m control = record { control = control; registers = m.registers; cells = m.cells; queues = m.queues }

abbrev pub with_registers : Memory → Table → Memory
with_registers m registers = record { control = m.control; registers = registers; cells = m.cells; queues = m.queues }

abbrev pub with_cells : Memory → Table → Memory
with_cells m cells = record { control = m.control; registers = m.registers; cells = cells; queues = m.queues }

abbrev pub with_queues : Memory → Queues → Memory
with_queues m queues = record { control = m.control; registers = m.registers; cells = m.cells; queues = queues }
