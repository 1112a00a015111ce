-- How the machine's arrays stand for the definition's state, and what it means that the definition and the code take an item alike.
use Rattle.std.specs.Prelude.{ℕ, ◌+◌, ◌≤◌, ◌≡◌}
use Rattle.model.specs.Refusals.{Result, Ok, Err}
use Rattle.model.specs.Machine.{State}
use Rattle.model.specs.Replay.{Origin, Replay, Taken}
use Rattle.memory.specs.Tables.{registers_size, cells_size}
use Rattle.memory.specs.Tied.{Controls, Whole, Below}
use Rattle.queues.specs.Queued.{Queued}
use Rattle.items.specs.declared.rows.Progress.{Progress}
use Rattle.items.specs.Accesses.{access_number}
use Rattle.machine.specs.Arrays.{Memory}
use Rattle.machine.specs.Outcomes.{Outcome}

-- The arrays hold the machine's state after at most so many items.
pub record Holds (most : ℕ) (m : Memory) (s : State Origin) : Type 0 where
  pub controls : Controls m.control s.control
  pub registers : Whole registers_size m.registers s.registers
  pub cells : Below cells_size m.cells s.cells
  pub queues : Queued most m.queues s.requests s.deliveries

-- The arrays and the progress stand for a state of the replay.
pub record Standing (m : Memory) (p : Progress) (s : Replay) : Type 0 where
  pub holds : Holds p.at m s.machine
  pub opened : s.opened ≡ p.opened
  pub row : s.row ≡ p.row
  pub few : p.opened ≤ p.at

-- An item that the definition and the code take alike.
pub record Follows (at : ℕ) (t : Taken) (after : Memory) (next : Progress) (group access : ℕ) : Type 0 where
  pub standing : Standing after next t.state
  pub counted : next.at ≡ at + 1
  pub same_group : t.event.group ≡ group
  pub same_access : access_number t.event.access ≡ access

-- Both take the item alike, or both refuse it alike.
abbrev pub Agree : (at : ℕ) → Result Taken → (after : Memory) → Outcome → Type 0
Agree at (Ok t) after (Ok a) = Follows at t after a.next a.group a.access
Agree at (Ok t) after (Err r) = ⊥
Agree at (Err r) after (Ok a) = ⊥
Agree at (Err r) after (Err r') = r ≡ r'
