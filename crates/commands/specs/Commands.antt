-- The commands on arrays: what the code makes of them, test by test as the definition's step. Nothing is asked of the arrays here.
use Rattle.model.specs.declared.Action.TheVariants.{Loads, Stores, Assigns, Passes, Issues, Meets}
use Rattle.std.specs.Prelude.{ℕ, ◌&&◌, List, eqb}
use Rattle.model.specs.declared.Header.{Header}
use Rattle.model.specs.declared.Item.{Item}
use Rattle.model.specs.Refusals.{Result, Ok, Err, refuse, require, ◌>>=◌, wrong_transition}
use Rattle.model.specs.declared.Found.{Found}
use Rattle.model.specs.Programs.{read_transition}
use Rattle.model.specs.Machine.{Action}
use Rattle.model.specs.ItemKinds.{same_kind}
use Rattle.model.specs.Replay.{group_of, access_of}
use Rattle.memory.specs.Tables.{registers_size, cells_size, row_at, stored, control_at, control_stored}
use Rattle.queues.specs.Transfers.{appended}
use Rattle.transitions.specs.declared.transition.Transition.{Transition}
use Rattle.expressions.specs.declared.Environment.{Environment}
use Rattle.expressions.specs.Values.{map_found}
use Rattle.transitions.specs.Transitions.{transition_of}
use Rattle.items.specs.declared.rows.Progress.{Progress}
use Rattle.items.specs.Accesses.{access_told}
use Rattle.operands.specs.Operands.{kind_in, action_by}
use Rattle.items.specs.Progress.{command_progress}
use Rattle.machine.specs.Arrays.{Memory, cells_in, with_control, with_registers, with_cells, with_queues}
use Rattle.machine.specs.Outcomes.{Left, agreed_on}

-- What an action does to the arrays. A transfer is kept under the number of its item.
unfoldable pub perform_on : (rank at group : ℕ) → Action → Memory → Memory
perform_on rank at group (Loads x a) m = with_registers m (stored registers_size m.registers rank x (cells_in m rank a))
perform_on rank at group (Stores a v) m = with_cells m (stored cells_size m.cells rank a v)
perform_on rank at group (Assigns x v) m = with_registers m (stored registers_size m.registers rank x v)
perform_on rank at group Passes m = m
perform_on rank at group (Issues q remote source destination) m =
    with_queues m (appended m.queues rank q at (record { remote = remote; source = source; destination = destination; group = group }))
perform_on rank at group Meets m = m

-- The arrays after a command's action, with its rank in the target state.
abbrev pub moved_on : Item → Progress → (target : ℕ) → Action → Memory → Memory
moved_on i p target a m =
    with_control (perform_on i.rank p.at (group_of p.opened i) a m) (control_stored m.control i.rank target)

unfoldable pub action_on : (ranks : ℕ) → Item → Progress → (target : ℕ) → Action → Memory → Result Left
unfolding agreed_on perform_on
action_on ranks i p target a m =
    agreed_on p.at i (access_of i.rank a (cells_in m))
    (record {
      memory = moved_on i p target a m;
      next = command_progress ranks i p;
      group = group_of p.opened i;
      access = access_told (access_of i.rank a (cells_in m));
    })

-- "A command item takes its transition from the rank's state": 7, then 18, then 8 and 9, then 11.
unfoldable pub transition_on : Header → Item → Progress → Transition → Memory → Result Left
unfolding action_by action_on
transition_on h i p t m = do
  _ ← require (eqb t.source (control_at m.control i.rank) && same_kind (kind_in t.command) i.kind) wrong_transition p.at
  a ← action_by h i.rank p.at t.command
  action_on h.ranks i p t.target a m

-- Bytes that are no transition are none from the rank's state.
unfoldable pub read_on : Header → Item → Progress → Result (Found Transition) → Memory → Result Left
unfolding transition_on
read_on h i p (Ok f) m = transition_on h i p f.value m
read_on h i p (Err r) m = refuse wrong_transition p.at

-- What the expressions of a rank's transition are evaluated in: by its registers before the step.
abbrev pub environment_in : Header → (rank : ℕ) → Memory → Environment
environment_in h rank m = record { header = h; rank = rank; registers = row_at registers_size m.registers rank }

-- The transition that stands at a start, with the values of its expressions.
abbrev pub command_on : (bytes : List ℕ) → (start : ℕ) → Header → Item → Progress → Memory → Result Left
command_on bytes start h i p m =
    read_on h i p (map_found (transition_of (environment_in h i.rank m)) (read_transition h bytes start)) m
