-- `take_command`: the transition that stands at the start is read as the definition reads it.
use mathlib.Core.Path.{refl}
use Rattle.machine.proofs.Outcomes.{does_refused}
use Rattle.commands.specs.Commands.{read_on}
use Rattle.commands.proofs.take_command.Goals as goal

pub returns-in-Ok : goal.returns-in-Ok
unfolding read_on
returns-in-Ok c = rw (← c.registers_of.ensures, ← c.read_transition.ensures, c.in-Ok.is) c.take_transition.ensures

pub returns-in-Err : goal.returns-in-Err
unfolding read_on
returns-in-Err c = rw (← c.registers_of.ensures, ← c.read_transition.ensures, c.in-Err.is) (does_refused refl)
