-- `form_of`: each arm looks its kind up in the definition's table, and the last arm finds it nowhere. Assumes nothing.
use borrow.Author.Tests.{ne_eqb}
use Rattle.model.specs.Choice.{lookup}
use Rattle.model.specs.Programs.{forms}
use Rattle.transitions.proofs.transition.form_of.Goals as goal

pub returns-in-4 : goal.returns-in-4
unfolding lookup forms
returns-in-4 c = rw c.in-4.is

pub returns-in-5 : goal.returns-in-5
unfolding lookup forms
returns-in-5 c = rw c.in-5.is

pub returns-in-6 : goal.returns-in-6
unfolding lookup forms
returns-in-6 c = rw c.in-6.is

pub returns-in-9 : goal.returns-in-9
unfolding lookup forms
returns-in-9 c = rw c.in-9.is

pub returns-in_default : goal.returns-in_default
unfolding lookup forms
returns-in_default c = simp (
  ne_eqb _ _ c.in_default.in_default-own.rest.0.0.0.0.0.0.1,
  ne_eqb _ _ c.in_default.in_default-own.rest.0.0.0.0.0.1,
  ne_eqb _ _ c.in_default.in_default-own.rest.0.0.0.0.1,
  ne_eqb _ _ c.in_default.in_default-own.rest.0.0.0.1,
  ne_eqb _ _ c.in_default.in_default-own.rest.0.0.1,
  ne_eqb _ _ c.in_default.in_default-own.rest.0.1,
  ne_eqb _ _ c.in_default.in_default-own.rest.1,
)
