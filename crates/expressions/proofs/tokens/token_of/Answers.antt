-- `token_of`: each arm looks its byte up in the definition's table, and the last arm finds it nowhere. Assumes nothing.
use Rattle.model.specs.Expressions.{tokens}
use Rattle.model.specs.Choice.{lookup}
use borrow.Author.Tests.{ne_eqb}
use Rattle.expressions.proofs.tokens.token_of.Goals as goal

pub returns-in-3 : goal.returns-in-3
unfolding lookup tokens
returns-in-3 c = rw c.in-3.is

pub returns-in-16 : goal.returns-in-16
unfolding lookup tokens
returns-in-16 c = rw c.in-16.is

pub returns-in-17 : goal.returns-in-17
unfolding lookup tokens
returns-in-17 c = rw c.in-17.is

pub returns-in-18 : goal.returns-in-18
unfolding lookup tokens
returns-in-18 c = rw c.in-18.is

pub returns-in-19 : goal.returns-in-19
unfolding lookup tokens
returns-in-19 c = rw c.in-19.is

pub returns-in-20 : goal.returns-in-20
unfolding lookup tokens
returns-in-20 c = rw c.in-20.is

pub returns-in_default : goal.returns-in_default
unfolding lookup tokens
returns-in_default c = simp (
  ne_eqb _ _ c.in_default.in_default-own.rest.0.0.0.0.0.0.0.0.1,
  ne_eqb _ _ c.in_default.in_default-own.rest.0.0.0.0.0.0.0.1,
  ne_eqb _ _ c.in_default.in_default-own.rest.0.0.0.0.0.0.1,
  ne_eqb _ _ c.in_default.in_default-own.rest.0.0.0.0.0.1,
  ne_eqb _ _ c.in_default.in_default-own.rest.0.0.0.0.1,
  ne_eqb _ _ c.in_default.in_default-own.rest.0.0.0.1,
  ne_eqb _ _ c.in_default.in_default-own.rest.0.0.1,
  ne_eqb _ _ c.in_default.in_default-own.rest.0.1,
  ne_eqb _ _ c.in_default.in_default-own.rest.1,
)
