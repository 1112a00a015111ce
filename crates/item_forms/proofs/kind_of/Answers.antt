-- `kind_of`: an arm for each row of the table, and where no row has the number, none. Assumes nothing.
use native.Mathlib.Omega.{arith}
use borrow.Author.Tests.{ne_eqb}
use Rattle.model.specs.Choice.{lookup}
use Rattle.model.specs.ItemKinds.{item_kinds}
use Rattle.item_forms.proofs.kind_of.Goals as goal

pub returns-in-4 : goal.returns-in-4
unfolding lookup item_kinds
returns-in-4 c = rw c.in-4.is

pub returns-in-5 : goal.returns-in-5
unfolding lookup item_kinds
returns-in-5 c = rw c.in-5.is

pub returns-in-6 : goal.returns-in-6
unfolding lookup item_kinds
returns-in-6 c = rw c.in-6.is

pub returns-in-7 : goal.returns-in-7
unfolding lookup item_kinds
returns-in-7 c = rw c.in-7.is

pub returns-in-8 : goal.returns-in-8
unfolding lookup item_kinds
returns-in-8 c = rw c.in-8.is

pub returns-in-9 : goal.returns-in-9
unfolding lookup item_kinds
returns-in-9 c = rw c.in-9.is

pub returns-in_default : goal.returns-in_default
unfolding lookup item_kinds
returns-in_default c =
    rw (
      ne_eqb c.args.number 1 (omega arith),
      ne_eqb c.args.number 2 (omega arith),
      ne_eqb c.args.number 3 (omega arith),
      ne_eqb c.args.number 4 (omega arith),
      ne_eqb c.args.number 5 (omega arith),
      ne_eqb c.args.number 6 (omega arith),
      ne_eqb c.args.number 7 (omega arith),
      ne_eqb c.args.number 8 (omega arith),
      ne_eqb c.args.number 9 (omega arith),
    )
