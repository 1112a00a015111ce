-- `read_transition`: the fields that the form's map has, and the command that the form makes of them. Assumes nothing.
use Rattle.std.proofs.Common.{rules}
use Rattle.expressions.proofs.Values.{made_of, made_of_none}
use Rattle.transitions.specs.Transitions.{values_of}
use Rattle.transitions.proofs.Transitions.{by_form}
use Rattle.transitions.proofs.transition.read_transition.Goals as goal

pub returns-in_err-fields : goal.returns-in_err-fields
returns-in_err-fields c =
    let refused = made_of_none (values_of c.args.environment) _ c.in_err-fields.ensures in
    rw (by_form, ← c.in_ok-form.ensures, ← c.in_ok-source.ensures, ← c.in_ok-target.ensures, ← c.map.ensures, refused) (search rules)

pub returns : goal.returns
returns c =
    let (fields, read, values) = made_of (values_of c.args.environment) _ c.in_ok-fields.ensures in
    rw (
      by_form,
      ← c.in_ok-form.ensures,
      ← c.in_ok-source.ensures,
      ← c.in_ok-target.ensures,
      ← c.map.ensures,
      read,
      c.command.ensures c.args.environment fields values,
    )
