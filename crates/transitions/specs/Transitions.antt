-- A transition as the code has it: the definition's, each expression replaced by its value in an environment.
use Rattle.std.specs.Prelude.{ℕ, Bool}
use Rattle.model.specs.Refusals.{program_length}
use Rattle.model.specs.Choice.{lookup}
use Rattle.model.specs.Bytes.{Reader, ◌>>=◌, here, byte, optional}
use Rattle.model.specs.Expressions.{Expression, constant, expression}
use Rattle.model.specs.Programs as Programs
use Rattle.model.specs.Programs.{CommandForm, load, store, assign, assume, read, write, bar, forms, judged_form}
use Rattle.expressions.specs.declared.Environment.{Environment}
use Rattle.expressions.specs.Values.{value_of}
use Rattle.transitions.specs.declared.values.Values.{Values}
use Rattle.transitions.specs.declared.transition.Form as Form
use Rattle.transitions.specs.declared.transition.Form.{Form}
use Rattle.transitions.specs.declared.transition.Operands.{Operands}
use Rattle.transitions.specs.declared.transition.Transition.{Transition}
use Rattle.transitions.specs.declared.transition.Command.{Command}
use Rattle.transitions.specs.declared.transition.Command.TheVariants.{Load, Store, Assign, Assume, Read, Write, Bar}

-- The definition's row that the code's is.
abbrev pub command_form : Form → CommandForm
command_form Form.TheVariants.Load = record { map = 3; command = λ f. load f.register f.e1 }
command_form Form.TheVariants.Store = record { map = 6; command = λ f. store f.e1 f.e2 }
command_form Form.TheVariants.Assign = record { map = 3; command = λ f. assign f.register f.e1 }
command_form Form.TheVariants.Assume = record { map = 2; command = λ f. assume f.e1 }
command_form Form.TheVariants.Read = record { map = 30; command = λ f. read f.e1 f.e2 f.e3 f.e4 }
command_form Form.TheVariants.Write = record { map = 30; command = λ f. write f.e1 f.e2 f.e3 f.e4 }
command_form Form.TheVariants.Bar = record { map = 0; command = λ f. bar }

-- A transition's first two bytes, map and kind, judged.
unfoldable pub first_bytes : Reader CommandForm
unfolding byte lookup forms judged_form
first_bytes = do
  at ← here
  map ← byte program_length
  kind ← byte program_length
  judged_form at map (lookup kind forms)

-- An expression of a transition, if its map bit stands.
unfoldable pub expression_field : (registers : ℕ) → Bool → Reader Expression
unfolding expression
expression_field registers stands = optional stands (constant 0) (expression registers)

-- The values of a transfer's expressions.
abbrev pub transfer_operands : Values → Operands
transfer_operands values = record { own = values.e1; rank = values.e2; cell = values.e3; queue = values.e4 }

module _ (e : Environment) where
  abbrev pub values_of : Programs.Fields → Values
  values_of f =
      record { register = f.register; e1 = value_of e f.e1; e2 = value_of e f.e2; e3 = value_of e f.e3; e4 = value_of e f.e4 }

  abbrev pub operands_of : (e1 e2 e3 e4 : Expression) → Operands
  operands_of e1 e2 e3 e4 = record { own = value_of e e1; rank = value_of e e2; cell = value_of e e3; queue = value_of e e4 }

  abbrev pub command_of : Programs.Command → Command
  command_of (load x e1) = Load (value_of e e1) x
  command_of (store e1 e2) = Store (value_of e e1) (value_of e e2)
  command_of (assign x e1) = Assign (value_of e e1) x
  command_of (assume e1) = Assume (value_of e e1)
  command_of (read e1 e2 e3 e4) = Read (operands_of e1 e2 e3 e4)
  command_of (write e1 e2 e3 e4) = Write (operands_of e1 e2 e3 e4)
  command_of bar = Bar

  abbrev pub transition_of : Programs.Transition → Transition
  transition_of t = record { source = t.source; target = t.target; command = command_of t.command }
