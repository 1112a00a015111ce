-- The fields of a transition with values in the place of expressions: reading them and then evaluating is evaluating each as it is read.
use Rattle.std.specs.Prelude.{ℕ, ◌≡◌, List, Option}
use mathlib.Core.Path.{refl, ◌∙◌}
use Rattle.model.specs.Choice.{bit}
use Rattle.model.specs.Bytes.{Reader, ◌>>=◌, pure, optional}
use Rattle.model.specs.Programs.{read_fields}
use Rattle.model.proofs.Laws.{bind_assoc, bind_cong}
use Rattle.expressions.specs.declared.Environment.{Environment}
use Rattle.expressions.specs.Values.{map_found, number_below, value_of}
use Rattle.expressions.proofs.Values.{made_then}
use Rattle.transitions.specs.declared.values.Values.{Values}
use Rattle.transitions.specs.Transitions.{expression_field, values_of}

module _ (e : Environment) (map : ℕ) where
  -- An expression's value, if its map bit stands.
  abbrev value_field : (i : ℕ) → Reader (Option ℕ)
  value_field i bytes at = map_found (value_of e) (expression_field e.header.registers (bit i map) bytes at)

  abbrev values_reader : Reader Values
  values_reader = do
    x ← optional (bit 0 map) 0 (number_below e.header.registers)
    e1 ← value_field 1
    e2 ← value_field 2
    e3 ← value_field 3
    e4 ← value_field 4
    pure (record { register = x; e1 = e1; e2 = e2; e3 = e3; e4 = e4 })

  pub by_values : (bytes : List ℕ) (at : ℕ) → map_found (values_of e) (read_fields e.header.registers map bytes at) ≡ values_reader bytes at
  unfolding read_fields expression_field number_below
  by_values bytes at =
      bind_assoc (optional (bit 0 map) 0 (number_below e.header.registers) bytes at) _ _
      ∙ bind_cong (optional (bit 0 map) 0 (number_below e.header.registers) bytes at) _ _
      (λ x p. made_then (value_of e) (values_of e) (expression_field e.header.registers (bit 1 map) bytes x.next) _ _
      (λ f1. made_then (value_of e) (values_of e) (expression_field e.header.registers (bit 2 map) bytes f1.next) _ _
      (λ f2. made_then (value_of e) (values_of e) (expression_field e.header.registers (bit 3 map) bytes f2.next) _ _
      (λ f3. made_then (value_of e) (values_of e) (expression_field e.header.registers (bit 4 map) bytes f3.next) _ _ (λ f4. refl)))))
