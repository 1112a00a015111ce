-- An expression read and evaluated at once: what the definition reads after a token's byte, with values in the place of expressions. An operand is
-- evaluated as if it stood by itself.
use Rattle.std.specs.Prelude.{ℕ, ◌-◌, ◌<◌, ◌≤◌, ◌≡◌, List, Option, Some, None}
use Rattle.model.specs.declared.Found.{Found}
use mathlib.Core.Path.{refl, ap}
use native.Mathlib.Omega.{arith}
use lib.Dec.{ltb}
use borrow.Author.Tests.{ltb-true}
use Rattle.model.specs.declared.Refusal.{Refusal}
use Rattle.model.specs.Refusals.{Result, Ok, Err, refuse, program_length, program_form, ◌>>=◌}
use Rattle.model.specs.Choice.{lookup}
use Rattle.model.specs.Bytes.{byte, found}
use Rattle.model.specs.Expressions.{Counted, apply, tokens, after_token, on_token, operated, read_expression, evaluate}
use Rattle.model.proofs.Bytes.{judged_ok}
use Rattle.model.proofs.Laws.{bind_ok, ok_injective}
use Rattle.expressions.specs.declared.Environment.{Environment}
use Rattle.expressions.specs.declared.Evaluated.{Evaluated}
use Rattle.expressions.specs.declared.tokens.Operator.{Operator}
use Rattle.expressions.specs.declared.tokens.Token.{Token}
use Rattle.expressions.specs.Values.{evaluated, operand_token, operator_of, option_token, token_byte, value_of}
use Rattle.expressions.proofs.Expressions.{expression_falls, same_depth, by_token}

-- A token's byte that was read had a token left for it.
pub some_left : (left : ℕ) (bytes : List ℕ) (at : ℕ) {f : Found ℕ} → token_byte left bytes at ≡ Ok f → 0 < left
some_left left bytes at h = ltb-true 0 left (judged_ok (λ _. ltb 0 left) program_form (byte program_length) bytes at h).1

module _ (e : Environment) (bytes : List ℕ) where
  -- An expression of at most so many tokens.
  abbrev read_at : (left at : ℕ) → Result (Found Counted)
  read_at left at = read_expression e.header.registers left left bytes at

  -- What the definition and the code make of an operator and its operands.
  abbrev of_expressions : Operator → Counted → Found Counted → Result (Found Counted)
  of_expressions o a b = found (record { expression = apply (operator_of o) a.expression b.value.expression; left = b.value.left }) b.next

  abbrev of_values : Operator → Evaluated → Found Evaluated → Result (Found Evaluated)
  of_values o a b = found (record { value = operated (operator_of o) a.value b.value.value; left = b.value.left }) b.next

  -- What follows a token whose byte stands at `at`, by the tokens left after it.
  abbrev after : (left at : ℕ) → Option Token → (next : ℕ) → Result (Found Evaluated)
  after left at None next = refuse program_form at
  after left at (Some (Token.Operand o)) next =
      evaluated e (after_token e.header.registers (read_expression e.header.registers left) left (operand_token o) bytes next)
  after left at (Some (Token.Operator o)) next =
      evaluated e (read_at left next) >>= (λ a. evaluated e (read_at a.value.left a.next) >>= of_values o a.value)

  -- An operand leaves no more tokens than it was given.
  pub operand_falls : (left at : ℕ) {a : Found Evaluated} → evaluated e (read_at left at) ≡ Ok a → a.value.left ≤ left
  operand_falls left at h =
      let (f, p, q) = bind_ok (read_at left at) _ h in
      let s = ap (λ (a : Found Evaluated). a.value.left) (ok_injective q) in
      omega (arith, s, expression_falls e.header.registers left bytes left at f.value f.next p)

  second_operand : (o : Operator) (a : Counted) (m : Result (Found Counted)) →
      evaluated e (m >>= of_expressions o a)
      ≡ (evaluated e m >>= of_values o (record { value = value_of e a.expression; left = a.left }))
  unfolding evaluate
  second_operand o a (Ok b) = refl
  second_operand o a (Err r) = refl

  first_operand : (o : Operator) (left at : ℕ) (m : Result (Found Counted)) → read_at left at ≡ m →
      evaluated e (m >>= (λ a. read_expression e.header.registers left a.value.left bytes a.next >>= of_expressions o a.value))
      ≡ (evaluated e m >>= (λ a. evaluated e (read_at a.value.left a.next) >>= of_values o a.value))
  first_operand o left at (Ok a) h =
      let falls = expression_falls e.header.registers left bytes left at a.value a.next h in
      rw (same_depth e.header.registers left a.value.left a.value.left falls (omega arith) bytes a.next)
      (second_operand o a.value (read_at a.value.left a.next))
  first_operand o left at (Err r) h = refl

  module _ (left at : ℕ) where
    pub no_token : {r : Refusal} → token_byte left bytes at ≡ Err r → evaluated e (read_at left at) ≡ Err r
    no_token h = rw (by_token, h)

    pub token_read : {f : Found ℕ} (t : Option Token) → token_byte left bytes at ≡ Ok f → option_token t ≡ lookup f.value tokens →
        evaluated e (read_at left at) ≡ after (left - 1) at t f.next
    unfolding on_token after_token
    token_read None h known = rw (by_token, h, ← known)
    token_read (Some (Token.Operand o)) h known = rw (by_token, h, ← known)
    token_read {f} (Some (Token.Operator o)) h known = rw (by_token, h, ← known) (first_operand o (left - 1) f.next (read_at (left - 1) f.next) refl)
