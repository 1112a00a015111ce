-- `evaluate_tokens`: the tokens left fall with each operand, since each takes one. What follows the token's byte is by the laws of `Evaluation`.
-- Assumes nothing.
use Rattle.std.proofs.Common.{rules, arith, Some, None, sym, refl, ◌-◌}
use Rattle.model.specs.Expressions.{read_expression}
use Rattle.expressions.proofs.Evaluation.{some_left, operand_falls, no_token, token_read}
use Rattle.expressions.proofs.Environment.+evaluate_tokens.Goals as goal

pub returns-in_err-byte : goal.returns-in_err-byte
returns-in_err-byte t c = rw (no_token _ _ _ _ (sym c.in_err-byte.ensures)) (search rules)

pub returns-in_err-token : goal.returns-in_err-token
returns-in_err-token t c =
    rw (token_read _ _ _ _ None (sym c.in_ok-byte.ensures) (rw c.in_err-token.ensures.ok_part at c.token_of.ensures)) (search rules)

pub overflow_sub-fewer : goal.overflow_sub-fewer
overflow_sub-fewer t c = some_left _ _ _ (sym c.in_ok-byte.ensures)

pub returns-in_err-operand-in-Operand : goal.returns-in_err-operand-in-Operand
returns-in_err-operand-in-Operand t c =
    let operands = read_expression c.args.self.now.header.registers (c.args.left - 1) in
    rw (
      token_read _ _ _ _ (Some c.in_ok-token.token) (sym c.in_ok-byte.ensures) (rw c.in_ok-token.ensures.ok_part at c.token_of.ensures),
      c.in-Operand.is,
      ← c.in_err-operand-in-Operand.ensures operands (c.args.left - 1),
    ) (search rules)

pub evaluate_tokens-requires : goal.evaluate_tokens-requires
evaluate_tokens-requires t c =
    let some = some_left c.args.left c.args.bytes.now c.args.at (sym c.in_ok-byte.ensures) in
    (omega (arith, some, c.decreases), tt)

pub returns-in_err-first-in-Operator : goal.returns-in_err-first-in-Operator
returns-in_err-first-in-Operator t c =
    rw (
      token_read _ _ _ _ (Some c.in_ok-token.token) (sym c.in_ok-byte.ensures) (rw c.in_ok-token.ensures.ok_part at c.token_of.ensures),
      c.in-Operator.is,
      ← c.in_err-first-in-Operator.ensures,
    ) (search rules)

pub evaluate_tokens-requires-in-Operator : goal.evaluate_tokens-requires-in-Operator
evaluate_tokens-requires-in-Operator t c =
    let some = some_left c.args.left c.args.bytes.now c.args.at (sym c.in_ok-byte.ensures) in
    let first = sym c.in_ok-first-in-Operator.ensures in
    let falls = operand_falls c.args.self.now c.args.bytes.now (c.args.left - 1) c.in_ok-byte.byte.next first in
    (omega (arith, some, falls, c.decreases), tt)

pub returns-in_err-second-in-Operator : goal.returns-in_err-second-in-Operator
returns-in_err-second-in-Operator t c =
    rw (
      token_read _ _ _ _ (Some c.in_ok-token.token) (sym c.in_ok-byte.ensures) (rw c.in_ok-token.ensures.ok_part at c.token_of.ensures),
      c.in-Operator.is,
      ← c.in_ok-first-in-Operator.ensures,
      ← c.in_err-second-in-Operator.ensures,
    ) (search rules)

pub returns-in_ok-operand-in-Operand : goal.returns-in_ok-operand-in-Operand
returns-in_ok-operand-in-Operand t c =
    let operands = read_expression c.args.self.now.header.registers (c.args.left - 1) in
    rw (
      token_read _ _ _ _ (Some c.in_ok-token.token) (sym c.in_ok-byte.ensures) (rw c.in_ok-token.ensures.ok_part at c.token_of.ensures),
      c.in-Operand.is,
      ← c.in_ok-operand-in-Operand.ensures operands (c.args.left - 1),
    ) refl

pub returns-in_ok-second-in-Operator : goal.returns-in_ok-second-in-Operator
returns-in_ok-second-in-Operator t c =
    rw (
      token_read _ _ _ _ (Some c.in_ok-token.token) (sym c.in_ok-byte.ensures) (rw c.in_ok-token.ensures.ok_part at c.token_of.ensures),
      c.in-Operator.is,
      ← c.in_ok-first-in-Operator.ensures,
      ← c.in_ok-second-in-Operator.ensures,
    ) (search rules)
