-- Expressions as the code has them: its tokens against the definition's, and the value of what was read.
use Rattle.std.specs.Prelude.{ℕ, List, ltb, get_or, Option, Some, None}
use Rattle.model.specs.declared.Found.{Found}
use Rattle.model.specs.Refusals as Refusals
use Rattle.model.specs.Refusals.{Result, program_length, program_range, program_form}
use Rattle.model.specs.Bytes.{Reader, found, byte, judged}
use Rattle.model.specs.Expressions as Expressions
use Rattle.model.specs.Expressions.{
  Counted,
  Expression,
  constant_token,
  register_token,
  own_rank_token,
  rank_count_token,
  operator_token,
  sum,
  difference,
  product,
  equal,
  less,
  evaluate,
}
use Rattle.expressions.specs.declared.Environment.{Environment}
use Rattle.expressions.specs.declared.Evaluated.{Evaluated}
use Rattle.expressions.specs.declared.tokens.Operand.{Operand}
use Rattle.expressions.specs.declared.tokens.Operand.TheVariants.{Constant, Register, OwnRank, RankCount}
use Rattle.expressions.specs.declared.tokens.Operator.{Operator}
use Rattle.expressions.specs.declared.tokens.Operator.TheVariants.{Sum, Difference, Product, Equal, Less}
use Rattle.expressions.specs.declared.tokens.Token as Token
use Rattle.expressions.specs.declared.tokens.Token.{Token}

-- The code's name of a token that takes no operands, of an operator, and of any token.
abbrev pub operand_token : Operand → Expressions.Token
operand_token Constant = constant_token
operand_token Register = register_token
operand_token OwnRank = own_rank_token
operand_token RankCount = rank_count_token

abbrev pub operator_of : Operator → Expressions.Operator
operator_of Sum = sum
operator_of Difference = difference
operator_of Product = product
operator_of Equal = equal
operator_of Less = less

abbrev pub option_token : Option Token → Option Expressions.Token
option_token (Some (Token.TheVariants.Operand o)) = Some (operand_token o)
option_token (Some (Token.TheVariants.Operator o)) = Some (operator_token (operator_of o))
option_token None = None

-- A number of a program that has to be below a limit, as a state or a register.
unfoldable pub number_below : (limit : ℕ) → Reader ℕ
number_below limit = judged (λ i. ltb i limit) program_range (byte program_length)

-- A token's byte, where one of the fifteen is left for it.
abbrev pub token_byte : (left : ℕ) → Reader ℕ
token_byte left = judged (λ _. ltb 0 left) program_form (byte program_length)

-- What the code makes of what the definition finds, at the same place; a refusal stays.
abbrev pub map_found : {A B : Type 0} → (A → B) → Result (Found A) → Result (Found B)
map_found make m = Refusals.◌>>=◌ m (λ f. found (make f.value) f.next)

-- Registers as a list, as the definition has them.
abbrev pub register_of : List ℕ → ℕ → ℕ
register_of registers i = get_or registers i 0

-- The value of an expression in an environment, if it has one; and with the tokens left.
abbrev pub value_of : Environment → Expression → Option ℕ
value_of e = evaluate e.header.ranks e.rank (register_of e.registers)

abbrev pub evaluated : Environment → Result (Found Counted) → Result (Found Evaluated)
evaluated e = map_found (λ c. record { value = value_of e c.expression; left = c.left })
