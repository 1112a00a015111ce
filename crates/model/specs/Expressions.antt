-- Expressions (document 01, "Expressions are tokens in prefix form, at most 15 each"): their form, their reader and their value.
use Rattle.std.specs.Prelude.{ℕ, zero, suc, ◌+◌, ◌-◌, ◌*◌, Bool, true, false, List, [], ◌∷◌, ltb, leb, eqb, Option, Some, None}
use Rattle.model.specs.Limits.{max_tokens, word_values}
use Rattle.model.specs.Refusals.{program_length, program_range, program_form}
use Rattle.model.specs.Choice.{when, lookup}
use Rattle.model.specs.Bytes.{Reader, pure, here, fault, byte, word, judged, ◌>>=◌}

-- "10 sum, 11 difference, 12 product, 13 equal, 14 less; 10 to 14 take two operands."
pub data Operator : Type 0 where
  sum difference product equal less : Operator

pub data Expression : Type 0 where
  constant : ℕ → Expression
  register : ℕ → Expression
  own_rank : Expression
  rank_count : Expression
  apply : Operator → Expression → Expression → Expression

-- What a token says before its operands are read.
pub data Token : Type 0 where
  constant_token register_token own_rank_token rank_count_token : Token
  operator_token : Operator → Token

-- "Token bytes in hexadecimal: 00 constant (two bytes follow), 01 register (one byte follows), 02 own rank, 03 N, 10 sum, .."
unfoldable pub tokens : List (ℕ × Token)
tokens =
    (0x00, constant_token) ∷
    (0x01, register_token) ∷
    (0x02, own_rank_token) ∷
    (0x03, rank_count_token) ∷
    (0x10, operator_token sum) ∷
    (0x11, operator_token difference) ∷
    (0x12, operator_token product) ∷
    (0x13, operator_token equal) ∷
    (0x14, operator_token less) ∷ []

-- An expression, and how many tokens may still be read of the fifteen.
pub record Counted : Type 0 where
  pub expression : Expression
  pub left : ℕ

abbrev pub counted : Expression → ℕ → Reader Counted
counted e left = pure (record { expression = e; left = left })

-- "sixteenth token": its byte has to be there, and is refused whatever it is.
unfoldable pub no_token_left : {A : Type 0} → Reader A
unfolding byte
no_token_left = do
  at ← here
  token ← byte program_length
  fault program_form at

-- What follows a known token. "A token's operands are expressions again."
unfoldable pub after_token : (registers : ℕ) → (operand : ℕ → Reader Counted) → (left : ℕ) → Token → Reader Counted
unfolding byte word judged
after_token registers operand left constant_token = do
  value ← word program_length
  counted (constant value) left
after_token registers operand left register_token = do
  index ← judged (λ i. ltb i registers) program_range (byte program_length)
  counted (register index) left
after_token registers operand left own_rank_token = counted own_rank left
after_token registers operand left rank_count_token = counted rank_count left
after_token registers operand left (operator_token o) = do
  a ← operand left
  b ← operand a.left
  counted (apply o a.expression b.expression) b.left

-- "unknown token"
unfoldable pub on_token : (registers : ℕ) → (operand : ℕ → Reader Counted) → (left at : ℕ) → Option Token → Reader Counted
unfolding after_token
on_token registers operand left at (Some token) = after_token registers operand left token
on_token registers operand left at None = fault program_form at

-- An expression of at most `left` tokens. Operands are at most `depth` deep; each takes a token, so at depth 0 none is left.
unfoldable pub read_expression : (registers depth left : ℕ) → Reader Counted
unfolding byte no_token_left on_token lookup tokens
read_expression registers zero left = no_token_left
read_expression registers (suc depth) zero = no_token_left
read_expression registers (suc depth) (suc left) = do
  at ← here
  token ← byte program_length
  on_token registers (read_expression registers depth) left at (lookup token tokens)

-- An expression as a transition has it, with fifteen tokens of its own.
unfoldable pub expression : (registers : ℕ) → Reader Expression
unfolding read_expression
expression registers = do
  e ← read_expression registers max_tokens max_tokens
  pure e.expression

-- "13 and 14 give 1 or 0."
abbrev pub truth : Bool → ℕ
truth true = 1
truth false = 0

-- "Values are unsigned 16-bit numbers."
abbrev pub in_range : ℕ → Option ℕ
in_range n = when (ltb n word_values) (λ _. Some n) (λ _. None)

-- Document 02, #102: "A sum or product above 65,535 or a difference below 0 has no value any more".
unfoldable pub operate : Operator → ℕ → ℕ → Option ℕ
operate sum a b = in_range (a + b)
operate difference a b = when (leb b a) (λ _. Some (a - b)) (λ _. None)
operate product a b = in_range (a * b)
operate equal a b = Some (truth (eqb a b))
operate less a b = Some (truth (ltb a b))

-- "and neither has an expression holding it", whatever the operator.
unfoldable pub operated : Operator → Option ℕ → Option ℕ → Option ℕ
unfolding operate
operated o (Some a) (Some b) = operate o a b
operated o (Some a) None = None
operated o None b = None

-- The value of an expression in a rank, by N and that rank's registers, if it has one.
unfoldable pub evaluate : (ranks rank : ℕ) → (registers : ℕ → ℕ) → Expression → Option ℕ
unfolding operated
evaluate ranks rank registers (constant n) = Some n
evaluate ranks rank registers (register i) = Some (registers i)
evaluate ranks rank registers own_rank = Some rank
evaluate ranks rank registers rank_count = Some ranks
evaluate ranks rank registers (apply o a b) =
    operated o (evaluate ranks rank registers a) (evaluate ranks rank registers b)
