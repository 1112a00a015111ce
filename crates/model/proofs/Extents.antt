-- How far the program's readers look: a transition has at most 128 bytes, and the header at most 8.
--
-- An expression of n tokens has at most 2 * n + 1 bytes: a token costs two, whatever it is, since a constant's three bytes close an operand that an
-- operator's one byte has opened.
use Rattle.std.specs.Prelude.{Option, Some, None}
use Prim.Native.Nat.{ℕ, zero, suc, ◌+◌, ◌*◌, ◌≤◌}
use mathlib.Core.Path.{◌≡◌, refl}
use mathlib.Core.Bool.{true}
use native.Mathlib.Omega.{arith}
use lib.Dec.{ltb, leb, eqb}
use borrow.Author.Tests.{eqb-true, leb-true}
use Rattle.model.specs.declared.Header.{Header}
use Rattle.model.specs.Limits.{max_tokens, max_header_bytes, max_transition_bytes, short_transitions, max_transitions, long_count}
use Rattle.model.specs.Refusals.{program_length, program_range, program_form}
use Rattle.model.specs.Choice.{between, bit, lookup, all, one}
use Rattle.model.specs.Bytes.{Reader, byte, judged}
use Rattle.model.specs.Expressions.{Token, constant_token, register_token, own_rank_token, rank_count_token, operator_token, tokens, Counted, constant, no_token_left, on_token, after_token, read_expression, expression}
use Rattle.model.specs.Programs.{read_fields, CommandForm, forms, judged_form, read_transition, header_number, count_byte, transition_count, read_header_in, read_header}
use Rattle.model.proofs.Laws.{decided}
use Rattle.model.proofs.Tables.{lookup_holds}
use Rattle.model.proofs.Allowances.{Takes, takes_less, takes_over, takes_pure, takes_here, takes_fault, takes_bind, takes_byte, takes_word, takes_tested, cost, takes_optional}

-- A register or a state.
below_takes : (limit left : ℕ) {from allowed : ℕ} → left + 1 ≤ allowed →
    Takes from allowed (λ _. left) (judged (λ n. ltb n limit) program_range (byte program_length))
below_takes limit left enough =
    takes_tested (λ n. ltb n limit) program_range (takes_byte program_length left enough)

-- What the fields of a transition cost, by its map.
abbrev fields_cost : (map : ℕ) → ℕ
fields_cost map = 0 + cost (bit 4 map) 31 + cost (bit 3 map) 31 + cost (bit 2 map) 31 + cost (bit 1 map) 31 + cost (bit 0 map) 1

module _ (registers : ℕ) where
  no_token_takes : {A : Type 0} (left : ℕ) {from : ℕ} {spared : A → ℕ} → Takes from (left + 1) spared (no_token_left {A = A})
  unfolding no_token_left
  no_token_takes left =
      takes_here λ at. takes_bind (takes_byte program_length left (omega arith)) λ token. takes_fault program_form at (omega arith)

  token_takes : {operand : ℕ → Reader Counted} (left at : ℕ) → ((left : ℕ) → Takes at (2 * left + 1) (λ c. 2 * c.left) (operand left)) →
      (token : Option Token) → Takes at (2 * left + 2) (λ c. 2 * c.left) (on_token registers operand left at token)
  unfolding on_token after_token
  token_takes left at operands (Some constant_token) =
      takes_bind (takes_word program_length (2 * left) (omega arith)) λ value. takes_pure _ (omega arith)
  token_takes left at operands (Some register_token) =
      takes_bind (below_takes registers (2 * left) (omega arith)) λ index. takes_pure _ (omega arith)
  token_takes left at operands (Some own_rank_token) = takes_pure _ (omega arith)
  token_takes left at operands (Some rank_count_token) = takes_pure _ (omega arith)
  token_takes left at operands (Some (operator_token o)) =
      takes_bind (takes_less (takes_over 1 (operands left)) (omega arith) (λ a. omega arith)) λ a.
      takes_bind (operands a.left) λ b.
      takes_pure _ (omega arith)
  token_takes left at operands None = takes_fault program_form at (omega arith)

  tokens_take : (depth left : ℕ) {from : ℕ} → Takes from (2 * left + 1) (λ c. 2 * c.left) (read_expression registers depth left)
  unfolding read_expression
  tokens_take zero left = no_token_takes (2 * left)
  tokens_take (suc depth) zero = no_token_takes 0
  tokens_take (suc depth) (suc left) =
      takes_here λ at.
      takes_bind (takes_byte program_length (2 * left + 2) (omega arith)) λ token.
      token_takes left at (λ left. tokens_take depth left) (lookup token tokens)

  expression_takes : {from left : ℕ} → Takes from (left + 31) (λ _. left) (expression registers)
  unfolding expression
  expression_takes {left = left} =
      takes_bind {between = λ _. left} (takes_less (takes_over left (tokens_take max_tokens max_tokens)) (omega arith) (λ c. omega arith)) λ e.
      takes_pure _ (omega arith)

  fields_take : (map : ℕ) {from : ℕ} → Takes from (fields_cost map) (λ _. 0) (read_fields registers map)
  unfolding read_fields
  fields_take map =
      takes_bind (takes_optional (bit 0 map) 0 1 (below_takes registers _ (omega arith))) λ x.
      takes_bind (takes_optional (bit 1 map) (constant 0) 31 expression_takes) λ e1.
      takes_bind (takes_optional (bit 2 map) (constant 0) 31 expression_takes) λ e2.
      takes_bind (takes_optional (bit 3 map) (constant 0) 31 expression_takes) λ e3.
      takes_bind (takes_optional (bit 4 map) (constant 0) 31 expression_takes) λ e4.
      takes_pure _ (omega arith)

-- A right map has at most four expressions, and then no register.
module _ (at map : ℕ) where
  abbrev FormTakes : Option CommandForm → Type 0
  FormTakes form = Takes at 126 (λ _. fields_cost map + 2) (judged_form at map form)

  form_takes : (form : CommandForm) → leb (fields_cost form.map) 124 ≡ true → FormTakes (Some form)
  unfolding judged_form
  form_takes form within =
      decided (eqb map form.map)
      (λ t.
      let costs : fields_cost form.map ≤ 124 = leb-true (fields_cost form.map) 124 within in
      let least : fields_cost map ≤ 124 = rw (eqb-true map form.map t) costs in
      rw t (takes_pure form (omega (arith, least))))
      (λ t. rw t (takes_fault program_form at (omega arith)))

  forms_take : (kind : ℕ) → FormTakes (lookup kind forms)
  unfolding forms judged_form
  forms_take kind =
      lookup_holds FormTakes kind forms (takes_fault program_form (at + 1) (omega arith))
      (one (form_takes _ refl)
      (one (form_takes _ refl)
      (one (form_takes _ refl)
      (one (form_takes _ refl)
      (one (form_takes _ refl)
      (one (form_takes _ refl)
      (one (form_takes _ refl)
      all)))))))

pub transition_takes : (header : Header) {from : ℕ} → Takes from max_transition_bytes (λ _. 0) (read_transition header)
unfolding read_transition
transition_takes header =
    takes_here λ at.
    takes_bind (takes_byte program_length 127 (omega arith)) λ map.
    takes_bind (takes_byte program_length 126 (omega arith)) λ kind.
    takes_bind (forms_take at map kind) λ form.
    takes_bind (below_takes header.states (fields_cost map + 1) (omega arith)) λ source.
    takes_bind (below_takes header.states (fields_cost map) (omega arith)) λ target.
    takes_bind (fields_take header.registers map) λ fields.
    takes_pure _ (omega arith)

pub number_takes : (low high left : ℕ) {from allowed : ℕ} → left + 1 ≤ allowed → Takes from allowed (λ _. left) (header_number low high)
unfolding header_number
number_takes low high left enough =
    takes_tested (between low high) program_range (takes_byte program_length left enough)

-- A count has one byte or three.
count_takes : {from : ℕ} → Takes from 3 (λ _. 0) (transition_count max_transitions)
unfolding transition_count
count_takes =
    takes_bind (takes_tested (count_byte max_transitions) program_range (takes_byte program_length 2 (omega arith))) λ count.
    decided (eqb count long_count)
    (λ t. rw t (takes_tested (between (short_transitions + 1) max_transitions) program_range (takes_word program_length 0 (omega arith))))
    (λ t. rw t (takes_pure count (omega arith)))

pub header_takes : Takes 0 max_header_bytes (λ _. 0) read_header
unfolding read_header_in
header_takes =
    takes_bind (number_takes _ _ 7 (omega arith)) λ ranks.
    takes_bind (number_takes _ _ 6 (omega arith)) λ cells.
    takes_bind (number_takes _ _ 5 (omega arith)) λ registers.
    takes_bind (number_takes _ _ 4 (omega arith)) λ queues.
    takes_bind (number_takes _ _ 3 (omega arith)) λ states.
    takes_bind count_takes λ transitions.
    takes_pure _ (omega arith)
