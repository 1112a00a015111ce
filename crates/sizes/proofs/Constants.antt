-- The constants of a program that was read from bytes fit sixteen bits, by a rule for each way in which readers are put together; so what its
-- expressions come to fits too, since an operator has no value outside the range.
use Rattle.std.specs.Prelude.{Option, Some, None}
use Prim.Native.Nat.{ℕ, zero, suc, ◌+◌, ◌*◌, ◌<◌}
use mathlib.Core.Path.{◌≡◌, subst}
use mathlib.Core.Bool.{Bool, true, false}
use mathlib.Core.List.{List}
use native.Mathlib.Omega.{arith}
use lib.Dec.{ltb, leb, eqb}
use borrow.Author.Tests.{ltb-true}
use Rattle.model.specs.declared.Header.{Header}
use Rattle.model.specs.Limits.{max_tokens, word_values}
use Rattle.model.specs.Refusals.{Ok, program_length, program_range, program_form}
use Rattle.model.specs.Choice.{bit, lookup, Each, all, one}
use Rattle.model.specs.Bytes.{AreBytes, Reader, ◌>>=◌, here, fault, byte, judged, optional}
use Rattle.model.specs.Expressions.{Operator, sum, difference, product, equal, less, truth, in_range, operate, operated, evaluate}
use Rattle.model.specs.Expressions.{Expression, constant, register, own_rank, rank_count, apply}
use Rattle.model.specs.Expressions.{Token, constant_token, register_token, own_rank_token, rank_count_token, operator_token, tokens}
use Rattle.model.specs.Expressions.{Counted, no_token_left, after_token, on_token, read_expression, expression}
use Rattle.model.specs.Programs.{Program, Command, load, store, assign, assume, read, write, bar, Fields, CommandForm, forms, judged_form}
use Rattle.model.specs.Programs.{read_header, read_fields, read_transition, program_reader_in, program_reader, read_program_in, read_program}
use Rattle.model.proofs.Laws.{decided, refused≢ok}
use Rattle.model.proofs.Bytes.{Finds, finds_anything, finds_pure, finds_bind, finds_times, finds_word, whole_finds}
use Rattle.model.proofs.Tables.{lookup_holds}

-- An expression whose constants fit.
unfoldable pub ConstantsFit : Expression → Type 0
ConstantsFit (constant n) = n < word_values
ConstantsFit (register i) = Unit {0}
ConstantsFit own_rank = Unit {0}
ConstantsFit rank_count = Unit {0}
ConstantsFit (apply o a b) = ConstantsFit a × ConstantsFit b

-- Its value fits, where ranks and registers do.
truth_fits : (t : Bool) → truth t < word_values
truth_fits true = omega arith
truth_fits false = omega arith

-- What is there, if anything, fits.
abbrev ThereFits : Option ℕ → Type 0
ThereFits (Some v) = v < word_values
ThereFits None = Unit {0}

range_fits : (n : ℕ) → ThereFits (in_range n)
range_fits n = decided (ltb n word_values) (λ t. rw t (ltb-true n word_values t)) (λ t. rw t tt)

operated_fits : (o : Operator) (a b : Option ℕ) → ThereFits a → ThereFits (operated o a b)
unfolding operated operate
operated_fits sum (Some a) (Some b) fits = range_fits (a + b)
operated_fits difference (Some a) (Some b) fits = decided (leb b a) (λ t. rw t (omega (arith, fits))) (λ t. rw t tt)
operated_fits product (Some a) (Some b) fits = range_fits (a * b)
operated_fits equal (Some a) (Some b) fits = truth_fits (eqb a b)
operated_fits less (Some a) (Some b) fits = truth_fits (ltb a b)
operated_fits o (Some a) None fits = tt
operated_fits o None b fits = tt

module _ (ranks rank : ℕ) (registers : ℕ → ℕ) (few : ranks < word_values) (low : rank < word_values)
    (held : (i : ℕ) → registers i < word_values) where
  there_fits : (e : Expression) → ConstantsFit e → ThereFits (evaluate ranks rank registers e)
  unfolding evaluate ConstantsFit
  there_fits (constant n) fits = fits
  there_fits (register i) fits = held i
  there_fits own_rank fits = low
  there_fits rank_count fits = few
  there_fits (apply o a b) fits = operated_fits o (evaluate ranks rank registers a) (evaluate ranks rank registers b) (there_fits a fits.0)

  pub evaluate_fits : (e : Expression) → ConstantsFit e → {v : ℕ} → evaluate ranks rank registers e ≡ Some v → v < word_values
  evaluate_fits e fits h = subst ThereFits h (there_fits e fits)

-- A command whose value, if it has one, has such constants; and a row of the table that makes such commands.
unfoldable pub ValueFits : Command → Type 0
ValueFits (load x e1) = Unit {0}
ValueFits (store e1 e2) = ConstantsFit e2
ValueFits (assign x e1) = ConstantsFit e1
ValueFits (assume e1) = Unit {0}
ValueFits (read e1 e2 e3 e4) = Unit {0}
ValueFits (write e1 e2 e3 e4) = Unit {0}
ValueFits bar = Unit {0}

abbrev FormFits : CommandForm → Type 0
FormFits form = (f : Fields) → ConstantsFit f.e1 → ConstantsFit f.e2 → ValueFits (form.command f)

module _ (bytes : List ℕ) (bound : AreBytes bytes) where
  finds_fault : {A : Type 0} {Holds : A → Type 0} (number place : ℕ) → Finds bytes (fault number place) Holds
  finds_fault number place = record { holds = λ at f h. absurd (refused≢ok h) }

  finds_here : {A : Type 0} {Holds : A → Type 0} {rest : ℕ → Reader A} → ((at : ℕ) → Finds bytes (rest at) Holds) → Finds bytes (here >>= rest) Holds
  finds_here then = record { holds = λ at. (then at).holds at }

  module _ (registers : ℕ) where
    abbrev FindsFitting : Reader Counted → Type 0
    FindsFitting reader = Finds bytes reader (λ c. ConstantsFit c.expression)

    no_token_finds : FindsFitting no_token_left
    unfolding no_token_left
    no_token_finds = finds_here λ at. finds_bind (finds_anything (byte program_length)) λ token _. finds_fault program_form at

    token_finds : {operand : ℕ → Reader Counted} → ((left : ℕ) → FindsFitting (operand left)) → (left at : ℕ) (token : Option Token) →
        FindsFitting (on_token registers operand left at token)
    unfolding on_token after_token ConstantsFit
    token_finds operands left at (Some constant_token) = finds_bind (finds_word program_length) λ value below. finds_pure _ (below bound)
    token_finds operands left at (Some register_token) =
        finds_bind (finds_anything (judged (λ i. ltb i registers) program_range (byte program_length))) λ index _. finds_pure _ tt
    token_finds operands left at (Some own_rank_token) = finds_pure _ tt
    token_finds operands left at (Some rank_count_token) = finds_pure _ tt
    token_finds operands left at (Some (operator_token o)) =
        finds_bind (operands left) λ a first. finds_bind (operands a.left) λ b second. finds_pure _ (first, second)
    token_finds operands left at None = finds_fault program_form at

    tokens_find : (depth left : ℕ) → FindsFitting (read_expression registers depth left)
    unfolding read_expression
    tokens_find zero left = no_token_finds
    tokens_find (suc depth) zero = no_token_finds
    tokens_find (suc depth) (suc left) =
        finds_here λ at.
        finds_bind (finds_anything (byte program_length)) λ token _.
        token_finds (tokens_find depth) left at (lookup token tokens)

    expression_finds : (present : Bool) → Finds bytes (optional present (constant 0) (expression registers)) ConstantsFit
    unfolding expression ConstantsFit
    expression_finds true = finds_bind (tokens_find max_tokens max_tokens) λ c fits. finds_pure _ fits
    expression_finds false = finds_pure _ (omega arith)

    fields_find : (map : ℕ) → Finds bytes (read_fields registers map) (λ f. ConstantsFit f.e1 × ConstantsFit f.e2)
    unfolding read_fields
    fields_find map =
        finds_bind (finds_anything (optional (bit 0 map) 0 (judged (λ i. ltb i registers) program_range (byte program_length)))) λ x _.
        finds_bind (expression_finds (bit 1 map)) λ e1 first.
        finds_bind (expression_finds (bit 2 map)) λ e2 second.
        finds_bind (expression_finds (bit 3 map)) λ e3 _.
        finds_bind (expression_finds (bit 4 map)) λ e4 _.
        finds_pure _ (first, second)

  module _ (at map : ℕ) where
    abbrev FormFinds : Option CommandForm → Type 0
    FormFinds form = Finds bytes (judged_form at map form) FormFits

    form_finds : (form : CommandForm) → FormFits form → FormFinds (Some form)
    unfolding judged_form
    form_finds form fits = decided (eqb map form.map) (λ t. rw t (finds_pure form fits)) (λ t. rw t (finds_fault program_form at))

    forms_find : (kind : ℕ) → FormFinds (lookup kind forms)
    unfolding forms judged_form ValueFits
    forms_find kind =
        lookup_holds FormFinds kind forms (finds_fault program_form _)
        (one (form_finds _ (λ f e1 e2. tt))
        (one (form_finds _ (λ f e1 e2. e2))
        (one (form_finds _ (λ f e1 e2. e1))
        (one (form_finds _ (λ f e1 e2. tt))
        (one (form_finds _ (λ f e1 e2. tt))
        (one (form_finds _ (λ f e1 e2. tt))
        (one (form_finds _ (λ f e1 e2. tt))
        all)))))))

  transition_finds : (header : Header) → Finds bytes (read_transition header) (λ t. ValueFits t.command)
  unfolding read_transition
  transition_finds header =
      let state : Reader ℕ = judged (λ q. ltb q header.states) program_range (byte program_length) in
      finds_here λ at.
      finds_bind (finds_anything (byte program_length)) λ map _.
      finds_bind (finds_anything (byte program_length)) λ kind _.
      finds_bind (forms_find at map kind) λ form fits.
      finds_bind (finds_anything state) λ source _.
      finds_bind (finds_anything state) λ target _.
      finds_bind (fields_find header.registers map) λ fields constants.
      finds_pure _ (fits fields constants.0 constants.1)

  -- So every value of a command of a program that was read.
  pub values_fit : {P : Program} → read_program bytes ≡ Ok P → Each (λ t. ValueFits t.command) P.transitions
  unfolding read_program_in program_reader_in
  values_fit =
      whole_finds program_length program_reader bytes (λ P. Each (λ t. ValueFits t.command) P.transitions)
      (finds_bind (finds_anything read_header) λ header _.
      finds_bind (finds_times header.transitions (transition_finds header)) λ transitions each.
      finds_pure _ each)
