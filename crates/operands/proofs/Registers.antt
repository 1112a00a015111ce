-- The register that a transition of a program names is one that the arrays have.
use Rattle.model.specs.declared.Found.{Found}
use Rattle.std.specs.Prelude.{Option, Some, None}
use Rattle.model.proofs.Options.{none-ne-some, some-injective}
use Prim.Native.Nat.{ℕ, ◌≤◌, ◌<◌}
use mathlib.Core.Path.{◌≡◌, refl, subst}
use mathlib.Core.Bool.{Bool, true, false}
use mathlib.Core.List.{List, [], ◌∷◌}
use native.Mathlib.Omega.{arith}
use lib.Dec.{ltb, eqb}
use borrow.Author.Tests.{ltb-true}
use Rattle.model.specs.declared.Header.{Header}
use Rattle.model.specs.Limits.{max_registers}
use Rattle.model.specs.Refusals.{program_length, program_range}
use Rattle.model.specs.Choice.{lookup, bit, Each, all, one}
use Rattle.model.specs.Bytes.{Reader, found, byte, judged, optional}
use Rattle.model.specs.Expressions.{constant, expression}
use Rattle.model.specs.Programs.{Command, load, store, assign, assume, read, write, bar}
use Rattle.model.specs.Programs.{Transition, Fields, CommandForm, forms, judged_form, read_fields, read_transition}
use Rattle.model.proofs.Laws.{decided, refused≢ok, ok_injective, bind_ok}
use Rattle.model.proofs.Bytes.{Finds, finds_anything, finds_weaker, finds_pure, finds_bind, finds_judged}

-- The register of a command is one that the arrays have.
abbrev pub RegisterHeld : Command → Type 0
RegisterHeld (load x e1) = x < max_registers
RegisterHeld (store e1 e2) = Unit {0}
RegisterHeld (assign x e1) = x < max_registers
RegisterHeld (assume e1) = Unit {0}
RegisterHeld (read e1 e2 e3 e4) = Unit {0}
RegisterHeld (write e1 e2 e3 e4) = Unit {0}
RegisterHeld bar = Unit {0}

-- The fields have such a register, since one that is left out is 0; and every row of the table makes its command of them.
finds_default : {bytes : List ℕ} {A : Type 0} {read : Reader A} {Holds : A → Type 0} (present : Bool) (absent : A) → Holds absent →
    Finds bytes read Holds → Finds bytes (optional present absent read) Holds
finds_default true absent h finds = finds
finds_default false absent h finds = finds_pure absent h

abbrev Makes : ℕ × CommandForm → Type 0
Makes (kind, form) = (f : Fields) → f.register < max_registers → RegisterHeld (form.command f)

all_make : Each Makes forms
unfolding forms
all_make =
    one (λ f h. h) (one (λ f h. tt) (one (λ f h. h) (one (λ f h. tt) (one (λ f h. tt) (one (λ f h. tt) (one (λ f h. tt) all))))))

row_makes : (kind : ℕ) (rows : List (ℕ × CommandForm)) {form : CommandForm} → Each Makes rows → lookup kind rows ≡ Some form → Makes (kind, form)
unfolding lookup
row_makes kind [] all h = absurd (none-ne-some _ h)
row_makes kind (row ∷ rows) {form} (one makes rest) h =
    decided (eqb kind row.0)
    (λ t. subst (λ (made : CommandForm). Makes (kind, made)) (some-injective _ _ (rw t at h)) makes)
    (λ t. row_makes kind rows rest (rw t at h))

module _ (bytes : List ℕ) (header : Header) (few : header.registers ≤ max_registers) where
  register_finds : (present : Bool) →
      Finds bytes (optional present 0 (judged (λ i. ltb i header.registers) program_range (byte program_length))) (λ x. x < max_registers)
  register_finds present =
      finds_default present 0 (omega arith)
      (finds_weaker (finds_judged (λ i. ltb i header.registers) program_range (byte program_length))
      (λ x t. omega (arith, few, ltb-true x header.registers t)))

  fields_find : (map : ℕ) → Finds bytes (read_fields header.registers map) (λ f. f.register < max_registers)
  unfolding read_fields
  fields_find map =
      finds_bind (register_finds (bit 0 map)) λ x h.
      finds_bind (finds_anything (optional (bit 1 map) (constant 0) (expression header.registers))) λ e1 _.
      finds_bind (finds_anything (optional (bit 2 map) (constant 0) (expression header.registers))) λ e2 _.
      finds_bind (finds_anything (optional (bit 3 map) (constant 0) (expression header.registers))) λ e3 _.
      finds_bind (finds_anything (optional (bit 4 map) (constant 0) (expression header.registers))) λ e4 _.
      finds_pure _ h

  form_finds : (at map kind : ℕ) (row : Option CommandForm) → lookup kind forms ≡ row →
      Finds bytes (judged_form at map row) (λ form. Makes (kind, form))
  unfolding judged_form
  form_finds at map kind None e = record { holds = λ next f h. absurd (refused≢ok h) }
  form_finds at map kind (Some form) e =
      record {
        holds =
            λ next f h.
            decided (eqb map form.map)
            (λ t. subst (λ (f : Found CommandForm). Makes (kind, f.value)) (ok_injective (rw t at h)) (row_makes kind forms all_make e))
            (λ t. absurd (refused≢ok (rw t at h)));
      }

  pub register_held : (at : ℕ) {t : Transition} {end : ℕ} → read_transition header bytes at ≡ found t end → RegisterHeld t.command
  unfolding read_transition
  register_held at h =
      let state : Reader ℕ = judged (λ q. ltb q header.states) program_range (byte program_length) in
      let (map, _, h₁) = bind_ok (byte program_length bytes at) _ h in
      let (kind, _, h₂) = bind_ok (byte program_length bytes map.next) _ h₁ in
      let (form, e, h₃) = bind_ok (judged_form at map.value (lookup kind.value forms) bytes kind.next) _ h₂ in
      let (source, _, h₄) = bind_ok (state bytes form.next) _ h₃ in
      let (target, _, h₅) = bind_ok (state bytes source.next) _ h₄ in
      let (fields, d, h₆) = bind_ok (read_fields header.registers map.value bytes target.next) _ h₅ in
      let makes = (form_finds at map.value kind.value (lookup kind.value forms) refl).holds kind.next form e in
      subst (λ (f : Found Transition). RegisterHeld f.value.command) (ok_injective h₆)
      (makes fields.value ((fields_find map.value).holds target.next fields d))
