-- A transition is its form, and what follows map and kind by that form: whose map was read is the form's.
use Rattle.std.specs.Prelude.{ℕ, ◌≡◌, List, Option, Some, None, eqb}
use Rattle.model.specs.declared.Found.{Found}
use Rattle.model.specs.declared.Header.{Header}
use Rattle.model.specs.declared.Refusal.{Refusal}
use mathlib.Core.Path.{refl, ap}
use borrow.Author.Tests.{eqb-true}
use Rattle.model.specs.Refusals as Refusals
use Rattle.model.specs.Refusals.{Result, Ok, Err, program_length}
use Rattle.model.specs.Choice.{lookup}
use Rattle.model.specs.Bytes.{Reader, ◌>>=◌, pure, byte}
use Rattle.model.specs.Programs.{CommandForm, Transition, forms, judged_form, read_fields, read_transition}
use Rattle.model.proofs.Laws.{decided}
use Rattle.expressions.specs.Values.{number_below}
use Rattle.transitions.specs.Transitions.{first_bytes}

-- A bind that is refused was refused by the first or by what follows it.
pub bind_refused : {A B P : Type 0} (m : Result A) (rest : A → Result B) {r : Refusal} → Refusals.◌>>=◌ m rest ≡ Err r →
    (m ≡ Err r → P) → ((a : A) → m ≡ Ok a → rest a ≡ Err r → P) → P
bind_refused (Ok a) rest h one other = other a refl h
bind_refused (Err s) rest {r} h one other = let e : s ≡ r = cc in one (ap Err e)

module _ (header : Header) where
  -- What follows map and kind.
  abbrev pub after_form : (map : ℕ) → CommandForm → Reader Transition
  after_form map form = do
    source ← number_below header.states
    target ← number_below header.states
    fields ← read_fields header.registers map
    pure (record { source = source; target = target; command = form.command fields })

  module _ (bytes : List ℕ) (at : ℕ) where
    form_then : (map : ℕ) (row : Option CommandForm) (n : ℕ) →
        Refusals.◌>>=◌ (judged_form at map row bytes n) (λ f. after_form map f.value bytes f.next)
        ≡ Refusals.◌>>=◌ (judged_form at map row bytes n) (λ f. after_form f.value.map f.value bytes f.next)
    unfolding judged_form
    form_then map None n = refl
    form_then map (Some form) n =
        decided (eqb map form.map) (λ t. let e : map ≡ form.map = eqb-true map form.map t in rw (t, e)) (λ t. rw t refl)

    kind_then : (map : ℕ) (m : Result (Found ℕ)) →
        Refusals.◌>>=◌ m
        (λ k. Refusals.◌>>=◌ (judged_form at map (lookup k.value forms) bytes k.next) (λ f. after_form map f.value bytes f.next))
        ≡ Refusals.◌>>=◌ (Refusals.◌>>=◌ m (λ k. judged_form at map (lookup k.value forms) bytes k.next))
        (λ f. after_form f.value.map f.value bytes f.next)
    kind_then map (Ok k) = form_then map (lookup k.value forms) k.next
    kind_then map (Err r) = refl

    map_then : (m : Result (Found ℕ)) →
        Refusals.◌>>=◌ m
        (λ map. Refusals.◌>>=◌ (byte program_length bytes map.next)
        (λ k. Refusals.◌>>=◌ (judged_form at map.value (lookup k.value forms) bytes k.next) (λ f. after_form map.value f.value bytes f.next)))
        ≡ Refusals.◌>>=◌
        (Refusals.◌>>=◌ m
        (λ map. Refusals.◌>>=◌ (byte program_length bytes map.next)
        (λ k. judged_form at map.value (lookup k.value forms) bytes k.next)))
        (λ f. after_form f.value.map f.value bytes f.next)
    map_then (Ok map) = kind_then map.value (byte program_length bytes map.next)
    map_then (Err r) = refl

    pub by_form : read_transition header bytes at
        ≡ Refusals.◌>>=◌ (first_bytes bytes at) (λ f. after_form f.value.map f.value bytes f.next)
    unfolding read_transition first_bytes number_below
    by_form = map_then (byte program_length bytes at)
