-- The fields of an item, each with its writer: a byte that passes a test, a transition's low byte and its number with the high one, and a value.
use Rattle.std.specs.Prelude.{Some, None, Option}
use Prim.Native.Nat.{ℕ, ◌+◌, ◌*◌, ◌/◌, ◌%◌, ◌<◌, ◌≤◌}
use mathlib.Core.Path.{◌≡◌, refl, sym, ap, ◌∙◌}
use mathlib.Core.Bool.{Bool, true, false, true≢false, false≢true, ◌&&◌}
use mathlib.Core.List.{[], ◌∷◌}
use native.Mathlib.Nat.{div-add-mod'}
use native.Mathlib.Omega.{arith}
use lib.Arith.{digits_div, digits_mod}
use lib.Dec.{ltb}
use borrow.Author.Tests.{ltb-true, lt-ltb}
use Rattle.model.specs.Limits.{byte_values, word_values, max_transitions}
use Rattle.model.specs.Refusals.{record_length, record_range}
use Rattle.model.specs.Bytes.{optional}
use Rattle.model.specs.Records.{field, low_byte, high_byte, given_value}
use Rattle.model.specs.Traces.{GivenIn}
use Rattle.model.proofs.Laws.{and-true, true_and}
use Rattle.record_bytes.specs.RecordBytes.{is_given, given_bytes}
use Rattle.record_bytes.specs.Claims.{RoundTrip}
use Rattle.record_bytes.proofs.RoundTrip.{trip_byte, trip_word, trip_judged, trip_as, trip_written, trip_pure, trip_then, trip_plain}

-- A field of one byte that passes its test.
pub record Passes (test : ℕ → Bool) (v : ℕ) : Type 0 where
  pub small : v < byte_values
  pub passes : test v ≡ true

pub trip_field : (test : ℕ → Bool) → RoundTrip (field test) (λ v. v ∷ []) (Passes test)
unfolding field
trip_field test =
    trip_as (trip_judged test record_range (trip_byte record_length))
    (λ v (small, passes). record { small = small; passes = passes }) (λ v is. (is.small, is.passes))

-- A transition's low byte, below T where it is the whole number; and a number that takes a high byte too.
pub record Low (high : Bool) (transitions v : ℕ) : Type 0 where
  pub small : v < byte_values
  pub below : high ≡ false → v < transitions

pub trip_low : (high : Bool) (transitions : ℕ) → RoundTrip (low_byte high transitions) (λ v. v ∷ []) (Low high transitions)
unfolding low_byte
trip_low true transitions =
    trip_as (trip_byte record_length) (λ v small. record { small = small; below = λ is. absurd (true≢false is) }) (λ v is. is.small)
trip_low false transitions =
    trip_as (trip_field (λ t. ltb t transitions))
    (λ v is. record { small = is.small; below = λ _. ltb-true v transitions is.passes })
    (λ v is. record { small = is.small; passes = lt-ltb v transitions (is.below refl) })

pub record High (transitions low t : ℕ) : Type 0 where
  pub low_byte_lem : t % byte_values ≡ low
  pub large : byte_values ≤ t
  pub below : t < transitions

pub trip_high : (transitions low : ℕ) → transitions ≤ max_transitions → low < byte_values →
    RoundTrip (high_byte transitions low) (λ t. t / byte_values ∷ []) (High transitions low)
unfolding high_byte
trip_high transitions low few small =
    trip_plain
    (trip_then (λ t. t / byte_values) (trip_field (λ h. ltb 0 h && ltb (h * byte_values + low) transitions)) could λ high is.
    let (some, below) = and-true (ltb 0 high) (ltb (high * byte_values + low) transitions) is.passes in
    trip_pure (high * byte_values + low)
    (record {
      low_byte_lem = digits_mod high small;
      large = omega (arith, ltb-true 0 high some);
      below = ltb-true (high * byte_values + low) transitions below;
    })
    (tt, digits_div high small)
    (λ t is (_, picked). rw (← picked, ← is.low_byte_lem) (div-add-mod' t byte_values)))
  where
    could : (t : ℕ) → High transitions low t → Unit {0} → Passes (λ h. ltb 0 h && ltb (h * byte_values + low) transitions) (t / byte_values)
    could t is _ =
        let whole : t / byte_values * byte_values + low ≡ t = rw (← is.low_byte_lem) (div-add-mod' t byte_values) in
        record {
          small = omega (arith, is.below, few);
          passes =
              true_and (ltb 0 (t / byte_values)) (ltb (t / byte_values * byte_values + low) transitions)
              (lt-ltb 0 (t / byte_values) (omega (arith, is.large))) (rw whole (lt-ltb t transitions is.below));
        }

-- A value, if its bit stands.
pub record GivenBy (present : Bool) (given : Option ℕ) : Type 0 where
  pub in_range_lem : GivenIn given
  pub told : is_given given ≡ present

abbrev value_in : Option ℕ → ℕ
value_in (Some v) = v
value_in None = 0

value_small : (given : Option ℕ) → GivenIn given → value_in given < word_values
value_small (Some v) small = small
value_small None small = omega arith

pub absent : (given : Option ℕ) → is_given given ≡ false → given ≡ None
absent (Some v) is = absurd (true≢false is)
absent None is = refl

there : (given : Option ℕ) → is_given given ≡ true → given ≡ Some (value_in given)
there (Some v) is = refl
there None is = absurd (false≢true is)

pub trip_given : (present : Bool) → RoundTrip (optional present None given_value) given_bytes (GivenBy present)
unfolding given_value
trip_given true =
    trip_written
    (trip_plain
    (trip_then value_in (trip_word record_length) (λ given is _. value_small given is.in_range_lem) λ v small.
    trip_pure (Some v) (record { in_range_lem = small; told = refl }) (tt, refl)
    (λ given is (_, picked). ap Some (sym picked) ∙ sym (there given is.told))))
    (λ given is. rw (there given is.told) refl)
trip_given false =
    trip_written
    (trip_plain (trip_pure None (record { in_range_lem = tt; told = refl }) tt (λ given is _. sym (absent given is.told))))
    (λ given is. rw (absent given is.told) refl)
