-- Refusals (document 01's table, and document 02's "New numbers"): the numbers by name, and results that are a value or a refusal.
use Rattle.std.specs.Prelude.{ℕ, Bool, true, false, Option, Some, None}
use Rattle.std.specs.Prelude as prelude
pub use Rattle.std.specs.Prelude.{Ok, Err}
use Rattle.model.specs.declared.Refusal.{Refusal}

-- "program ends early (place: its length), or bytes left over (first one)"
abbrev pub program_length : ℕ
program_length = 1

-- "header number, state or register outside its range"
abbrev pub program_range : ℕ
program_range = 2

-- "unknown kind, then map not the kind's; unknown token; sixteenth token"
abbrev pub program_form : ℕ
program_form = 3

-- "record ends early or has bytes left over, placed as in 1"
abbrev pub record_length : ℕ
record_length = 4

-- "item count above 1,024, or an item's rank, transition, queue or place outside its range"
abbrev pub record_range : ℕ
record_range = 5

-- "item's unknown kind, then map not among its kind's"
abbrev pub record_form : ℕ
record_form = 6

-- "transition not from the rank's state, or of another kind"
abbrev pub wrong_transition : ℕ
wrong_transition = 7

-- "evaluated own cell, remote rank, remote cell or queue outside its range"
abbrev pub operand_range : ℕ
operand_range = 8

-- "assume gives 0"
abbrev pub assume_fails : ℕ
assume_fails = 9

-- "pop of an empty queue"
abbrev pub empty_queue : ℕ
empty_queue = 10

-- "place or given value differs from the replay"
abbrev pub access_differs : ℕ
access_differs = 11

-- "bar whose rank is not the next of its row (rank 1 opens one), or another item in an open row"
abbrev pub barrier_row : ℕ
barrier_row = 12

-- "requests or deliveries left"
abbrev pub queues_left : ℕ
queues_left = 13

-- "order list shorter than the group count (also when a ring would fit)"
abbrev pub order_too_short : ℕ
order_too_short = 14

-- "cell list, slip, counts or listing memory too short"
abbrev pub memory_too_short : ℕ
memory_too_short = 15

-- "slip not as below"
abbrev pub slip_form : ℕ
slip_form = 16

-- Document 02, #102: "A sum or product above 65,535 or a difference below 0 has no value any more, and neither has an expression holding it."
abbrev pub no_value : ℕ
no_value = 18

-- Document 02, #103: "a missing or left-over byte, a bit for a cell A or above, or a listed 0".
abbrev pub start_form : ℕ
start_form = 19

-- A value, or why there is none: what the code's `Result<T, Refusal>` is.
abbrev pub Result : Type 0 → Type 0
Result A = prelude.Result A Refusal

infixl 1 ◌>>=◌
-- A refusal ends the work; a value is handed on.
abbrev pub ◌>>=◌ : {A B : Type 0} → Result A → (A → Result B) → Result B
◌>>=◌ (Ok a) f = f a
◌>>=◌ (Err r) f = Err r

-- The refusal with this number, at this place.
abbrev pub refuse : {A : Type 0} → ℕ → ℕ → Result A
refuse number place = Err (record { number = number; place = place })

-- Nothing to say where the test passes, and the refusal where it fails.
abbrev pub require : Bool → ℕ → ℕ → Result (Unit {0})
require true number place = Ok tt
require false number place = refuse number place

-- What is there, and the refusal where there is nothing.
abbrev pub present : {A : Type 0} → Option A → ℕ → ℕ → Result A
present (Some a) number place = Ok a
present None number place = refuse number place
