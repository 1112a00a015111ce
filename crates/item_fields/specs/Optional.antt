-- The fields of an item, by kinds of field. A field is there only where its map bit stands, and else 0.
use Rattle.std.specs.Prelude.{ℕ, Bool, ltb, Option, None}
use Rattle.model.specs.Refusals.{record_length, record_range}
use Rattle.model.specs.Choice.{between}
use Rattle.model.specs.Bytes.{Reader, byte, word, judged, optional}
use Rattle.model.specs.Records.{low_byte, high_byte, given_value}

-- A rank, a place's rank or a remote rank, 1 to `ranks`.
abbrev pub rank_field : (present : Bool) → (ranks : ℕ) → Reader ℕ
rank_field present ranks = optional present 0 (judged (between 1 ranks) record_range (byte record_length))

-- A queue, below `limit`.
abbrev pub number_field : (present : Bool) → (limit : ℕ) → Reader ℕ
number_field present limit = optional present 0 (judged (λ n. ltb n limit) record_range (byte record_length))

-- A transition's low byte, below `transitions` unless a high byte follows.
abbrev pub low_field : (present high : Bool) → (transitions : ℕ) → Reader ℕ
low_field present high transitions = optional present 0 (low_byte high transitions)

-- A transition: what its high byte makes of the low one, and without it the low one.
abbrev pub transition_field : (high : Bool) → (transitions low : ℕ) → Reader ℕ
transition_field high transitions low = optional high low (high_byte transitions low)

-- A place's cell, below `cells`.
abbrev pub cell_field : (present : Bool) → (cells : ℕ) → Reader ℕ
cell_field present cells = optional present 0 (judged (λ a. ltb a cells) record_range (word record_length))

-- A value, if one is given.
abbrev pub given_field : (present : Bool) → Reader (Option ℕ)
given_field present = optional present None given_value
