-- The limits of the formats, document 01's and those that document 02 widened, each under one name.
use Rattle.std.specs.Prelude.{ℕ}

-- "Ranks 1 to N, N 1..8": as many as a byte map has bits.
abbrev pub byte_ranks : ℕ
byte_ranks = 8

-- Document 02, #105: "The machine grows, so N goes to 16."
abbrev pub max_ranks : ℕ
max_ranks = 16

-- "Each rank has A cells (1..64), R registers (1..16), Q queues (1..4), all numbered from 0."
abbrev pub max_cells : ℕ
max_cells = 64

abbrev pub max_registers : ℕ
max_registers = 16

abbrev pub max_queues : ℕ
max_queues = 4

-- "S control states (1..64), T transitions (0..128), both numbered from 0."
abbrev pub max_states : ℕ
max_states = 64

-- What a count of one byte says at most.
abbrev pub short_transitions : ℕ
short_transitions = 128

-- Document 02, #107: "T may reach 400: a count byte of 255 in the header says that a two-byte count follows".
abbrev pub max_transitions : ℕ
max_transitions = 400

abbrev pub long_count : ℕ
long_count = 255

-- The longest header, whose count has three bytes; and the longest transition, four bytes and four expressions of 31.
abbrev pub max_header_bytes : ℕ
max_header_bytes = 8

abbrev pub max_transition_bytes : ℕ
max_transition_bytes = 128

-- "Expressions are tokens in prefix form, at most 15 each."
abbrev pub max_tokens : ℕ
max_tokens = 15

-- "Record bytes: a two-byte item count, 0..1,024."
abbrev pub max_items : ℕ
max_items = 1_024

-- The arrows of a record: for each item at most one by program order and two by conflict.
abbrev pub max_edges : ℕ
max_edges = 3_072

-- A byte has so many values.
abbrev pub byte_values : ℕ
byte_values = 256

-- "Values are unsigned 16-bit numbers": there are so many of them, and this is the last.
abbrev pub word_values : ℕ
word_values = 65_536

abbrev pub max_value : ℕ
max_value = 65_535

-- Document 02, #103: "for each rank in turn an eight-byte big-endian map".
abbrev pub map_size : ℕ
map_size = 8
