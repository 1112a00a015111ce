-- The longest inputs that can be read, in bytes, the longest listing and the longest slip. The longest start that is written is the longest readable one.
use Rattle.std.specs.Prelude.{ℕ}

-- Six header numbers, the last in three bytes, then 400 transitions of four bytes and four expressions. Eight of an expression's fifteen tokens are
-- constants, so it has 31 bytes.
abbrev pub max_program_bytes : ℕ
max_program_bytes = 51_208

-- For each of sixteen ranks a map of eight bytes, then two for each of 64 cells.
abbrev pub max_start_bytes : ℕ
max_start_bytes = 2_176

-- An item count, then 1,024 items of ten bytes: all fields but a queue, and the transition's high byte.
abbrev pub max_record_bytes : ℕ
max_record_bytes = 10_242

-- A listing's lines, each with its line feed: `order 1024`, `group 1023 assign 16 1023` and `cell 16 63 65535`.
abbrev pub max_verdict_line : ℕ
max_verdict_line = 11

abbrev pub max_group_line : ℕ
max_group_line = 26

abbrev pub max_cell_line : ℕ
max_cell_line = 17

-- The first once, and 1,024 of each of the others.
abbrev pub max_listing_bytes : ℕ
max_listing_bytes = 44_043

-- The map of two bytes, then a count of two for each of sixteen ranks.
abbrev pub max_slip_bytes : ℕ
max_slip_bytes = 34
