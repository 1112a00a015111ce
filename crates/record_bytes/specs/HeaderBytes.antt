-- A program's header (document 01: "N, A, R, Q, S, T, one byte each"; document 02, #107 on T), written.
use Rattle.std.specs.Prelude.{ℕ, ◌≤◌, List, ◌∷◌, ltb, leb}
use Rattle.model.specs.declared.Header.{Header}
use Rattle.model.specs.Limits.{short_transitions, long_count}
use Rattle.model.specs.Choice.{when}
use Rattle.model.specs.Bytes.{word_bytes}
use Rattle.model.specs.Programs.{HeaderFits}
use Rattle.record_bytes.specs.RecordBytes.{part}

-- The count byte: T itself up to 128, and else the 255 that "says that a two-byte count follows".
abbrev pub count_byte_of : (transitions : ℕ) → ℕ
count_byte_of t = when (leb t short_transitions) (λ _. t) (λ _. long_count)

-- What stands behind it, and both.
abbrev pub long_count_bytes : (transitions : ℕ) → List ℕ
long_count_bytes t = part (ltb short_transitions t) (word_bytes t)

abbrev pub count_bytes : (transitions : ℕ) → List ℕ
count_bytes t = count_byte_of t ∷ long_count_bytes t

unfoldable pub header_bytes : Header → List ℕ
header_bytes h = h.ranks ∷ h.cells ∷ h.registers ∷ h.queues ∷ h.states ∷ count_bytes h.transitions

-- A header that can be written: every number in its range, of which only T may be 0.
pub record WritableHeader (h : Header) : Type 0 where
  pub fits : HeaderFits h
  pub cells_low : 1 ≤ h.cells
  pub registers_low : 1 ≤ h.registers
  pub queues_low : 1 ≤ h.queues
  pub states_low : 1 ≤ h.states
