-- The program reader with the starts of the transitions in the place of the transitions: `program_reader`, whose transitions give where they begin.
use Rattle.model.specs.declared.Found.{Found}
use Rattle.std.specs.Prelude.{ℕ, ◌-◌, ◌≤◌, ◌≡◌, List, ◌++◌, eqb, length, replicate}
use Rattle.model.specs.declared.Header.{Header}
use Rattle.model.specs.Limits.{max_header_bytes, max_transitions}
use Rattle.model.specs.Refusals as Refusals
use Rattle.model.specs.Refusals.{Result, Ok, Err, refuse, program_length}
use Rattle.model.specs.Choice.{when}
use Rattle.model.specs.Bytes.{Reader, ◌>>=◌, pure, here, times, whole}
use Rattle.model.specs.Programs.{read_header_in, read_header, read_program, read_transition}
use Rattle.program.specs.declared.reader.Program as reader

-- Reads a transition, and gives where it starts.
unfoldable pub transition_start : Header → Reader ℕ
unfolding read_transition
transition_start header = do
  at ← here
  transition ← read_transition header
  pure at

-- The header, and where each transition starts.
pub record Starts : Type 0 where
  pub header : Header
  pub starts : List ℕ

unfoldable pub starts_reader : Reader Starts
unfolding read_header_in times transition_start
starts_reader = do
  header ← read_header
  starts ← times header.transitions (transition_start header)
  pure (record { header = header; starts = starts })

-- As `read_program`, with nothing left over.
unfoldable pub read_starts : List ℕ → Result Starts
unfolding whole starts_reader
read_starts = whole program_length starts_reader

-- What follows the header has to reach the last byte.
abbrev pub reach : {A B : Type 0} → (bytes : List ℕ) → (A → B) → Result (Found A) → Result B
reach bytes make m =
    Refusals.◌>>=◌ m (λ f. when (eqb f.next (length bytes)) (λ _. Ok (make f.value)) (λ _. refuse program_length f.next))

unfoldable pub after_header : Header → (bytes : List ℕ) → (at : ℕ) → Result Starts
after_header header bytes at =
    reach bytes (λ starts. record { header = header; starts = starts }) (times header.transitions (transition_start header) bytes at)

-- A header that was read, and the place behind it: so few transitions follow, from a place so near, that every start fits sixteen bits.
pub record Begun (header : Header) (at : ℕ) : Type 0 where
  pub few : header.transitions ≤ max_transitions
  pub near : at ≤ max_header_bytes

-- Entries without a transition are 0.
abbrev pub no_starts : List ℕ
no_starts = replicate max_transitions 0

abbrev pub padded : List ℕ → List ℕ
padded starts = starts ++ replicate (max_transitions - length starts) 0

-- The reader's entries.
abbrev pub entries : Result Starts → List ℕ
entries (Ok s) = padded s.starts
entries (Err r) = no_starts

-- The program as the code has it: the header, and the entries.
abbrev pub program_of : Starts → reader.Program
program_of s = record { header = s.header; starts = padded s.starts }

-- A result with what is made of its value.
abbrev pub map_ok : {A B : Type 0} → (A → B) → Result A → Result B
map_ok make m = Refusals.◌>>=◌ m (λ a. Ok (make a))

-- What reading a program promises: the definition's header or refusal, and where the definition's transitions start.
pub record Answers (bytes : List ℕ) (read : Result reader.Program) : Type 0 where
  pub answer : map_ok (λ p. p.header) read ≡ map_ok (λ p. p.header) (read_program bytes)
  pub starts : read ≡ map_ok program_of (read_starts bytes)
