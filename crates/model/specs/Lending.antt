-- Lent memory that entries fill, or that is left alone: slips, counts and starts.
use Rattle.std.specs.Prelude.{ℕ, ◌/◌, List, leb, length, Ok, Err}
use Rattle.model.specs.Refusals.{Result, Ok, Err, memory_too_short}
use Rattle.model.specs.Choice.{when}
use Rattle.model.specs.Checks.{fill, entry_bytes}

-- What was filled or refused, and what the lent memory holds at the end.
pub record Lent : Type 0 where
  pub answer : Result ℕ
  pub memory : List ℕ

abbrev pub answering : Result ℕ → (memory : List ℕ) → Lent
answering answer memory = record { answer = answer; memory = memory }

-- The entries fill the memory, unless it is too short: 15 with the length needed. On a refusal it holds what it held.
unfoldable pub lend : List ℕ → Result (List ℕ) → Lent
unfolding fill
lend memory (Err r) = answering (Err r) memory
lend memory (Ok entries) =
    when (leb (length entries) (length memory))
    (λ _. answering (Ok (length entries)) (fill entries memory))
    (λ _. answering (Err (record { number = memory_too_short; place = length entries })) memory)

-- The same where the memory is bytes, "two an entry, and an odd last byte is never used".
unfoldable pub lend_bytes : List ℕ → Result (List ℕ) → Lent
unfolding fill entry_bytes
lend_bytes memory (Err r) = answering (Err r) memory
lend_bytes memory (Ok entries) =
    when (leb (length entries) (length memory / 2))
    (λ _. answering (Ok (length entries)) (fill (entry_bytes entries) memory))
    (λ _. answering (Err (record { number = memory_too_short; place = length entries })) memory)
