-- Bytes written to the front of a text: all of them where they fit, and else none.
use Rattle.std.specs.Prelude.{ℕ, ◌≡◌, List, leb, length}
use Rattle.model.specs.Choice.{when}
use Rattle.model.specs.Checks.{fill}

-- What the text holds then, and how many bytes were written.
unfoldable pub written : (new text : List ℕ) → List ℕ
written new text = when (leb (length new) (length text)) (λ _. fill new text) (λ _. text)

unfoldable pub written_length : (new text : List ℕ) → ℕ
written_length new text = when (leb (length new) (length text)) (λ _. length new) (λ _. 0)

-- A writer wrote these bytes: into the text that it found, what it left there, and its answer.
pub record Wrote (new found left : List ℕ) (answer : ℕ) : Type 0 where
  pub text : left ≡ written new found
  pub count : answer ≡ written_length new found
