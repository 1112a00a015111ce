-- What the whole check answers and leaves in the lent lists: the definition's outcome, which meets the three demands.
use Rattle.std.specs.Prelude.{ℕ, ◌≡◌, List}
use Rattle.model.specs.Checks.{Outcome, check, check_bytes, Answer}
use Rattle.demands.specs.Entries.{Form, numbers, bytes}
use Rattle.demands.specs.Demands.{MeetsDemands}

-- The definition for lists of 16-bit numbers, and for lists of bytes.
abbrev pub definition : Form → (program start recorded order cells : List ℕ) → Outcome
definition numbers = check
definition bytes = check_bytes

-- An answer, with what both lent lists hold then.
abbrev pub answering : Answer → (order cells : List ℕ) → Outcome
answering answer order cells = record { answer = answer; order = order; cells = cells }

-- The check's promise; `order` and `cells` are what the lists held before.
pub record Checked (form : Form) (program start recorded order cells : List ℕ) (o : Outcome) : Type 0 where
  pub same : o ≡ definition form program start recorded order cells
  pub meets : MeetsDemands form program start recorded order cells o
