-- What the entry returns and writes, by the definition's outcome for lists of bytes.
use Rattle.model.specs.declared.Verdict.TheVariants.{Order, Ring}
use Rattle.std.specs.Prelude.{ℕ, ◌≡◌, List, eqb, Ok, Err}
use Rattle.model.specs.Choice.{when}
use Rattle.model.specs.Checks.{check_bytes, Answer}
use Rattle.demands.specs.Entries.{bytes}
use Rattle.demands.specs.Demands.{MeetsDemands}
use Rattle.checker.specs.Checked.{answering}

-- An answer as two numbers: what it is, and the count of groups or the place.
abbrev pub number_of : Answer → ℕ
number_of (Ok (Order count)) = 0
number_of (Ok (Ring count)) = 255
number_of (Err r) = r.number

abbrev pub value_of : Answer → ℕ
value_of (Ok (Order count)) = count
value_of (Ok (Ring count)) = count
value_of (Err r) = r.place

-- How a caller reads them.
unfoldable pub answer_read : (number value : ℕ) → Answer
answer_read number value =
    when (eqb number 0) (λ _. Ok (Order value))
    (λ _. when (eqb number 255) (λ _. Ok (Ring value)) (λ _. Err (record { number = number; place = value })))

-- The number returned and the value written, and what the lent lists hold then; and as a caller reads them, they meet the three demands.
pub record Reported (program start recorded order cells order' cells' : List ℕ) (value number : ℕ) : Type 0 where
  pub returns : number ≡ number_of (check_bytes program start recorded order cells).answer
  pub counts : value ≡ value_of (check_bytes program start recorded order cells).answer
  pub lists : order' ≡ (check_bytes program start recorded order cells).order
  pub fills : cells' ≡ (check_bytes program start recorded order cells).cells
  pub meets : MeetsDemands bytes program start recorded order cells (answering (answer_read number value) order' cells')
