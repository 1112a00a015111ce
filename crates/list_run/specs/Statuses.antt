-- Exit statuses of the listing program.
use Rattle.model.specs.Checks.{Answer}
use Rattle.model.specs.declared.Verdict.TheVariants.{Order, Ring}
use Rattle.std.specs.Prelude.{ℕ, Bool, true, false, Ok, Err}

-- An order, a ring, a refusal.
abbrev pub status_of : Answer → ℕ
status_of (Ok (Order count)) = 0
status_of (Ok (Ring count)) = 1
status_of (Err r) = 2

abbrev pub not_written : ℕ
not_written = 3

-- The status that the program ends with, by whether its text was written: the text's own, or that of output that could not be written.
abbrev pub exit_status : (written : Bool) → (status : ℕ) → ℕ
exit_status true status = status
exit_status false status = not_written
