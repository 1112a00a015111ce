-- The three demands hold of what the check answers, for all program, start and record bytes and all lent lists: what the whole project promises of
-- its definitions. `MeetsDemands` in specs/ is the statement; here it is said of both entries.
use Prim.Native.Nat.{ℕ}
use mathlib.Core.Path.{◌≡◌, refl, subst}
use mathlib.Core.List.{List}
use Rattle.model.specs.Refusals.{Result, Ok, Err}
use Rattle.model.specs.Bytes.{AreBytes}
use Rattle.model.specs.Checks.{Verdicts, outcome, check_in, check, outcome_bytes, check_bytes_in, check_bytes}
use Rattle.demands.specs.Entries.{numbers, bytes}
use Rattle.demands.specs.Demands.{MeetsDemands}
use Rattle.demands.proofs.Entries.{capacity}
use Rattle.demands.proofs.Outcomes.{outcome_in, result_in, outcome_meets}

-- Both entries write as their form says.
pub numbers_written_lem : (order cells : List ℕ) (m : Result Verdicts) → outcome_in numbers order cells m ≡ outcome order cells m
unfolding outcome
numbers_written_lem order cells (Ok v) = refl
numbers_written_lem order cells (Err r) = refl

pub bytes_written : (order cells : List ℕ) (m : Result Verdicts) → outcome_in bytes order cells m ≡ outcome_bytes order cells m
unfolding outcome_bytes
bytes_written order cells (Ok v) = refl
bytes_written order cells (Err r) = refl

module _ (program start recorded order cells : List ℕ) (are_bytes : AreBytes recorded) where
  -- The check with lists of 16-bit numbers.
  pub check_meets_demands : MeetsDemands numbers program start recorded order cells (check program start recorded order cells)
  unfolding check_in capacity
  check_meets_demands =
      subst (MeetsDemands numbers program start recorded order cells) (numbers_written_lem order cells (result_in numbers program start recorded order cells))
      (outcome_meets numbers program start recorded order cells are_bytes)

  -- The check with lists of bytes.
  pub check_bytes_meets_demands : MeetsDemands bytes program start recorded order cells (check_bytes program start recorded order cells)
  unfolding check_bytes_in capacity
  check_bytes_meets_demands =
      subst (MeetsDemands bytes program start recorded order cells) (bytes_written order cells (result_in bytes program start recorded order cells))
      (outcome_meets bytes program start recorded order cells are_bytes)
