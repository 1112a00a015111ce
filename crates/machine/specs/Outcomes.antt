-- What an item that was taken leaves of the arrays, and what the code answers of it.
use Rattle.std.specs.Prelude.{ℕ, ◌≡◌, Option}
use Rattle.model.specs.declared.Item.{Item}
use Rattle.model.specs.Refusals.{Result, Ok, Err, require, ◌>>=◌, access_differs}
use Rattle.model.specs.Machine.{Access}
use Rattle.model.specs.Replay.{agrees_with}
use Rattle.items.specs.declared.rows.Progress.{Progress}
use Rattle.machine.specs.declared.Advance.{Advance}
use Rattle.machine.specs.Arrays.{Memory}

-- What an item that was taken leaves: the arrays, how far the replay is, and what the drawing of arrows needs of the item.
pub record Left : Type 0 where
  pub memory : Memory
  pub next : Progress
  pub group : ℕ
  pub access : ℕ

-- "place or given value differs from the replay"
unfoldable pub agreed_on : (at : ℕ) → Item → Option Access → Left → Result Left
unfolding agrees_with
agreed_on at i access left = do
  _ ← require (agrees_with i access) access_differs at
  Ok left

-- What the code answers, and what it leaves in the arrays: on a refusal, all that was there.
abbrev pub Outcome : Type 0
Outcome = Result Advance

abbrev pub outcome_of : Result Left → Outcome
outcome_of (Ok l) = Ok (record { next = l.next; group = l.group; access = l.access })
outcome_of (Err r) = Err r

abbrev pub memory_after : Memory → Result Left → Memory
memory_after m (Ok l) = l.memory
memory_after m (Err r) = m

pub record Does (result : Result Left) (before after : Memory) (outcome : Outcome) : Type 0 where
  pub answers : outcome ≡ outcome_of result
  pub leaves : after ≡ memory_after before result

-- The code goes by a definition on arrays, whatever they hold.
abbrev pub GoesBy : (definition : Memory → Result Left) → (before after : Memory) → Outcome → Type 0
GoesBy definition before after outcome = Does (definition before) before after outcome
