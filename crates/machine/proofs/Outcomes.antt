-- What the code answers and leaves where it refuses: all that was there.
use Prim.Native.Nat.{ℕ}
use mathlib.Core.Path.{◌≡◌}
use Rattle.model.specs.declared.Refusal.{Refusal}
use Rattle.model.specs.Refusals.{Result, Err, wrong_transition, access_differs}
use Rattle.machine.specs.Arrays.{Memory}
use Rattle.machine.specs.Outcomes.{Does, Left, Outcome}

pub does_refused : {r : Refusal} {result : Result Left} {m : Memory} → result ≡ Err r → Does result m m (Err r)
does_refused e = record { answers = rw e; leaves = rw e }

-- An item that differs from its access, and one whose transition is not from the rank's state, or is of another kind.
abbrev pub differs : (at : ℕ) → Outcome
differs at = Err (record { number = access_differs; place = at })

abbrev pub wrong : (at : ℕ) → Outcome
wrong at = Err (record { number = wrong_transition; place = at })
