-- Where a refusal is placed, by a rule for each way in which results are put together: what is refused by the whole is refused by a part.
use Rattle.std.specs.Prelude.{Option, Some, None}
use Prim.Native.Nat.{ℕ, ◌≤◌}
use mathlib.Core.Path.{◌≡◌, refl, sym}
use mathlib.Core.Bool.{Bool, true, false}
use native.Mathlib.Omega.{arith}
use Rattle.model.specs.declared.Refusal.{Refusal}
use Rattle.model.specs.Refusals.{Result, Ok, Err, refuse, require, present, ◌>>=◌}
use Rattle.model.proofs.Laws.{refused≢ok}

-- What this result refuses is placed here or before.
pub record Placed {A : Type 0} (most : ℕ) (m : Result A) : Type 0 where
  pub place : (r : Refusal) → m ≡ Err r → r.place ≤ most

pub placed_ok : {A : Type 0} {most : ℕ} (a : A) → Placed most (Ok a)
placed_ok a = record { place = λ r h. absurd (refused≢ok (sym h)) }

pub placed_refuse : {A : Type 0} {most : ℕ} (number place : ℕ) → place ≤ most → Placed {A = A} most (refuse number place)
placed_refuse number place before = record { place = λ r h. let same : place ≡ r.place = cc in rw same at before }

pub placed_bind : {A B : Type 0} {most : ℕ} {m : Result A} {f : A → Result B} → Placed most m → ((a : A) → m ≡ Ok a → Placed most (f a)) →
    Placed most (m >>= f)
placed_bind {m = Ok a} first then = then a refl
placed_bind {m = Err r} first then = record { place = λ s h. let same : r ≡ s = cc in rw same at (first.place r refl) }

pub placed_later : {A : Type 0} {most later : ℕ} {m : Result A} → most ≤ later → Placed most m → Placed later m
placed_later after placed = record { place = λ r h. omega (arith, placed.place r h) }

pub placed_require : (t : Bool) (number place : ℕ) → Placed place (require t number place)
placed_require true number place = placed_ok tt
placed_require false number place = placed_refuse number place (omega arith)

pub placed_present : {A : Type 0} (o : Option A) (number place : ℕ) → Placed place (present o number place)
placed_present (Some a) number place = placed_ok a
placed_present None number place = placed_refuse number place (omega arith)
