-- What an answer made of what was found tells: what it was made of, at the same place, or the refusal.
use Rattle.std.specs.Prelude.{◌≡◌}
use Rattle.model.specs.declared.Found.{Found}
use mathlib.Core.Path.{refl}
use Rattle.model.specs.declared.Refusal.{Refusal}
use Rattle.model.specs.Refusals.{Result, Ok, Err, ◌>>=◌}
use Rattle.model.specs.Bytes.{found}
use Rattle.expressions.specs.Values.{map_found}

module _ {A B : Type 0} (make : A → B) where
  pub made_of : (m : Result (Found A)) {b : Found B} → Ok b ≡ map_found make m → (a : A) × (m ≡ found a b.next) × (b.value ≡ make a)
  made_of (Ok f) {b} h =
      let e : b ≡ record { value = make f.value; next = f.next } = cc in
      (f.value, rw e refl, rw e refl)
  made_of (Err r) h = cc

  pub made_of_none : (m : Result (Found A)) {r : Refusal} → Err r ≡ map_found make m → m ≡ Err r
  made_of_none (Ok f) h = cc
  made_of_none (Err s) h = cc

  -- What follows may be made of what was found, or go by what was made.
  pub made_then : {C D : Type 0} (last : C → D) (m : Result (Found A)) (rest : Found A → Result (Found C)) (next : Found B → Result (Found D)) →
      ((f : Found A) → map_found last (rest f) ≡ next (record { value = make f.value; next = f.next })) →
      map_found last (m >>= rest) ≡ (map_found make m >>= next)
  made_then last (Ok f) rest next h = h f
  made_then last (Err r) rest next h = refl
