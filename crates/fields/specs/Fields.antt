-- What has to hold of a field that was read, and readers one after the other.
use Rattle.std.specs.Prelude.{ℕ, Bool}
use Rattle.model.specs.declared.Found.{Found}
use Rattle.model.specs.Refusals as Refusals
use Rattle.model.specs.Refusals.{Result, Ok, refuse}
use Rattle.model.specs.Choice.{when}
use Rattle.model.specs.Bytes as Bytes
use Rattle.model.specs.Bytes.{Reader}

-- A field that was read and whose number has to pass a test; its fault is placed at the field's first byte.
abbrev pub judged_field : (ℕ → Bool) → (number at : ℕ) → Result (Found ℕ) → Result (Found ℕ)
judged_field test number at read = Refusals.◌>>=◌ read (λ f. when (test f.value) (λ _. Ok f) (λ _. refuse number at))

infixl 1 ◌>>=◌
-- One reader after the other, as in the definitions. It stays shut where it is not named, so that a proof about a reader written with it meets the
-- readers that it is made of.
unfoldable pub ◌>>=◌ : {A B : Type 0} → Reader A → (A → Reader B) → Reader B
◌>>=◌ = Bytes.◌>>=◌
