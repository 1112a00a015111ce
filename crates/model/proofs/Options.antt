-- What is there differs from nothing, and is one thing.
use Rattle.std.specs.Prelude.{◌≡◌, Some, None}

pub none-ne-some : {A : Type 0} (a : A) → ¬ (None ≡ Some a)
none-ne-some a p = cc

pub some-injective : {A : Type 0} (a b : A) → Some a ≡ Some b → a ≡ b
some-injective a b p = cc

pub some-ne-none : {A : Type 0} (a : A) → ¬ (Some a ≡ None)
some-ne-none a p = cc
