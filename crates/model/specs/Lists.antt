-- What the other files say of any list: what stands in it, what stands before what, and numbers of which none stands twice or which rise.
use Rattle.std.specs.Prelude.{ℕ, ◌<◌, ◌≡◌, Some, slice_get}
use mathlib.Core.List.{List, [], ◌∷◌, Memᴰ as Member}

-- a stands in l.
infix 50 ◌∈◌
abbrev pub ◌∈◌ : {A : Type 0} → A → List A → Type 0
a ∈ l = Member a l

-- x stands before y in the list.
pub record Precedes {A : Type 0} (l : List A) (x y : A) : Type 0 where
  pub i : ℕ
  pub j : ℕ
  pub first : slice_get l i ≡ Some x
  pub second : slice_get l j ≡ Some y
  pub before : i < j

-- No number stands twice in the list.
abbrev pub Distinct : List ℕ → Type 0
Distinct [] = Unit {0}
Distinct (x ∷ l) = (¬ (x ∈ l)) × Distinct l

-- Each number of the list is lower than all behind it.
abbrev pub Rising : List ℕ → Type 0
Rising [] = Unit {0}
Rising (x ∷ l) = ((y : ℕ) → y ∈ l → x < y) × Rising l
