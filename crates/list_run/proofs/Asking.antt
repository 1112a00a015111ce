-- What words ask for, by what comparing the second one tells.
use Prim.Native.Nat.{ℕ}
use mathlib.Core.Path.{◌≡◌, subst}
use mathlib.Core.Bool.{Bool, true, false}
use mathlib.Core.List.{List}
use native.Mathlib.Omega.{arith}
use Rattle.std.specs.Cmp.Lexicographic.{pointwise}
use Rattle.std.proofs.Common.{nat_eq}
use Rattle.std.proofs.lemmas.Bool.Decides.{Decides-eqb}
use Rattle.std.proofs.lemmas.Slice.Eq.{slice_eq-Decides}
use Rattle.list_run.specs.declared.arguments.Asked.TheVariants.{Help, Version, Other}
use Rattle.list_run.specs.Arguments.{help_word, version_word, Asks, help, version, unknown}

-- Whether two words are the same.
abbrev Compared : Bool → List ℕ → List ℕ → Type 0
Compared same a b = (same ≡ true → a ≡ b) × (a ≡ b → same ≡ true)

-- What std's comparison of two slices tells.
pub compared : (word : List ℕ) {lent known : List ℕ} {same : Bool} → lent ≡ known → same ≡ pointwise nat_eq word lent → Compared same word known
compared word {same = same} lends answers =
    slice_eq-Decides Decides-eqb word _ same (subst (λ (l : List ℕ). same ≡ pointwise nat_eq word l) lends answers)

differs : {a b : List ℕ} {same : Bool} → Compared same a b → same ≡ false → a ≡ b → ⊥
differs compared not_same equal = let z : true ≡ false = cc (compared.1 equal) in let n : ◌≡◌ {A = ℕ} 0 1 = cc in omega arith

module _ {words : ℕ} {word : List ℕ} (two : words ≡ 2) where
  pub asks_help : {same : Bool} → Compared same word help_word → same ≡ true → Asks words word Help
  asks_help compared is_same = rw (two, compared.0 is_same) help

  pub asks_version : {same : Bool} → Compared same word version_word → same ≡ true → Asks words word Version
  asks_version compared is_same = rw (two, compared.0 is_same) version

  pub asks_other : {same same' : Bool} → Compared same word help_word → same ≡ false → Compared same' word version_word → same' ≡ false →
      Asks words word Other
  asks_other compared is_not compared' is_not' = rw two (unknown (differs compared is_not) (differs compared' is_not'))
