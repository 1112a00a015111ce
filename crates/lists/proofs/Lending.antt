-- What lent memory holds after the first so many of some numbers. Where fewer are given, those are all of them, and no more is needed.
use Rattle.std.specs.Prelude.{Err}
use Prim.Native.Nat.{ℕ, ◌≤◌, ◌<◌, min}
use mathlib.Core.Path.{◌≡◌, refl, sym, ap, ◌∙◌}
use mathlib.Core.List.{List, []}
use native.Mathlib.Nat.{min-le_left, min-le_right}
use native.Mathlib.Omega.{arith}
use lib.ListN.{length, take, length-take}
use lib.Seq.{take_all, take-take}
use Rattle.model.specs.Refusals.{Ok, memory_too_short}
use Rattle.model.specs.Checks.{fill}
use Rattle.model.specs.Lending.{lend, answering}
use Rattle.model.proofs.Lending.{lends, lends_nothing}
use Rattle.lists.specs.Written.{itself, numbers_written}
use Rattle.lists.proofs.Forms.{written_further, numbers_themselves}

module _ (memory numbers : List ℕ) (count : ℕ) {needed : ℕ} (e : needed ≡ min count (length numbers)) where
  first_long : length (take count numbers) ≡ needed
  first_long = length-take count numbers ∙ sym e

  first_same : take needed numbers ≡ take count numbers
  first_same =
      let few : needed ≤ count = omega (arith, min-le_left count (length numbers)) in
      sym (take-take needed count numbers few) ∙ take_all needed (take count numbers) (omega (arith, first_long))

  pub lends_first : needed ≤ length memory → {after : List ℕ} → after ≡ numbers_written memory 0 numbers needed →
      answering (Ok needed) after ≡ lend memory (Ok (take count numbers))
  unfolding fill
  lends_first room wrote =
      let enough : needed ≤ length numbers = omega (arith, min-le_right count (length numbers)) in
      ap (answering (Ok needed))
      (wrote
      ∙ written_further 1 itself (λ n. refl) [] memory numbers needed enough (omega arith)
      ∙ ap (λ l. fill l memory) (numbers_themselves (take needed numbers) ∙ first_same))
      ∙ lends memory (take count numbers) first_long room

  pub lends_none : length memory < needed →
      answering (Err (record { number = memory_too_short; place = needed })) memory ≡ lend memory (Ok (take count numbers))
  lends_none few = lends_nothing memory (take count numbers) first_long few
