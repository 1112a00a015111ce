-- The map of a list's values, bit by bit as a loop makes it.
use Prim.Native.Nat.{ℕ, suc, ◌+◌, ◌*◌, ◌%◌, ◌^◌, ◌≤◌, ◌<◌}
use mathlib.Core.Path.{◌≡◌, refl, sym, ap, ◌∙◌}
use mathlib.Core.List.{List, ◌∷◌}
use native.Mathlib.Nat.{zero-add}
use native.Mathlib.Numerals.{add-one}
use native.Mathlib.Omega.{arith}
use lib.Bits.{bit_or}
use lib.Dec.{ltb}
use lib.ListN.{length, get_or, drop, length-drop, get_or-eq_default}
use lib.Seq.{drop-cons}
use borrow.Author.Tests.{lt-ltb, le-ltb}
use Rattle.model.specs.Choice.{numbers_from}
use Rattle.model.specs.Marked.{marked_map}
use Rattle.bitmap.proofs.Bits.{shifted}
use Rattle.marked.specs.Maps.{map_bits}
use Rattle.marked.proofs.MarkedMaps.{held, map_to, map_joined, map_without}
use Rattle.marking.specs.Marking.{value_in, map_of}
use Rattle.marking.proofs.Writing.{map_whole}

module _ (values : List ℕ) where
  -- The map of the values below a bit: so many more may be looked at, of those that are left.
  pub record Mapping (map bit left : ℕ) (rest : List ℕ) : Type 0 where
    pub made : map ≡ map_to 0 (value_in values) bit
    pub ahead : rest ≡ drop bit values
    pub room : bit + left ≡ map_bits

  pub mapping_none : Mapping 0 0 map_bits values
  unfolding marked_map numbers_from
  mapping_none = record { made = refl; ahead = refl; room = omega arith }

  module _ {map bit left value : ℕ} {rest : List ℕ} (so_far : Mapping map bit left (value ∷ rest)) where
    here : drop bit values ≡ get_or values bit 0 ∷ drop (suc bit) values
    here = drop-cons values bit 0 (omega (arith, length-drop bit values, ap length so_far.ahead))

    value_is : value ≡ get_or values bit 0
    value_is = let e = so_far.ahead ∙ here in cc

    rest_is : rest ≡ drop (bit + 1) values
    rest_is = let e = so_far.ahead ∙ here in rw (add-one bit) (cc)

    bit_held : held 0 (value_in values) bit ≡ ltb 0 value
    bit_held = ap (λ i. ltb 0 (get_or values i 0)) (zero-add bit) ∙ ap (ltb 0) (sym value_is)

    pub mapping_with : {fewer : ℕ} → fewer + 1 ≡ left → 0 < value → Mapping (bit_or map (1 * 2 ^ bit % 2 ^ map_bits)) (bit + 1) fewer rest
    mapping_with less some =
        record {
          made =
              rw (shifted map_bits bit (omega (arith, so_far.room)), so_far.made, add-one bit)
              (sym (map_joined 0 (value_in values) bit (bit_held ∙ lt-ltb _ _ some)));
          ahead = rest_is;
          room = omega (arith, so_far.room);
        }

    pub mapping_without : {fewer : ℕ} → fewer + 1 ≡ left → value ≤ 0 → Mapping map (bit + 1) fewer rest
    mapping_without less none =
        record {
          made = rw (so_far.made, add-one bit) (sym (map_without 0 (value_in values) bit (bit_held ∙ le-ltb _ _ none)));
          ahead = rest_is;
          room = omega (arith, so_far.room);
        }

  -- The values that were not looked at are 0.
  pub mapping_all : {map bit left : ℕ} {rest : List ℕ} → Mapping map bit left rest → (0 < left → length rest ≡ 0) → map ≡ map_of values
  mapping_all {bit = bit} {left} {rest} so_far none =
      so_far.made
      ∙ sym
      (map_whole 0 (value_in values) values bit (omega (arith, so_far.room)) (λ i below. ap (value_in values) (sym (zero-add i)))
      (λ i low high.
      let gone = none (omega (arith, so_far.room)) in
      get_or-eq_default values 0 (omega (arith, length-drop bit values, ap length so_far.ahead, gone))))
