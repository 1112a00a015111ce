-- The bits of a map: the lowest one and then those of the map without it, and as many as the map has ones.
use Prim.Native.Nat.{ℕ, ◌+◌, ◌-◌, ◌^◌, ◌≤◌, ◌<◌, zero-le}
use mathlib.Core.Path.{◌≡◌, refl, sym, ap, ◌∙◌}
use mathlib.Core.Bool.{Bool, true, false}
use mathlib.Core.List.{List, [], ◌∷◌}
use native.Mathlib.Nat.{zero-add}
use native.Mathlib.Omega.{arith}
use lib.Bits.{and_le_r}
use lib.Count.{ones}
use lib.Dec.{ltb}
use lib.ListN.{length}
use Rattle.model.specs.Choice.{when, bit, select, numbers_from}
use Rattle.bitmap.specs.Bitmaps.{without_lowest}
use Rattle.bitmap.proofs.Bits.{Nonzero, bit_zero, lowest_fits, bit_lowest, bit_below_lowest, bit_without, bit_beyond}
use Rattle.marked.specs.Maps.{map_bits, bits_of, lowest_bit}
use Rattle.marked.proofs.Numbers.{numbers_same, numbers_none, numbers_lowest, numbers_front, first_below}
use Rattle.marked.proofs.MarkedMaps.{map_ones, map_is}

pub bits_none : bits_of 0 ≡ []
unfolding bits_of
bits_none = numbers_none (λ i. bit i 0) 0 map_bits (λ i low high. bit_zero i)

-- A map that has a bit.
module _ (map : ℕ) (some : Nonzero map_bits map) where
  pub bit_fits : lowest_bit map < map_bits
  bit_fits = lowest_fits map_bits map some

  pub bits_next : bits_of map ≡ lowest_bit map ∷ bits_of (without_lowest map)
  unfolding bits_of
  bits_next =
      numbers_lowest (λ i. bit i map) (λ i. bit i (without_lowest map)) (lowest_bit map) (bit_lowest map_bits map some)
      (λ i below. bit_below_lowest map_bits map i below) (λ i. bit_without map_bits map i some) 0 map_bits zero-le
      (omega (arith, bit_fits))

-- The map falls with each bit that is taken.
pub map_falls : (map : ℕ) → ¬ (map ≡ 0) → without_lowest map < map
map_falls map some = omega (arith, some, and_le_r map (map - 1))

-- A bit that comes first has an entry.
pub bit_inside : (map : ℕ) {i : ℕ} {rest : List ℕ} → bits_of map ≡ i ∷ rest → i < map_bits
unfolding bits_of
bit_inside map is = first_below (λ i. bit i map) 0 map_bits is

-- A map of so many numbers has no bit beyond them.
pub bits_few : (map count : ℕ) → count ≤ map_bits → map < 2 ^ count → bits_of map ≡ select (λ i. bit i map) (numbers_from 0 count)
unfolding bits_of
bits_few map count few small =
    numbers_front (λ i. bit i map) count map_bits few (λ i low high. bit_beyond count map i small low)

-- As many bits as ones: the map is that of its own bits.
bits_held : (t : Bool) → ltb 0 (when t (λ _. 1) (λ _. 0)) ≡ t
bits_held true = refl
bits_held false = refl

pub bits_ones : (map : ℕ) → map < 2 ^ map_bits → ones map ≡ length (bits_of map)
unfolding bits_of
bits_ones map small =
    let f : ℕ → ℕ = λ i. when (bit i map) (λ _. 1) (λ _. 0) in
    let same : (i : ℕ) → ltb 0 (f (0 + i)) ≡ bit i map = λ i. bits_held (bit (0 + i) map) ∙ ap (λ k. bit k map) (zero-add i) in
    ap ones (sym (map_is 0 f map_bits map small (λ i below. sym (same i))))
    ∙ map_ones 0 f map_bits
    ∙ ap length (numbers_same _ (λ i. bit i map) 0 map_bits (λ i low high. same i))
