-- The map of a list and its values are the definition's, for numbers whose values the list holds in turn: it has 0 for every bit beyond them. The
-- definition goes number by number and the list bit by bit.
use Prim.Native.Nat.{ℕ, zero, suc, ◌+◌, ◌/◌, ◌%◌, ◌^◌, ◌≤◌, ◌<◌}
use mathlib.Core.Path.{◌≡◌, refl, sym, ap, ◌∙◌}
use mathlib.Core.List.{List, ◌∷◌, map as List·map}
use native.Mathlib.Nat.{add-zero, zero-add}
use native.Mathlib.Omega.{arith}
use lib.Count.{ones}
use lib.Dec.{ltb}
use lib.ListN.{length, get_or, length-map}
use lib.Pow.{pow_mono}
use borrow.Author.Tests.{ltb-true, ltb-false}
use Rattle.model.specs.Limits.{byte_values}
use Rattle.model.specs.Choice.{select, numbers_from}
use Rattle.model.specs.Checks.{entry_bytes}
use Rattle.model.specs.Marked.{marked_map, marked_bytes}
use Rattle.model.proofs.Laws.{decided}
use Rattle.bitmap.proofs.Bits.{bit_beyond}
use Rattle.marked.specs.Maps.{map_bits, bits_of}
use Rattle.marked.proofs.Numbers.{numbers_same, numbers_mapped}
use Rattle.marked.proofs.MarkedMaps.{held, map_to, map_fits, map_bit, map_is}
use Rattle.marked.proofs.Bits.{bits_few, bits_ones}
use Rattle.marking.specs.Marking.{value_in, map_of, values_of}

pub map_small : (values : List ℕ) → map_of values < 2 ^ map_bits
unfolding map_of
map_small values = map_fits 0 (value_in values) map_bits

pub values_ones : (map : ℕ) (values : List ℕ) → map < 2 ^ map_bits → length (values_of map values) ≡ ones map
unfolding values_of
values_ones map values small = length-map (bits_of map) (value_in values) ∙ sym (bits_ones map small)

module _ (first : ℕ) (f : ℕ → ℕ) where
  -- The bytes of the values, number by number, are those of the bits that have one.
  marked_bytes_lem : (i count : ℕ) →
      marked_bytes f (numbers_from (first + i) count) ≡ entry_bytes (List·map (λ j. f (first + j)) (select (held first f) (numbers_from i count)))
  unfolding marked_bytes entry_bytes numbers_from select
  marked_bytes_lem i zero = refl
  marked_bytes_lem i (suc count) =
      let e : first + i + 1 ≡ first + (i + 1) = omega arith in
      let rest = marked_bytes_lem (i + 1) count in
      decided (held first f i)
      (λ t. rw (e, t) (ap {B = List ℕ} (λ l. f (first + i) / byte_values ∷ f (first + i) % byte_values ∷ l) rest))
      (λ t. rw (e, t) rest)

  -- The bits of a map are those that have a value.
  map_bits_lem : (count : ℕ) → count ≤ map_bits → bits_of (map_to first f count) ≡ select (held first f) (numbers_from 0 count)
  map_bits_lem count few =
      bits_few (map_to first f count) count few (map_fits first f count)
      ∙ numbers_same _ (held first f) 0 count (λ i low high. map_bit first f count i (omega arith))

  module _ (values : List ℕ) (count : ℕ) (few : count ≤ map_bits) (same : (i : ℕ) → i < count → get_or values i 0 ≡ f (first + i))
      (beyond : (i : ℕ) → count ≤ i → i < map_bits → get_or values i 0 ≡ 0) where
    pub map_whole : map_of values ≡ marked_map first f (numbers_from first count)
    unfolding map_of
    map_whole =
        let small : map_to first f count < 2 ^ map_bits = omega (arith, map_fits first f count, pow_mono few) in
        map_is 0 (value_in values) map_bits (map_to first f count) small
        (λ i below.
        rw (zero-add i)
        (decided (ltb i count)
        (λ t. let inside = ltb-true i count t in map_bit first f count i inside ∙ ap (ltb 0) (sym (same i inside)))
        (λ t.
        let outside : count ≤ i = ltb-false i count t in
        bit_beyond count (map_to first f count) i (map_fits first f count) outside ∙ sym (ap (ltb 0) (beyond i outside below)))))

    pub values_whole : entry_bytes (values_of (map_of values) values) ≡ marked_bytes f (numbers_from first count)
    unfolding values_of
    values_whole =
        rw (map_whole, map_bits_lem count few)
        (ap entry_bytes (numbers_mapped (value_in values) (λ i. f (first + i)) (held first f) 0 count (λ i low high. same i (omega arith)))
        ∙ sym (marked_bytes_lem 0 count)
        ∙ ap (λ n. marked_bytes f (numbers_from n count)) (add-zero first))
