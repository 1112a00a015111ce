-- The values of a map's bits, gathered lowest bit first: so many are in the first entries, and the others are those of the bits that are left.
use Prim.Native.Nat.{ℕ, suc, ◌+◌, ◌≤◌, ◌<◌}
use mathlib.Core.Path.{◌≡◌, refl, sym, ap, ◌∙◌}
use mathlib.Core.List.{List, [], ◌∷◌, map as List·map}
use native.Mathlib.Numerals.{add-one}
use native.Mathlib.Omega.{arith}
use lib.ListN.{length, get_or, set, take, drop, length-map, length-drop, length-replicate}
use lib.Seq.{drop-cons, take-suc}
use Rattle.std.proofs.lemmas.List.{length-take-le, take_all}
use Rattle.model.specs.Checks.{fill}
use Rattle.model.specs.Choice.{bit, numbers_from}
use Rattle.memory.proofs.Filled.{fill_more, numbers_length}
use Rattle.marked.specs.Maps.{map_bits, bits_of, no_values}
use Rattle.marked.proofs.Numbers.{selected_few}
use Rattle.marking.specs.Marking.{value_in, values_of}

-- There are no more bits than entries.
pub bits_within : (map : ℕ) → length (bits_of map) ≤ map_bits
unfolding bits_of
bits_within map = omega (arith, selected_few (λ i. bit i map) (numbers_from 0 map_bits), numbers_length 0 map_bits)

module _ (map : ℕ) (values : List ℕ) where
  abbrev all : List ℕ
  all = values_of map values

  pub record Gathering (marked : List ℕ) (done : ℕ) (rest : List ℕ) : Type 0 where
    pub made : marked ≡ fill (take done all) no_values
    pub left : List·map (value_in values) rest ≡ drop done all

  few : length all ≤ map_bits
  unfolding values_of
  few = omega (arith, length-map (bits_of map) (value_in values), bits_within map)

  pub gathering_none : Gathering no_values 0 (bits_of map)
  unfolding fill values_of
  gathering_none = record { made = refl; left = refl }

  module _ {marked : List ℕ} {done i : ℕ} {rest : List ℕ} (so_far : Gathering marked done (i ∷ rest)) where
    inside : done < length all
    inside = omega (arith, length-drop done all, ap length so_far.left)

    pub gathering_room : done < map_bits
    gathering_room = omega (arith, inside, few)

    here : drop done all ≡ get_or all done 0 ∷ drop (suc done) all
    here = drop-cons all done 0 inside

    value_is : value_in values i ≡ get_or all done 0
    value_is = let e = so_far.left ∙ here in cc

    rest_is : List·map (value_in values) rest ≡ drop (done + 1) all
    rest_is = let e = so_far.left ∙ here in rw (add-one done) (cc)

    pub gathering_more : {value : ℕ} → value ≡ value_in values i → Gathering (set marked done value) (done + 1) rest
    gathering_more {value} is =
        record {
          made =
              let counted : length (take done all) ≡ done = length-take-le done all (omega (arith, inside)) in
              let room : length (take done all) < length no_values = rw (counted, length-replicate {A = ℕ} map_bits 0) gathering_room in
              rw (so_far.made, is ∙ value_is, add-one done, take-suc all done 0 inside)
              (ap (λ n. set (fill (take done all) no_values) n (get_or all done 0)) (sym counted)
              ∙ fill_more (take done all) no_values (get_or all done 0) room);
          left = rest_is;
        }

  pub gathering_all : {marked : List ℕ} {done : ℕ} → Gathering marked done [] → marked ≡ fill all no_values
  gathering_all {done = done} so_far =
      let enough : length all ≤ done = omega (arith, length-drop done all, ap length so_far.left) in
      so_far.made ∙ ap (λ l. fill l no_values) (take_all done all enough)
