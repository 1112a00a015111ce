-- A rank put into lent bytes: the map, and behind it the values that the map marks.
use Prim.Native.Nat.{ℕ, ◌+◌, ◌-◌, ◌*◌, ◌≤◌}
use mathlib.Core.Path.{◌≡◌, sym, ap, ap₂, ◌∙◌}
use mathlib.Core.List.{List, ◌++◌}
use native.Mathlib.Omega.{arith}
use lib.Count.{ones}
use lib.ListN.{length, drop, length-drop}
use borrow.Rule.Slice.PartMut.{mid_of, put_mid}
use Rattle.model.specs.Limits.{map_size, max_cells}
use Rattle.model.specs.Bytes.{big_endian_bytes}
use Rattle.model.specs.Checks.{fill, entry_bytes}
use Rattle.lists.specs.Written.{words_written}
use Rattle.lists.proofs.Results.{group_words_written}
use Rattle.marked.specs.Maps.{no_values}
use Rattle.marking.specs.Marking.{map_of, values_of}
use Rattle.marking.proofs.Writing.{map_small, values_ones}
use Rattle.starts.specs.Writing.{rank_written, rank_length, WritesRank}
use Rattle.model.proofs.BigEndian.{big_length}
use Rattle.lists.proofs.Parts.{part_is, part_put, fill_behind}
use Rattle.starts.proofs.Writing.{ones_few}

module _ (readings : List ℕ) {map count : ℕ} (map_is : map ≡ map_of readings) (count_is : count ≡ ones map) where
  pub count_few : count ≤ max_cells
  count_few = rw (count_is, map_is) (ones_few readings)

  pub length_is : map_size + 2 * count ≡ rank_length readings
  length_is = ap (λ n. map_size + 2 * n) (count_is ∙ ap ones map_is)

  module _ (start : List ℕ) (room : rank_length readings ≤ length start) where
    pub map_room : map_size ≤ length start
    map_room = omega (arith, room)

    module _ {mapped : List ℕ} (map_put : mapped ≡ fill (big_endian_bytes map_size map) start) where
      abbrev front : List ℕ
      front = big_endian_bytes map_size map

      abbrev rest : List ℕ
      rest = drop (length front) start

      mapped_is : mapped ≡ front ++ rest
      unfolding fill
      mapped_is = map_put

      pub rank_put : {values words : List ℕ} → values ≡ fill (values_of map readings) no_values →
          words ≡ words_written (mid_of map_size (length mapped - map_size) mapped) 0 values count →
          WritesRank readings start (put_mid map_size (length mapped - map_size) mapped words) (map_size + 2 * count)
      unfolding rank_written
      rank_put {values} {words} values_are words_written_lem =
          let long = big_length map_size map in
          let counted : count ≡ length (values_of map readings) = count_is ∙ sym (values_ones map readings (rw map_is (map_small readings))) in
          let enough : length (values_of map readings) * 2 ≤ length rest =
          omega (arith, length-drop (length front) start, long, length_is, room, counted) in
          let numbers =
          words_written_lem ∙ ap₂ (λ bytes numbers. words_written bytes 0 numbers count)
          (ap (λ l. mid_of map_size (length l - map_size) l) mapped_is ∙ part_is front rest long) values_are in
          record {
            counts = length_is;
            fills =
                ap (λ l. put_mid map_size (length l - map_size) l words) mapped_is
                ∙ part_put front rest long words
                ∙ ap (λ l. front ++ l) (numbers ∙ group_words_written (values_of map readings) rest no_values count counted (omega (arith, enough)))
                ∙ fill_behind front (entry_bytes (values_of map readings)) start
                ∙ ap (λ m. fill (big_endian_bytes map_size m ++ entry_bytes (values_of m readings)) start) map_is;
          }
