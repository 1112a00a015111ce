-- The slip put into lent bytes: nothing where they are too few, and else the map and behind it the counts.
use Rattle.std.specs.Prelude.{Ok, Err}
use Prim.Native.Nat.{ℕ, ◌-◌, ◌*◌, ◌≤◌, ◌<◌}
use mathlib.Core.Path.{◌≡◌, refl, sym, ap, ap₂, ◌∙◌}
use mathlib.Core.List.{List, ◌++◌}
use native.Mathlib.Omega.{arith}
use lib.Count.{ones}
use lib.ListN.{length, take, drop, length-append, length-drop}
use lib.Dec.{ltb}
use borrow.Rule.Slice.PartMut.{mid_of, put_mid}
use Rattle.std.specs.Int.{w64, to_be_bytes}
use Rattle.model.specs.Limits.{byte_ranks, map_size}
use Rattle.model.specs.Refusals.{Ok, memory_too_short}
use Rattle.model.specs.Checks.{fill, entry_bytes}
use Rattle.model.specs.Lending.{lend, answering}
use Rattle.lists.specs.Written.{words_written}
use Rattle.lists.proofs.Results.{group_words_written}
use Rattle.lists.proofs.Parts.{part_is, part_put, fill_behind}
use Rattle.marked.specs.Maps.{no_values}
use Rattle.marking.specs.Marking.{map_of, values_of}
use Rattle.marking.proofs.Writing.{map_small, values_ones}
use Rattle.slips.specs.Writing.{map_length, slip_length, map_written, slip_from}
use Rattle.model.proofs.Laws.{decided}
use Rattle.model.proofs.Lending.{lends, lends_nothing}
use Rattle.slips.proofs.Writing.{written_length_lem, slip_length_lem}

-- The map's low bytes, so many as it has.
pub map_put : (ranks mapped : ℕ) {behind : ℕ} → behind ≡ map_length ranks → {bytes : List ℕ} → bytes ≡ to_be_bytes w64 mapped → {part : List ℕ} →
    part ≡ take (map_size - (map_size - behind)) (drop (map_size - behind) bytes) →
    (slip : List ℕ) → part ++ drop behind slip ≡ fill (map_written ranks mapped) slip
unfolding fill map_written
map_put ranks mapped behind_is bytes_are part_is slip =
    decided (ltb byte_ranks ranks)
    (λ t. rw (part_is, bytes_are, behind_is, t) refl)
    (λ t. rw (part_is, bytes_are, behind_is, t) refl)

module _ (ranks : ℕ) (counts : List ℕ) {map needed : ℕ} (is : map ≡ map_of counts) (long : needed ≡ slip_length ranks map) where
  needed_is : needed ≡ length (slip_from ranks counts)
  needed_is = long ∙ ap (slip_length ranks) is ∙ sym (slip_length_lem ranks counts)

  pub slip_short : (slip : List ℕ) → length slip < needed →
      answering (Err (record { number = memory_too_short; place = needed })) slip ≡ lend slip (Ok (slip_from ranks counts))
  slip_short slip h = lends_nothing slip (slip_from ranks counts) (sym needed_is) h

  -- The map has room, and the counts behind it.
  module _ (slip : List ℕ) (room : needed ≤ length slip) where
    pub map_room : map_length ranks ≤ length slip
    map_room = omega (arith, long, room)

    module _ {behind : ℕ} (behind_is : behind ≡ map_length ranks) {mapped : List ℕ} (map_put : mapped ≡ fill (map_written ranks map) slip) where
      front : length (map_written ranks map) ≡ behind
      front = written_length_lem ranks map ∙ sym behind_is

      rest : List ℕ
      rest = drop (length (map_written ranks map)) slip

      mapped_is : mapped ≡ map_written ranks map ++ rest
      unfolding fill rest
      mapped_is = map_put

      mapped_long : length mapped ≡ length slip
      unfolding rest
      mapped_long =
          ap length mapped_is
          ∙ length-append (map_written ranks map) rest
          ∙ omega (arith, length-drop (length (map_written ranks map)) slip, front, behind_is, map_room)

      pub counts_room : behind ≤ length mapped
      counts_room = omega (arith, mapped_long, behind_is, map_room)

      pub slip_put : {listed part : List ℕ} {count : ℕ} → listed ≡ fill (values_of map counts) no_values → count ≡ ones map →
          part ≡ words_written (mid_of behind (length mapped - behind) mapped) 0 listed count →
          answering (Ok needed) (put_mid behind (length mapped - behind) mapped part) ≡ lend slip (Ok (slip_from ranks counts))
      unfolding slip_from rest
      slip_put {listed} {part} {count} listed_is count_is part_written =
          let counted : count ≡ length (values_of map counts) = count_is ∙ sym (values_ones map counts (rw is (map_small counts))) in
          let enough : length (values_of map counts) * 2 ≤ length rest =
          omega (arith, length-drop (length (map_written ranks map)) slip, front, behind_is, long, room, counted, count_is) in
          let numbers = part_written ∙ ap₂ (λ bytes numbers. words_written bytes 0 numbers count)
          (ap (λ l. mid_of behind (length l - behind) l) mapped_is ∙ part_is (map_written ranks map) rest front) listed_is in
          ap (answering (Ok needed))
          (ap (λ l. put_mid behind (length l - behind) l part) mapped_is
          ∙ part_put (map_written ranks map) rest front part
          ∙ ap (λ l. map_written ranks map ++ l)
          (numbers ∙ group_words_written (values_of map counts) rest no_values count counted (omega (arith, enough)))
          ∙ fill_behind (map_written ranks map) (entry_bytes (values_of map counts)) slip
          ∙ ap (λ m. fill (map_written ranks m ++ entry_bytes (values_of m counts)) slip) is)
          ∙ lends slip (slip_from ranks counts) (sym needed_is) room
