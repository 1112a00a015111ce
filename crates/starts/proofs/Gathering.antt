-- The entries of a list of bytes, two by two: so many are made, and the others are those of the bytes that are left.
use Prim.Native.Nat.{ℕ, ◌+◌, ◌*◌, ◌-◌, ◌≤◌, ◌<◌}
use mathlib.Core.Path.{◌≡◌, refl, sym, ap, ap₂, ◌∙◌}
use mathlib.Core.List.{List, ◌++◌, map}
use native.Mathlib.Omega.{arith}
use lib.Dec.{ltb}
use lib.ListN.{length, get_or, set, drop, replicate, get_or-replicate, length-append, length-drop, length-map, length-replicate, get_or-append}
use lib.Seq.{drop-drop, drop_at, get_or-drop, get_or-append-add}
use borrow.Author.Tests.{ltb-true, ltb-false}
use Rattle.model.specs.Limits.{byte_values}
use Rattle.model.specs.Choice.{numbers_from}
use Rattle.model.specs.Checks.{fill, two_by_two}
use Rattle.model.proofs.Laws.{decided}
use Rattle.memory.proofs.Filled.{Filling, filling_none, filling_more, numbers_length, numbers_at, list_of}
use Rattle.starts.specs.Writing.{max_entries, entries_in}
use Rattle.starts.proofs.CellLists.{two_at, two_beyond, two_from}

abbrev no_entries : List ℕ
no_entries = replicate max_entries 0

module _ (bytes : List ℕ) where
  abbrev entry : ℕ → ℕ
  entry i = get_or (two_by_two bytes) i 0

  -- So many entries are made, and so many more may be, of the bytes that are left.
  pub record Gathering (entries : List ℕ) (done left : ℕ) (rest : List ℕ) (size : ℕ) : Type 0 where
    pub pairs : size ≡ 2
    pub room : done + left ≡ max_entries
    pub ahead : rest ≡ drop (2 * done) bytes
    pub made : Filling entry 0 max_entries no_entries entries done

  gathering_none_made : Filling entry 0 max_entries no_entries no_entries 0
  gathering_none_made = filling_none entry 0 max_entries no_entries (length-replicate {A = ℕ} max_entries 0)

  pub gathering_none : Gathering no_entries 0 max_entries bytes 2
  gathering_none = record { pairs = refl; room = omega arith; ahead = refl; made = gathering_none_made }

  module _ {entries : List ℕ} {done left size : ℕ} {rest : List ℕ} (so_far : Gathering entries done left rest size) (pair more : List ℕ)
      (split : rest ≡ pair ++ more) (long : length pair ≡ size) where
    both : pair ++ more ≡ drop (2 * done) bytes
    both = sym split ∙ so_far.ahead

    two : length pair ≡ 2
    two = long ∙ so_far.pairs

    inside : 2 * done + 2 ≤ length bytes
    inside = omega (arith, ap length both, length-append pair more, two, length-drop (2 * done) bytes)

    byte_at : (i : ℕ) → i < 2 → get_or pair i 0 ≡ get_or bytes (2 * done + i) 0
    byte_at i few =
        sym (get_or-append pair more 0 i (omega (arith, two))) ∙ ap (λ l. get_or l i 0) both ∙ get_or-drop (2 * done) bytes i 0

    pub gathering_more : {fewer value : ℕ} → fewer + 1 ≡ left → value ≡ get_or pair 0 0 * byte_values + get_or pair 1 0 →
        Gathering (set entries done value) (done + 1) fewer more size
    gathering_more {value = value} less is =
        let even : 2 * done + 0 ≡ 2 * done = omega arith in
        let next : 2 * done + 2 ≡ 2 * (done + 1) = omega arith in
        record {
          pairs = so_far.pairs;
          room = omega (arith, so_far.room);
          ahead =
              sym (drop_at pair more 2 two) ∙ ap (drop 2) both ∙ drop-drop 2 (2 * done) bytes ∙ ap (λ n. drop n bytes) next;
          made =
              filling_more entry 0 max_entries no_entries value so_far.made (omega (arith, so_far.room))
              (is
              ∙ ap₂ (λ high low. high * byte_values + low)
              (byte_at 0 (omega arith) ∙ ap (λ n. get_or bytes n 0) even) (byte_at 1 (omega arith))
              ∙ two_from bytes done (sym (two_at bytes done (omega (arith, inside)))));
        }

  -- Where fewer than two bytes are left, or no entry, the others are 0.
  pub gathering_all : {entries : List ℕ} {done left size : ℕ} {rest : List ℕ} → Gathering entries done left rest size →
      (0 < left → length rest < size) → entries ≡ entries_in bytes
  unfolding fill
  gathering_all {entries} {done} {left} {size} {rest} so_far ended =
      list_of entry 0 max_entries 0 entries all_long
      (λ i b.
      decided (ltb i done)
      (λ t.
      ap (λ l. get_or l i 0) so_far.made.made
      ∙ get_or-append front back 0 i (omega (arith, front_long, ltb-true i done t))
      ∙ numbers_at entry 0 done i 0 (ltb-true i done t))
      (λ t.
      let beyond = ltb-false i done t in
      let at : i ≡ length front + (i - done) = omega (arith, front_long, beyond) in
      ap₂ (λ l n. get_or l n 0) so_far.made.made at
      ∙ get_or-append-add front back (i - done) 0
      ∙ get_or-drop (length front) no_entries (i - done) 0
      ∙ get_or-replicate max_entries (length front + (i - done)) 0 0 (omega (arith, front_long, beyond, b))
      ∙ sym
      (two_beyond bytes (0 + i)
      (omega (arith, ended (omega (arith, so_far.room, beyond, b)), ap length so_far.ahead, length-drop (2 * done) bytes, so_far.pairs, beyond)))))
    where
      front : List ℕ
      front = map entry (numbers_from 0 done)

      back : List ℕ
      back = drop (length front) no_entries

      front_long : length front ≡ done
      front_long = length-map (numbers_from 0 done) entry ∙ numbers_length 0 done

      all_long : length entries ≡ max_entries
      all_long =
          ap length so_far.made.made
          ∙ omega (arith, length-append front back, length-drop (length front) no_entries, front_long, so_far.made.within, so_far.made.room)
