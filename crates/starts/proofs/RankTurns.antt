-- Rank after rank: how many bytes they take, and the bytes themselves, as loops make them. What is left behind what is done is the whole.
use Prim.Native.Nat.{ℕ, suc, ◌+◌, ◌-◌, ◌*◌, ◌≤◌, ◌<◌}
use mathlib.Core.Path.{◌≡◌, refl, sym, ap, ap₂, ◌∙◌}
use mathlib.Core.List.{List, [], ◌++◌, append_assoc}
use native.Mathlib.Nat.{add-zero, mul-le-mul, mul-le-mul_right, suc-mul}
use native.Mathlib.Omega.{arith}
use lib.ListN.{length, take, drop, length-append, length-drop}
use borrow.Rule.Slice.PartMut.{mid_of, put_mid}
use Rattle.model.specs.Limits.{max_ranks, max_cells, map_size}
use Rattle.model.specs.Checks.{fill}
use Rattle.starts.specs.Writing.{row_in, rank_written, rank_length, ranks_written, WritesRank, Has}
use Rattle.lists.proofs.Parts.{part_is, part_put, fill_behind}
use Rattle.starts.proofs.Writing.{ones_few, rank_length_lem}

-- A rank's part of the list, as the code takes it.
abbrev pub part_of : (list : List ℕ) → (width row : ℕ) → List ℕ
part_of list width row = take (row * width + width - row * width) (drop (row * width) list)

pub part_row : (list : List ℕ) (width row : ℕ) → part_of list width row ≡ row_in width list row
part_row list width row =
    let e : row * width + width - row * width ≡ width = omega arith in
    ap (λ n. take n (drop (row * width) list)) e

-- No rank takes more bytes.
abbrev most_bytes : ℕ
most_bytes = map_size + 2 * max_cells

module _ (list : List ℕ) (ranks width : ℕ) where
  abbrev left : (row : ℕ) → List ℕ
  left row = ranks_written width list row (ranks - row)

  all_left : left 0 ≡ ranks_written width list 0 ranks
  all_left = let e : ranks - 0 ≡ ranks = omega arith in ap (ranks_written width list 0) e

  -- So many bytes for the ranks before this one.
  pub record Counting (count row : ℕ) : Type 0 where
    pub has : Has list ranks width
    pub within : row ≤ ranks
    pub small : count ≤ row * most_bytes
    pub whole : length (ranks_written width list 0 ranks) ≡ count + length (left row)

  pub counting_none : Has list ranks width → Counting 0 0
  counting_none has = record { has = has; within = omega arith; small = omega arith; whole = omega (arith, ap length all_left) }

  pub counting_all : {count row : ℕ} → Counting count row → ranks ≤ row → count ≡ length (ranks_written width list 0 ranks)
  unfolding ranks_written
  counting_all {count} {row} so_far all =
      let e : ranks - row ≡ 0 = omega arith in
      sym (so_far.whole ∙ rw e (add-zero count))

  module _ {count row : ℕ} (so_far : Counting count row) (more : row < ranks) where
    pub row_small : row * width ≤ max_ranks * max_cells
    row_small = let few : row ≤ max_ranks = omega (arith, so_far.has.few_ranks) in mul-le-mul few so_far.has.few_cells

    pub row_inside : row * width + width ≤ length list
    row_inside =
        let last : suc row * width ≤ ranks * width = mul-le-mul_right width more in
        omega (arith, suc-mul row width, so_far.has.enough)

    one_more_lem : left row ≡ rank_written (row_in width list row) ++ left (row + 1)
    unfolding ranks_written
    one_more_lem = let e : ranks - row ≡ suc (ranks - (row + 1)) = omega arith in rw e

    module _ {n : ℕ} (is : n ≡ rank_length (part_of list width row)) where
      length_is : length (rank_written (row_in width list row)) ≡ n
      length_is = rank_length_lem (row_in width list row) ∙ sym (is ∙ ap rank_length (part_row list width row))

      pub length_small : count + n ≤ max_ranks * most_bytes
      length_small = omega (arith, so_far.small, so_far.has.few_ranks, is, ones_few (part_of list width row))

      pub counting_more : Counting (count + n) (row + 1)
      counting_more =
          record {
            has = so_far.has;
            within = omega arith;
            small = omega (arith, so_far.small, is, ones_few (part_of list width row));
            whole =
                so_far.whole
                ∙ omega (arith, ap length one_more_lem, length-append (rank_written (row_in width list row)) (left (row + 1)), length_is);
          }

  -- The ranks before this one stand in front.
  pub record Putting (old now : List ℕ) (at row : ℕ) : Type 0 where
    pub counted : Counting at row
    pub front : List ℕ
    pub rest : List ℕ
    pub front_long : length front ≡ at
    pub is : now ≡ front ++ rest
    pub room : length (left row) ≤ length rest
    pub long : length now ≡ length old
    pub whole : fill (ranks_written width list 0 ranks) old ≡ front ++ fill (left row) rest

  pub putting_none : (old : List ℕ) → Has list ranks width → length (ranks_written width list 0 ranks) ≤ length old → Putting old old 0 0
  putting_none old has room =
      record {
        counted = counting_none has;
        front = [];
        rest = old;
        front_long = refl;
        is = refl;
        room = rw all_left room;
        long = refl;
        whole = ap (λ l. fill l old) (sym all_left);
      }

  pub putting_all : {old now : List ℕ} {at row : ℕ} → Putting old now at row → ranks ≤ row → now ≡ fill (ranks_written width list 0 ranks) old
  unfolding ranks_written fill
  putting_all {row = row} so_far all =
      let e : ranks - row ≡ 0 = omega arith in
      so_far.is ∙ sym (so_far.whole ∙ rw e)

  module _ {old now : List ℕ} {at row : ℕ} (so_far : Putting old now at row) where
    abbrev behind : List ℕ
    behind = mid_of at (length now - at) now

    behind_is : behind ≡ so_far.rest
    behind_is = ap (λ l. mid_of at (length l - at) l) so_far.is ∙ part_is so_far.front so_far.rest so_far.front_long

    pub behind_inside : at ≤ length now
    behind_inside = omega (arith, ap length so_far.is, length-append so_far.front so_far.rest, so_far.front_long)

    module _ (more : row < ranks) where
      abbrev here : List ℕ
      here = rank_written (row_in width list row)

      here_room : length here + length (left (row + 1)) ≤ length so_far.rest
      here_room = omega (arith, ap length (one_more_lem so_far.counted more), length-append here (left (row + 1)), so_far.room)

      pub rank_room : rank_length (part_of list width row) ≤ length behind
      rank_room =
          rw (behind_is, part_row list width row) (omega (arith, here_room, rank_length_lem (row_in width list row)))

      pub putting_more : {n : ℕ} {part : List ℕ} → WritesRank (part_of list width row) behind part n →
          Putting old (put_mid at (length now - at) now part) (at + n) (row + 1)
      unfolding fill
      putting_more {n} {part} writes =
          let size : length here ≡ n = length_is so_far.counted more writes.counts in
          let after = drop (length here) so_far.rest in
          let part_is : part ≡ here ++ after =
          writes.fills ∙ ap₂ (λ readings bytes. fill (rank_written readings) bytes) (part_row list width row) behind_is in
          let now_is : put_mid at (length now - at) now part ≡ (so_far.front ++ here) ++ after =
          ap (λ l. put_mid at (length l - at) l part) so_far.is
          ∙ part_put so_far.front so_far.rest so_far.front_long part
          ∙ ap (λ l. so_far.front ++ l) part_is
          ∙ sym (append_assoc so_far.front here after) in
          let after_long = length-drop (length here) so_far.rest in
          record {
            counted = counting_more so_far.counted more writes.counts;
            front = so_far.front ++ here;
            rest = after;
            front_long = length-append so_far.front here ∙ ap₂ ◌+◌ so_far.front_long size;
            is = now_is;
            room = omega (arith, here_room, after_long);
            long =
                ap length now_is
                ∙ omega (
                  arith,
                  length-append (so_far.front ++ here) after,
                  length-append so_far.front here,
                  after_long,
                  here_room,
                  ap length so_far.is,
                  length-append so_far.front so_far.rest,
                  so_far.long,
                );
            whole =
                so_far.whole
                ∙ ap (λ l. so_far.front ++ fill l so_far.rest) (one_more_lem so_far.counted more)
                ∙ ap (λ l. so_far.front ++ l) (sym (fill_behind here (left (row + 1)) so_far.rest))
                ∙ sym (append_assoc so_far.front here (fill (left (row + 1)) after));
          }
