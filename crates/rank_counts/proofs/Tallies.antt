-- Counting ranks: one more rank is one more in its entry.
use Rattle.std.specs.Prelude.{Some}
use Prim.Native.Nat.{ℕ, suc, ◌+◌, ◌-◌, ◌≤◌, ◌<◌, min}
use mathlib.Core.Path.{◌≡◌, refl, sym, ap, ◌∙◌}
use mathlib.Core.List.{List, [], ◌∷◌, ◌++◌, map, map-append}
use native.Mathlib.Nat.{zero-add}
use native.Mathlib.Numerals.{add-one}
use native.Mathlib.Omega.{arith}
use lib.Dec.{ltb, eqb}
use lib.ListN.{length, get_or, set, drop, replicate, length-set, length-map, length-drop}
use lib.Seq.{get_or-set_same, get_or-set_other, drop-cons}
use borrow.Author.Tests.{ltb-true, ltb-false, eqb-true, eqb-false, eq-eqb, ne_eqb}
use Rattle.model.specs.Limits.{max_ranks, max_items}
use Rattle.model.specs.Choice.{select, numbers_from}
use Rattle.model.proofs.Laws.{decided}
use Rattle.model.proofs.Options.{some-ne-none, some-injective}
use Rattle.model.proofs.Selections.{count_own, count_other}
use Rattle.record_facts.proofs.Rows.{numbers_snoc}
use Rattle.memory.specs.Tables.{Table, row_named, row_of, Row}
use Rattle.memory.proofs.Tables.{row_held, row_of_held, row_below}
use Rattle.memory.proofs.Filled.{numbers_length, numbers_at, list_of}
use Rattle.marked.proofs.Numbers.{selected_few}
use Rattle.rank_counts.specs.Tallies.{rank_told, ranks_told, times_in, tallied}

pub tally_none : replicate max_ranks 0 ≡ tallied []
unfolding tallied select numbers_from
tally_none = refl

pub tally_length : (ranks : List ℕ) → length (tallied ranks) ≡ max_ranks
unfolding tallied
tally_length ranks = length-map (numbers_from 1 max_ranks) (times_in ranks) ∙ numbers_length 1 max_ranks

pub tally_at : (ranks : List ℕ) (row : ℕ) → row < max_ranks → get_or (tallied ranks) row 0 ≡ times_in ranks (1 + row)
unfolding tallied
tally_at ranks row h = numbers_at (times_in ranks) 1 max_ranks row 0 h

-- One more rank: its own entry is one more, and the others stay.
module _ (ranks : List ℕ) (rank : ℕ) where
  abbrev more : List ℕ
  more = ranks ++ rank ∷ []

  times_own : (other : ℕ) → rank ≡ other → times_in ranks other + 1 ≡ times_in more other
  times_own other e = add-one _ ∙ sym (count_own (λ r. eqb r other) ranks rank (eq-eqb rank other e))

  times_other : (other : ℕ) → ¬ (rank ≡ other) → times_in ranks other ≡ times_in more other
  times_other other e = sym (count_other (λ r. eqb r other) ranks rank (ne_eqb rank other e))

  pub tally_counted : (row : ℕ) → row ≡ row_of max_ranks rank → row < max_ranks →
      set (tallied ranks) row (get_or (tallied ranks) row 0 + 1) ≡ tallied more
  unfolding tallied
  tally_counted row is h =
      let r : Row max_ranks rank = row_held max_ranks rank (rw is at h) in
      let named : 1 + row ≡ rank = rw (is ∙ row_of_held max_ranks rank r) (omega (arith, r.first)) in
      list_of (times_in more) 1 max_ranks 0 _ (length-set (tallied ranks) row _ ∙ tally_length ranks)
      (λ i b.
      decided (eqb i row)
      (λ t.
      let e : i ≡ row = eqb-true i row t in
      rw e
      (get_or-set_same (tallied ranks) row _ 0 (rw (tally_length ranks) h)
      ∙ ap (λ n. n + 1) (tally_at ranks row h)
      ∙ times_own (1 + row) (sym named)))
      (λ t.
      let ne : ¬ (i ≡ row) = eqb-false i row t in
      get_or-set_other (tallied ranks) row i _ 0 ne ∙ tally_at ranks i b ∙ times_other (1 + i) (λ s. ne (omega arith))))

  pub tally_passed : max_ranks ≤ row_of max_ranks rank → tallied ranks ≡ tallied more
  unfolding tallied
  tally_passed h =
      list_of (times_in more) 1 max_ranks 0 (tallied ranks) (tally_length ranks)
      (λ i b. tally_at ranks i b ∙ times_other (1 + i) (λ s. absurd (none i b s)))
    where
      none : (i : ℕ) → i < max_ranks → ¬ (rank ≡ 1 + i)
      none i b s = let below = row_below max_ranks rank (record { first = omega arith; last = omega arith }) in omega (arith, below)

-- The row that a rank names, or none.
named : (rank row : ℕ) → Some row ≡ row_named rank → row ≡ row_of max_ranks rank
named rank row is =
    decided (eqb rank 0)
    (λ t. absurd (some-ne-none row (rw t at is)))
    (λ t. rw t (some-injective row (rank - 1) (rw t at is)))

unnamed : (rank : ℕ) → ((row : ℕ) → ¬ (row_named rank ≡ Some row)) → max_ranks ≤ row_of max_ranks rank
unnamed rank none =
    decided (eqb rank 0)
    (λ t. rw t (omega arith))
    (λ t. absurd (none (rank - 1) (rw t)))

-- The tally of the rows of a trail that were passed, as a loop makes it: so many more may be looked at, of those that are left.
pub record Tallying (trail : Table) (items : ℕ) (counts : List ℕ) (left : ℕ) (rest : Table) : Type 0 where
  pub passed : ℕ
  pub room : passed + left ≡ items
  pub within : passed ≤ length trail
  pub ahead : rest ≡ drop passed trail
  pub made : counts ≡ tallied (map (rank_told trail) (numbers_from 0 passed))

module _ (trail : Table) (items : ℕ) (long : length trail ≡ max_items) where
  pub tallying_none : Tallying trail items (replicate max_ranks 0) items trail
  unfolding numbers_from
  tallying_none = record { passed = 0; room = omega arith; within = omega arith; ahead = refl; made = tally_none }

  module _ {counts : List ℕ} {left : ℕ} {told : List ℕ} {rest : Table} (so_far : Tallying trail items counts left (told ∷ rest)) where
    abbrev passed : ℕ
    passed = so_far.passed

    abbrev ranks : List ℕ
    ranks = map (rank_told trail) (numbers_from 0 passed)

    inside : passed < length trail
    inside = omega (arith, length-drop passed trail, ap length so_far.ahead)

    here : drop passed trail ≡ get_or trail passed [] ∷ drop (suc passed) trail
    here = drop-cons trail passed [] inside

    told_is : get_or told 0 0 ≡ rank_told trail passed
    told_is = let e = so_far.ahead ∙ here in let row : told ≡ get_or trail passed [] = cc in ap (λ l. get_or l 0 0) row

    rest_is : rest ≡ drop (passed + 1) trail
    rest_is = let e = so_far.ahead ∙ here in rw (add-one passed) (cc)

    -- No count is above the number of rows.
    pub tallying_few : (row : ℕ) → row < max_ranks → get_or counts row 0 < max_items
    tallying_few row h =
        let e : length ranks ≡ passed = length-map (numbers_from 0 passed) (rank_told trail) ∙ numbers_length 0 passed in
        rw (so_far.made, tally_at ranks row h) (omega (arith, e, inside, long, selected_few (λ r. eqb r (1 + row)) ranks))

    one_told : map (rank_told trail) (numbers_from 0 (passed + 1)) ≡ ranks ++ get_or told 0 0 ∷ []
    one_told =
        ap (map (rank_told trail)) (ap (numbers_from 0) (add-one passed) ∙ sym (numbers_snoc 0 passed))
        ∙ map-append (rank_told trail) (numbers_from 0 passed) ((0 + passed) ∷ [])
        ∙ ap (λ i. ranks ++ rank_told trail i ∷ []) (zero-add passed)
        ∙ ap (λ r. ranks ++ r ∷ []) (sym told_is)

    module _ {fewer : ℕ} (less : fewer + 1 ≡ left) where
      pub tallying_counted : {row : ℕ} → Some row ≡ row_named (get_or told 0 0) → row < max_ranks →
          Tallying trail items (set counts row (get_or counts row 0 + 1)) fewer rest
      tallying_counted {row} is h =
          record {
            passed = passed + 1;
            room = omega (arith, so_far.room);
            within = omega (arith, inside);
            ahead = rest_is;
            made =
                ap (λ l. set l row (get_or l row 0 + 1)) so_far.made
                ∙ tally_counted ranks (get_or told 0 0) row (named _ _ is) h
                ∙ ap tallied (sym one_told);
          }

      passes : max_ranks ≤ row_of max_ranks (get_or told 0 0) → Tallying trail items counts fewer rest
      passes h =
          record {
            passed = passed + 1;
            room = omega (arith, so_far.room);
            within = omega (arith, inside);
            ahead = rest_is;
            made = so_far.made ∙ tally_passed ranks (get_or told 0 0) h ∙ ap tallied (sym one_told);
          }

      pub tallying_beyond : {row : ℕ} → Some row ≡ row_named (get_or told 0 0) → max_ranks ≤ row → Tallying trail items counts fewer rest
      tallying_beyond is h = passes (rw (named _ _ is) at h)

      pub tallying_passed : ((row : ℕ) → ¬ (row_named (get_or told 0 0) ≡ Some row)) → Tallying trail items counts fewer rest
      tallying_passed none = passes (unnamed _ none)

  pub tallying_all : {counts : List ℕ} {left : ℕ} {rest : Table} → Tallying trail items counts left rest → (0 < left → length rest ≡ 0) →
      counts ≡ tallied (ranks_told items trail)
  unfolding ranks_told
  tallying_all {left = left} so_far none =
      let gone = length-drop so_far.passed trail in
      let end : so_far.passed ≡ min items max_items =
      decided (ltb 0 left)
      (λ t. let empty = none (ltb-true 0 left t) in omega (arith, long, so_far.room, so_far.within, gone, ap length so_far.ahead))
      (λ t. let last = ltb-false 0 left t in omega (arith, long, so_far.room, so_far.within)) in
      so_far.made ∙ ap (λ n. tallied (map (rank_told trail) (numbers_from 0 n))) end
