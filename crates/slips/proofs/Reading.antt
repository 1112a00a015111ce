-- The reader that goes by the map's bits is the definition's, which goes rank by rank; and what it answers tells what the definition answers.
use Rattle.model.specs.declared.Found.{Found}
use Prim.Native.Nat.{ℕ, ◌+◌, ◌-◌, ◌^◌, ◌<◌, zero-le}
use mathlib.Core.Path.{◌≡◌, refl, sym, ap, ap₂, fun_ext, ◌∙◌}
use mathlib.Core.List.{List, []}
use native.Mathlib.Omega.{arith}
use lib.Dec.{ltb}
use lib.ListN.{length, take, replicate}
use lib.Seq.{take_at}
use borrow.Author.Tests.{ltb-true, ltb-false, eq-eqb, ne_eqb}
use Rattle.model.specs.declared.Refusal.{Refusal}
use Rattle.model.specs.Limits.{max_ranks, max_items}
use Rattle.model.specs.Refusals as Refusals
use Rattle.model.specs.Refusals.{Result, Ok, Err, slip_form}
use Rattle.model.specs.Choice.{between, numbers_from}
use Rattle.model.specs.Bytes.{found, judged, whole}
use Rattle.model.specs.Marked.{read_marked}
use Rattle.model.specs.Lending.{Lent, lend, answering}
use Rattle.model.specs.Slips.{map_field, slip_reader, read_slip_in, read_slip}
use Rattle.model.proofs.Laws.{Within, decided, true_between, between_false, ok_injective, refused≢ok}
use Rattle.model.proofs.Bytes.{Finds, finds_anything, finds_bind, finds_weaker, judged_ok}
use Rattle.memory.proofs.Filled.{numbers_length}
use Rattle.fields.specs.Fields.{judged_field}
use Rattle.marked.specs.Maps.{map_bits}
use Rattle.marked.specs.Reading.{values_at}
use Rattle.marked.proofs.Reading.{placed, values_placed, marked_length}
use Rattle.slips.specs.Reading.{map_reader, counts_reader}

-- No map has a bit above those of the full one.
full_limit : (full limit : ℕ) → full + 1 ≡ limit → (map : ℕ) → between 0 full map ≡ ltb map limit
full_limit full limit is map =
    decided (ltb map limit)
    (λ t. true_between 0 full map (record { low = zero-le; high = omega (arith, ltb-true map limit t) }) ∙ sym t)
    (λ t. between_false 0 full map (λ within. omega (arith, within.high, ltb-false map limit t)) ∙ sym t)

module _ (ranks : ℕ) (slip : List ℕ) where
  -- A map within the full one has no bit above N.
  pub map_judged : (full : ℕ) → full + 1 ≡ 2 ^ ranks → judged_field (between 0 full) slip_form 0 (map_field ranks slip 0) ≡ map_reader ranks slip 0
  unfolding judged
  map_judged full is = ap (λ test. judged_field test slip_form 0 (map_field ranks slip 0)) (fun_ext (full_limit full (2 ^ ranks) is))

  pub map_small : {f : Found ℕ} → map_reader ranks slip 0 ≡ Ok f → f.value < 2 ^ ranks
  map_small {f} h = ltb-true f.value (2 ^ ranks) (judged_ok (λ map. ltb map (2 ^ ranks)) slip_form (map_field ranks) slip 0 h).1

  -- A slip tells N counts.
  pub slip_counts : Finds slip (slip_reader ranks) (λ l. length l ≡ ranks)
  unfolding slip_reader
  slip_counts =
      finds_bind (finds_anything (map_reader ranks)) λ map _.
      finds_weaker (marked_length 1 max_items slip_form map (numbers_from 1 ranks)) (λ l e. e ∙ numbers_length 1 ranks)

  module _ (inside : Within 1 max_ranks ranks) where
    -- The counts of the ranks above N.
    abbrev above : List ℕ
    above = replicate (map_bits - ranks) 0

    counts_placed : counts_reader ranks slip 0 ≡ placed [] above (slip_reader ranks slip 0)
    unfolding counts_reader slip_reader
    counts_placed = go (map_reader ranks slip 0) (λ f h. map_small h)
      where
        go : (m : Result (Found ℕ)) → ((f : Found ℕ) → m ≡ Ok f → f.value < 2 ^ ranks) →
            Refusals.◌>>=◌ m (λ f. values_at max_items slip_form f.value slip f.next)
            ≡ placed [] above (Refusals.◌>>=◌ m (λ f. read_marked 1 max_items slip_form f.value (numbers_from 1 ranks) slip f.next))
        go (Ok f) small = values_placed 1 max_items slip_form f.value slip ranks (omega (arith, inside.high)) (small f refl) f.next
        go (Err r) small = refl

    -- What was read by bits, and what the definition reads then.
    counts_refused : {r : Refusal} → counts_reader ranks slip 0 ≡ Err r → slip_reader ranks slip 0 ≡ Err r
    counts_refused {r} is = go (slip_reader ranks slip 0) (sym counts_placed ∙ is)
      where
        go : (m : Result (Found (List ℕ))) → placed [] above m ≡ Err r → m ≡ Err r
        go (Ok f) e = absurd (refused≢ok (sym e))
        go (Err s) e = let same : s ≡ r = cc in ap Err same

    counts_found : {k : Found (List ℕ)} → counts_reader ranks slip 0 ≡ Ok k → slip_reader ranks slip 0 ≡ found (take ranks k.value) k.next
    counts_found {k} is = go (slip_reader ranks slip 0) (sym counts_placed ∙ is) (λ f h. slip_counts.holds 0 f h)
      where
        go : (m : Result (Found (List ℕ))) → placed [] above m ≡ Ok k → ((f : Found (List ℕ)) → m ≡ Ok f → length f.value ≡ ranks) →
            m ≡ found (take ranks k.value) k.next
        go (Ok f) e long =
            let is = ok_injective e in
            let values = ap (λ (g : Found (List ℕ)). take ranks g.value) is in
            ap₂ found (sym (take_at f.value above ranks (long f refl)) ∙ values) (ap (λ (g : Found (List ℕ)). g.next) is)
        go (Err s) e long = absurd (refused≢ok e)

    -- What the definition answers.
    module _ (counts : List ℕ) where
      pub read_refused : {r : Refusal} → counts_reader ranks slip 0 ≡ Err r → answering (Err r) counts ≡ read_slip ranks slip counts
      unfolding read_slip_in whole lend
      read_refused is = rw (true_between 1 max_ranks ranks inside, counts_refused is)

      module _ {k : Found (List ℕ)} (is : counts_reader ranks slip 0 ≡ Ok k) where
        pub read_left : ¬ (k.next ≡ length slip) →
            answering (Err (record { number = slip_form; place = k.next })) counts ≡ read_slip ranks slip counts
        unfolding read_slip_in whole lend
        read_left left = rw (true_between 1 max_ranks ranks inside, counts_found is, ne_eqb k.next (length slip) left)

        pub read_filled : k.next ≡ length slip → {l : Lent} → l ≡ lend counts (Ok (take ranks k.value)) → l ≡ read_slip ranks slip counts
        unfolding read_slip_in whole
        read_filled all e = rw (true_between 1 max_ranks ranks inside, counts_found is, eq-eqb k.next (length slip) all) e

  pub ranks_refused : ¬ (Within 1 max_ranks ranks) → (counts : List ℕ) →
      answering (Err (record { number = slip_form; place = 0 })) counts ≡ read_slip ranks slip counts
  unfolding read_slip_in lend
  ranks_refused outside counts = rw (between_false 1 max_ranks ranks outside)
