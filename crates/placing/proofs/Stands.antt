-- Counts and ready groups go together: a group that is taken is no longer left, and one arrow fewer into a group makes it ready where it was the
-- last.
use Rattle.std.specs.Prelude.{Some}
use Prim.Native.Nat.{ℕ, suc, ◌-◌, ◌≤◌, ◌<◌}
use mathlib.Core.Path.{◌≡◌, refl, ap, ◌∙◌}
use mathlib.Core.Bool.{Bool, true, false, not, ◌&&◌}
use native.Mathlib.Omega.{arith}
use lib.Dec.{eqb}
use lib.ListN.{get_or, set}
use borrow.Author.Tests.{lt-ltb, eqb-true, eqb-false, eq-eqb, ne_eqb}
use Rattle.model.specs.Limits.{max_items}
use Rattle.model.specs.Choice.{when}
use Rattle.model.proofs.Laws.{decided, and-true}
use Rattle.bitmap.specs.Bitmaps.{Holds, inserted, lowest_in, lowest_taken}
use Rattle.bitmap.proofs.Holding.{same_holds, insert_holds, lowest_some, taken_holds}
use Rattle.indexing.specs.Degrees.{by_group}
use Rattle.indexing.proofs.ByGroup.{group_at, group_set, group_same}
use Rattle.placing.specs.declared.counts.Counts.{Counts}
use Rattle.placing.specs.Releases.{counts, released}
use Rattle.placing.specs.Standing.{Stands}
use Rattle.placing.proofs.Degrees.{but}

-- Counts that are the same.
pub stands_same : {left : ℕ → Bool} {degree degree' : ℕ → ℕ} {c : Counts} → ((g : ℕ) → degree g ≡ degree' g) → Stands left degree c →
    Stands left degree' c
stands_same {left} {degree} {degree'} same s =
    record {
      waits = s.waits ∙ group_same degree degree' (λ g h. same g);
      holds = same_holds (λ g h. rw (same g)) s.holds;
      pending = λ g h. s.pending g (rw (same g) h);
    }

-- The lowest ready group is taken.
module _ {left : ℕ → Bool} {degree : ℕ → ℕ} {c : Counts} (s : Stands left degree c) (g : ℕ) (lowest : lowest_in c.ready ≡ Some g) where
  pub taken_free : (left g ≡ true) × (eqb (degree g) 0 ≡ true)
  taken_free = and-true (left g) (eqb (degree g) 0) (lowest_some s.holds lowest).is

  pub stands_taken : Stands (but left g) degree (counts c.waiting (lowest_taken c.ready))
  stands_taken =
      record {
        waits = s.waits;
        holds = same_holds (λ h b. exchange (left h) (eqb (degree h) 0) (not (eqb h g))) (taken_holds s.holds lowest);
        pending = λ h p.
            let none_wait : degree g ≡ 0 = eqb-true (degree g) 0 taken_free.1 in
            let ne : eqb h g ≡ false = ne_eqb h g (λ e. let same : degree h ≡ degree g = ap degree e in omega (arith, p)) in
            rw (s.pending h p, ne);
      }
    where
      exchange : (a b d : Bool) → ((a && b) && d) ≡ ((a && d) && b)
      exchange true true true = refl
      exchange true true false = refl
      exchange true false true = refl
      exchange true false false = refl
      exchange false b d = refl

-- One arrow fewer into t.
module _ {left : ℕ → Bool} {degree degree' : ℕ → ℕ} {c : Counts} (s : Stands left degree c) (t : ℕ) (b : t < max_items)
    (falls : degree t ≡ suc (degree' t)) (others : (g : ℕ) → ¬ (g ≡ t) → degree g ≡ degree' g)
  where
    fewer : (g : ℕ) → degree' g ≤ degree g
    fewer g = decided (eqb g t) (λ u. rw (eqb-true g t u) (omega (arith, falls))) (λ u. omega (arith, others g (eqb-false g t u)))

    fewer_waits : set c.waiting t (get_or c.waiting t 0 - 1) ≡ by_group degree'
    fewer_waits =
        let at : get_or c.waiting t 0 ≡ degree t = ap (λ l. get_or l t 0) s.waits ∙ group_at degree t b in
        let e : get_or c.waiting t 0 - 1 ≡ degree' t = omega (arith, at, falls) in
        rw (e, s.waits) (group_set degree degree' t b others)

    -- It is ready now where that was the last one.
    fewer_holds : Holds (when (eqb (degree t) 1) (λ _. inserted c.ready t) (λ _. c.ready)) (λ g. left g && eqb (degree' g) 0)
    fewer_holds =
        let waiting : eqb (degree t) 0 ≡ false = ne_eqb (degree t) 0 (λ e. omega (arith, e, falls)) in
        let is_left : left t ≡ true = s.pending t (omega (arith, falls)) in
        decided (eqb (degree t) 1)
        (λ u. rw u (same_holds
        (λ g h. decided (eqb g t)
        (λ v.
        let e : g ≡ t = eqb-true g t v in
        let one : degree t ≡ 1 = eqb-true (degree t) 1 u in
        rw (e, eq-eqb t t refl, is_left, eq-eqb (degree' t) 0 (omega (arith, falls))))
        (λ v. rw (v, others g (eqb-false g t v))))
        (insert_holds s.holds t b)))
        (λ u. rw u (same_holds
        (λ g h. decided (eqb g t)
        (λ v.
        let e : g ≡ t = eqb-true g t v in
        let more : ¬ (degree t ≡ 1) = eqb-false (degree t) 1 u in
        rw (e, is_left, waiting, ne_eqb (degree' t) 0 (λ z. more (omega (arith, z, falls)))))
        (λ v. rw (others g (eqb-false g t v))))
        s.holds))

    pub stands_released : Stands left degree' (released t c)
    unfolding released
    stands_released =
        let at : get_or c.waiting t 0 ≡ degree t = ap (λ l. get_or l t 0) s.waits ∙ group_at degree t b in
        let some_wait : eqb (get_or c.waiting t 0) 0 ≡ false = ne_eqb (get_or c.waiting t 0) 0 (λ e. omega (arith, e, at, falls)) in
        rw (lt-ltb t max_items b, some_wait)
        (record {
          waits = fewer_waits;
          holds = rw at fewer_holds;
          pending = λ g p. s.pending g (omega (arith, fewer g));
        })
