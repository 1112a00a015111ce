-- The groups into which no arrow leads are found one by one.
use Prim.Native.Nat.{ℕ, zero, suc, ◌+◌, ◌≤◌, ◌<◌}
use mathlib.Core.Path.{◌≡◌, refl, sym, ◌∙◌}
use mathlib.Core.Bool.{Bool, ◌&&◌}
use mathlib.Core.List.{List}
use native.Mathlib.Omega.{arith}
use lib.Dec.{ltb, eqb}
use borrow.Author.Tests.{lt-ltb, le-ltb, ltb-true, ltb-false, eqb-true, eqb-false, eq-eqb}
use Rattle.model.specs.Limits.{max_items}
use Rattle.model.specs.Choice.{numbers_from}
use Rattle.model.proofs.Laws.{decided}
use Rattle.bitmap.specs.Bitmaps.{Holds, empty_bitmap}
use Rattle.bitmap.proofs.Holding.{empty_holds, same_holds, insert_holds}
use Rattle.indexing.specs.Indexes.{readied, readied_all}
use Rattle.indexing.specs.Degrees.{by_group}
use Rattle.indexing.proofs.ByGroup.{group_at}

module _ (degree : ℕ → ℕ) where
  -- Of the groups below a number, those that no arrow leads into.
  abbrev free_below : ℕ → ℕ → Bool
  free_below n g = ltb g n && eqb (degree g) 0

  -- One group more is looked at.
  test_other : (n g : ℕ) → ¬ (g ≡ n) → ltb g n ≡ ltb g (n + 1)
  test_other n g ne =
      decided (ltb g n)
      (λ t. t ∙ sym (lt-ltb g (n + 1) (omega (arith, ltb-true g n t))))
      (λ t. t ∙ sym (le-ltb g (n + 1) (omega (arith, ltb-false g n t))))

  readied_holds : (n : ℕ) {ready : List ℕ} → n < max_items → Holds ready (free_below n) → Holds (readied (by_group degree) n ready) (free_below (n + 1))
  unfolding readied
  readied_holds n {ready} b h =
      rw (lt-ltb n max_items b, group_at degree n b)
      (decided (eqb (degree n) 0)
      (λ t. rw t (same_holds
      (λ g c. decided (eqb g n)
      (λ u.
      let e : g ≡ n = eqb-true g n u in
      rw (e, eq-eqb n n refl, lt-ltb n (n + 1) (omega arith), t))
      (λ u. rw (u, test_other n g (eqb-false g n u))))
      (insert_holds h n b)))
      (λ t. rw t (same_holds
      (λ g c. decided (eqb g n)
      (λ u.
      let e : g ≡ n = eqb-true g n u in
      rw (e, lt-ltb n (n + 1) (omega arith), le-ltb n n (omega arith), t))
      (λ u. rw (test_other n g (eqb-false g n u))))
      h)))

  readied_from : (first count : ℕ) {ready : List ℕ} → first + count ≤ max_items → Holds ready (free_below first) →
      Holds (readied_all (by_group degree) (numbers_from first count) ready) (free_below (first + count))
  unfolding readied_all numbers_from
  readied_from first zero b h = let z : first + 0 ≡ first = omega arith in rw z h
  readied_from first (suc count) b h =
      let z : first + suc count ≡ first + 1 + count = omega arith in
      rw z (readied_from (first + 1) count (omega arith) (readied_holds first (omega arith) h))

  -- All groups.
  pub ready_holds : (n : ℕ) → n ≤ max_items → Holds (readied_all (by_group degree) (numbers_from 0 n) empty_bitmap) (free_below n)
  ready_holds n b =
      let z : 0 + n ≡ n = omega arith in
      rw z at (readied_from 0 n (omega (arith, b)) (same_holds (λ g h. rw (le-ltb g 0 (omega arith))) empty_holds))
