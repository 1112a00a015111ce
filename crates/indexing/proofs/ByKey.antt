-- Numbers in lists by a key. They are noted one by one, each that passes the test before its key's list; so at the end a list has all numbers that pass
-- and have its key, and no other.
use Prim.Native.Nat.{ℕ, zero, suc, ◌<◌}
use mathlib.Core.Path.{◌≡◌, sym, ap, ◌∙◌, subst}
use mathlib.Core.Bool.{Bool, true, false}
use mathlib.Core.List.Memᴰ
use mathlib.Core.List.{List}
use mathlib.Core.Logic.{⊎_elim}
use native.Mathlib.Omega.{arith}
use lib.Dec.{eqb, ltb}
use lib.ListN.{length, replicate, length-set, length-replicate, get_or-eq_default}
use borrow.Author.Tests.{eqb-true, eqb-false, eq-eqb, ltb-true, ltb-false}
use Rattle.model.specs.Limits.{max_items, max_edges}
use Rattle.model.specs.Lists.{◌∈◌}
use Rattle.model.proofs.Laws.{decided}
use Rattle.model.proofs.Lists.{here, there}
use Rattle.chains.specs.Chains.{Pushed, members}
use Rattle.chains.proofs.Cases.{pushed_inside}
use Rattle.chains.proofs.Chains.{no_members, empty_listed, listed_later, push_listed}
use Rattle.indexing.specs.Entries.{entry_at}
use Rattle.indexing.specs.Indexed.{numbers_by, ListsBy}
use Rattle.indexing.proofs.Entries.{entry_is}

module _ (test : ℕ → Bool) (key : ℕ → ℕ) where
  -- The numbers of one key.
  pub numbers_sound : (count g i : ℕ) → i ∈ numbers_by test key count g → (i < count) × (test i ≡ true) × (key i ≡ g)
  unfolding numbers_by
  numbers_sound zero g i m = absurd (Memᴰ.not-nil m)
  numbers_sound (suc count) g i m =
      decided (test count)
      (λ t. decided (eqb g (key count))
      (λ u.
      let own : key count ≡ g = sym (eqb-true g (key count) u) in
      ⊎_elim
      (λ e. (omega arith, ap test e ∙ t, ap key e ∙ own))
      (λ r. let (b, c, k) = numbers_sound count (key count) i r in (omega (arith, b), c, k ∙ own))
      (Memᴰ.cases_cons (rw (t, u) at m)))
      (λ u. let (b, c, k) = numbers_sound count g i (rw (t, u) at m) in (omega (arith, b), c, k)))
      (λ t. let (b, c, k) = numbers_sound count g i (rw t at m) in (omega (arith, b), c, k))

  numbers_complete : (count i : ℕ) → i < count → test i ≡ true → i ∈ numbers_by test key count (key i)
  unfolding numbers_by
  numbers_complete zero i b c = absurd (omega arith)
  numbers_complete (suc count) i b c =
      decided (eqb i count)
      (λ t. let e : i ≡ count = eqb-true i count t in rw (ap test (sym e) ∙ c, eq-eqb (key i) (key count) (ap key e)) (here e))
      (λ t.
      let o : ¬ (i ≡ count) = eqb-false i count t in
      let old = numbers_complete count i (omega arith) c in
      decided (test count)
      (λ u. decided (eqb (key i) (key count))
      (λ v. rw (u, v) (there (subst (λ (g : ℕ). i ∈ numbers_by test key count g) (eqb-true (key i) (key count) v) old)))
      (λ v. rw (u, v) old))
      (λ u. rw u old))

  -- Cleared arrays are empty lists.
  pub lists_none : ListsBy test key 0 (replicate max_items 0) (replicate max_edges 0)
  unfolding numbers_by
  lists_none =
      let none = empty_listed max_items (replicate max_edges 0) in
      record {
        heads_long = length-replicate {A = ℕ} max_items 0;
        links_long = length-replicate {A = ℕ} max_edges 0;
        lists = record { heads_below = none.heads_below; lists = none.lists };
      }

module _ {test : ℕ → Bool} {key : ℕ → ℕ} {count : ℕ} {heads links : List ℕ} (so_far : ListsBy test key count heads links) where
  -- The next number does not pass, or it does.
  pub lists_skipped : test count ≡ false → ListsBy test key (suc count) heads links
  unfolding numbers_by
  lists_skipped t =
      let later = listed_later so_far.lists {later = suc count} (omega arith) in
      record {
        heads_long = so_far.heads_long;
        links_long = so_far.links_long;
        lists = record { heads_below = later.heads_below; lists = λ g h. rw t (later.lists g h) };
      }

  pub lists_noted : test count ≡ true → key count < max_items → count < max_edges → {heads' links' : List ℕ} →
      Pushed heads links heads' links' (key count) (suc count) → ListsBy test key (suc count) heads' links'
  unfolding numbers_by
  lists_noted t own room p =
      let inside : key count < length heads = omega (arith, so_far.heads_long) in
      let slot : count < length links = omega (arith, so_far.links_long) in
      let after = pushed_inside heads links (key count) (suc count) (omega arith) inside (omega arith) in
      let pushed = push_listed so_far.lists (key count) inside slot in
      rw (p.heads_after_lem, p.links_after_lem)
      (record {
        heads_long = ap length (sym after.heads_after_lem) ∙ length-set heads (key count) (suc count) ∙ so_far.heads_long;
        links_long = ap length (sym after.links_after_lem) ∙ length-set links _ _ ∙ so_far.links_long;
        lists = record { heads_below = pushed.heads_below; lists = λ g h. rw t (pushed.lists g h) };
      })

  -- The members of a key's list.
  pub members_by : (g : ℕ) → g < max_items → members links (entry_at heads g) ≡ numbers_by test key count g
  members_by g h = ap (members links) (entry_is heads g so_far.heads_long) ∙ so_far.lists.lists g (omega (arith, so_far.heads_long))

  pub member_of : (g i : ℕ) → i ∈ members links (entry_at heads g) → (i < count) × (test i ≡ true) × (key i ≡ g)
  member_of g i m =
      decided (ltb g max_items)
      (λ t. numbers_sound test key count g i (subst (λ (l : List ℕ). i ∈ l) (members_by g (ltb-true g max_items t)) m))
      (λ t.
      let none = get_or-eq_default heads 0 {n = g} (omega (arith, ltb-false g max_items t, so_far.heads_long)) in
      let empty = ap (members links) (entry_is heads g so_far.heads_long ∙ none) ∙ no_members links in
      absurd (Memᴰ.not-nil (subst (λ (l : List ℕ). i ∈ l) empty m)))

  pub of_member : (i : ℕ) {g : ℕ} → g ≡ key i → g < max_items → i < count → test i ≡ true → i ∈ members links (entry_at heads g)
  of_member i {g} e inside b c =
      subst (λ (l : List ℕ). i ∈ l) (sym (members_by g inside))
      (subst (λ (h : ℕ). i ∈ numbers_by test key count h) (sym e) (numbers_complete test key count i b c))
