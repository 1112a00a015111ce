-- Entries of arrays that have as many as there may be groups: what stands there, and what a store changes.
use Prim.Native.Nat.{ℕ, ◌<◌}
use mathlib.Core.Path.{◌≡◌, sym, ◌∙◌}
use mathlib.Core.List.{List}
use native.Mathlib.Omega.{arith}
use lib.Dec.{ltb}
use lib.ListN.{length, get_or, set, length-set, get_or-eq_default}
use lib.Seq.{get_or-set_same, get_or-set_other}
use borrow.Author.Tests.{ltb-false}
use Rattle.model.specs.Limits.{max_items}
use Rattle.model.proofs.Laws.{decided}
use Rattle.indexing.specs.Entries.{entry_at}

pub entry_is : (l : List ℕ) (i : ℕ) → length l ≡ max_items → entry_at l i ≡ get_or l i 0
unfolding entry_at
entry_is l i long =
    decided (ltb i max_items)
    (λ t. rw t)
    (λ t. rw t (sym (get_or-eq_default l 0 (omega (arith, long, ltb-false i max_items t)))))

module _ (l : List ℕ) (i v : ℕ) (long : length l ≡ max_items) where
  pub entry_set : i < max_items → entry_at (set l i v) i ≡ v
  entry_set h = entry_is (set l i v) i (length-set l i v ∙ long) ∙ get_or-set_same l i v 0 (omega (arith, h, long))

  pub entry_other : (j : ℕ) → ¬ (j ≡ i) → entry_at (set l i v) j ≡ entry_at l j
  entry_other j n = entry_is (set l i v) j (length-set l i v ∙ long) ∙ get_or-set_other l i j v 0 n ∙ sym (entry_is l j long)
