-- Lists that have under each number the last of the first items that passes the number's test: each rank's last command, each cell's last write.
use Rattle.std.specs.Prelude.{Option, Some, None}
use Prim.Native.Nat.{ℕ, suc, ◌<◌}
use mathlib.Core.Path.{◌≡◌, ◌∙◌}
use mathlib.Core.Bool.{Bool, true, false}
use mathlib.Core.List.{List}
use lib.Dec.{eqb}
use lib.ListN.{length, get_or, set, replicate, length-set, length-replicate, get_or-replicate}
use lib.Seq.{get_or-set_same, get_or-set_other}
use borrow.Author.Tests.{eqb-true, eqb-false}
use Rattle.model.proofs.Laws.{decided}
use Rattle.happens_before.proofs.Searches.{latest}

pub record Lasts (numbers : List (Option ℕ)) (count : ℕ) (test : ℕ → ℕ → Bool) (items : ℕ) : Type 0 where
  pub long : length numbers ≡ count
  pub last : (n : ℕ) → n < count → get_or numbers n None ≡ latest (test n) items

module _ {numbers : List (Option ℕ)} {count : ℕ} {test : ℕ → ℕ → Bool} {item : ℕ} (so_far : Lasts numbers count test item) where
  -- An item that passes no test, and one that passes one.
  pub lasts_same : ((n : ℕ) → test n item ≡ false) → Lasts numbers count test (suc item)
  unfolding latest
  lasts_same none = record { long = so_far.long; last = λ n b. rw (none n) (so_far.last n b) }

  pub lasts_set : (slot : ℕ) → slot < count → test slot item ≡ true → ((n : ℕ) → ¬ (n ≡ slot) → test n item ≡ false) →
      Lasts (set numbers slot (Some item)) count test (suc item)
  unfolding latest
  lasts_set slot b own others =
      record {
        long = length-set numbers slot (Some item) ∙ so_far.long;
        last = λ n h.
            decided (eqb n slot)
            (λ t.
            let e : n ≡ slot = eqb-true n slot t in
            rw (e, own) (get_or-set_same numbers slot (Some item) None (rw so_far.long b)))
            (λ t.
            let other : ¬ (n ≡ slot) = eqb-false n slot t in
            rw (others n other) (get_or-set_other numbers slot n (Some item) None other ∙ so_far.last n h));
      }

pub lasts_none : (count : ℕ) (test : ℕ → ℕ → Bool) → Lasts (replicate count None) count test 0
unfolding latest
lasts_none count test = record { long = length-replicate {A = Option ℕ} count None; last = λ n b. get_or-replicate count n None None b }
