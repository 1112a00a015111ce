-- Link and unlink on the lists of all ranks: one list changes, and the others stay, since an entry stands in one list only.
use Prim.Native.Nat.{ℕ, ◌<◌}
use mathlib.Core.Path.{◌≡◌, sym, ap, subst, ◌∙◌}
use mathlib.Core.Logic.{◌≢◌}
use mathlib.Core.Bool.{◌&&◌}
use mathlib.Core.List.{List, [], ◌∷◌, ◌++◌}
use native.Mathlib.Omega.{arith}
use lib.Dec.{eqb}
use Rattle.model.specs.Limits.{max_items}
use Rattle.model.specs.Machine.{put, put₂}
use Rattle.model.proofs.Laws.{decided, put_same, put_other, put₂_same, put₂_other}
use Rattle.memory.specs.Tables.{Table, Row, Rank, Shaped}
use Rattle.memory.proofs.Stores.{same_place, other_place}
use Rattle.entries.specs.Entries.{pool_size}
use Rattle.links.specs.declared.Queues.{Queues}
use Rattle.links.specs.Lists.{tables, lists_of_rank, tail_end, follower, end_of, linked, unlinked}
use Rattle.links.specs.Chains.{last_or, All, Once, Chain, Standing, Chained}
use Rattle.links.proofs.EntryLists.{all_append, all_left, all_but, all_middle, all_last, all_map}
use Rattle.links.proofs.EntryLists.{all_both, once_apart, once_but, once_more, run_kept}
use Rattle.links.proofs.Changes.{Changed, linked_changed, unlinked_changed}
use Rattle.links.proofs.Chains.{linked_chain, unlinked_chain}

-- What holds at the changed place and elsewhere holds of a function with one value changed.
pub put₂_all : {A : Type 0} (f : ℕ → ℕ → A) (i j : ℕ) (v : A) (P : ℕ → ℕ → A → Type 0) → P i j v →
    ((k l : ℕ) → ¬ ((k ≡ i) × (l ≡ j)) → P k l (f k l)) → (k l : ℕ) → P k l (put₂ f i j v k l)
put₂_all f i j v P here there k l =
    decided (eqb k i && eqb l j)
    (λ t. let (p, q) = same_place k i l j t in rw (p, q, put₂_same f i j v) here)
    (λ t. let n = other_place k i l j t in rw (put₂_other f i j v k l n) (there k l n))

-- Entries of two lists are two entries.
module _ (owner : ℕ → ℕ × ℕ) {rank list r l : ℕ} (other : ¬ ((r ≡ rank) × (l ≡ list))) where
  apart : (x z : ℕ) → Standing owner r l x → Standing owner rank list z → x ≢ z
  apart x z s w p =
      let e : ◌≡◌ {A = ℕ × ℕ} (r, l) (rank, list) = sym s.place ∙ ap owner p ∙ w.place in
      other (ap (λ (q : ℕ × ℕ). q.0) e, ap (λ (q : ℕ × ℕ). q.1) e)

  apart_all : (z : ℕ) → Standing owner rank list z → (es : List ℕ) → All (Standing owner r l) es → All (λ x. x ≢ z) es
  apart_all z w = all_map (Standing owner r l) (λ x. x ≢ z) (λ x s. apart x z s w)

  apart_last : (xs es : List ℕ) → All (Standing owner rank list) xs → All (Standing owner r l) es → All (λ x. x ≢ last_or 0 xs) es
  apart_last xs es standing theirs =
      all_last (λ z. All (λ x. x ≢ z) es) 0 xs
      (all_map (Standing owner r l) (λ x. x ≢ 0) (λ x s p. omega (arith, p, s.named.first)) es theirs)
      (all_map (Standing owner rank list) (λ z. All (λ x. x ≢ z) es) (λ z w. apart_all z w es theirs) xs standing)

-- One list of the tables was exchanged for another.
exchanged : {t t' : Queues} {entries : ℕ → ℕ → List ℕ} {owner : ℕ → ℕ × ℕ} {rank list previous entry : ℕ} (owner' : ℕ → ℕ × ℕ) (es : List ℕ) →
    Chained t entries owner → Changed t t' rank list previous entry → Chain t' rank list es → All (Standing owner' rank list) es → Once es →
    ((r l : ℕ) → ¬ ((r ≡ rank) × (l ≡ list)) → All (λ x. (x ≢ previous) × (x ≢ entry)) (entries r l)) →
    ((r l : ℕ) → ¬ ((r ≡ rank) × (l ≡ list)) → All (Standing owner' r l) (entries r l)) →
    Chained t' (put₂ entries rank list es) owner'
exchanged {t} {t'} {entries} {owner} {rank} {list} {previous} {entry} owner' es before changed chain standing once others theirs =
    record {
      pool_shape = changed.pool_shape;
      ends_shape = changed.ends_shape;
      chains = put₂_all entries rank list es (λ r l xs. Rank r → l < lists_of_rank → Chain t' r l xs) (λ a b. chain)
          (λ r l n a b. kept r l n (before.chains r l a b));
      standing = put₂_all entries rank list es (λ r l xs. All (Standing owner' r l) xs) standing theirs;
      once = put₂_all entries rank list es (λ r l xs. Once xs) once (λ r l n. before.once r l);
    }
  where
    kept : (r l : ℕ) → ¬ ((r ≡ rank) × (l ≡ list)) → Chain t r l (entries r l) → Chain t' r l (entries r l)
    kept r l n c =
        record {
          head = changed.heads r l n ∙ c.head;
          tail = changed.tails r l n ∙ c.tail;
          run =
              run_kept (follower t) (follower t') (entries r l)
              (all_map (λ x. (x ≢ previous) × (x ≢ entry)) (λ x. follower t' x ≡ follower t x) (λ x (p, q). changed.links x p q) (entries r l)
              (others r l n)) c.run;
        }

module _ {t : Queues} {entries : ℕ → ℕ → List ℕ} {owner : ℕ → ℕ × ℕ} (held : Chained t entries owner) where
  -- Other numbers of the entries may change.
  pub chained_fields : (pool : Table) → Shaped pool_size pool → ((e : ℕ) → follower (tables pool t.ends) e ≡ follower t e) →
      Chained (tables pool t.ends) entries owner
  chained_fields pool shape same =
      record {
        pool_shape = shape;
        ends_shape = held.ends_shape;
        chains = λ r l a b.
            let c = held.chains r l a b in
            record {
              head = c.head;
              tail = c.tail;
              run = run_kept (follower t) (follower (tables pool t.ends)) (entries r l) (every_link (entries r l)) c.run;
            };
        standing = held.standing;
        once = held.once;
      }
    where
      every_link : (es : List ℕ) → All (λ e. follower (tables pool t.ends) e ≡ follower t e) es
      every_link [] = tt
      every_link (e ∷ es) = (same e, every_link es)

  module _ (rank list : ℕ) (r : Rank rank) (l : list < lists_of_rank) where
    rows : (es : List ℕ) → All (Standing owner rank list) es → All (Row max_items) es
    rows = all_map (Standing owner rank list) (Row max_items) (λ e s. s.named)

    -- An entry that stands in no list joins one.
    pub chained_linked : (e : ℕ) → Row max_items e → ((r l : ℕ) → All (λ x. x ≢ e) (entries r l)) →
        Chained (linked t rank list e) (put₂ entries rank list (entries rank list ++ e ∷ [])) (put owner e (rank, list))
    chained_linked e named free =
        let es : List ℕ = entries rank list in
        let chain = held.chains rank list r l in
        let standing = held.standing rank list in
        exchanged (put owner e (rank, list)) (es ++ e ∷ []) held (linked_changed t held.pool_shape held.ends_shape rank list e)
        (linked_chain t held.pool_shape held.ends_shape rank list r l es e chain (rows es standing) (held.once rank list) named (free rank list))
        (all_append (Standing (put owner e (rank, list)) rank list) es (e ∷ []) (moved rank list)
        (record { named = named; place = put_same owner e (rank, list) }, tt))
        (once_more es e (held.once rank list) (free rank list))
        (λ k m n.
        all_both (λ x. x ≢ end_of t rank (tail_end list)) (λ x. x ≢ e) (λ x. (x ≢ end_of t rank (tail_end list)) × (x ≢ e)) (λ x p q. (p, q))
        (entries k m)
        (rw chain.tail (apart_last owner n es (entries k m) standing (held.standing k m))) (free k m))
        (λ k m n. moved k m)
      where
        moved : (k m : ℕ) → All (Standing (put owner e (rank, list)) k m) (entries k m)
        moved k m =
            all_both (Standing owner k m) (λ x. x ≢ e) (Standing (put owner e (rank, list)) k m)
            (λ x s n. record { named = s.named; place = put_other owner e (rank, list) x n ∙ s.place })
            (entries k m) (held.standing k m) (free k m)

    -- An entry leaves its list from any place, and stands in none then.
    module _ (xs : List ℕ) (e : ℕ) (ys : List ℕ) (split : entries rank list ≡ xs ++ e ∷ ys) where
      standing : All (Standing owner rank list) (xs ++ e ∷ ys)
      standing = subst (All (Standing owner rank list)) split (held.standing rank list)

      once : Once (xs ++ e ∷ ys)
      once = subst Once split (held.once rank list)

      pub chained_unlinked : Chained (unlinked t rank list (last_or 0 xs) e) (put₂ entries rank list (xs ++ ys)) owner
      chained_unlinked =
          exchanged owner (xs ++ ys) held (unlinked_changed t held.pool_shape held.ends_shape rank list (last_or 0 xs) e)
          (unlinked_chain t held.pool_shape held.ends_shape rank list r l xs e ys (subst (Chain t rank list) split (held.chains rank list r l))
          (rows (xs ++ e ∷ ys) standing) once)
          (all_but (Standing owner rank list) xs e ys standing)
          (once_but xs e ys once)
          (λ k m n.
          all_both (λ x. x ≢ last_or 0 xs) (λ x. x ≢ e) (λ x. (x ≢ last_or 0 xs) × (x ≢ e)) (λ x p q. (p, q)) (entries k m)
          (apart_last owner n xs (entries k m) (all_left (Standing owner rank list) xs (e ∷ ys) standing) (held.standing k m))
          (apart_all owner n e (all_middle (Standing owner rank list) xs e ys standing) (entries k m) (held.standing k m)))
          (λ k m n. held.standing k m)

      pub unlinked_free : (k m : ℕ) → All (λ x. x ≢ e) (put₂ entries rank list (xs ++ ys) k m)
      unlinked_free =
          put₂_all entries rank list (xs ++ ys) (λ k m es. All (λ x. x ≢ e) es) (once_apart xs e ys once)
          (λ k m n. apart_all owner n e (all_middle (Standing owner rank list) xs e ys standing) (entries k m) (held.standing k m))
