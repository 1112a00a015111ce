-- Link and unlink on one list: the tables hold the list with the entry at its end, and the list without the entry, wherever it stood.
use Prim.Native.Nat.{ℕ, ◌<◌}
use mathlib.Core.Path.{◌≡◌, sym, ap, subst, ◌∙◌}
use mathlib.Core.Logic.{◌≢◌}
use mathlib.Core.List.{List, [], ◌∷◌, ◌++◌, append-nil}
use native.Mathlib.Omega.{arith}
use lib.Dec.{eqb}
use borrow.Author.Tests.{ne_eqb}
use Rattle.model.specs.Limits.{max_items}
use Rattle.model.specs.Choice.{when}
use Rattle.memory.specs.Tables.{Row, Rank, Shaped}
use Rattle.memory.proofs.Stores.{shaped, number_same, number_other}
use Rattle.entries.specs.Entries.{pool_size, link_field}
use Rattle.links.specs.declared.Part.{Part}
use Rattle.links.specs.declared.Queues.{Queues}
use Rattle.links.specs.Lists.{ends_size, lists_of_rank, list_of, head_end, tail_end, next_of}
use Rattle.links.specs.Lists.{follower, end_of, with_field, with_end, next_set, linked, unlinked}
use Rattle.links.specs.Chains.{first, last_or, All, Once, Run, Chain}
use Rattle.links.proofs.EntryLists.{all_left, all_right, all_last, all_map, all_of}
use Rattle.links.proofs.EntryLists.{once_left, once_across, last_append, run_kept, run_right, run_exchanged}
use Rattle.links.proofs.Changes.{head_no_tail, tail_held, next_changed, next_follower, next_head, next_ends, next_tail}

-- The next entry of a queue's part is its list's first, where a search begins.
pub next_told : {t : Queues} {rank : ℕ} {es : List ℕ} (queue : ℕ) (part : Part) → Chain t rank (list_of queue part) es →
    next_of t.ends rank queue part ≡ first es
next_told queue part chain = chain.head

-- The last of some named entries is named, if there is one.
last_named : (x : ℕ) (xs : List ℕ) → All (Row max_items) (x ∷ xs) → Row max_items (last_or x xs)
last_named x xs (r, rs) = all_last (Row max_items) x xs r rs

named_not_zero : (e : ℕ) → Row max_items e → e ≢ 0
named_not_zero e r p = omega (arith, p, r.first)

-- Another list follows the first entries of a list.
module _ (t : Queues) (pool_shape : Shaped pool_size t.pool) (ends_shape : Shaped ends_size t.ends)
    (rank list : ℕ) (r : Rank rank) (l : list < lists_of_rank) (xs old more : List ℕ) (named : All (Row max_items) xs) where
  abbrev redirected : Queues
  redirected = next_set t rank list (last_or 0 xs) (first more)

  redirected_head : end_of t rank (head_end list) ≡ first (xs ++ old) → end_of redirected rank (head_end list) ≡ first (xs ++ more)
  redirected_head h = by_first xs named h
    where
      by_first : (ys : List ℕ) → All (Row max_items) ys → end_of t rank (head_end list) ≡ first (ys ++ old) →
          end_of (next_set t rank list (last_or 0 ys) (first more)) rank (head_end list) ≡ first (ys ++ more)
      by_first [] n e = next_head t rank list (first more) ends_shape r l
      by_first (y ∷ ys) n e = next_ends t rank list (first more) (last_or y ys) (named_not_zero _ (last_named y ys n)) rank (head_end list) ∙ e

  redirected_run : Once xs → Run (follower t) (xs ++ old) → Run (follower redirected) more → Run (follower redirected) (xs ++ more)
  redirected_run o run rest =
      let changed = next_changed t pool_shape ends_shape rank list (last_or 0 xs) (last_or 0 xs) (first more) in
      run_exchanged (follower t) (follower redirected) xs old more o run
      (all_of (λ x. x ≢ last_or 0 xs → follower redirected x ≡ follower t x) (λ x n. changed.links x n n) xs)
      (all_map (Row max_items) (λ x. x ≡ last_or 0 xs → follower redirected x ≡ first more)
      (λ x h p.
      ap (follower redirected) p
      ∙ next_follower t rank list (first more) pool_shape (last_or 0 xs) (subst (Row max_items) p h)) xs named)
      rest

module _ (t : Queues) (pool_shape : Shaped pool_size t.pool) (ends_shape : Shaped ends_size t.ends)
    (rank list : ℕ) (r : Rank rank) (l : list < lists_of_rank) where
  pub linked_chain : (es : List ℕ) (e : ℕ) → Chain t rank list es → All (Row max_items) es → Once es → Row max_items e → All (λ x. x ≢ e) es →
      Chain (linked t rank list e) rank list (es ++ e ∷ [])
  unfolding linked
  linked_chain es e chain named o here free =
      let t₁ : Queues = with_field t e link_field 0 in
      let shape₁ = shaped pool_size t.pool e link_field 0 pool_shape in
      let t₂ : Queues = next_set t₁ rank list (last_or 0 es) e in
      let changed = next_changed t₁ shape₁ ends_shape rank list (last_or 0 es) (last_or 0 es) e in
      let run₁ : Run (follower t₁) es =
      run_kept (follower t) (follower t₁) es
      (all_map (λ x. x ≢ e) (λ x. follower t₁ x ≡ follower t x)
      (λ x n. number_other pool_size t.pool e link_field 0 x link_field (λ (p, _). n p)) es free) chain.run in
      let apart : e ≢ last_or 0 es =
      λ p. all_last (λ x. x ≢ e) 0 es (λ z. named_not_zero e here (sym z)) free (sym p) in
      let ends_in_none : follower t₂ e ≡ 0 =
      changed.links e apart apart ∙ number_same pool_size t.pool e link_field 0 pool_shape here (omega arith) in
      rw chain.tail
      (record {
        head =
            number_other ends_size t₂.ends rank (tail_end list) e rank (head_end list) (λ (_, q). head_no_tail list list q)
            ∙ redirected_head t₁ shape₁ ends_shape rank list r l es [] (e ∷ []) named (rw append-nil chain.head);
        tail =
            number_same ends_size t₂.ends rank (tail_end list) e changed.ends_shape r (tail_held list l)
            ∙ sym (last_append 0 es (e ∷ []));
        run = redirected_run t₁ shape₁ ends_shape rank list r l es [] (e ∷ []) named o (rw append-nil run₁) (ends_in_none, tt);
      })

  pub unlinked_chain : (xs : List ℕ) (e : ℕ) (ys : List ℕ) → Chain t rank list (xs ++ e ∷ ys) → All (Row max_items) (xs ++ e ∷ ys) →
      Once (xs ++ e ∷ ys) → Chain (unlinked t rank list (last_or 0 xs) e) rank list (xs ++ ys)
  unfolding unlinked
  unlinked_chain xs e ys chain named o =
      let behind = run_right (follower t) xs (e ∷ ys) chain.run in
      rw behind.0 (by_next ys (all_right (Row max_items) xs (e ∷ ys) named).1 behind o chain.head chain.tail chain.run)
    where
      front : All (Row max_items) xs
      front = all_left (Row max_items) xs (e ∷ ys) named

      -- The entries behind keep their links.
      rest_runs : (zs : List ℕ) → All (Row max_items) zs → Once (xs ++ e ∷ zs) → Run (follower t) zs →
          Run (follower (next_set t rank list (last_or 0 xs) (first zs))) zs
      rest_runs zs rows once run =
          let last : ℕ = last_or 0 xs in
          let changed = next_changed t pool_shape ends_shape rank list last last (first zs) in
          let apart : All (λ y. y ≢ last) zs =
          all_last (λ x. All (λ y. y ≢ x) zs) 0 xs (all_map (Row max_items) (λ y. y ≢ 0) named_not_zero zs rows)
          (all_map (λ x. All (λ y. y ≢ x) (e ∷ zs)) (λ x. All (λ y. y ≢ x) zs) (λ x h. h.1) xs (once_across xs (e ∷ zs) once)) in
          run_kept (follower t) (follower (next_set t rank list last (first zs))) zs
          (all_map (λ y. y ≢ last) (λ y. follower (next_set t rank list last (first zs)) y ≡ follower t y) (λ y n. changed.links y n n) zs apart) run

      by_next : (zs : List ℕ) → All (Row max_items) zs → Run (follower t) (e ∷ zs) → Once (xs ++ e ∷ zs) →
          end_of t rank (head_end list) ≡ first (xs ++ e ∷ zs) → end_of t rank (tail_end list) ≡ last_or 0 (xs ++ e ∷ zs) →
          Run (follower t) (xs ++ e ∷ zs) →
          Chain
          (when (eqb (first zs) 0)
          (λ _. with_end (next_set t rank list (last_or 0 xs) (first zs)) rank (tail_end list) (last_or 0 xs))
          (λ _. next_set t rank list (last_or 0 xs) (first zs)))
          rank list (xs ++ zs)
      by_next [] rows behind once head tail run =
          let t₁ : Queues = next_set t rank list (last_or 0 xs) 0 in
          let changed = next_changed t pool_shape ends_shape rank list (last_or 0 xs) (last_or 0 xs) 0 in
          record {
            head =
                number_other ends_size t₁.ends rank (tail_end list) (last_or 0 xs) rank (head_end list) (λ (_, q). head_no_tail list list q)
                ∙ redirected_head t pool_shape ends_shape rank list r l xs (e ∷ []) [] front head;
            tail =
                number_same ends_size t₁.ends rank (tail_end list) (last_or 0 xs) changed.ends_shape r (tail_held list l)
                ∙ sym (last_append 0 xs []);
            run = redirected_run t pool_shape ends_shape rank list r l xs (e ∷ []) [] front (once_left xs (e ∷ []) once) run tt;
          }
      by_next (z ∷ zs) rows behind once head tail run =
          rw (ne_eqb z 0 (named_not_zero z rows.0))
          (record {
            head = redirected_head t pool_shape ends_shape rank list r l xs (e ∷ z ∷ zs) (z ∷ zs) front head;
            tail =
                next_tail t rank list z (last_or 0 xs)
                ∙ tail
                ∙ last_append 0 xs (e ∷ z ∷ zs)
                ∙ sym (last_append 0 xs (z ∷ zs));
            run =
                redirected_run t pool_shape ends_shape rank list r l xs (e ∷ z ∷ zs) (z ∷ zs) front (once_left xs (e ∷ z ∷ zs) once) run
                (rest_runs (z ∷ zs) rows once behind.1);
          })
