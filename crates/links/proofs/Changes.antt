-- What link and unlink change in the tables: the ends of one list, the link of the entry before, and the entry's own. All else stays.
use Prim.Native.Nat.{ℕ, ◌<◌}
use mathlib.Core.Path.{◌≡◌, refl, ◌∙◌}
use mathlib.Core.Logic.{◌≢◌}
use native.Mathlib.Omega.{arith}
use lib.Dec.{eqb}
use borrow.Author.Tests.{ne_eqb}
use Rattle.model.specs.Limits.{max_items}
use Rattle.model.proofs.Laws.{decided}
use Rattle.memory.specs.Tables.{Row, Rank, Shaped}
use Rattle.memory.proofs.Stores.{shaped, number_same, number_other}
use Rattle.entries.specs.Entries.{pool_size, link_field}
use Rattle.links.specs.declared.Queues.{Queues}
use Rattle.links.specs.Lists.{ends_size, lists_of_rank, head_end, tail_end, field_of}
use Rattle.links.specs.Lists.{follower, end_of, with_field, with_end, next_set, linked, unlinked}

-- The ends of a list are among those of its rank, and no two lists have one in common.
module _ (list : ℕ) (l : list < lists_of_rank) where
  pub head_held : head_end list < ends_size.width
  head_held = omega arith

  pub tail_held : tail_end list < ends_size.width
  tail_held = omega arith

pub head_no_tail : (list other : ℕ) → head_end list ≢ tail_end other
head_no_tail list other p = omega (arith, p)

pub tail_no_head : (list other : ℕ) → tail_end list ≢ head_end other
tail_no_head list other p = omega (arith, p)

-- A table after some changes, where only the links of two entries and the ends of one list may differ.
pub record Changed (t t' : Queues) (rank list previous entry : ℕ) : Type 0 where
  pub pool_shape : Shaped pool_size t'.pool
  pub ends_shape : Shaped ends_size t'.ends
  pub links : (e : ℕ) → e ≢ previous → e ≢ entry → follower t' e ≡ follower t e
  pub fields : (e field : ℕ) → field ≢ link_field → field_of t' e field ≡ field_of t e field
  pub heads : (r l : ℕ) → ¬ ((r ≡ rank) × (l ≡ list)) → end_of t' r (head_end l) ≡ end_of t r (head_end l)
  pub tails : (r l : ℕ) → ¬ ((r ≡ rank) × (l ≡ list)) → end_of t' r (tail_end l) ≡ end_of t r (tail_end l)

-- A change after a change.
pub changed_twice : {t t' t'' : Queues} {rank list previous entry : ℕ} →
    Changed t t' rank list previous entry → Changed t' t'' rank list previous entry → Changed t t'' rank list previous entry
changed_twice one two =
    record {
      pool_shape = two.pool_shape;
      ends_shape = two.ends_shape;
      links = λ e p q. two.links e p q ∙ one.links e p q;
      fields = λ e field n. two.fields e field n ∙ one.fields e field n;
      heads = λ r l n. two.heads r l n ∙ one.heads r l n;
      tails = λ r l n. two.tails r l n ∙ one.tails r l n;
    }

module _ (t : Queues) (pool_shape : Shaped pool_size t.pool) (ends_shape : Shaped ends_size t.ends) (rank list previous entry : ℕ) where
  pub link_changed : (e value : ℕ) → ((x : ℕ) → x ≢ previous → x ≢ entry → x ≢ e) → Changed t (with_field t e link_field value) rank list previous entry
  link_changed e value apart =
      record {
        pool_shape = shaped pool_size t.pool e link_field value pool_shape;
        ends_shape = ends_shape;
        links = λ x p q. number_other pool_size t.pool e link_field value x link_field (λ (same, _). apart x p q same);
        fields = λ x field n. number_other pool_size t.pool e link_field value x field (λ (_, same). n same);
        heads = λ r l n. refl;
        tails = λ r l n. refl;
      }

  head_changed : (value : ℕ) → Changed t (with_end t rank (head_end list) value) rank list previous entry
  head_changed value =
      record {
        pool_shape = pool_shape;
        ends_shape = shaped ends_size t.ends rank (head_end list) value ends_shape;
        links = λ x p q. refl;
        fields = λ x field n. refl;
        heads = λ r l n. number_other ends_size t.ends rank (head_end list) value r (head_end l) (λ (p, q). n (p, omega (arith, q)));
        tails = λ r l n. number_other ends_size t.ends rank (head_end list) value r (tail_end l) (λ (_, q). tail_no_head l list q);
      }

  tail_changed : (value : ℕ) → Changed t (with_end t rank (tail_end list) value) rank list previous entry
  tail_changed value =
      record {
        pool_shape = pool_shape;
        ends_shape = shaped ends_size t.ends rank (tail_end list) value ends_shape;
        links = λ x p q. refl;
        fields = λ x field n. refl;
        heads = λ r l n. number_other ends_size t.ends rank (tail_end list) value r (head_end l) (λ (_, q). head_no_tail l list q);
        tails = λ r l n. number_other ends_size t.ends rank (tail_end list) value r (tail_end l) (λ (p, q). n (p, omega (arith, q)));
      }

  pub next_changed : (next : ℕ) → Changed t (next_set t rank list previous next) rank list previous entry
  unfolding next_set
  next_changed next =
      decided (eqb previous 0)
      (λ z. rw z (head_changed next))
      (λ n. rw n (link_changed previous next (λ x p q. p)))

-- An entry joins a list: the entry before it is the list's last.
pub linked_changed : (t : Queues) → Shaped pool_size t.pool → Shaped ends_size t.ends → (rank list entry : ℕ) →
    Changed t (linked t rank list entry) rank list (end_of t rank (tail_end list)) entry
unfolding linked
linked_changed t pool_shape ends_shape rank list entry =
    let last : ℕ = end_of t rank (tail_end list) in
    let one = link_changed t pool_shape ends_shape rank list last entry entry 0 (λ x p q. q) in
    let t₁ : Queues = with_field t entry link_field 0 in
    let two = next_changed t₁ one.pool_shape one.ends_shape rank list last entry entry in
    let t₂ : Queues = next_set t₁ rank list last entry in
    let three = tail_changed t₂ two.pool_shape two.ends_shape rank list last entry entry in
    changed_twice (changed_twice one two) three

-- An entry leaves a list.
pub unlinked_changed : (t : Queues) → Shaped pool_size t.pool → Shaped ends_size t.ends → (rank list previous entry : ℕ) →
    Changed t (unlinked t rank list previous entry) rank list previous entry
unfolding unlinked
unlinked_changed t pool_shape ends_shape rank list previous entry =
    let one = next_changed t pool_shape ends_shape rank list previous entry (follower t entry) in
    let t₁ : Queues = next_set t rank list previous (follower t entry) in
    decided (eqb (follower t entry) 0)
    (λ z. rw z (changed_twice one (tail_changed t₁ one.pool_shape one.ends_shape rank list previous entry previous)))
    (λ n. rw n one)

-- What a new follower is read back as.
module _ (t : Queues) (rank list next : ℕ) where
  pub next_follower : Shaped pool_size t.pool → (previous : ℕ) → Row max_items previous →
      follower (next_set t rank list previous next) previous ≡ next
  unfolding next_set
  next_follower shape previous r =
      rw (ne_eqb previous 0 (λ e. omega (arith, e, r.first))) (number_same pool_size t.pool previous link_field next shape r (omega arith))

  pub next_head : Shaped ends_size t.ends → Rank rank → list < lists_of_rank → end_of (next_set t rank list 0 next) rank (head_end list) ≡ next
  unfolding next_set
  next_head shape r l = number_same ends_size t.ends rank (head_end list) next shape r (head_held list l)

  pub next_ends : (previous : ℕ) → previous ≢ 0 → (r end : ℕ) → end_of (next_set t rank list previous next) r end ≡ end_of t r end
  unfolding next_set
  next_ends previous n r end = rw (ne_eqb previous 0 n)

  pub next_tail : (previous : ℕ) → end_of (next_set t rank list previous next) rank (tail_end list) ≡ end_of t rank (tail_end list)
  unfolding next_set
  next_tail previous =
      decided (eqb previous 0)
      (λ z. rw z (number_other ends_size t.ends rank (head_end list) next rank (tail_end list) (λ (_, q). tail_no_head list list q)))
      (λ n. rw n)
