-- The definitions of `Chains` by cases, as the code meets them.
use Rattle.std.specs.Prelude.{Some, None}
use Prim.Native.Nat.{ℕ, zero, suc, ◌-◌, ◌≤◌, ◌<◌}
use mathlib.Core.Path.{◌≡◌, refl, sym}
use mathlib.Core.List.{List}
use native.Mathlib.Omega.{arith}
use lib.Dec.{ltb}
use lib.ListN.{length, get_or, set, get_or-eq_default}
use borrow.Author.Tests.{lt-ltb, le-ltb}
use Rattle.model.proofs.Laws.{decided}
use Rattle.model.proofs.Options.{none-ne-some, some-injective}
use Rattle.chains.specs.Chains.{Pushed, slot_of, heads_after, links_after, older_in}

-- The place of a member's link is one less than its name.
pub slot_is : {member slot : ℕ} → Some slot ≡ slot_of member → (0 < member) × (slot ≡ member - 1)
slot_is {member = zero} h = absurd (none-ne-some _ (sym h))
slot_is {member = suc slot} h = let e = some-injective _ _ h in (omega arith, omega (arith, e))

pub no_slot : {member : ℕ} → None ≡ slot_of member → member ≡ 0
no_slot {member = zero} h = refl
no_slot {member = suc slot} h = absurd (none-ne-some _ h)

-- A push with room, and without.
module _ (heads links : List ℕ) (key member : ℕ) where
  pub pushed_inside : 0 < member → key < length heads → member - 1 < length links →
      Pushed heads links (set heads key member) (set links (member - 1) (get_or heads key 0)) key member
  unfolding heads_after links_after
  pushed_inside p k m =
      record {
        heads_after_lem = rw (lt-ltb _ _ p, lt-ltb _ _ k, lt-ltb _ _ m);
        links_after_lem = rw (lt-ltb _ _ p, lt-ltb _ _ k, lt-ltb _ _ m);
      }

  pub pushed_at : {slot : ℕ} → Some slot ≡ slot_of member → key < length heads → slot < length links →
      Pushed heads links (set heads key member) (set links slot (get_or heads key 0)) key member
  pushed_at h k m = let (p, e) = slot_is h in rw e (pushed_inside p k (rw e at m))

  pub pushed_none : None ≡ slot_of member → Pushed heads links heads links key member
  unfolding heads_after links_after
  pushed_none h = let e = no_slot h in record { heads_after_lem = rw e; links_after_lem = rw e }

  pub pushed_no_key : length heads ≤ key → Pushed heads links heads links key member
  unfolding heads_after links_after
  pushed_no_key k =
      decided (ltb 0 member)
      (λ t. record { heads_after_lem = rw (t, le-ltb _ _ k); links_after_lem = rw (t, le-ltb _ _ k) })
      (λ t. record { heads_after_lem = rw t; links_after_lem = rw t })

  pub pushed_no_slot : {slot : ℕ} → Some slot ≡ slot_of member → key < length heads → length links ≤ slot →
      Pushed heads links heads links key member
  unfolding heads_after links_after
  pushed_no_slot h k m =
      let (p, e) = slot_is h in
      record {
        heads_after_lem = rw (lt-ltb _ _ p, lt-ltb _ _ k, le-ltb _ _ (rw e at m));
        links_after_lem = rw (lt-ltb _ _ p, lt-ltb _ _ k, le-ltb _ _ (rw e at m));
      }

-- The member below another.
module _ (links : List ℕ) (member : ℕ) where
  pub older_none : member ≡ 0 → 0 ≡ older_in links member
  unfolding older_in
  older_none e = rw (e, le-ltb (get_or links 0 0) 0 (omega arith))

  pub older_falls : get_or links (member - 1) 0 < member → get_or links (member - 1) 0 ≡ older_in links member
  unfolding older_in
  older_falls h = rw (lt-ltb _ _ h)

  pub older_ends : member ≤ get_or links (member - 1) 0 → 0 ≡ older_in links member
  unfolding older_in
  older_ends h = rw (le-ltb _ _ h)

  older_outside : length links ≤ member - 1 → 0 ≡ older_in links member
  unfolding older_in
  older_outside h =
      let none : get_or links (member - 1) 0 ≡ 0 = get_or-eq_default links 0 h in
      decided (ltb (get_or links (member - 1) 0) member) (λ t. rw t (sym none)) (λ t. rw t)

  pub older_at : {slot : ℕ} → Some slot ≡ slot_of member → get_or links slot 0 < member → get_or links slot 0 ≡ older_in links member
  older_at h l = let (p, e) = slot_is h in rw e (older_falls (rw e at l))

  pub older_stays : {slot : ℕ} → Some slot ≡ slot_of member → member ≤ get_or links slot 0 → 0 ≡ older_in links member
  older_stays h l = let (p, e) = slot_is h in older_ends (rw e at l)

  pub older_beyond : {slot : ℕ} → Some slot ≡ slot_of member → length links ≤ slot → 0 ≡ older_in links member
  older_beyond h l = let (p, e) = slot_is h in older_outside (rw e at l)
