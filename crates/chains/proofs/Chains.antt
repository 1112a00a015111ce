-- A push puts a member before its key's list and leaves every other list as it was, since links fall: a list looks only below its first member.
use Prim.Native.Nat.{ℕ, zero, suc, ◌-◌, ◌≤◌, ◌<◌}
use mathlib.Core.Path.{◌≡◌, refl, sym, ap, ◌∙◌}
use mathlib.Core.Bool.{true, false}
use mathlib.Core.List.{List, [], ◌∷◌}
use native.Mathlib.Nat.{not-suc-le-zero}
use native.Mathlib.Omega.{arith}
use lib.Dec.{ltb, eqb}
use lib.ListN.{length, get_or, set, replicate, length-set, length-replicate, get_or-replicate}
use lib.Seq.{get_or-set_same, get_or-set_other}
use borrow.Author.Tests.{ltb-true, ltb-false, eqb-true, eqb-false}
use Rattle.model.specs.Choice.{when}
use Rattle.model.proofs.Laws.{decided}
use Rattle.chains.proofs.Cases.{pushed_inside, older_none, older_falls, older_ends}
use Rattle.chains.specs.Chains.{older_in, members_from, members, heads_after, links_after, Listed}

pub no_members : (links : List ℕ) → members links 0 ≡ []
unfolding members members_from
no_members links = refl

-- The member below is lower.
pub older_lower : (links : List ℕ) (member : ℕ) → 0 < member → older_in links member < member
older_lower links member p =
    decided (ltb (get_or links (member - 1) 0) member)
    (λ t.
    let h = ltb-true _ _ t in
    let e = older_falls links member h in
    omega (arith, e, h))
    (λ t. let e = older_ends links member (ltb-false _ _ t) in omega (arith, e, p))

-- More turns than members change nothing.
turns_enough : (links : List ℕ) (turns turns' member : ℕ) → member ≤ turns → member ≤ turns' →
    members_from turns links member ≡ members_from turns' links member
unfolding members_from
turns_enough links zero zero member h h' = refl
turns_enough links zero (suc turns') member h h' = let e : member ≡ 0 = omega (arith, h) in rw e
turns_enough links (suc turns) zero member h h' = let e : member ≡ 0 = omega (arith, h') in rw e
turns_enough links (suc turns) (suc turns') zero h h' = refl
turns_enough links (suc turns) (suc turns') (suc member) h h' =
    let lower = older_lower links (suc member) (omega arith) in
    ap {B = List ℕ} (λ l. member ∷ l)
    (turns_enough links turns turns' (older_in links (suc member)) (omega (arith, lower, h)) (omega (arith, lower, h')))

-- The list from a member is that member, and the list from the one below it.
pub members_step : (links : List ℕ) (member : ℕ) → members links (suc member) ≡ member ∷ members links (older_in links (suc member))
unfolding members members_from
members_step links member =
    let lower = older_lower links (suc member) (omega arith) in
    ap {B = List ℕ} (λ l. member ∷ l) (turns_enough links member (older_in links (suc member)) (older_in links (suc member)) (omega (arith, lower)) (omega arith))

-- A link that is changed above a member is not in its list.
older_kept : (links : List ℕ) (slot link member : ℕ) → member ≤ slot → older_in (set links slot link) member ≡ older_in links member
unfolding older_in
older_kept links slot link member h =
    decided (eqb member 0)
    (λ t.
    let e : member ≡ 0 = eqb-true member 0 t in
    sym (older_none (set links slot link) member e) ∙ older_none links member e)
    (λ t.
    let n : member ≡ 0 → ⊥ = eqb-false member 0 t in
    let other : get_or (set links slot link) (member - 1) 0 ≡ get_or links (member - 1) 0 =
    get_or-set_other links slot (member - 1) link 0 (λ e. omega (arith, e, h, n)) in
    rw other)

kept_from : (links : List ℕ) (slot link turns member : ℕ) → member ≤ slot →
    members_from turns (set links slot link) member ≡ members_from turns links member
unfolding members_from
kept_from links slot link zero member h = refl
kept_from links slot link (suc turns) zero h = refl
kept_from links slot link (suc turns) (suc member) h =
    let lower = older_lower links (suc member) (omega arith) in
    rw (older_kept links slot link (suc member) h)
    (ap {B = List ℕ} (λ l. member ∷ l) (kept_from links slot link turns (older_in links (suc member)) (omega (arith, lower, h))))

pub members_kept : (links : List ℕ) (slot link member : ℕ) → member ≤ slot → members (set links slot link) member ≡ members links member
unfolding members
members_kept links slot link member h = kept_from links slot link member member h

-- The list from a member that is one.
pub members_first : (links : List ℕ) (member : ℕ) → 0 < member → members links member ≡ (member - 1) ∷ members links (older_in links member)
members_first links zero p = absurd (not-suc-le-zero p)
members_first links (suc member) p =
    let one_less : suc member - 1 ≡ member = omega arith in
    members_step links member ∙ ap {B = List ℕ} (λ m. m ∷ members links (older_in links (suc member))) (sym one_less)

-- Cleared arrays are empty lists.
pub empty_listed : (count : ℕ) (links : List ℕ) → Listed (replicate count 0) links 0 (λ key. [])
empty_listed count links =
    record {
      heads_below = λ key h. rw (head key h) (omega arith);
      lists = λ key h. rw (head key h) (no_members links);
    }
  where
    head : (key : ℕ) → key < length {A = ℕ} (replicate count 0) → get_or {A = ℕ} (replicate count 0) key 0 ≡ 0
    head key h = let l = length-replicate {A = ℕ} count 0 in get_or-replicate count key 0 0 (omega (arith, h, l))

-- The lists of the keys with one exchanged.
abbrev pub exchanged : (ℕ → List ℕ) → (key : ℕ) → List ℕ → ℕ → List ℕ
exchanged f key list k = when (eqb k key) (λ _. list) (λ _. f k)

module _ {heads links : List ℕ} {below : ℕ} {f : ℕ → List ℕ} (so_far : Listed heads links below f) where
  -- No member below a higher number comes in between.
  pub listed_later : {later : ℕ} → below ≤ later → Listed heads links later f
  listed_later {later} b =
      record { heads_below = λ key h. let low = so_far.heads_below key h in omega (arith, low, b); lists = so_far.lists }

  -- One key gets another head, and links change only where no list looks.
  head_listed : (links' : List ℕ) (below' key head : ℕ) (list : List ℕ) → key < length heads → below ≤ below' → head ≤ below' →
      ((member : ℕ) → member ≤ below → members links' member ≡ members links member) → members links' head ≡ list →
      Listed (set heads key head) links' below' (exchanged f key list)
  head_listed links' below' key head list k b low kept new =
      record {
        heads_below = λ j h.
            decided (eqb j key)
            (λ t. rw (own j t) low)
            (λ t. let old = so_far.heads_below j (long j h) in rw (others j t) (omega (arith, old, b)));
        lists = λ j h.
            decided (eqb j key)
            (λ t. rw (t, own j t) new)
            (λ t. rw (t, others j t) (kept (get_or heads j 0) (so_far.heads_below j (long j h)) ∙ so_far.lists j (long j h)));
      }
    where
      long : (j : ℕ) → j < length (set heads key head) → j < length heads
      long j h = let e = length-set heads key head in omega (arith, h, e)

      own : (j : ℕ) → eqb j key ≡ true → get_or (set heads key head) j 0 ≡ head
      own j t = let e : j ≡ key = eqb-true j key t in rw e (get_or-set_same heads key head 0 k)

      others : (j : ℕ) → eqb j key ≡ false → get_or (set heads key head) j 0 ≡ get_or heads j 0
      others j t = get_or-set_other heads key j head 0 (eqb-false j key t)

  -- A list is emptied.
  pub clear_listed : (key : ℕ) → key < length heads → Listed (set heads key 0) links below (exchanged f key [])
  clear_listed key k = head_listed links below key 0 [] k (omega arith) (omega arith) (λ member h. refl) (no_members links)

  -- A member is put before a list.
  module _ (key : ℕ) (k : key < length heads) (m : below < length links) where
    one_less : suc below - 1 ≡ below
    one_less = omega arith

    -- The new member's link is the old head, which is lower.
    newest_link : older_in (set links below (get_or heads key 0)) (suc below) ≡ get_or heads key 0
    newest_link =
        let own : get_or (set links below (get_or heads key 0)) (suc below - 1) 0 ≡ get_or heads key 0 =
        ap (λ s. get_or (set links below (get_or heads key 0)) s 0) one_less ∙ get_or-set_same links below (get_or heads key 0) 0 m in
        let low = so_far.heads_below key k in
        sym (older_falls (set links below (get_or heads key 0)) (suc below) (omega (arith, own, low))) ∙ own

    newest : members (set links below (get_or heads key 0)) (suc below) ≡ below ∷ f key
    newest =
        members_step (set links below (get_or heads key 0)) below
        ∙ rw newest_link
        (ap {B = List ℕ} (λ l. below ∷ l)
        (members_kept links below (get_or heads key 0) (get_or heads key 0) (so_far.heads_below key k) ∙ so_far.lists key k))

    pub push_listed : Listed (heads_after heads links key (suc below)) (links_after heads links key (suc below)) (suc below)
        (exchanged f key (below ∷ f key))
    push_listed =
        let after = pushed_inside heads links key (suc below) (omega arith) k (omega (arith, m)) in
        rw (sym after.heads_after_lem, sym after.links_after_lem, one_less)
        (head_listed (set links below (get_or heads key 0)) (suc below) key (suc below) (below ∷ f key) k (omega arith) (omega arith)
        (λ member h. members_kept links below (get_or heads key 0) member h) newest)
