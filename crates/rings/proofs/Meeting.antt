-- The search, step by step: a group that is met for the first time, or again as far; a group whose arrows are all gone back; and what is known of the
-- groups that lie nearer than all that are left.
use Prim.Native.Nat.{ℕ, zero, suc, ◌+◌, ◌-◌, ◌≤◌, ◌<◌, min}
use mathlib.Core.Path.{◌≡◌, refl, sym, ap, ◌∙◌, subst}
use mathlib.Core.List.{List}
use mathlib.Core.Logic.{⊎_elim}
use native.Mathlib.Nat.{min-le_left}
use native.Mathlib.Omega.{arith}
use lib.Dec.{eqb, ltb}
use borrow.Author.Tests.{eqb-true, eqb-false, ltb-true, ltb-false}
use Rattle.model.specs.HappensBefore.{Edge, ◌⟶◌}
use Rattle.model.specs.Lists.{◌∈◌}
use Rattle.model.proofs.Laws.{decided}
use Rattle.ordering.specs.Walks.{Walk, stay, step, Passes}
use Rattle.ordering.proofs.Lengths.{walk_join}
use Rattle.ordering.proofs.Passing.{passes_walk, passes_step}
use Rattle.ordering.proofs.WalkBack.{min_either}
use Rattle.rings.specs.Searches.{State}

-- What stood in the queue up to a place stands there still, as far and with the same lowest group.
pub record Kept (at : ℕ) (D L Q D' L' Q' : ℕ → ℕ) : Type 0 where
  pub place : (j : ℕ) → j ≤ at → Q' j ≡ Q j
  pub lies : (j : ℕ) → j ≤ at → D' (Q j) ≡ D (Q j)
  pub low : (j : ℕ) → j ≤ at → L' (Q j) ≡ L (Q j)

module _ (F : List Edge) (root at end : ℕ) (D L Q : ℕ → ℕ) (s : State F root at end D L Q) where
  -- The way from a group, by an arrow to the one that is gone back from, passes the lower of both.
  module _ (ahead : at < end) (x : ℕ) (arrow : x ⟶ Q at ∈ F) where
    on_way : Passes F (D (Q at)) x (L (Q at)) root
    on_way =
        let n = s.entries at ahead in
        subst (λ (k : ℕ). Passes F k x (L (Q at)) root) (omega (arith, n)) (passes_step arrow (s.way (Q at) n))

    own_way : Passes F (D (Q at)) x x root
    own_way = record { i = 0; j = D (Q at); to = stay refl; on = passes_walk on_way; whole = omega arith }

    lower_way : {a : ℕ} → Passes F (D (Q at)) x a root → Passes F (D (Q at)) x (min a (L (Q at))) root
    lower_way {a} p =
        ⊎_elim
        (λ m. subst (λ (z : ℕ). Passes F (D (Q at)) x z root) (sym m) p)
        (λ m. subst (λ (z : ℕ). Passes F (D (Q at)) x z root) (sym m) on_way)
        (min_either a (L (Q at)))

  -- It is met for the first time.
  module _ (ahead : at < end) (x : ℕ) (arrow : x ⟶ Q at ∈ F) (new : D x ≡ 0) (D' L' Q' : ℕ → ℕ) (D-new : D' x ≡ D (Q at) + 1)
      (D-old : (y : ℕ) → ¬ (y ≡ x) → D' y ≡ D y) (L-new : L' x ≡ min x (L (Q at))) (L-old : (y : ℕ) → ¬ (y ≡ x) → L' y ≡ L y)
      (Q-new : Q' end ≡ x) (Q-old : (j : ℕ) → ¬ (j ≡ end) → Q' j ≡ Q j) where
    other : {y : ℕ} → ¬ (D y ≡ 0) → ¬ (y ≡ x)
    other {y} n e = n (ap D e ∙ new)

    far : {y : ℕ} → ¬ (D y ≡ 0) → D' y ≡ D y
    far {y} n = D-old y (other n)

    low : {y : ℕ} → ¬ (D y ≡ 0) → L' y ≡ L y
    low {y} n = L-old y (other n)

    place : (j : ℕ) → j < end → Q' j ≡ Q j
    place j h = Q-old j (λ e. omega (arith, e, h))

    entry : (j : ℕ) → j < end → D' (Q' j) ≡ D (Q j)
    entry j h = ap D' (place j h) ∙ far (s.entries j h)

    last : D' (Q' end) ≡ D (Q at) + 1
    last = ap D' Q-new ∙ D-new

    by_end : {P : ℕ → Type 0} → ((j : ℕ) → j < end → P j) → P end → (j : ℕ) → j < suc end → P j
    by_end {P} front final j h =
        decided (ltb j end) (λ t. front j (ltb-true j end t)) (λ t. let e : end ≡ j = omega (arith, h, ltb-false j end t) in subst P e final)

    by_new : {P : ℕ → Type 0} → P x → ((y : ℕ) → ¬ (D y ≡ 0) → P y) → (y : ℕ) → ¬ (D' y ≡ 0) → P y
    by_new {P} own rest y n =
        decided (eqb y x)
        (λ t. subst P (sym (eqb-true y x t)) own)
        (λ t. rest y (λ z. n (D-old y (eqb-false y x t) ∙ z)))

    new_way : Passes F (D' x - 1) x (L' x) root
    new_way =
        let e : D (Q at) ≡ D' x - 1 = omega (arith, D-new) in
        subst (λ (k : ℕ). Passes F k x (L' x) root) e
        (subst (λ (z : ℕ). Passes F (D (Q at)) x z root) (sym L-new) (lower_way ahead x arrow (own_way ahead x arrow)))

    old_way : (y : ℕ) → ¬ (D y ≡ 0) → Passes F (D' y - 1) y (L' y) root
    old_way y n =
        subst (λ (k : ℕ). Passes F (k - 1) y (L' y) root) (sym (far n)) (subst (λ (z : ℕ). Passes F (D y - 1) y z root) (sym (low n)) (s.way y n))

    pub fresh_kept : Kept at D L Q D' L' Q'
    fresh_kept =
        let n : (j : ℕ) → j ≤ at → ¬ (D (Q j) ≡ 0) = λ j h. s.entries j (omega (arith, h, ahead)) in
        record { place = λ j h. place j (omega (arith, h, ahead)); lies = λ j h. far (n j h); low = λ j h. low (n j h) }

    pub state_fresh : State F root at (suc end) D' L' Q'
    state_fresh =
        record {
          within = omega (arith, ahead);
          first = far (λ z. omega (arith, z, s.first)) ∙ s.first;
          way = by_new {P = λ y. Passes F (D' y - 1) y (L' y) root} new_way old_way;
          under = by_new {P = λ y. L' y ≤ y} (omega (arith, L-new, min-le_left x (L (Q at)))) (λ y n. omega (arith, low n, s.under y n));
          queued = λ y n. by_new {P = λ z. (j : ℕ) × (j < suc end) × (Q' j ≡ z)}
              (end, omega arith, Q-new)
              (λ z k. let (j, h, q) = s.queued z k in (j, omega (arith, h), place j h ∙ q)) y n;
          entries = by_end {P = λ j. ¬ (D' (Q' j) ≡ 0)}
              (λ j h z. s.entries j h (sym (entry j h) ∙ z))
              (λ z. omega (arith, z, last));
          rising = λ i j le h. by_end {P = λ k. i ≤ k → D' (Q' i) ≤ D' (Q' k)}
              (λ k b c. omega (arith, entry k b, entry i (omega (arith, b, c)), s.rising i k c b))
              (λ c. by_end {P = λ k. D' (Q' k) ≤ D' (Q' end)}
              (λ k b. omega (arith, entry k b, last, s.near at k (omega arith) ahead b)) (omega arith) i (omega (arith, c))) j h le;
          near = λ i j low hi hj.
              by_end {P = λ k. at ≤ k → D' (Q' j) ≤ D' (Q' k) + 1}
              (λ k b c. by_end {P = λ l. D' (Q' l) ≤ D' (Q' k) + 1}
              (λ l d. omega (arith, entry l d, entry k b, s.near k l c b d))
              (omega (arith, last, entry k b, s.rising at k c b)) j hj)
              (λ c. by_end {P = λ l. D' (Q' l) ≤ D' (Q' end) + 1}
              (λ l d. omega (arith, entry l d, last, s.near at l (omega arith) ahead d)) (omega arith) j hj)
              i hi low;
          behind = λ j y h a.
              let b : j < end = omega (arith, h, ahead) in
              let n = s.entries j b in
              let (seen, le, lowest) = s.behind j y h (subst (λ (k : ℕ). y ⟶ k ∈ F) (place j b) a) in
              let low_there : L' (Q' j) ≡ L (Q j) = ap L' (place j b) ∙ low n in (
                (λ z. seen (sym (far seen) ∙ z)),
                omega (arith, far seen, entry j b, le),
                (λ e. omega (arith, low seen, low_there, lowest (omega (arith, e, far seen, entry j b)))),
              );
        }

  -- It is met again, as far.
  module _ (ahead : at < end) (x : ℕ) (arrow : x ⟶ Q at ∈ F) (level : D x ≡ D (Q at) + 1) (L' : ℕ → ℕ) (L-new : L' x ≡ min (L x) (L (Q at)))
      (L-old : (y : ℕ) → ¬ (y ≡ x) → L' y ≡ L y) where
    -- What lies no farther than the group that is gone back from is another.
    nearer_low : {y : ℕ} → D y ≤ D (Q at) → L' y ≡ L y
    nearer_low {y} h = L-old y (λ e. omega (arith, ap D e, level, h))

    fallen : (y : ℕ) → L' y ≤ L y
    fallen y =
        decided (eqb y x)
        (λ t. let e : y ≡ x = eqb-true y x t in omega (arith, ap L' e, ap L e, L-new, min-le_left (L x) (L (Q at))))
        (λ t. omega (arith, L-old y (eqb-false y x t)))

    pub again_kept : Kept at D L Q D L' Q
    again_kept = record { place = λ j h. refl; lies = λ j h. refl; low = λ j h. nearer_low (s.rising j at h ahead) }

    pub state_again : State F root at end D L' Q
    state_again =
        record {
          within = s.within;
          first = s.first;
          way = λ y n. decided (eqb y x)
              (λ t. let e : y ≡ x = eqb-true y x t in
              subst (λ (z : ℕ). Passes F (D z - 1) z (L' z) root) (sym e)
              (subst (λ (z : ℕ). Passes F (D x - 1) x z root) (sym L-new)
              (subst (λ (k : ℕ). Passes F k x (min (L x) (L (Q at))) root) (omega (arith, level))
              (lower_way ahead x arrow (subst (λ (k : ℕ). Passes F k x (L x) root) (omega (arith, level)) (s.way x (λ z. omega (arith, z, level))))))))
              (λ t. subst (λ (z : ℕ). Passes F (D y - 1) y z root) (sym (L-old y (eqb-false y x t))) (s.way y n));
          under = λ y n. omega (arith, fallen y, s.under y n);
          queued = s.queued;
          entries = s.entries;
          rising = s.rising;
          near = s.near;
          behind = λ j y h a.
              let (seen, le, lowest) = s.behind j y h a in
              let same : L' (Q j) ≡ L (Q j) = nearer_low (s.rising j at (omega (arith, h)) ahead) in
              (seen, le, (λ e. omega (arith, fallen y, same, lowest e)));
        }

  -- All arrows into the group were gone back.
  pub state_next : at < end →
      ((x : ℕ) → x ⟶ Q at ∈ F → (¬ (D x ≡ 0)) × (D x ≤ D (Q at) + 1) × (D x ≡ D (Q at) + 1 → L x ≤ L (Q at))) → State F root (suc at) end D L Q
  state_next ahead done =
      record {
        within = ahead;
        first = s.first;
        way = s.way;
        under = s.under;
        queued = s.queued;
        entries = s.entries;
        rising = s.rising;
        near = λ i j low. s.near i j (omega (arith, low));
        behind = λ j x h a.
            decided (eqb j at)
            (λ t. let e : j ≡ at = eqb-true j at t in
            subst (λ (k : ℕ). (¬ (D x ≡ 0)) × (D x ≤ D (Q k) + 1) × (D x ≡ D (Q k) + 1 → L x ≤ L (Q k))) (sym e)
            (done x (subst (λ (k : ℕ). x ⟶ Q k ∈ F) e a)))
            (λ t. let n : ¬ (j ≡ at) = eqb-false j at t in s.behind j x (omega (arith, h, n)) a);
      }

  -- Nothing that is left lies as near as m.
  abbrev pub Beyond : (m : ℕ) → Type 0
  Beyond m = (i : ℕ) → at ≤ i → i < end → m < D (Q i)

  beyond_less : {m n : ℕ} → n ≤ m → Beyond m → Beyond n
  beyond_less le bound i low b = omega (arith, le, bound i low b)

  -- Of a group that lies so near the arrows in were gone back.
  pub gone_back : (m h : ℕ) → Beyond m → ¬ (D h ≡ 0) → D h ≤ m → (j : ℕ) × (j < at) × (Q j ≡ h)
  gone_back m h bound n le =
      let (j, b, q) = s.queued h n in
      decided (ltb j at)
      (λ t. (j, ltb-true j at t, q))
      (λ t. absurd (omega (arith, bound j (omega (arith, ltb-false j at t)) b, ap D q, le)))

  pub state_complete : (m x : ℕ) → Beyond m → Walk F m x root → (¬ (D x ≡ 0)) × (D x ≤ m + 1)
  state_complete zero x bound (stay e) =
      let d : D x ≡ 1 = ap D e ∙ s.first in ((λ z. omega (arith, z, d)), omega (arith, d))
  state_complete (suc m) x bound (step {h = h} a w) =
      let (n, le) = state_complete m h (beyond_less (omega arith) bound) w in
      let (j, b, q) = gone_back (suc m) h bound n (omega (arith, le)) in
      let (seen, near, low) = s.behind j x b (subst (λ (k : ℕ). x ⟶ k ∈ F) (sym q) a) in
      (seen, omega (arith, near, ap D q, le))

  -- A way that is as short as there is passes no group lower than the one noted.
  pub state_lowest : (i j x z : ℕ) → Beyond (i + j) → D x ≡ i + j + 1 → Walk F i x z → Walk F j z root → L x ≤ z
  state_lowest zero j x z bound d (stay e) v = omega (arith, e, s.under x (λ n. omega (arith, n, d)))
  state_lowest (suc i) j x z bound d (step {h = h} a w) v =
      let sum : i + j ≤ suc i + j = omega arith in
      let (n, le) = state_complete (i + j) h (beyond_less sum bound) (walk_join w v) in
      let (l, b, q) = gone_back (suc i + j) h bound n (omega (arith, le)) in
      let (seen, near, low) = s.behind l x b (subst (λ (k : ℕ). x ⟶ k ∈ F) (sym q) a) in
      let lies : D h ≡ i + j + 1 = omega (arith, le, near, ap D q, d) in
      omega (arith, low (omega (arith, ap D q, lies, d)), ap L q, state_lowest i j h z (beyond_less sum bound) lies w v)
