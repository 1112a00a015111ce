-- How a search begins, goes on and ends. All groups from which fewer than so many arrows lead to the root are met, as far as they lie; so an arrow from
-- the root to a group closes the shortest ways round by that group, and the best of these arrows closes the shortest of all, with the lowest group.
use Prim.Native.Nat.{ℕ, zero, suc, ◌+◌, ◌-◌, ◌≤◌, ◌<◌, min}
use mathlib.Core.Path.{◌≡◌, refl, sym, ap, ◌∙◌, subst}
use mathlib.Core.Logic.{◌⊎◌, inl, inr, ⊎_elim}
use mathlib.Core.List.Memᴰ
use mathlib.Core.List.{List, [], ◌∷◌}
use native.Mathlib.Nat.{min-le_right}
use native.Mathlib.Numerals.{add-one}
use native.Mathlib.Omega.{arith}
use lib.Dec.{eqb, ltb}
use lib.ListN.{length, get_or, set, length-set, replicate, length-replicate, get_or-replicate, get_or-eq_default}
use lib.Seq.{get_or-set_same, get_or-set_other}
use borrow.Author.Tests.{eqb-true, eqb-false, ltb-true, ltb-false}
use Rattle.model.specs.Limits.{max_items}
use Rattle.model.specs.HappensBefore.{Edge, ◌⟶◌}
use Rattle.model.specs.Lists.{◌∈◌}
use Rattle.model.proofs.Laws.{decided}
use Rattle.model.proofs.Lists.{here, there}
use Rattle.memory.specs.Tables.{Table}
use Rattle.chains.specs.Chains.{members}
use Rattle.chains.proofs.Chains.{no_members}
use Rattle.graph.specs.Edges.{target_at}
use Rattle.ordering.specs.Walks.{Walk, stay, step, Passes}
use Rattle.ordering.proofs.Lengths.{walk_join}
use Rattle.ordering.proofs.Passing.{passes_walk, passes_step}
use Rattle.ordering.proofs.WalkBack.{min_either}
use Rattle.indexing.specs.Entries.{entry_at}
use Rattle.indexing.proofs.Entries.{entry_is}
use Rattle.rings.specs.declared.searches.Reached.{Reached}
use Rattle.rings.specs.Searches.{Lists, Onward, among, State, Arrays, numbers, reached_at, Ahead, Back, Explored, Measured}
use Rattle.rings.specs.Searches.{Closing, Beats, Better, ClosesBy, Closes, Ready, Told, Distances, Searched}
use Rattle.rings.proofs.Counting.{ones_set, ones_none}
use Rattle.rings.proofs.Meeting.{Beyond, state_complete, state_lowest}
use Rattle.rings.proofs.Left.{among_keeps, among_within}

-- Only the root is met.
state_begins : (F : List Edge) (root : ℕ) (D L Q : ℕ → ℕ) → D root ≡ 1 → ((x : ℕ) → ¬ (x ≡ root) → D x ≡ 0) → L root ≡ root → Q 0 ≡ root →
    State F root 0 1 D L Q
state_begins F root D L Q one none low first =
    record {
      within = omega arith;
      first = one;
      way = λ x n. let e = only x n in let z : 0 + 0 ≡ D x - 1 = omega (arith, ap D e, one) in
          record { i = 0; j = 0; to = stay (e ∙ sym low ∙ ap L (sym e)); on = stay (ap L e ∙ low); whole = z };
      under = λ x n. let e = only x n in omega (arith, ap L e, low, e);
      queued = λ x n. (0, omega arith, first ∙ sym (only x n));
      entries = λ j h z. let e : j ≡ 0 = omega (arith, h) in omega (arith, z, ap (λ k. D (Q k)) e, ap D first, one);
      rising = λ i j le h. let e : j ≡ 0 = omega (arith, h) in let d : i ≡ j = omega (arith, le, e) in omega (arith, ap (λ k. D (Q k)) d);
      near = λ i j low hi hj. let e : j ≡ i = omega (arith, hi, hj) in omega (arith, ap (λ k. D (Q k)) e);
      behind = λ j x h a. absurd (omega (arith, h));
    }
  where
    only : (x : ℕ) → ¬ (D x ≡ 0) → x ≡ root
    only x n = decided (eqb x root) (λ t. eqb-true x root t) (λ t. absurd (n (none x (eqb-false x root t))))

module _ {root most : ℕ} {lows queue : List ℕ} (r : Ready root most lows queue) where
  abbrev distances₀ : List ℕ
  distances₀ = set (replicate max_items 0) root 1

  long : root < length {A = ℕ} (replicate max_items 0)
  long = omega (arith, r.root_fits, length-replicate {A = ℕ} max_items 0)

  cleared : (x : ℕ) → get_or {A = ℕ} (replicate max_items 0) x 0 ≡ 0
  cleared x =
      decided (ltb x max_items)
      (λ t. get_or-replicate {A = ℕ} max_items x 0 0 (ltb-true x max_items t))
      (λ t. get_or-eq_default (replicate max_items 0) 0 {n = x} (omega (arith, ltb-false x max_items t, length-replicate {A = ℕ} max_items 0)))

  begun : Arrays 1 distances₀ (set lows root root) (set queue 0 root)
  begun =
      record {
        distances_long = length-set (replicate max_items 0) root 1 ∙ length-replicate {A = ℕ} max_items 0;
        lows_long = length-set lows root root ∙ r.lows_long;
        queue_long = length-set queue 0 root ∙ r.queue_long;
        count = sym (ones_set (replicate max_items 0) root 1 long (cleared root) (λ z. omega (arith, z)) ∙ ap suc (ones_none max_items));
        fits = omega arith;
      }

  root_met : (F : List Edge) → State F root 0 1 (numbers distances₀) (numbers (set lows root root)) (numbers (set queue 0 root))
  root_met F =
      state_begins F root _ _ _ (get_or-set_same (replicate max_items 0) root 1 0 long)
      (λ x n. get_or-set_other (replicate max_items 0) root x 1 0 n ∙ cleared x)
      (get_or-set_same lows root root 0 (omega (arith, r.root_fits, r.lows_long)))
      (get_or-set_same queue 0 root 0 (omega (arith, r.queue_long)))

-- The loop over the groups met.
pub record Exploring (root most : ℕ) (table : Table) (heads links left distances lows queue : List ℕ) (end at : ℕ) : Type 0 where
  pub most_fits : most ≤ max_items
  pub arrays : Arrays end distances lows queue
  pub state : (E : List Edge) → Lists E table heads links → State (among left E) root at end (numbers distances) (numbers lows) (numbers queue)

module _ {root most : ℕ} {table : Table} {heads links left : List ℕ} where
  pub exploring_first : {lows queue : List ℕ} → Ready root most lows queue →
      Exploring root most table heads links left (set (replicate max_items 0) root 1) (set lows root root) (set queue 0 root) 1 0
  exploring_first r = record { most_fits = r.most_fits; arrays = begun r; state = λ E l. root_met r (among left E) }

  module _ {distances lows queue : List ℕ} {end at : ℕ} (e : Exploring root most table heads links left distances lows queue end at) where
    -- The next group of the queue.
    module _ {next : Reached} (read : next ≡ reached_at at distances lows queue) where
      lies_at : next.level ≡ get_or distances (get_or queue at 0) 0
      lies_at =
          ap (λ (r : Reached). r.level) read
          ∙ entry_is distances (entry_at queue at) e.arrays.distances_long
          ∙ ap (numbers distances) (entry_is queue at e.arrays.queue_long)

      pub goes_back : at < end → next.level < most → Ahead at next end distances lows queue
      goes_back ahead near =
          record {
            ahead = ahead;
            here_is = sym (ap (λ (r : Reached). r.group) read ∙ entry_is queue at e.arrays.queue_long);
            far = lies_at;
            lowest =
                ap (λ (r : Reached). r.low) read
                ∙ entry_is lows (entry_at queue at) e.arrays.lows_long
                ∙ ap (numbers lows) (entry_is queue at e.arrays.queue_long);
            fits = omega (arith, near, e.most_fits);
            arrays = e.arrays;
          }

    ended : ((E : List Edge) → State (among left E) root at end (numbers distances) (numbers lows) (numbers queue) →
        (i : ℕ) → at ≤ i → i < end → most ≤ get_or distances (get_or queue i 0) 0) → Measured root most table heads links left distances lows queue
    ended bound =
        record {
          distances_long = e.arrays.distances_long;
          lows_long = e.arrays.lows_long;
          queue_long = e.arrays.queue_long;
          explored = λ E l. record { at = at; end = end; state = e.state E l; beyond = bound E (e.state E l) };
        }

    pub far_enough : at < end → {next : Reached} → next ≡ reached_at at distances lows queue → most ≤ next.level →
        Measured root most table heads links left distances lows queue
    far_enough ahead read far = ended (λ E s i low high. omega (arith, far, lies_at read, s.rising at i low high))

    pub nothing_left : end ≤ at → Measured root most table heads links left distances lows queue
    nothing_left done = ended (λ E s i low high. absurd (omega (arith, done, low, high)))

    pub exploring_less : at < end → max_items - (at + 1) < max_items - at
    exploring_less h = omega (arith, h, e.arrays.fits)

    pub exploring_more : {distances' lows' queue' : List ℕ} {end' : ℕ} →
        Back at end table heads links left distances lows queue distances' lows' queue' end' →
        Exploring root most table heads links left distances' lows' queue' end' (at + 1)
    exploring_more b = rw add-one (record { most_fits = e.most_fits; arrays = b.arrays; state = λ E l. b.gone root E l (e.state E l) })

-- The loop over the arrows from the root: of those up to here the best.
pub record Closing-of (root most : ℕ) (table : Table) (onward left distances lows : List ℕ) (c : Closing) (others : List ℕ) : Type 0 where
  pub few : c.arrows ≤ most
  pub low : c.group ≤ root
  pub one : ¬ (c.arrows ≡ 0) → (k : ℕ) × (k ∈ members onward (entry_at left root)) × (c.arrows ≡ entry_at distances (target_at table k)) ×
      (c.group ≡ min root (entry_at lows (target_at table k)))
  pub within : (k : ℕ) → k ∈ others → k ∈ members onward (entry_at left root)
  pub seen : (k : ℕ) → k ∈ members onward (entry_at left root) → (k ∈ others) ⊎
      (¬ (entry_at distances (target_at table k) ≡ 0) → entry_at distances (target_at table k) ≤ most →
      Beats c (entry_at distances (target_at table k)) (min root (entry_at lows (target_at table k))))

module _ {root most : ℕ} {table : Table} {onward left distances lows : List ℕ} where
  module _ {c : Closing} {others : List ℕ} (o : Closing-of root most table onward left distances lows c others) where
    pub closing_more : {edge : ℕ} {later : List ℕ} → others ≡ edge ∷ later → {to : ℕ} → to ≡ target_at table edge → {found : Closing} →
        ClosesBy root to most distances lows found → {c' : Closing} → Better c found c' →
        Closing-of root most table onward left distances lows c' later
    closing_more {edge} {later} first {to} read {found} by {c'} better =
        record {
          few = ⊎_elim
              (λ e. omega (arith, ap (λ (d : Closing). d.arrows) e, o.few))
              (λ e. omega (arith, ap (λ (d : Closing). d.arrows) e, found_few))
              better.one;
          low = ⊎_elim
              (λ e. omega (arith, ap (λ (d : Closing). d.group) e, o.low))
              (λ e. omega (arith, ap (λ (d : Closing). d.group) e, by.low))
              better.one;
          one = λ n. ⊎_elim
              (λ e. subst Told-by (sym e) (o.one (λ z. n (ap (λ (d : Closing). d.arrows) e ∙ z))))
              (λ e. subst Told-by (sym e) (own (λ z. n (ap (λ (d : Closing). d.arrows) e ∙ z))))
              better.one;
          within = λ k m. o.within k (subst (λ (z : List ℕ). k ∈ z) (sym first) (there m));
          seen = λ k m. ⊎_elim
              (λ i. ⊎_elim
              (λ e. inr (subst (λ (j : ℕ). Beaten (target_at table j)) (sym e) (subst Beaten read own_beaten)))
              (λ j. inl j)
              (Memᴰ.cases_cons (subst (λ (z : List ℕ). k ∈ z) first i)))
              (λ b. inr (λ n near. better.as_best _ _ (b n near)))
              (o.seen k m);
        }
      where
        Told-by : Closing → Type 0
        Told-by d = (k : ℕ) × (k ∈ members onward (entry_at left root)) × (d.arrows ≡ entry_at distances (target_at table k)) ×
            (d.group ≡ min root (entry_at lows (target_at table k)))

        Beaten : ℕ → Type 0
        Beaten h = ¬ (entry_at distances h ≡ 0) → entry_at distances h ≤ most → Beats c' (entry_at distances h) (min root (entry_at lows h))

        found_few : found.arrows ≤ most
        found_few =
            decided (ltb most (entry_at distances to))
            (λ t. omega (arith, by.far (ltb-true most (entry_at distances to) t)))
            (λ t. let h : entry_at distances to ≤ most = omega (arith, ltb-false most (entry_at distances to) t) in omega (arith, by.near h, h))

        -- What was found comes from this arrow, if anything was.
        near : ¬ (found.arrows ≡ 0) → found.arrows ≡ entry_at distances to
        near n =
            decided (ltb most (entry_at distances to))
            (λ t. absurd (n (by.far (ltb-true most (entry_at distances to) t))))
            (λ t. by.near (omega (arith, ltb-false most (entry_at distances to) t)))

        own : ¬ (found.arrows ≡ 0) → Told-by found
        own n = (
          edge,
          o.within edge (subst (λ (z : List ℕ). edge ∈ z) (sym first) (here refl)),
          near n ∙ ap (entry_at distances) read,
          by.group n ∙ ap (λ h. min root (entry_at lows h)) read,
        )

        own_beaten : Beaten to
        own_beaten n few =
            let is = by.near few in
            let some_lead : ¬ (found.arrows ≡ 0) = λ z. n (sym is ∙ z) in
            better.as_found _ _ (record { some_lead = some_lead; fewer = omega (arith, is); lower = λ e. omega (arith, by.group some_lead) })

    pub closing_all : others ≡ [] → Closes root most table onward left distances lows c
    closing_all done =
        record {
          few = o.few;
          low = o.low;
          one = o.one;
          beats = λ k m. ⊎_elim
              (λ i. absurd (Memᴰ.not-nil (subst (λ (s : List ℕ). k ∈ s) done i)))
              (λ b. b)
              (o.seen k m);
        }

-- What the search tells, from the groups that were met and the best of the arrows from the root.
module _ (root most : ℕ) (table : Table) (onward left : List ℕ) (E : List Edge) (o : Onward E table onward left) (distances lows queue : List ℕ)
    (distances_long : length distances ≡ max_items) (lows_long : length lows ≡ max_items)
    (x : Explored (among left E) root most (numbers distances) (numbers lows) (numbers queue)) (c : Closing)
    (k : Closes root most table onward left distances lows c) where
  abbrev F : List Edge
  F = among left E

  abbrev D : ℕ → ℕ
  D = numbers distances

  abbrev L : ℕ → ℕ
  L = numbers lows

  far_is : (h : ℕ) → entry_at distances h ≡ D h
  far_is h = entry_is distances h distances_long

  low_is : (h : ℕ) → entry_at lows h ≡ L h
  low_is h = entry_is lows h lows_long

  beyond : {m : ℕ} → m < most → Beyond F root x.at x.end D L (numbers queue) x.state m
  beyond h i low b = omega (arith, h, x.beyond i low b)

  complete : (m h : ℕ) → m < most → Walk F m h root → (¬ (D h ≡ 0)) × (D h ≤ m + 1)
  complete m h few w = state_complete F root x.at x.end D L (numbers queue) x.state m h (beyond few) w

  -- No way that short passes a group lower than the one noted.
  lowest_on : (i j h z : ℕ) → i + j < most → D h ≡ i + j + 1 → Walk F i h z → Walk F j z root → L h ≤ z
  lowest_on i j h z few d w v = state_lowest F root x.at x.end D L (numbers queue) x.state i j h z (beyond few) d w v

  -- The lowest group noted is no higher than the root.
  under_root : (h : ℕ) → ¬ (D h ≡ 0) → D h ≤ most → min root (L h) ≡ L h
  under_root h n few =
      let w = passes_walk (x.state.way h n) in
      let le : L h ≤ root = lowest_on (D h - 1) 0 h root (omega (arith, n, few)) (omega (arith, n)) w (stay refl) in
      ⊎_elim (λ m. omega (arith, m, le, min-le_right root (L h))) (λ m. m) (min_either root (L h))

  -- An arrow from the root to a group from which so few arrows lead back: the best is as good.
  closed_by : {m h : ℕ} → suc m ≤ most → root ⟶ h ∈ F → Walk F m h root → Beats c (D h) (L h) × (D h ≤ suc m)
  closed_by {m} {h} few a w =
      let (plain, root_left) = among_within left E a in
      let (n, le) = complete m h (omega (arith, few)) w in
      let (i, in_List, to) = o.rest root h plain root_left (left_there m w) in
      let e : entry_at distances (target_at table i) ≡ D h = ap (entry_at distances) to ∙ far_is h in
      let near : D h ≤ suc m = omega (arith, le) in
      let b = k.beats i in_List (λ z. n (sym e ∙ z)) (omega (arith, e, near, few)) in
      let l : min root (entry_at lows (target_at table i)) ≡ L h =
      ap (λ y. min root (entry_at lows y)) to ∙ ap (min root) (low_is h) ∙ under_root h n (omega (arith, near, few)) in
      (subst (λ (j : ℕ). Beats c j (L h)) e (subst (Beats c (entry_at distances (target_at table i))) l b), near)
    where
      left_there : (m : ℕ) → Walk F m h root → ¬ (entry_at left h ≡ 0)
      left_there zero (stay e) z = (among_within left E a).1 (ap (entry_at left) (sym e) ∙ z)
      left_there (suc m) (step b w) z = (among_within left E b).1 z

  pub told : Told F root most c
  told = record { none = none_there; way = way; least = least; lowest = λ n z p. lowest n z p.i p.j p.to p.on p.whole }
    where
      none_there : c.arrows ≡ 0 → (m : ℕ) → 1 ≤ m → m ≤ most → ¬ Walk F m root root
      none_there z zero one few w = omega (arith, one)
      none_there z (suc m) one few (step a w) = (closed_by few a w).0.some_lead z

      way : ¬ (c.arrows ≡ 0) → Passes F c.arrows root c.group root
      way n =
          let (i, in_List, arrows_is, group_is) = k.one n in
          let h : ℕ = target_at table i in
          let d : c.arrows ≡ D h = arrows_is ∙ far_is h in
          let met : ¬ (D h ≡ 0) = λ z. n (d ∙ z) in
          let g : c.group ≡ L h = group_is ∙ ap (min root) (low_is h) ∙ under_root h met (omega (arith, d, k.few)) in
          let root_left : ¬ (entry_at left root ≡ 0) =
          λ z. Memᴰ.not-nil (subst (λ (s : List ℕ). i ∈ s) (ap (members onward) z ∙ no_members onward) in_List) in
          let round = passes_step (among_keeps left E (o.sound root i in_List) root_left) (x.state.way h met) in
          subst (λ (z : ℕ). Passes F c.arrows root z root) (sym g)
          (subst (λ (j : ℕ). Passes F j root (L h) root) (omega (arith, met, d)) round)

      least : ¬ (c.arrows ≡ 0) → (m : ℕ) → 1 ≤ m → Walk F m root root → c.arrows ≤ m
      least n zero one w = absurd (omega (arith, one))
      least n (suc m) one (step a w) =
          decided (ltb (suc m) c.arrows)
          (λ t. let (b, le) = closed_by (omega (arith, ltb-true (suc m) c.arrows t, k.few)) a w in omega (arith, b.fewer, le))
          (λ t. omega (arith, ltb-false (suc m) c.arrows t))

      lowest : ¬ (c.arrows ≡ 0) → (z i j : ℕ) → Walk F i root z → Walk F j z root → i + j ≡ c.arrows → c.group ≤ z
      lowest n z zero j (stay e) v whole = omega (arith, e, k.low)
      lowest n z (suc i) j (step {h = h} a w) v whole =
          let (b, le) = closed_by {m = i + j} (omega (arith, whole, k.few)) a (walk_join w v) in
          let lies : D h ≡ i + j + 1 = omega (arith, b.fewer, le, whole) in
          omega (arith, b.lower (omega (arith, lies, whole)), lowest_on i j h z (omega (arith, whole, k.few)) lies w v)

-- Of the groups that lie nearer the distances are known.
pub distances_lie : {F : List Edge} {root most : ℕ} {D L Q : ℕ → ℕ} → Explored F root most D L Q → Distances F root most D
distances_lie {F} {root} {most} {D} {L} {Q} x =
    record {
      first = x.state.first;
      sound = λ y met. passes_walk (x.state.way y met);
      complete = λ m y few. state_complete F root x.at x.end D L Q x.state m y (λ i low b. omega (arith, few, x.beyond i low b));
    }

pub searched : {root most : ℕ} {table : Table} {heads links onward left distances lows queue : List ℕ} →
    Measured root most table heads links left distances lows queue → {c : Closing} → Closes root most table onward left distances lows c →
    Searched root most table heads links onward left lows queue c
searched {root} {most} {table} {onward = onward} {left = left} {distances} {lows} {queue} e {c} k =
    record {
      lows_long = e.lows_long;
      queue_long = e.queue_long;
      few = k.few;
      low = k.low;
      told = λ E l o.
          told root most table onward left E o distances lows queue e.distances_long e.lows_long (e.explored E l) c k;
    }
