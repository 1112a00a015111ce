-- The ring among groups that rise is the shortest, and of the shortest the first. The least n at which a walk closes is the least length. No group
-- stands twice in it: the part between would be a shorter one. The first group at which it closes is the lowest of its ring, since each of the
-- ring's groups closes a walk as long, on to the end and then round. And of the walks of that length from there to there it is the first.
use Rattle.std.specs.Prelude.{Option, Some, slice_get}
use Rattle.model.proofs.Options.{some-injective}
use Prim.Native.Nat.{ℕ, suc, ◌+◌, ◌-◌, ◌≤◌, ◌<◌}
use mathlib.Core.Path.{◌≡◌, refl, sym, subst}
use mathlib.Core.List.{List, [], ◌∷◌, ◌++◌}
use native.Mathlib.Omega.{arith}
use lib.Dec.{ltb}
use lib.ListN.{length}
use borrow.Author.Tests.{ltb-true, ltb-false}
use Rattle.model.specs.HappensBefore.{Edge}
use Rattle.model.specs.Rings.{Closing, closed_walk, ring}
use Rattle.model.specs.Lists.{◌∈◌, Distinct, Rising}
use Rattle.model.proofs.Laws.{decided, slice_get_bound, slice_get_front}
use Rattle.model.proofs.Selections.{split_at}
use Rattle.model.proofs.Lists.{position}
use Rattle.ordering.specs.Walks.{Along, Closed, Walk, stay, step}
use Rattle.ordering.proofs.WalkBack.{Circuit}
use Rattle.ordering.specs.Orders.{ComesFirst, less, equal}
use Rattle.ordering.proofs.Lengths.{walk_join, along_walk, walk_between}
use Rattle.ordering.proofs.FirstWalks.{FirstWalk, first_walk_lem}
use Rattle.ordering.proofs.Closest.{Closest, Search, nowhere, somewhere, closest_is}

-- All edges come from these groups.
abbrev pub Starts : List ℕ → List Edge → Type 0
Starts groups edges = (e : Edge) → e ∈ edges → e.from ∈ groups

-- A ring among these groups: a circuit from its lowest group, of no more groups than any closed walk has, that comes first of those as long.
pub record ShortestAmong (groups : List ℕ) (edges : List Edge) (l : List ℕ) : Type 0 where
  pub circuit : Circuit groups edges l
  pub lowest : (g h : ℕ) → slice_get l 0 ≡ Some g → h ∈ l → g ≤ h
  pub fewest : (walk : List ℕ) → Closed edges walk → length l ≤ length walk
  pub first : (walk : List ℕ) → Closed edges walk → length walk ≡ length l → ComesFirst l walk

distinct_places : (l : List ℕ) → ((i j x : ℕ) → i < j → slice_get l i ≡ Some x → ¬ (slice_get l j ≡ Some x)) → Distinct l
distinct_places [] h = tt
distinct_places (x ∷ l) h =
    ((λ m. let (j, p) = position m in h 0 (suc j) x (omega arith) refl p), distinct_places l (λ i j y b p q. h (suc i) (suc j) y (omega arith) p q))

-- The first walk from the closest group to itself, along arrows that come from these groups.
module _ (groups : List ℕ) (edges : List Edge) (starts : Starts groups edges) (g n : ℕ)
    (is : Closest groups edges (record { group = g; arrows = suc n })) where
  pub front : FirstWalk edges n g g
  front = first_walk_lem edges n g g is.walk

  abbrev round : List ℕ
  round = g ∷ (front.rest ++ g ∷ [])

  -- A group that an arrow leads from is one of these.
  starts_inside : {m y z : ℕ} → 1 ≤ m → Walk edges m y z → y ∈ groups
  starts_inside low (stay _) = elim low [ ]
  starts_inside low (step a w) = starts _ a

  -- From each of its places to a later one, and round to the end.
  between : (i j d : ℕ) {a b : ℕ} → slice_get round i ≡ Some a → slice_get round j ≡ Some b → j ≡ i + d → Walk edges d a b
  between = walk_between edges g (front.rest ++ g ∷ []) front.along

  ends : slice_get round (suc n) ≡ Some g
  ends = subst (λ (k : ℕ). slice_get (front.rest ++ g ∷ []) k ≡ Some g) front.long (split_at front.rest g [])

  placed : {y : ℕ} (i : ℕ) → slice_get (g ∷ front.rest) i ≡ Some y → (i < suc n) × (slice_get round i ≡ Some y)
  placed i p = (omega (arith, slice_get_bound (g ∷ front.rest) i p, front.long), slice_get_front (g ∷ front.rest) (g ∷ []) i p)

  -- Each of its groups closes a walk as long: on to the end, then round to it.
  turns_round : (y : ℕ) → y ∈ g ∷ front.rest → Walk edges (suc n) y y
  turns_round y k =
      let (i, p) = position k in
      let (near, at) = placed i p in
      let on : Walk edges (suc n - i) y g = between i (suc n) (suc n - i) at ends (omega arith) in
      let back : Walk edges i g y = between 0 i i refl at (omega arith) in
      subst (λ (m : ℕ). Walk edges m y y) (omega arith) (walk_join on back)

  once : Distinct (g ∷ front.rest)
  once =
      distinct_places (g ∷ front.rest)
      (λ i j y b p q.
      let part : Walk edges (j - i) y y = between i j (j - i) (placed i p).1 (placed j q).1 (omega arith) in
      omega (arith, b, (placed j q).0, is.least y (j - i) (starts_inside (omega arith) part) (omega arith) part))

  pub walk_shortest : ShortestAmong groups edges (g ∷ front.rest)
  walk_shortest =
      record {
        circuit =
            record {
              closed = front.along;
              distinct = once;
              within = λ y k. starts_inside (omega arith) (turns_round y k);
            };
        lowest = λ a y p k. rw (sym (some-injective _ _ p)) (lowest_first y k);
        fewest = fewest;
        first = first;
      }
    where
      lowest_first : (y : ℕ) → y ∈ g ∷ front.rest → g ≤ y
      lowest_first y k = let w = turns_round y k in is.lowest y (starts_inside (omega arith) w) w

      fewest : (walk : List ℕ) → Closed edges walk → length (g ∷ front.rest) ≤ length walk
      fewest [] c = absurd c
      fewest (y ∷ walk) c =
          let w = along_walk edges y y walk c in
          omega (arith, front.long, is.least y (suc (length walk)) (starts_inside (omega arith) w) (omega arith) w)

      first : (walk : List ℕ) → Closed edges walk → length walk ≡ length (g ∷ front.rest) → ComesFirst (g ∷ front.rest) walk
      first [] c e = absurd c
      first (y ∷ walk) c e =
          let long : length walk ≡ n = omega (arith, front.long) in
          let w : Walk edges (suc n) y y = subst (λ (k : ℕ). Walk edges (suc k) y y) long (along_walk edges y y walk c) in
          let low : g ≤ y = is.lowest y (starts_inside (omega arith) w) w in
          decided (ltb g y)
          (λ t. less (ltb-true g y t))
          (λ t. let same : g ≡ y = omega (arith, ltb-false g y t, low) in
          equal same (front.before walk long (subst (λ (z : ℕ). Along edges z (walk ++ z ∷ [])) (sym same) c)))

-- Among groups that rise, along arrows that come from them, where some walk of no more groups than there are closes.
module _ (groups : List ℕ) (edges : List Edge) (rising : Rising groups) (starts : Starts groups edges)
    (walk : List ℕ) (closes : Closed edges walk) (short : length walk ≤ length groups) where
  from_closest : (n : ℕ) (c : Closing) → c.arrows ≡ suc n → Closest groups edges c → ShortestAmong groups edges (closed_walk edges (Some c))
  unfolding closed_walk
  from_closest n c e is =
      let same : ◌≡◌ {A = Closing} c (record { group = c.group; arrows = suc n }) = rw (← e) in
      let is' : Closest groups edges (record { group = c.group; arrows = suc n }) = subst (Closest groups edges) same is in
      rw e (subst (ShortestAmong groups edges) (sym (front groups edges starts c.group n is').is) (walk_shortest groups edges starts c.group n is'))

  closed_shortest : (walk : List ℕ) → Closed edges walk → length walk ≤ length groups → {o : Option Closing} →
      Search (length groups) groups edges o → ShortestAmong groups edges (closed_walk edges o)
  closed_shortest [] c few found = absurd c
  closed_shortest (y ∷ l) c few (nowhere nothing) =
      let w = along_walk edges y y l c in absurd (nothing y (suc (length l)) (started y w) (omega arith) few w)
    where
      started : {m : ℕ} (y : ℕ) → Walk edges (suc m) y y → y ∈ groups
      started y (step a w) = starts _ a
  closed_shortest (y ∷ l) c few (somewhere c' high is) =
      from_closest (c'.arrows - 1) c' (omega (arith, is.one)) is

  pub ring_shortest : ShortestAmong groups edges (ring groups edges)
  unfolding ring
  ring_shortest =
      closed_shortest walk closes short (closest_is (length groups) groups edges rising)
