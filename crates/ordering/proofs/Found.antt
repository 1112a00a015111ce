-- The ring, however it was found: where a group is known to be the closest, the ring is the first walk from it to itself; and where no walk closes,
-- there is none. The closest group is one, and no walk round has more arrows than there are groups, since it passes none twice.
use Rattle.std.specs.Prelude.{Option, Some}
use Prim.Native.Nat.{ℕ, suc, ◌-◌, ◌≤◌}
use mathlib.Core.Path.{◌≡◌, refl, sym, ap, subst}
use mathlib.Core.List.{List, []}
use native.Mathlib.Omega.{arith}
use lib.ListN.{length}
use Rattle.model.specs.HappensBefore.{Edge}
use Rattle.model.specs.Rings.{first_walk, Closing, closed_walk, ring}
use Rattle.model.specs.Lists.{Rising}
use Rattle.model.proofs.Lists.{distinct_within}
use Rattle.ordering.specs.Walks.{Walk}
use Rattle.ordering.proofs.Closest.{Closest, Search, nowhere, somewhere, closest_is}
use Rattle.ordering.proofs.Shortest.{Starts, front, walk_shortest}

module _ (groups : List ℕ) (edges : List Edge) (starts : Starts groups edges) where
  -- No more arrows than groups lead back to the closest one.
  pub short_enough : (c : Closing) → Closest groups edges c → c.arrows ≤ length groups
  short_enough c is = go (c.arrows - 1) (omega (arith, is.one))
    where
      go : (n : ℕ) → c.arrows ≡ suc n → c.arrows ≤ length groups
      go n e =
          let same : ◌≡◌ {A = Closing} c (record { group = c.group; arrows = suc n }) = rw (← e) in
          let is' : Closest groups edges (record { group = c.group; arrows = suc n }) = subst (Closest groups edges) same is in
          let round = (walk_shortest groups edges starts c.group n is').circuit in
          omega (arith, e, (front groups edges starts c.group n is').long, distinct_within _ groups round.distinct round.within)

  -- Two that are closest are one.
  closest_one : (c d : Closing) → Closest groups edges c → Closest groups edges d → d ≡ c
  closest_one c d is other =
      let as_few : d.arrows ≡ c.arrows =
      omega (
        arith,
        is.least d.group d.arrows other.inside other.one other.walk,
        other.least c.group c.arrows is.inside is.one is.walk,
      ) in
      let as_low : d.group ≡ c.group =
      omega (
        arith,
        is.lowest d.group other.inside (subst (λ (k : ℕ). Walk edges k d.group d.group) as_few other.walk),
        other.lowest c.group is.inside (subst (λ (k : ℕ). Walk edges k c.group c.group) (sym as_few) is.walk),
      ) in
      λ i. record { group = as_low i; arrows = as_few i }

  module _ (rising : Rising groups) where
    -- The ring, by the closest group.
    pub ring_closest : (c : Closing) → Closest groups edges c → ring groups edges ≡ first_walk c.arrows c.group c.group edges
    unfolding ring closed_walk
    ring_closest c is = ap (closed_walk edges) (by_search (closest_is (length groups) groups edges rising))
      where
        by_search : {o : Option Closing} → Search (length groups) groups edges o → o ≡ Some c
        by_search (nowhere nothing) = absurd (nothing c.group c.arrows is.inside is.one (short_enough c is) is.walk)
        by_search (somewhere d few other) = ap Some (closest_one c d is other)

    -- Where no walk closes, there is none.
    pub ring_nowhere : ((x m : ℕ) → 1 ≤ m → m ≤ length groups → ¬ Walk edges m x x) → ring groups edges ≡ []
    unfolding ring closed_walk
    ring_nowhere nothing = by_search (closest_is (length groups) groups edges rising)
      where
        by_search : {o : Option Closing} → Search (length groups) groups edges o → closed_walk edges o ≡ []
        by_search (nowhere none_here) = refl
        by_search (somewhere c few is) = absurd (nothing c.group c.arrows is.one few is.walk)
