-- The lists of arrows that a search goes by, and the search back from a group, its root, through the groups that are left: which groups were met, in
-- which order, how many arrows lead from each to the root, and the lowest group on a way that short.
use Rattle.std.specs.Prelude.{ℕ, suc, Option, Some, None, ◌+◌, ◌-◌, ◌≤◌, ◌<◌, min, ◌≡◌, not, List, ◌⊎◌, eqb, length, get_or, set, replicate}
use Rattle.model.specs.Limits.{max_items, max_edges}
use Rattle.model.specs.Choice.{select}
use Rattle.model.specs.HappensBefore.{Edge, ◌⟶◌}
use Rattle.model.specs.Lists.{◌∈◌}
use Rattle.memory.specs.Tables.{Table}
use Rattle.chains.specs.Chains.{members}
use Rattle.graph.specs.Edges.{source_at, target_at}
use Rattle.indexing.specs.Entries.{entry_at}
use Rattle.ordering.specs.Walks.{Walk, Passes}
use Rattle.rings.specs.declared.closings.Closing.{Closing as Told-closing}
use Rattle.rings.specs.declared.searches.Reached.{Reached}

-- The lists by target stand for these arrows.
pub record Lists (E : List Edge) (table : Table) (heads links : List ℕ) : Type 0 where
  pub sound : (h k : ℕ) → k ∈ members links (entry_at heads h) → source_at table k ⟶ h ∈ E
  pub complete : (x h : ℕ) → x ⟶ h ∈ E → (k : ℕ) × (k ∈ members links (entry_at heads h)) × (source_at table k ≡ x)
  pub below : (x h : ℕ) → x ⟶ h ∈ E → (x < max_items) × (h < max_items)

-- A group is left where its cursor is not 0. From the cursor on its list by source has arrows from it alone, and every arrow to a group that is left.
pub record Onward (E : List Edge) (table : Table) (onward cursors : List ℕ) : Type 0 where
  pub sound : (x k : ℕ) → k ∈ members onward (entry_at cursors x) → x ⟶ target_at table k ∈ E
  pub rest : (x h : ℕ) → x ⟶ h ∈ E → ¬ (entry_at cursors x ≡ 0) → ¬ (entry_at cursors h ≡ 0) →
      (k : ℕ) × (k ∈ members onward (entry_at cursors x)) × (target_at table k ≡ h)

-- Both lists, of arrows between so many groups.
pub record Indexed (groups : ℕ) (E : List Edge) (table : Table) (heads links tails onward : List ℕ) : Type 0 where
  pub lists : Lists E table heads links
  pub onwards : Onward E table onward tails
  pub starts : (x h : ℕ) → x ⟶ h ∈ E → ¬ (entry_at tails x ≡ 0)
  pub within : (x h : ℕ) → x ⟶ h ∈ E → h < groups
  pub tails_long : length tails ≡ max_items

-- Lists that are empty, for as many groups as the arrays have entries for.
pub record Cleared (groups : ℕ) (heads links tails onward : List ℕ) : Type 0 where
  pub fits : groups ≤ max_items
  pub heads_none : heads ≡ replicate max_items 0
  pub links_none : links ≡ replicate max_edges 0
  pub tails_none : tails ≡ replicate max_items 0
  pub onward_none : onward ≡ replicate max_edges 0

-- The arrows that come from groups that are left.
unfoldable pub among : (left : List ℕ) → List Edge → List Edge
unfolding select
among left edges = select (λ e. not (eqb (entry_at left e.from) 0)) edges

-- The search from a root along these arrows, where the arrows into the first `at` of the groups met were gone back: D has 1 more than how many arrows
-- lead from a group to the root, 0 if it was not met; L the lowest group on a way that short; and Q the groups met. The groups stand by their
-- distance, and no two that are left differ by more than one.
pub record State (F : List Edge) (root at end : ℕ) (D L Q : ℕ → ℕ) : Type 0 where
  pub within : at ≤ end
  pub first : D root ≡ 1
  pub way : (x : ℕ) → ¬ (D x ≡ 0) → Passes F (D x - 1) x (L x) root
  pub under : (x : ℕ) → ¬ (D x ≡ 0) → L x ≤ x
  pub queued : (x : ℕ) → ¬ (D x ≡ 0) → (j : ℕ) × (j < end) × (Q j ≡ x)
  pub entries : (j : ℕ) → j < end → ¬ (D (Q j) ≡ 0)
  pub rising : (i j : ℕ) → i ≤ j → j < end → D (Q i) ≤ D (Q j)
  pub near : (i j : ℕ) → at ≤ i → i < end → j < end → D (Q j) ≤ D (Q i) + 1
  pub behind : (j x : ℕ) → j < at → x ⟶ Q j ∈ F → (¬ (D x ≡ 0)) × (D x ≤ D (Q j) + 1) × (D x ≡ D (Q j) + 1 → L x ≤ L (Q j))

-- How many groups were met.
unfoldable pub ones : List ℕ → ℕ
unfolding select
ones distances = length (select (λ d. not (eqb d 0)) distances)

-- The arrays of a search.
pub record Arrays (end : ℕ) (distances lows queue : List ℕ) : Type 0 where
  pub distances_long : length distances ≡ max_items
  pub lows_long : length lows ≡ max_items
  pub queue_long : length queue ≡ max_items
  pub count : end ≡ ones distances
  pub fits : end ≤ max_items

abbrev pub numbers : List ℕ → ℕ → ℕ
numbers l i = get_or l i 0

-- The group at a place of the queue, its distance, and the lowest group on its way.
abbrev pub reached_at : (at : ℕ) → (distances lows queue : List ℕ) → Reached
reached_at at distances lows queue =
    record { group = entry_at queue at; level = entry_at distances (entry_at queue at); low = entry_at lows (entry_at queue at) }

-- A search that has a group to go back from.
pub record Ahead (at : ℕ) (next : Reached) (end : ℕ) (distances lows queue : List ℕ) : Type 0 where
  pub ahead : at < end
  pub here_is : get_or queue at 0 ≡ next.group
  pub far : next.level ≡ get_or distances (get_or queue at 0) 0
  pub lowest : next.low ≡ get_or lows (get_or queue at 0) 0
  pub fits : next.level ≤ max_items
  pub arrays : Arrays end distances lows queue

-- What a search begins with.
pub record Ready (root most : ℕ) (lows queue : List ℕ) : Type 0 where
  pub root_fits : root < max_items
  pub most_fits : most ≤ max_items
  pub lows_long : length lows ≡ max_items
  pub queue_long : length queue ≡ max_items

-- A group is met: for the first time; again at the same distance; or again farther from it.
pub data Meets (from distance low : ℕ) (distances lows queue : List ℕ) (end : ℕ) : (distances' lows' queue' : List ℕ) → (end' : ℕ) → Type 0 where
  fresh : {distances' lows' queue' : List ℕ} {end' : ℕ} → from < max_items → end < max_items → get_or distances from 0 ≡ 0 →
      distances' ≡ set distances from distance → lows' ≡ set lows from (min from low) → queue' ≡ set queue end from → end' ≡ end + 1 →
      Meets from distance low distances lows queue end distances' lows' queue' end'
  again : {distances' lows' queue' : List ℕ} {end' : ℕ} → from < max_items → ¬ (get_or distances from 0 ≡ 0) → get_or distances from 0 ≡ distance →
      distances' ≡ distances → lows' ≡ set lows from (min (get_or lows from 0) low) → queue' ≡ queue → end' ≡ end →
      Meets from distance low distances lows queue end distances' lows' queue' end'
  known : {distances' lows' queue' : List ℕ} {end' : ℕ} → (from < max_items → end < max_items → ¬ (get_or distances from 0 ≡ 0)) →
      (from < max_items → ¬ (get_or distances from 0 ≡ 0) → ¬ (get_or distances from 0 ≡ distance)) →
      distances' ≡ distances → lows' ≡ lows → queue' ≡ queue → end' ≡ end →
      Meets from distance low distances lows queue end distances' lows' queue' end'

-- The group that an arrow comes from is taken out, and nothing changes; or it is met.
pub data Visits (from distance low : ℕ) (left distances lows queue : List ℕ) (end : ℕ) : (distances' lows' queue' : List ℕ) → (end' : ℕ) → Type 0 where
  passed : entry_at left from ≡ 0 → Visits from distance low left distances lows queue end distances lows queue end
  visited : {distances' lows' queue' : List ℕ} {end' : ℕ} → ¬ (entry_at left from ≡ 0) →
      Meets from distance low distances lows queue end distances' lows' queue' end' →
      Visits from distance low left distances lows queue end distances' lows' queue' end'

-- All arrows into the next group were gone back, whatever the root and the arrows that the lists stand for.
pub record Back (at end : ℕ) (table : Table) (heads links left distances lows queue distances' lows' queue' : List ℕ) (end' : ℕ) : Type 0 where
  pub arrays : Arrays end' distances' lows' queue'
  pub gone : (root : ℕ) (E : List Edge) → Lists E table heads links →
      State (among left E) root at end (numbers distances) (numbers lows) (numbers queue) →
      State (among left E) root (suc at) end' (numbers distances') (numbers lows') (numbers queue')

-- The arrows were gone back into all groups that were met at less than so great a distance.
pub record Explored (F : List Edge) (root most : ℕ) (D L Q : ℕ → ℕ) : Type 0 where
  pub at : ℕ
  pub end : ℕ
  pub state : State F root at end D L Q
  pub beyond : (i : ℕ) → at ≤ i → i < end → most ≤ D (Q i)

pub record Measured (root most : ℕ) (table : Table) (heads links left distances lows queue : List ℕ) : Type 0 where
  pub distances_long : length distances ≡ max_items
  pub lows_long : length lows ≡ max_items
  pub queue_long : length queue ≡ max_items
  pub explored : (E : List Edge) → Lists E table heads links → Explored (among left E) root most (numbers distances) (numbers lows) (numbers queue)

-- A group, and how many arrows lead back to it: 0 if none do.
pub record Closing : Type 0 where
  pub group : ℕ
  pub arrows : ℕ

abbrev pub closing : (group arrows : ℕ) → Closing
closing group arrows = record { group = group; arrows = arrows }

-- What the code answers, where it has none if no arrows lead back.
abbrev pub closing_in : Option Told-closing → Closing
closing_in None = closing 0 0
closing_in (Some c) = closing c.group c.arrows

-- So many arrows lead back to this group; to a group z not fewer than m do, and if as many, it is no higher than z.
pub record Beats (c : Closing) (m z : ℕ) : Type 0 where
  pub some_lead : ¬ (c.arrows ≡ 0)
  pub fewer : c.arrows ≤ m
  pub lower : c.arrows ≡ m → c.group ≤ z

-- One of two that beats what either of them beats.
pub record Better (best found c : Closing) : Type 0 where
  pub one : (◌≡◌ {A = Closing} c best) ⊎ (◌≡◌ {A = Closing} c found)
  pub as_best : (m z : ℕ) → Beats best m z → Beats c m z
  pub as_found : (m z : ℕ) → Beats found m z → Beats c m z

-- What is told of an arrow from the root to a group: the group's distance, if it is near enough, and the lowest group on its way.
pub record ClosesBy (root to most : ℕ) (distances lows : List ℕ) (c : Closing) : Type 0 where
  pub low : c.group ≤ root
  pub group : ¬ (c.arrows ≡ 0) → c.group ≡ min root (entry_at lows to)
  pub near : entry_at distances to ≤ most → c.arrows ≡ entry_at distances to
  pub far : most < entry_at distances to → c.arrows ≡ 0

-- The best of all arrows from the root to groups that are left.
pub record Closes (root most : ℕ) (table : Table) (onward left distances lows : List ℕ) (c : Closing) : Type 0 where
  pub few : c.arrows ≤ most
  pub low : c.group ≤ root
  pub one : ¬ (c.arrows ≡ 0) → (k : ℕ) × (k ∈ members onward (entry_at left root)) × (c.arrows ≡ entry_at distances (target_at table k)) ×
      (c.group ≡ min root (entry_at lows (target_at table k)))
  pub beats : (k : ℕ) → k ∈ members onward (entry_at left root) → ¬ (entry_at distances (target_at table k) ≡ 0) →
      entry_at distances (target_at table k) ≤ most → Beats c (entry_at distances (target_at table k)) (min root (entry_at lows (target_at table k)))

-- What a search along these arrows tells of its root: so many arrows, 0 if none, lead back to it, of at most `most`, and the group is the lowest on such
-- a way.
pub record Told (F : List Edge) (root most : ℕ) (c : Closing) : Type 0 where
  pub none : c.arrows ≡ 0 → (m : ℕ) → 1 ≤ m → m ≤ most → ¬ Walk F m root root
  pub way : ¬ (c.arrows ≡ 0) → Passes F c.arrows root c.group root
  pub least : ¬ (c.arrows ≡ 0) → (m : ℕ) → 1 ≤ m → Walk F m root root → c.arrows ≤ m
  pub lowest : ¬ (c.arrows ≡ 0) → (z : ℕ) → Passes F c.arrows root z root → c.group ≤ z

-- And of the groups met: 1 more than their fewest arrows to the root, where these are fewer than those that lead back.
pub record Distances (F : List Edge) (root arrows : ℕ) (D : ℕ → ℕ) : Type 0 where
  pub first : D root ≡ 1
  pub sound : (x : ℕ) → ¬ (D x ≡ 0) → Walk F (D x - 1) x root
  pub complete : (m x : ℕ) → m + 1 ≤ arrows → Walk F m x root → (¬ (D x ≡ 0)) × (D x ≤ m + 1)

pub record Searched (root most : ℕ) (table : Table) (heads links onward left lows queue : List ℕ) (c : Closing) : Type 0 where
  pub lows_long : length lows ≡ max_items
  pub queue_long : length queue ≡ max_items
  pub few : c.arrows ≤ most
  pub low : c.group ≤ root
  pub told : (E : List Edge) → Lists E table heads links → Onward E table onward left → Told (among left E) root most c
