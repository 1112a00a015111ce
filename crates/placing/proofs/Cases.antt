-- The definitions on arrays by cases, as the code meets them.
use Rattle.std.specs.Prelude.{Option, Some, None}
use Prim.Native.Nat.{ℕ, suc, ◌+◌, ◌-◌, ◌≤◌, ◌<◌}
use mathlib.Core.Path.{◌≡◌, sym, ◌∙◌}
use mathlib.Core.List.{List}
use native.Mathlib.Omega.{arith}
use Rattle.memory.specs.Tables.{Table}
use Rattle.chains.specs.Chains.{members, older_in}
use Rattle.chains.proofs.Chains.{members_first, no_members}
use Rattle.bitmap.specs.Bitmaps.{Taken}
use Rattle.graph.specs.Edges.{target_at}
use Rattle.placing.specs.declared.counts.Counts.{Counts}
use Rattle.placing.specs.Releases.{counts, released, released_edges, edges_from_group}
use Rattle.placing.specs.Turns.{placed, noted, take_next, place_on}

-- A turn of the loop over a group's arrows, and its end.
module _ (table : Table) (links : List ℕ) (member : ℕ) (c : Counts) where
  pub release_turn : 0 < member → released_edges table (members links member) c ≡
      released_edges table (members links (older_in links member)) (released (target_at table (member - 1)) c)
  unfolding released_edges
  release_turn h = rw (members_first links member h)

  pub release_done : member ≤ 0 → released_edges table (members links member) c ≡ c
  unfolding released_edges
  release_done h = let e : member ≡ 0 = omega arith in rw (e, no_members links)

module _ (table : Table) (heads links : List ℕ) (groups count : ℕ) (order waiting ready : List ℕ) where
  -- No turn is left.
  pub turns_done : count ≡ groups →
      place_on table heads links (groups - count) count order (counts waiting ready) ≡ placed groups order waiting
  unfolding place_on
  turns_done e = let none : groups - count ≡ 0 = omega arith in rw (none, e)

  module _ {ready' : List ℕ} {answer : Option ℕ} (left : count < groups) (taken : Taken ready ready' answer) where
    one_more_lem : groups - count ≡ suc (groups - (count + 1))
    one_more_lem = omega arith

    -- A turn that finds no group, and one that finds one.
    pub turn_ends : answer ≡ None → place_on table heads links (groups - count) count order (counts waiting ready) ≡ placed count order waiting
    unfolding place_on take_next
    turn_ends e = rw (one_more_lem, sym taken.answers ∙ e)

    pub turn_takes : {g : ℕ} → answer ≡ Some g → place_on table heads links (groups - count) count order (counts waiting ready) ≡
        place_on table heads links (groups - (count + 1)) (count + 1) (noted order count g)
        (released_edges table (edges_from_group heads links g) (counts waiting ready'))
    unfolding place_on take_next
    turn_takes e = rw (one_more_lem, sym taken.answers ∙ e, taken.leaves)
