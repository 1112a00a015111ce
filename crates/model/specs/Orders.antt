-- The order (document 01), by the arrows alone, and the verdict: an order of all groups, or a ring of those that it cannot take.
use Rattle.std.specs.Prelude.{ℕ, zero, suc, Bool, true, false, not, List, [], ◌∷◌, eqb, Option, Some, None}
use Rattle.model.specs.Choice.{when, select, numbers_from}
use Rattle.model.specs.HappensBefore.{Edge}
use Rattle.model.specs.Rings.{ring}

-- Some arrow leads into this group.
unfoldable pub has_edge_into : ℕ → List Edge → Bool
has_edge_into g [] = false
has_edge_into g (e ∷ edges) = when (eqb e.to g) (λ _. true) (λ _. has_edge_into g edges)

-- The first group of a list into which no arrow leads.
unfoldable pub first_free : List Edge → List ℕ → Option ℕ
unfolding has_edge_into
first_free edges [] = None
first_free edges (g ∷ groups) = when (has_edge_into g edges) (λ _. first_free edges groups) (λ _. Some g)

-- The groups but one; the arrows but those from one group.
unfoldable pub without : ℕ → List ℕ → List ℕ
without g [] = []
without g (h ∷ groups) = when (eqb h g) (λ _. groups) (λ _. h ∷ without g groups)

abbrev pub not_from : ℕ → List Edge → List Edge
not_from g = select (λ e. not (eqb e.from g))

-- The groups placed, in their order; those left unplaced, rising; and the arrows that come from unplaced groups.
pub record Placing : Type 0 where
  pub placed : List ℕ
  pub unplaced : List ℕ
  pub edges : List Edge

unfoldable pub stuck : List ℕ → List Edge → Placing
stuck unplaced edges = record { placed = []; unplaced = unplaced; edges = edges }

-- A group that can be taken goes before what is placed once it is gone.
unfoldable pub place_next : List ℕ → List Edge → (after : ℕ → Placing) → Option ℕ → Placing
unfolding stuck
place_next unplaced edges after None = stuck unplaced edges
place_next unplaced edges after (Some g) =
    let rest : Placing = after g in
    record { placed = g ∷ rest.placed; unplaced = rest.unplaced; edges = rest.edges }

-- "each time, of the unplaced groups whose arrows in all come from placed ones, take the lowest number", until none can be taken; at most `turns`
-- times. The groups stand rising, so the first is the lowest; of the arrows those from placed groups are gone.
unfoldable pub place : (turns : ℕ) → (unplaced : List ℕ) → List Edge → Placing
unfolding select first_free without stuck place_next
place zero unplaced edges = stuck unplaced edges
place (suc turns) unplaced edges =
    place_next unplaced edges (λ g. place turns (without g unplaced) (not_from g edges)) (first_free edges unplaced)

-- What the arrows come to: an order of all groups, or a ring of some.
pub data Verdict : Type 0 where
  ordered : List ℕ → Verdict
  cyclic : List ℕ → Verdict

-- "The ring: if no group can be taken", it is the ring among those left.
unfoldable pub judged_by : (placed unplaced : List ℕ) → List Edge → Verdict
unfolding ring
judged_by placed [] edges = ordered placed
judged_by placed (g ∷ rest) edges = cyclic (ring (g ∷ rest) edges)

-- The verdict on so many groups with these arrows.
unfoldable pub verdict : (groups : ℕ) → List Edge → Verdict
unfolding numbers_from place judged_by
verdict groups edges =
    let p : Placing = place groups (numbers_from 0 groups) edges in
    judged_by p.placed p.unplaced p.edges
