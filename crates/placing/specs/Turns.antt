-- The placing on arrays, turn by turn.
use Rattle.std.specs.Prelude.{ℕ, zero, suc, ◌+◌, List, ltb, set, replicate, Option, Some, None}
use Rattle.model.specs.Limits.{max_items}
use Rattle.model.specs.Choice.{when, numbers_from}
use Rattle.memory.specs.Tables.{Table}
use Rattle.bitmap.specs.Bitmaps.{empty_bitmap, lowest_in, lowest_taken}
use Rattle.indexing.specs.declared.Index.{Index}
use Rattle.indexing.specs.Indexes.{empty_index, indexed, readied_all}
use Rattle.placing.specs.declared.Placed.{Placed}
use Rattle.placing.specs.declared.counts.Counts.{Counts}
use Rattle.placing.specs.Releases.{counts, released_edges, edges_from_group}

-- What is placed so far.
abbrev pub placed : (count : ℕ) → (order waiting : List ℕ) → Placed
placed count order waiting = record { count = count; order = order; waiting = waiting }

-- A list of groups with one more behind the first so many.
unfoldable pub noted : (order : List ℕ) → (count group : ℕ) → List ℕ
noted order count group = when (ltb count max_items) (λ _. set order count group) (λ _. order)

-- A group that is ready is taken, if there is one.
unfoldable pub take_next : (stop : Placed) → (after : ℕ → Placed) → Option ℕ → Placed
take_next stop after None = stop
take_next stop after (Some group) = after group

-- "each time .. take the lowest number", at most `turns` times.
unfoldable pub place_on : Table → (heads links : List ℕ) → (turns count : ℕ) → (order : List ℕ) → Counts → Placed
place_on table heads links zero count order c = placed count order c.waiting
place_on table heads links (suc turns) count order c =
    take_next (placed count order c.waiting)
    (λ group.
    place_on table heads links turns (count + 1) (noted order count group)
    (released_edges table (edges_from_group heads links group) (counts c.waiting (lowest_taken c.ready))))
    (lowest_in c.ready)

-- The arrows are noted, the groups that are free at the start are found, and then all turns are taken.
unfoldable pub placed_on : (groups count : ℕ) → Table → Placed
placed_on groups count table =
    let i : Index = indexed groups count table empty_index in
    place_on table i.heads i.links groups 0 (replicate max_items 0)
    (counts i.waiting (readied_all i.waiting (numbers_from 0 groups) empty_bitmap))
