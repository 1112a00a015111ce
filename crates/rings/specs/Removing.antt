-- What is left when groups are taken out: every way round that does not pass the group taken out is left.
use Rattle.std.specs.Prelude.{ℕ, ◌≤◌, ◌<◌, ◌≡◌, List, ◌⊎◌, length}
use Rattle.model.specs.Limits.{max_items}
use Rattle.model.specs.HappensBefore.{Edge}
use Rattle.model.specs.Lists.{◌∈◌}
use Rattle.memory.specs.Tables.{Table}
use Rattle.chains.specs.Chains.{members}
use Rattle.graph.specs.Edges.{target_at}
use Rattle.ordering.specs.Walks.{Walk, Passes}
use Rattle.indexing.specs.Entries.{entry_at}
use Rattle.rings.specs.Searches.{Onward, among}

-- Of a list from one member on, the members before another lead to groups that are taken out.
pub record FirstLeft (table : Table) (onward cursors : List ℕ) (member next : ℕ) : Type 0 where
  pub within : (k : ℕ) → k ∈ members onward next → k ∈ members onward member
  pub rest : (k : ℕ) → k ∈ members onward member → (k ∈ members onward next) ⊎ (entry_at cursors (target_at table k) ≡ 0)

-- Arrays that have an entry for each group, and so many groups in the queue.
pub record Room (cursors queue : List ℕ) (end : ℕ) : Type 0 where
  pub cursors_long : length cursors ≡ max_items
  pub queue_long : length queue ≡ max_items
  pub fits : end ≤ max_items

-- The same, and one for the group that is taken out.
pub record Removable (group : ℕ) (cursors queue : List ℕ) : Type 0 where
  pub cursors_long : length cursors ≡ max_items
  pub queue_long : length queue ≡ max_items
  pub inside : group < max_items

-- Fewer groups are left, none of them on a way round.
pub record Thins (E : List Edge) (table : Table) (onward cursors cursors' : List ℕ) : Type 0 where
  pub onwards : Onward E table onward cursors'
  pub gone : (z : ℕ) → entry_at cursors z ≡ 0 → entry_at cursors' z ≡ 0
  pub walks : (m z : ℕ) → 1 ≤ m → Walk (among cursors E) m z z → Walk (among cursors' E) m z z

pub record Thinned (table : Table) (onward cursors cursors' queue' : List ℕ) (end' : ℕ) : Type 0 where
  pub room : Room cursors' queue' end'
  pub thins : (E : List Edge) → Onward E table onward cursors → Thins E table onward cursors cursors'

-- A group is taken out: of the ways round those that pass it are gone.
pub record Without (E : List Edge) (table : Table) (onward cursors cursors' : List ℕ) (group : ℕ) : Type 0 where
  pub onwards : Onward E table onward cursors'
  pub gone : (z : ℕ) → entry_at cursors z ≡ 0 → entry_at cursors' z ≡ 0
  pub out : entry_at cursors' group ≡ 0
  pub walks : (m z : ℕ) → 1 ≤ m → Walk (among cursors E) m z z → Passes (among cursors E) m z group z ⊎ Walk (among cursors' E) m z z

pub record TakenOut (group : ℕ) (table : Table) (onward cursors cursors' queue' : List ℕ) : Type 0 where
  pub cursors_long : length cursors' ≡ max_items
  pub queue_long : length queue' ≡ max_items
  pub without : (E : List Edge) → Onward E table onward cursors → Without E table onward cursors cursors' group
