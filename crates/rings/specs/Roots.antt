-- Which group the ring is found from.
use Rattle.std.specs.Prelude.{ℕ, ◌≤◌, ◌<◌, ◌≡◌, Bool, false, List, eqb, length}
use Rattle.model.specs.Limits.{max_items}
use Rattle.model.specs.Choice.{when}
use Rattle.model.specs.HappensBefore.{Edge, ◌⟶◌}
use Rattle.model.specs.Lists.{◌∈◌}
use Rattle.memory.specs.Tables.{Table}
use Rattle.ordering.specs.Walks.{Walk}
use Rattle.rings.specs.Searches.{Lists, Indexed, Closing, Beats}

-- What a look at the arrows into a group tells: where none is told, all come from groups below it.
pub record Entered (root : ℕ) (table : Table) (heads links : List ℕ) (told : Bool) : Type 0 where
  pub none_above : told ≡ false → (E : List Edge) → Lists E table heads links → (x : ℕ) → x ⟶ root ∈ E → x < root

-- As many arrows as lead back to the best group so far; if there is none, as many as are looked for.
unfoldable pub limit_of : (best : Closing) → (most : ℕ) → ℕ
limit_of best most = when (eqb best.arrows 0) (λ _. most) (λ _. best.arrows)

-- More arrows, up to as many as there may be.
pub record Grown (most more : ℕ) : Type 0 where
  pub fits : more ≤ max_items
  pub larger : 1 ≤ most → most < max_items → most < more

-- What the looks from all groups begin with.
pub record Rooted (groups most : ℕ) (tails lows queue : List ℕ) : Type 0 where
  pub fits : groups ≤ max_items
  pub most_fits : most ≤ max_items
  pub tails_long : length tails ≡ max_items
  pub lows_long : length lows ≡ max_items
  pub queue_long : length queue ≡ max_items

-- Of all ways round of at most so many arrows it has the fewest, and the lowest group.
pub record Choice (E : List Edge) (most : ℕ) (c : Closing) : Type 0 where
  pub walk : ¬ (c.arrows ≡ 0) → Walk E c.arrows c.group c.group
  pub beats : (m z : ℕ) → 1 ≤ m → m ≤ most → Walk E m z z → Beats c m z

pub record Chosen (groups most : ℕ) (table : Table) (heads links tails onward lows queue : List ℕ) (c : Closing) : Type 0 where
  pub lows_long : length lows ≡ max_items
  pub queue_long : length queue ≡ max_items
  pub low : c.group < max_items
  pub few : c.arrows ≤ most
  pub choice : (E : List Edge) → Indexed groups E table heads links tails onward → Choice E most c
