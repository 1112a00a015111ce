-- What it means that the tables hold lists of entries: heads, links and tails run through them, and an entry stands in one list only, once.
use Rattle.std.specs.Prelude.{ℕ, ◌<◌, ◌≡◌, ◌≢◌, List, [], ◌∷◌}
use Rattle.model.specs.Limits.{max_items}
use Rattle.memory.specs.Tables.{Row, Rank, Shaped}
use Rattle.entries.specs.Entries.{pool_size}
use Rattle.links.specs.declared.Queues.{Queues}
use Rattle.links.specs.Lists.{ends_size, lists_of_rank, head_end, tail_end, follower, end_of}

-- The first of some entries, or 0; the last of them, or another number where there are none.
abbrev pub first : List ℕ → ℕ
first [] = 0
first (e ∷ es) = e

abbrev pub last_or : ℕ → List ℕ → ℕ
last_or none [] = none
last_or none (e ∷ es) = last_or e es

-- Something holds of all entries.
abbrev pub All : (ℕ → Type 0) → List ℕ → Type 0
All P [] = Unit {0}
All P (e ∷ es) = P e × All P es

-- No entry stands twice.
abbrev pub Once : List ℕ → Type 0
Once [] = Unit {0}
Once (e ∷ es) = All (λ x. x ≢ e) es × Once es

-- Each entry links to the next one, and the last to none.
abbrev pub Run : (ℕ → ℕ) → List ℕ → Type 0
Run next [] = Unit {0}
Run next (e ∷ es) = (next e ≡ first es) × Run next es

-- A list of the tables is these entries.
pub record Chain (t : Queues) (rank list : ℕ) (es : List ℕ) : Type 0 where
  pub head : end_of t rank (head_end list) ≡ first es
  pub tail : end_of t rank (tail_end list) ≡ last_or 0 es
  pub run : Run (follower t) es

-- An entry of the pool whose owner is this list.
pub record Standing (owner : ℕ → ℕ × ℕ) (rank list e : ℕ) : Type 0 where
  pub named : Row max_items e
  pub place : owner e ≡ (rank, list)

-- The lists of all ranks. Since an entry has one owner, it stands in one list.
pub record Chained (t : Queues) (entries : (rank list : ℕ) → List ℕ) (owner : ℕ → ℕ × ℕ) : Type 0 where
  pub pool_shape : Shaped pool_size t.pool
  pub ends_shape : Shaped ends_size t.ends
  pub chains : (rank list : ℕ) → Rank rank → list < lists_of_rank → Chain t rank list (entries rank list)
  pub standing : (rank list : ℕ) → All (Standing owner rank list) (entries rank list)
  pub once : (rank list : ℕ) → Once (entries rank list)
