-- What the arrays stand for: the groups left, and for each group how many arrows lead into it.
use Rattle.std.specs.Prelude.{ℕ, ◌<◌, ◌≡◌, Bool, true, ◌&&◌, eqb}
use Rattle.bitmap.specs.Bitmaps.{Holds}
use Rattle.indexing.specs.Degrees.{by_group}
use Rattle.placing.specs.declared.counts.Counts.{Counts}

-- The counts are a function's, those groups left are ready whose count is 0, and a group that waits is one of those left.
pub record Stands (left : ℕ → Bool) (degree : ℕ → ℕ) (c : Counts) : Type 0 where
  pub waits : c.waiting ≡ by_group degree
  pub holds : Holds c.ready (λ g. left g && eqb (degree g) 0)
  pub pending : (g : ℕ) → 0 < degree g → left g ≡ true
