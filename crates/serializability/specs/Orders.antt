-- What an order of the groups is good for: the part of the greedy order's facts from which a serial run is built.
use Rattle.std.specs.Prelude.{ℕ, ◌<◌, ◌≡◌, true, List, ◌⊎◌, Some, slice_get}
use Rattle.model.specs.Replay.{Event}
use Rattle.model.specs.HappensBefore.{At, same_sequence, conflict}
use Rattle.model.specs.Lists.{Precedes}

-- Two events whose order matters: conflicting accesses, or two commands of one rank.
abbrev pub Dependent : Event → Event → Type 0
Dependent x y = (conflict x.access y.access ≡ true) ⊎ (same_sequence x y ≡ true)

-- An order of all groups, each once, in which dependent events of different groups stand as they do in the record.
pub record Forward (events : List Event) (opened : ℕ) (groups : List ℕ) : Type 0 where
  pub bounded : (i g : ℕ) → slice_get groups i ≡ Some g → g < opened
  pub placed : (g : ℕ) → g < opened → (i : ℕ) × (slice_get groups i ≡ Some g)
  pub once : (i j g : ℕ) → slice_get groups i ≡ Some g → slice_get groups j ≡ Some g → i ≡ j
  pub along : (i j : ℕ) (x y : Event) → At events i x → At events j y → i < j → Dependent x y →
      (x.group ≡ y.group) ⊎ Precedes groups x.group y.group
