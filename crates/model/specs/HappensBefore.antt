-- Happens-before between groups (document 001, section 3; document 01: arrows), twice: as the relation that document 01 words, and as the function
-- that draws it.
use Rattle.std.specs.Prelude.{ℕ, ◌<◌, ◌≡◌, Bool, true, false, ◌&&◌, ◌||◌, List, [], ◌∷◌, ◌++◌, ◌⊎◌, eqb, Option, Some, None, slice_get}
use Rattle.model.specs.Choice.{when}
use Rattle.model.specs.ItemKinds.{is_command_kind}
use Rattle.model.specs.Machine.{Access}
use Rattle.model.specs.Replay.{Event, same_address}

abbrev pub is_command : Event → Bool
is_command e = is_command_kind e.item.kind

-- "Pops are not in program order."
abbrev pub in_program_order : Event → Bool
in_program_order e = is_command e

abbrev pub rank_of : Event → ℕ
rank_of e = e.item.rank

-- Both are command items of one rank.
unfoldable pub same_sequence : Event → Event → Bool
same_sequence x y = in_program_order x && in_program_order y && eqb (rank_of x) (rank_of y)

abbrev pub same_cell : Access → Access → Bool
same_cell a b = same_address a.address b.address

-- x writes the cell that y accesses.
unfoldable pub overwrites : Option Access → Option Access → Bool
overwrites None y = false
overwrites (Some a) None = false
overwrites (Some a) (Some b) = same_cell a b && a.writes

-- "at least one writes"
abbrev pub either_writes : Access → Access → Bool
either_writes a b = a.writes || b.writes

-- Both access one cell, and at least one writes.
unfoldable pub conflict : Option Access → Option Access → Bool
conflict None y = false
conflict (Some a) None = false
conflict (Some a) (Some b) = same_cell a b && either_writes a b

-- The event with this number.
abbrev pub At : List Event → ℕ → Event → Type 0
At events i e = slice_get events i ≡ Some e

-- x stands at i, y later at j, and no event between them passes the test.
pub record Follows (events : List Event) (test : Event → Bool) (x y : Event) : Type 0 where
  pub i : ℕ
  pub j : ℕ
  pub first : At events i x
  pub second : At events j y
  pub before : i < j
  pub none_between : (k : ℕ) (z : Event) → i < k → k < j → At events k z → test z ≡ false

-- "by program order, if some rank's next command item after one in the first lies in the second"
pub record ProgramOrder (events : List Event) (x y : Event) : Type 0 where
  pub same : same_sequence x y ≡ true
  pub next : Follows events (same_sequence x) x y

-- "by conflict, if an access in the first precedes one in the second at the same cell, at least one writes, and no write to that cell lies between"
pub record Conflict (events : List Event) (x y : Event) : Type 0 where
  pub conflicting : conflict x.access y.access ≡ true
  pub nearest : Follows events (λ z. overwrites z.access x.access) x y

-- "An arrow goes from one group to another, different, group."
pub record HappensBefore (events : List Event) (g h : ℕ) : Type 0 where
  pub x : Event
  pub y : Event
  pub from : x.group ≡ g
  pub to : y.group ≡ h
  pub different : ¬ (g ≡ h)
  pub reason : ProgramOrder events x y ⊎ Conflict events x y

-- An arrow as it is drawn, by the groups' numbers; g ⟶ h is the one from g to h.
pub record Edge : Type 0 where
  pub from : ℕ
  pub to : ℕ

infix 70 ◌⟶◌
abbrev pub ◌⟶◌ : (g h : ℕ) → Edge
g ⟶ h = record { from = g; to = h }

abbrev pub edges : Event → Event → List Edge
edges x y = when (eqb x.group y.group) (λ _. []) (λ _. record { from = x.group; to = y.group } ∷ [])

-- The arrow by program order into y; the events before y, the nearest first.
unfoldable pub program_edges : (y : Event) → (before : List Event) → List Edge
unfolding same_sequence
program_edges y [] = []
program_edges y (x ∷ before) = when (same_sequence x y) (λ _. edges x y) (λ _. program_edges y before)

-- The arrows by conflict into y: the search ends at the nearest write.
unfoldable pub conflict_edges : (y : Event) → (before : List Event) → List Edge
unfolding overwrites conflict
conflict_edges y [] = []
conflict_edges y (x ∷ before) =
    when (conflict x.access y.access) (λ _. edges x y) (λ _. []) ++
    when (overwrites x.access y.access) (λ _. []) (λ _. conflict_edges y before)

-- All arrows into the events from here on.
unfoldable pub edges_from : (before rest : List Event) → List Edge
unfolding program_edges conflict_edges
edges_from before [] = []
edges_from before (y ∷ rest) = program_edges y before ++ (conflict_edges y before ++ edges_from (y ∷ before) rest)

-- The arrows of a run, in the order in which they are met.
unfoldable pub edges_of : List Event → List Edge
unfolding edges_from
edges_of = edges_from []
