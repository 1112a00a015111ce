-- How a program stands in its bytes, and the promise of the step.
use Rattle.std.specs.Prelude.{ℕ, ◌≤◌, ◌<◌, ◌≡◌, List, true, get_or, Some, Err, slice_get}
use Rattle.model.specs.declared.Header.{Header}
use Rattle.model.specs.declared.Item.{Item}
use Rattle.model.specs.declared.Refusal.{Refusal}
use Rattle.model.specs.Programs.{read_transition, Program, Transition, HeaderFits}
use Rattle.model.specs.ItemKinds.{part_of, has_place}
use Rattle.model.specs.Limits.{max_items}
use Rattle.model.specs.Bytes.{found}
use Rattle.model.specs.Replay.{Replay, take_item}
use Rattle.model.specs.Traces.{ChosenIn}
use Rattle.items.specs.declared.rows.Progress.{Progress}
use Rattle.machine.specs.Arrays.{Memory}
use Rattle.machine.specs.Outcomes.{Does, Outcome}
use Rattle.machine.specs.Standing.{Standing, Agree}
use Rattle.step.specs.Steps.{item_on}

-- A transition of a program, which stands in the bytes at its start.
pub record Stands (bytes starts : List ℕ) (header : Header) (P : Program) (number : ℕ) : Type 0 where
  pub transition : Transition
  pub end : ℕ
  pub named : slice_get P.transitions number ≡ Some transition
  pub read : read_transition header bytes (get_or starts number 0) ≡ found transition end

-- An item whose rank, transition or queue, and place are ones that a program with this header has.
pub record ItemFits (header : Header) (i : Item) : Type 0 where
  pub low : 1 ≤ i.rank
  pub high : i.rank ≤ header.ranks
  pub choice : ChosenIn header (part_of i.kind) i
  pub place_low : has_place i.kind ≡ true → 1 ≤ i.place.rank
  pub place_high : has_place i.kind ≡ true → i.place.rank ≤ header.ranks
  pub place_cell : has_place i.kind ≡ true → i.place.cell < header.cells

-- A program with its bytes, starts and header: its numbers are within the limits, and each transition stands at its start.
pub record Loaded (bytes starts : List ℕ) (header : Header) (P : Program) : Type 0 where
  pub same : P.header ≡ header
  pub fits : HeaderFits header
  pub stands : (number : ℕ) → number < header.transitions → Stands bytes starts header P number

-- The promise. From every state that the arrays stand for, the code takes or refuses an item of a record as the definition does; a refusal leaves
-- every array as it was; and whatever the arrays hold, the step on arrays says what is answered and left.
pub record Steps (bytes starts : List ℕ) (header : Header) (i : Item) (p : Progress) (before after : Memory) (outcome : Outcome) : Type 0 where
  pub agrees : (P : Program) (s : Replay) → Loaded bytes starts header P → ItemFits header i → p.at < max_items → Standing before p s →
      Agree p.at (take_item P s p.at i) after outcome
  pub kept : (r : Refusal) → outcome ≡ Err r → after ≡ before
  pub does : Does (item_on bytes starts header i p before) before after outcome
