-- The promise of the items: what is answered and left whatever the arrays hold; and that this is what the definition makes of the items of a program
-- that was read, from a start that the cells hold.
use Rattle.std.specs.Prelude.{ℕ, ◌≤◌, ◌≡◌, List, length}
use Rattle.model.specs.declared.Header.{Header}
use Rattle.model.specs.declared.Item.{Item}
use Rattle.model.specs.Limits.{max_items}
use Rattle.model.specs.Refusals.{Result, Ok, Err}
use Rattle.model.specs.Programs.{Program}
use Rattle.model.specs.Machine.{Start}
use Rattle.model.specs.Replay.{Replayed, begin, take_items, quiet}
use Rattle.record.specs.Places.{ItemsFrom, first_item}
use Rattle.memory.specs.Tables.{Table, zeros, cells_size}
use Rattle.memory.specs.Made.{table_of}
use Rattle.step.specs.Standing.{Loaded}
use Rattle.trails.specs.Trails.{trail_of, trail_size}
use Rattle.runs.specs.declared.Reached.{Reached}
use Rattle.runs.specs.Items.{SoFar, Went, standing, items_on, begun, so_far_on}

-- A program that was read, a table that holds the readings at the start, and items that were read one after the other up to a place.
pub record Readable (program starts : List ℕ) (header : Header) (recorded : List ℕ) (count : ℕ) (cells : Table) : Type 0 where
  pub P : Program
  pub loaded : Loaded program starts header P
  pub readings : Start
  pub table : cells ≡ table_of cells_size readings
  pub items : List Item
  pub end : ℕ
  pub from : ItemsFrom header recorded first_item items end
  pub counted : length items ≡ count
  pub few : count ≤ max_items

-- What the definition makes of the items, as it is answered.
abbrev pub reached_in : Program → (end : ℕ) → Replayed → Reached
reached_in P end run =
    record { place = end; groups = run.last.opened; row = run.last.row; quiet = quiet P run.last.machine }

abbrev pub so_far_of : Program → (end : ℕ) → Result Replayed → SoFar
so_far_of P end (Ok run) = Ok (reached_in P end run)
so_far_of P end (Err r) = Err r

-- The answer; and where all items are taken the cells after them, and in a trail that was cleared a row for each.
pub record TakesAs (P : Program) (end : ℕ) (result : Result Replayed) (told cells trail : Table) (r : SoFar) : Type 0 where
  pub answers : r ≡ so_far_of P end result
  pub leaves : (run : Replayed) → result ≡ Ok run → cells ≡ table_of cells_size run.last.machine.cells
  pub tells : (run : Replayed) → result ≡ Ok run → told ≡ zeros trail_size → trail ≡ trail_of run.events

-- The items on arrays, from the start that the cells hold.
abbrev pub went_from : (program starts : List ℕ) → Header → (recorded : List ℕ) → (count : ℕ) → (cells told : Table) → Went
went_from program starts header recorded count cells told = items_on program starts header recorded count first_item (begun cells told)

-- `cells` and `told` are what cells and trail held before.
pub record Runs (program starts : List ℕ) (header : Header) (recorded : List ℕ) (count : ℕ) (cells told after trail : Table) (r : SoFar)
    : Type 0 where
  pub answers : r ≡ so_far_on header (went_from program starts header recorded count cells told)
  pub leaves : after ≡ (standing (went_from program starts header recorded count cells told)).memory.cells
  pub tells : trail ≡ (standing (went_from program starts header recorded count cells told)).trail
  pub agrees : (given : Readable program starts header recorded count cells) →
      TakesAs given.P given.end (take_items given.P (begin given.readings) 0 given.items) told after trail r
