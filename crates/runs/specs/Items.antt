-- The items of a record on arrays, one after the other: what the code makes of the machine's arrays and of the trail. Nothing is asked of the arrays.
use Rattle.std.specs.Prelude.{ℕ, zero, suc, List, replicate}
use Rattle.model.specs.declared.Header.{Header}
use Rattle.model.specs.declared.Refusal.{Refusal}
use Rattle.model.specs.Limits.{max_ranks}
use Rattle.model.specs.Refusals.{Result, Ok, Err}
use Rattle.model.specs.Records.{read_item}
use Rattle.memory.specs.Tables.{Table, zeros, registers_size}
use Rattle.entries.specs.Entries.{pool_size}
use Rattle.links.specs.Lists.{ends_size}
use Rattle.queues.specs.Endings.{all_empty}
use Rattle.items.specs.declared.rows.Progress.{Progress}
use Rattle.machine.specs.Arrays.{Memory, memory}
use Rattle.step.specs.Steps.{item_on}
use Rattle.trails.specs.Trails.{told}
use Rattle.machine.specs.declared.Machine.{Machine}
use Rattle.runs.specs.declared.Reached.{Reached}

-- Where the replay stands: its arrays, how far it is, and what it has told.
pub record RunState : Type 0 where
  pub memory : Memory
  pub progress : Progress
  pub trail : Table

-- Before the first item: over the cells at the start every rank is in state 0, registers are 0 and queues empty.
abbrev pub idle : Machine
idle =
    record {
      control = replicate max_ranks 0;
      registers = zeros registers_size;
      queues = record { pool = zeros pool_size; ends = zeros ends_size };
    }

abbrev pub made : (cells : Table) → Memory
made cells = memory idle cells

abbrev pub begun : (cells trail : Table) → RunState
begun cells trail = record { memory = made cells; progress = record { at = 0; opened = 0; row = 0 }; trail = trail }

-- How far items go: all are taken, up to a place; or one is refused, and all stands as before it.
pub data Went : Type 0 where
  taken : (place : ℕ) → RunState → Went
  stopped : Refusal → RunState → Went

abbrev pub standing : Went → RunState
standing (taken place s) = s
standing (stopped r s) = s

-- What a result leads to; a refusal to nothing more.
abbrev pub go_on : {A : Type 0} → RunState → Result A → (A → Went) → Went
go_on s (Ok a) rest = rest a
go_on s (Err r) rest = stopped r s

-- So many items from a place.
unfoldable pub items_on : (bytes starts : List ℕ) → Header → (recorded : List ℕ) → (left place : ℕ) → RunState → Went
unfolding told
items_on bytes starts h recorded zero place s = taken place s
items_on bytes starts h recorded (suc left) place s =
    go_on s (read_item h recorded place) λ f.
    go_on s (item_on bytes starts h f.value s.progress s.memory) λ l.
    items_on bytes starts h recorded left f.next
    (record {
      memory = l.memory;
      progress = l.next;
      trail = told s.trail s.progress.at f.value l.group l.access;
    })

-- What is answered of them.
abbrev pub SoFar : Type 0
SoFar = Result Reached

abbrev pub so_far_on : Header → Went → SoFar
so_far_on h (taken place s) =
    Ok
    (record {
      place = place;
      groups = s.progress.opened;
      row = s.progress.row;
      quiet = all_empty s.memory.queues.ends h.ranks h.queues;
    })
so_far_on h (stopped r s) = Err r
