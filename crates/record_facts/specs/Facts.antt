-- What holds of the events of every accepted record, whatever the state was: the facts from which serializability is argued. Each rank goes its own
-- way by what it loads; a cell holds what was last written; a group is a command, a transfer with its two pops, or a barrier row.
use Rattle.model.specs.declared.Action.TheVariants.{Loads, Stores, Assigns, Passes, Issues, Meets}
use Rattle.std.specs.Prelude.{ℕ, suc, ◌<◌, ◌≡◌, Bool, true, false, ◌&&◌, List, [], ◌∷◌, map, eqb, length, take, Option, Some, None, slice_get}
use Rattle.model.specs.declared.Address.{Address}
use Rattle.model.specs.declared.Item.{Item}
use Rattle.model.specs.declared.Kind.{Kind}
use Rattle.model.specs.declared.Kind.TheVariants.{Popa, Popb, Bar}
use Rattle.model.specs.Refusals.{Ok}
use Rattle.model.specs.Choice.{when, select, numbers_from, Each}
use Rattle.model.specs.ItemKinds.{is_bar, is_transfer}
use Rattle.model.specs.Programs.{Program, Transition, kind_of}
use Rattle.model.specs.Machine.{Start, Access, read_of, write_of, put, put₂, Action, action}
use Rattle.model.specs.Replay.{Event, Replayed, joins_row, agrees_with, access_of, queue_of, is_for}
use Rattle.model.specs.HappensBefore.{At, is_command, rank_of}
use Rattle.model.specs.Traces.{command_of}
use Rattle.model.specs.Checks.{group_events}

-- How many command items a rank has among these events.
abbrev pub count_of : (rank : ℕ) → List Event → ℕ
count_of rank events = length (select (command_of rank) events)

-- How many bars a rank has among these events.
abbrev pub bar_of : (rank : ℕ) → Event → Bool
bar_of rank e = is_bar e.item.kind && eqb (rank_of e) rank

abbrev pub bars_of : (rank : ℕ) → List Event → ℕ
bars_of rank events = length (select (bar_of rank) events)

-- The cells after these events: the last write to a cell counts.
unfoldable pub written : Start → Option Access → Start
unfolding put₂
written cells None = cells
written cells (Some a) =
    when a.writes (λ _. put₂ cells a.address.rank a.address.cell a.value) (λ _. cells)

unfoldable pub cells_after : Start → List Event → Start
unfolding written
cells_after cells [] = cells
cells_after cells (e ∷ events) = cells_after (written cells e.access) events

-- What a rank has of its own: its control state and its registers.
pub record Local : Type 0 where
  pub control : ℕ
  pub registers : ℕ → ℕ

abbrev pub initial_local : Local
initial_local = record { control = 0; registers = λ index. 0 }

-- The registers after an action; `value` is what a load reads.
unfoldable pub registers_after : Action → (value : ℕ) → (ℕ → ℕ) → ℕ → ℕ
unfolding put
registers_after (Loads x a) value registers = put registers x value
registers_after (Stores a v) value registers = registers
registers_after (Assigns x v) value registers = put registers x v
registers_after Passes value registers = registers
registers_after (Issues q remote source destination) value registers = registers
registers_after Meets value registers = registers

-- A command event takes its rank from one local state to the next: what the rank does depends on its local state and on what it loads, and on nothing
-- else.
pub record CommandStep (P : Program) (l : Local) (e : Event) (l' : Local) : Type 0 where
  pub transition : Transition
  pub act : Action
  pub value : ℕ
  pub taken : slice_get P.transitions e.item.transition ≡ Some transition
  pub from : transition.source ≡ l.control
  pub kind : kind_of transition.command ≡ e.item.kind
  pub acts : (at : ℕ) → action P (rank_of e) l.registers at transition.command ≡ Ok act
  pub access : e.access ≡ access_of (rank_of e) act (λ rank cell. value)
  pub queue : e.queue ≡ queue_of act
  pub control : l'.control ≡ transition.target
  pub registers : l'.registers ≡ registers_after act value l.registers

-- A pop of a transfer: of its rank and queue, and known by its command's place.
pub record PopOf (kind : Kind) (e p : Event) : Type 0 where
  pub kind_is : p.item.kind ≡ kind
  pub rank : rank_of p ≡ rank_of e
  pub place : p.place ≡ e.place
  pub queue : p.queue ≡ e.queue
  pub item_queue : p.item.queue ≡ e.queue

-- A transfer with its popa and popb. `local` is where each rank is after so many commands: by that the transfer asks for a copy from `source` to
-- `destination`, with this remote rank, and each of its pops names that rank or none.
pub record TransferOf (P : Program) (local : ℕ → ℕ → Local) (e a b : Event) : Type 0 where
  pub remote : ℕ
  pub source : Address
  pub destination : Address
  pub value : ℕ
  pub is_transfer_lem : is_transfer e.item.kind ≡ true
  pub fetch_of_lem : PopOf Popa e a
  pub delivery_of_lem : PopOf Popb e b
  pub fetch_for : is_for a.item.remote remote ≡ true
  pub delivery_for_lem : is_for b.item.remote remote ≡ true
  pub reads : a.access ≡ read_of source value
  pub writes : b.access ≡ write_of destination value
  pub acts : (at : ℕ) (t : Transition) → slice_get P.transitions e.item.transition ≡ Some t →
      action P (rank_of e) (local (rank_of e) e.place).registers at t.command ≡ Ok (Issues e.queue remote source destination)

-- "A group is a read or write with its popa and popb; a barrier row; or any other single command item."
pub data Shape (P : Program) (local : ℕ → ℕ → Local) : List Event → Type 0 where
  single : (e : Event) → is_command e ≡ true → is_transfer e.item.kind ≡ false → is_bar e.item.kind ≡ false → Shape P local (e ∷ [])
  transfer : (e a b : Event) → TransferOf P local e a b → Shape P local (e ∷ a ∷ b ∷ [])
  row : (bars : List Event) → Each (λ e. e.item.kind ≡ Bar) bars → map rank_of bars ≡ numbers_from 1 P.header.ranks → Shape P local bars

pub record Facts (P : Program) (start : Start) (items : List Item) (run : Replayed) : Type 0 where
  -- the events are the items', one for one, and each agrees with what its item gives
  pub items_of : map (λ e. e.item) run.events ≡ items
  pub agrees : (i : ℕ) (e : Event) → At run.events i e → agrees_with e.item e.access ≡ true
  -- each rank's local run
  pub local : (rank count : ℕ) → Local
  pub local_start : (rank : ℕ) → local rank 0 ≡ initial_local
  pub local_step : (i : ℕ) (e : Event) → At run.events i e → is_command e ≡ true →
      CommandStep P (local (rank_of e) e.place) e (local (rank_of e) (suc e.place))
  pub control_end : (rank : ℕ) → run.last.machine.control rank ≡ (local rank (count_of rank run.events)).control
  pub registers_end : (rank : ℕ) → run.last.machine.registers rank ≡ (local rank (count_of rank run.events)).registers
  pub place_of : (i : ℕ) (e : Event) → At run.events i e → is_command e ≡ true → e.place ≡ count_of (rank_of e) (take i run.events)
  -- the cells: a read finds what was last written
  pub reads : (i : ℕ) (e : Event) (a : Access) → At run.events i e → e.access ≡ Some a → a.writes ≡ false →
      a.value ≡ cells_after start (take i run.events) a.address.rank a.address.cell
  pub cells_end : (rank cell : ℕ) → run.last.machine.cells rank cell ≡ cells_after start run.events rank cell
  -- the groups: numbered by their first item, each of one of three shapes
  pub group_bound : (i : ℕ) (e : Event) → At run.events i e → e.group < run.last.opened
  pub opens : (i j : ℕ) (e x : Event) → At run.events i e → is_command e ≡ true → joins_row e.item ≡ false →
      j < i → At run.events j x → x.group < e.group
  pub joins : (i : ℕ) (e : Event) → At run.events i e → joins_row e.item ≡ true →
      (j : ℕ) × (x : Event) × (suc j ≡ i) × At run.events j x × (x.group ≡ e.group)
  pub shape : (g : ℕ) → g < run.last.opened → Shape P local (group_events g run.events)
  -- the j-th bars of all ranks are one row
  pub row_group_lem : ℕ → ℕ
  pub bar_group : (i : ℕ) (e : Event) → At run.events i e → e.item.kind ≡ Bar → e.group ≡ row_group_lem (bars_of (rank_of e) (take i run.events))
  pub bar_index : (i j : ℕ) (e x : Event) → At run.events i e → At run.events j x → e.item.kind ≡ Bar → x.item.kind ≡ Bar →
      e.group ≡ x.group → bars_of (rank_of e) (take i run.events) ≡ bars_of (rank_of x) (take j run.events)
