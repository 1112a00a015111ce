-- Every value that an accepted run holds fits sixteen bits, since the readings at its start do: a command stores or assigns what an expression comes to,
-- and all else that the replay does is to carry values from cells to registers, to deliveries and back.
use Rattle.model.specs.declared.Action.TheVariants.{Loads, Stores, Assigns, Passes, Issues, Meets}
use Prim.Native.Nat.{ℕ, ◌+◌, ◌<◌}
use mathlib.Core.Path.{◌≡◌}
use mathlib.Core.List.{List, [], ◌∷◌}
use native.Mathlib.Omega.{arith}
use lib.Dec.{eqb}
use lib.ListN.{length}
use Rattle.model.specs.declared.Item.{Item}
use Rattle.model.specs.Limits.{word_values}
use Rattle.model.specs.Refusals.{Ok, barrier_row, queues_left}
use Rattle.model.specs.Choice.{Each, all, one}
use Rattle.model.specs.Bytes.{AreBytes}
use Rattle.model.specs.Programs.{Program, Command}
use Rattle.model.specs.Machine.{State, Delivery, Action, value_of}
use Rattle.model.specs.Machine.{Start, initial, move_to, set_register, set_cell, set_requests, set_deliveries}
use Rattle.model.specs.Replay.{Origin, Replay, Taken, Replayed, perform, take_item, take_items, begin, quiet, at_end, replay}
use Rattle.model.specs.Checks.{Accepted, accept}
use Rattle.model.proofs.Laws.{bind_ok, required, ok_injective, put₂_holds, each_at}
use Rattle.model.proofs.Ranges.{Ranged, header_fits}
use Rattle.model.proofs.Actions.{Asks, loading, storing, assigning, passing, reading, writing, meeting, action_asks}
use Rattle.model.proofs.Replay.{ItemTaken, commands, fetches, delivers, item_taken, taken_oldest}
use Rattle.model.proofs.Accepted.{accepted_parts}
use Rattle.record_facts.proofs.Queues.{oldest_out, each_out}
use Rattle.record_facts.proofs.Rows.{each_snoc}
use Rattle.record_facts.proofs.Bounds.{read_ranged}
use Rattle.sizes.proofs.Readings.{readings_fit}
use Rattle.sizes.proofs.Constants.{ValueFits, evaluate_fits, values_fit}

abbrev Fits : ℕ → Type 0
Fits v = v < word_values

abbrev Fitting : List (Delivery Origin) → Type 0
Fitting = Each (λ b. Fits b.value)

-- The values that a state holds.
record Small (s : State Origin) : Type 0 where
  registers : (rank index : ℕ) → Fits (s.registers rank index)
  cells : (rank cell : ℕ) → Fits (s.cells rank cell)
  deliveries : (rank queue : ℕ) → Fitting (s.deliveries rank queue)

-- What an action writes.
abbrev ActionFits : Action → Type 0
ActionFits (Loads x a) = Unit {0}
ActionFits (Stores a v) = Fits v
ActionFits (Assigns x v) = Fits v
ActionFits Passes = Unit {0}
ActionFits (Issues q remote source destination) = Unit {0}
ActionFits Meets = Unit {0}

module _ (rank : ℕ) (origin : Origin) (s : State Origin) (small : Small s) where
  performed : (a : Action) → ActionFits a → Small (perform rank origin a s)
  unfolding perform set_register set_cell set_requests
  performed (Loads x a) fits =
      record {
        registers = put₂_holds Fits s.registers rank x (small.cells rank a) small.registers;
        cells = small.cells;
        deliveries = small.deliveries;
      }
  performed (Stores a v) fits =
      record {
        registers = small.registers;
        cells = put₂_holds Fits s.cells rank a fits small.cells;
        deliveries = small.deliveries;
      }
  performed (Assigns x v) fits =
      record {
        registers = put₂_holds Fits s.registers rank x fits small.registers;
        cells = small.cells;
        deliveries = small.deliveries;
      }
  performed Passes fits = small
  performed (Issues q remote source destination) fits =
      record { registers = small.registers; cells = small.cells; deliveries = small.deliveries }
  performed Meets fits = small

module _ (P : Program) (few : Fits P.header.ranks) where
  module _ (rank : ℕ) (registers : ℕ → ℕ) (low : Fits rank) (held : (i : ℕ) → Fits (registers i)) where
    asked_fits : {c : Command} {a : Action} → ValueFits c → Asks P rank registers c a → ActionFits a
    unfolding ValueFits value_of
    asked_fits fits (loading here cell) = tt
    asked_fits fits (storing {e₂ = e} here stored cell) = evaluate_fits P.header.ranks rank registers few low held e fits stored
    asked_fits fits (assigning {e = e} assigned) = evaluate_fits P.header.ranks rank registers few low held e fits assigned
    asked_fits fits (passing assumed test) = tt
    asked_fits fits (reading operands) = tt
    asked_fits fits (writing operands) = tt
    asked_fits fits meeting = tt

  module _ (fit : Each (λ t. ValueFits t.command) P.transitions) where
    stepped : (s : Replay) (i : Item) {t : Taken} → Fits i.rank → Small s.machine → ItemTaken P s i t → Small t.state.machine
    unfolding move_to set_requests set_deliveries set_cell
    stepped s i low small (commands t a c) =
        let registers = s.machine.registers i.rank in
        let asks = action_asks P i.rank registers 0 t.command (c.acts 0) in
        let fits = asked_fits i.rank registers low (small.registers i.rank) (each_at P.transitions fit i.transition c.found) asks in
        let after = performed i.rank _ s.machine small a fits in
        record { registers = after.registers; cells = after.cells; deliveries = after.deliveries }
    stepped s i low small (fetches a rest c) =
        record {
          registers = small.registers;
          cells = small.cells;
          deliveries =
              put₂_holds Fitting s.machine.deliveries i.rank i.queue
              (each_snoc (small.deliveries i.rank i.queue) (small.cells a.source.rank a.source.cell)) small.deliveries;
        }
    stepped s i low small (delivers b rest c) =
        let (first, others) = each_out (oldest_out (taken_oldest c)) (small.deliveries i.rank i.queue) in
        record {
          registers = small.registers;
          cells = put₂_holds Fits s.machine.cells b.destination.rank b.destination.cell first small.cells;
          deliveries = put₂_holds Fitting s.machine.deliveries i.rank i.queue others small.deliveries;
        }

    walked : {bytes : List ℕ} (s : Replay) (at : ℕ) (items : List Item) {run : Replayed} → Each (Ranged P.header bytes) items →
        Small s.machine → take_items P s at items ≡ Ok run → Small run.last.machine
    unfolding take_items
    walked s at [] ranged small h = rw (← (ok_injective h)) small
    walked s at (i ∷ items) (one r ranged) small h =
        let (t, taken, h₁) = bind_ok (take_item P s at i) _ h in
        let (rest, others, h₂) = bind_ok (take_items P t.state (at + 1) items) _ h₁ in
        let low : Fits i.rank = omega (arith, r.rank.high, few) in
        rw (← (ok_injective h₂)) (walked t.state (at + 1) items ranged (stepped s i low small (item_taken P s at i taken)) others)

    replayed : {bytes : List ℕ} (start : Start) (items : List Item) {run : Replayed} → ((rank cell : ℕ) → Fits (start rank cell)) →
        Each (Ranged P.header bytes) items → replay P start items ≡ Ok run → Small run.last.machine
    unfolding replay at_end begin initial
    replayed start items begun ranged h =
        let (r, taken, ended) = bind_ok (take_items P (begin start) 0 items) _ h in
        let row = required (eqb r.last.row 0) barrier_row (length items) _ ended in
        let queues = required (quiet P r.last.machine) queues_left (length items) _ row.1 in
        rw (← (ok_injective queues.1))
        (walked (begin start) 0 items ranged
        (record { registers = λ rank index. omega arith; cells = begun; deliveries = λ rank queue. all }) taken)

-- The last cells of an accepted record.
pub cells_fit : (program start recorded : List ℕ) {a : Accepted} → AreBytes program → accept program start recorded ≡ Ok a →
    (rank cell : ℕ) → a.run.last.machine.cells rank cell < word_values
cells_fit program start recorded {a} bound accepted =
    let p = accepted_parts program start recorded a accepted in
    let header = a.program.header in
    let few : Fits header.ranks = omega (arith, (header_fits program p.program_read_lem).ranks_fit) in
    (replayed a.program few (values_fit program bound p.program_read_lem) a.readings p.items (readings_fit header start p.start_read_lem)
    (read_ranged header recorded p.record_read_lem) p.replayed).cells
