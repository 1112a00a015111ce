-- The replay places its refusals at an item, or behind the last one.
use Rattle.std.specs.Prelude.{Option, Some, None, slice_get}
use Prim.Native.Nat.{ℕ, ◌+◌}
use mathlib.Core.Bool.{Bool, ◌&&◌}
use mathlib.Core.List.{List, [], ◌∷◌}
use native.Mathlib.Omega.{arith}
use lib.Dec.{ltb, eqb}
use lib.ListN.{length}
use Rattle.model.specs.declared.Item.{Item}
use Rattle.model.specs.Refusals.{wrong_transition, operand_range, assume_fails, empty_queue, access_differs, barrier_row, queues_left, no_value}
use Rattle.model.specs.Choice.{between}
use Rattle.model.specs.ItemKinds.{same_kind, Part, command, fetch, delivery, part_of}
use Rattle.model.specs.Expressions.{Expression}
use Rattle.model.specs.Programs.{Program, Transition, Command, load, store, assign, assume, read, write, bar, kind_of}
use Rattle.model.specs.Machine.{Start, Request, Delivery, value_of, value, ranged, transfer, action}
use Rattle.model.specs.Replay.{Origin, Replay, Taken, row_allows, agrees_with, agreed, take_transition, take_fetch, take_delivery, take_part, take_item}
use Rattle.model.specs.Replay.{after_command, after_fetch, after_delivery, request_for, delivery_for, oldest, take_items, begin, quiet, at_end, replay}
use Rattle.model.proofs.Places.{Placed, placed_ok, placed_refuse, placed_bind, placed_later, placed_require, placed_present}

-- An item is refused at its number.
module _ (P : Program) (at : ℕ) where
  module _ (rank : ℕ) (registers : ℕ → ℕ) where
    value_placed : (e : Expression) → Placed at (value P rank registers at e)
    unfolding value
    value_placed e = placed_present (value_of P rank registers e) no_value at

    ranged_placed : (test : Bool) → Placed at (ranged P rank registers at test)
    ranged_placed test = placed_require test operand_range at

    transfer_placed : (e1 e2 e3 e4 : Expression) → Placed at (transfer P rank registers at e1 e2 e3 e4)
    unfolding transfer
    transfer_placed e1 e2 e3 e4 =
        placed_bind (value_placed e1) λ own _.
        placed_bind (value_placed e2) λ remote _.
        placed_bind (value_placed e3) λ cell _.
        placed_bind (value_placed e4) λ queue _.
        placed_bind (ranged_placed (ltb own P.header.cells)) λ _ _.
        placed_bind (ranged_placed (between 1 P.header.ranks remote)) λ _ _.
        placed_bind (ranged_placed (ltb cell P.header.cells)) λ _ _.
        placed_bind (ranged_placed (ltb queue P.header.queues)) λ _ _.
        placed_ok _

    action_placed : (c : Command) → Placed at (action P rank registers at c)
    unfolding action
    action_placed (load x e1) = placed_bind (value_placed e1) λ cell _. placed_bind (ranged_placed (ltb cell P.header.cells)) λ _ _. placed_ok _
    action_placed (store e1 e2) =
        placed_bind (value_placed e1) λ cell _.
        placed_bind (value_placed e2) λ stored _.
        placed_bind (ranged_placed (ltb cell P.header.cells)) λ _ _.
        placed_ok _
    action_placed (assign x e1) = placed_bind (value_placed e1) λ assigned _. placed_ok _
    action_placed (assume e1) =
        placed_bind (value_placed e1) λ assumed _. placed_bind (placed_require (ltb 0 assumed) assume_fails at) λ _ _. placed_ok _
    action_placed (read e1 e2 e3 e4) = placed_bind (transfer_placed e1 e2 e3 e4) λ t _. placed_ok _
    action_placed (write e1 e2 e3 e4) = placed_bind (transfer_placed e1 e2 e3 e4) λ t _. placed_ok _
    action_placed bar = placed_ok _

  agreed_placed : (taken : Taken) → Placed at (agreed at taken)
  unfolding agreed
  agreed_placed taken =
      placed_bind (placed_require (agrees_with taken.event.item taken.event.access) access_differs at) λ _ _. placed_ok taken

  module _ (s : Replay) (i : Item) where
    transition_placed : (t : Option Transition) → Placed at (take_transition P s at i t)
    unfolding take_transition
    transition_placed None = placed_refuse wrong_transition at (omega arith)
    transition_placed (Some t) =
        let fits : Bool = eqb t.source (s.machine.control i.rank) && same_kind (kind_of t.command) i.kind in
        placed_bind (placed_require fits wrong_transition at) λ _ _.
        placed_bind (action_placed i.rank (s.machine.registers i.rank) t.command) λ a _.
        agreed_placed (after_command P s i t.target a)

    fetch_placed : (o : Option (Request Origin × List (Request Origin))) → Placed at (take_fetch s at i o)
    unfolding take_fetch
    fetch_placed None = placed_refuse empty_queue at (omega arith)
    fetch_placed (Some (a, rest)) = agreed_placed (after_fetch s i a rest)

    delivery_placed : (o : Option (Delivery Origin × List (Delivery Origin))) → Placed at (take_delivery s at i o)
    unfolding take_delivery
    delivery_placed None = placed_refuse empty_queue at (omega arith)
    delivery_placed (Some (b, rest)) = agreed_placed (after_delivery s i b rest)

    part_placed : (p : Part) → Placed at (take_part P s at i p)
    unfolding take_part
    part_placed command = transition_placed (slice_get P.transitions i.transition)
    part_placed fetch = fetch_placed (oldest (request_for i) (s.machine.requests i.rank i.queue))
    part_placed delivery = delivery_placed (oldest (delivery_for i) (s.machine.deliveries i.rank i.queue))

    item_placed : Placed at (take_item P s at i)
    unfolding take_item
    item_placed = placed_bind (placed_require (row_allows s.row i) barrier_row at) λ _ _. part_placed (part_of i.kind)

-- The items, and what is left at their end.
module _ (P : Program) where
  items_placed : (s : Replay) (at : ℕ) (items : List Item) → Placed (at + length items) (take_items P s at items)
  unfolding take_items
  items_placed s at [] = placed_ok _
  items_placed s at (i ∷ items) =
      placed_bind (placed_later (omega arith) (item_placed P at s i)) λ taken _.
      placed_bind (placed_later (omega arith) (items_placed taken.state (at + 1) items)) λ rest _.
      placed_ok _

  pub replay_placed : (start : Start) (items : List Item) → Placed (length items) (replay P start items)
  unfolding replay at_end
  replay_placed start items =
      placed_bind (placed_later (omega arith) (items_placed (begin start) 0 items)) λ r _.
      placed_bind (placed_require (eqb r.last.row 0) barrier_row (length items)) λ _ _.
      placed_bind (placed_require (quiet P r.last.machine) queues_left (length items)) λ _ _.
      placed_ok r
