-- One taken item of a record as a move, from a state by an event to a state: the replay's inversion, with what the record says of a command item.
use Prim.Native.Nat.{ℕ}
use mathlib.Core.Path.{◌≡◌, refl, subst}
use mathlib.Core.List.{List}
use Rattle.model.specs.declared.Item.{Item}
use Rattle.model.specs.Refusals.{Ok}
use Rattle.model.specs.Programs.{Program, Transition}
use Rattle.model.specs.Machine.{Request, Delivery, Action}
use Rattle.model.specs.Replay.{Origin, Event, Replay, Taken, after_command, after_fetch, after_delivery, take_item}
use Rattle.model.specs.Traces.{InRecord}
use Rattle.model.proofs.Actions.{action_asks}
use Rattle.model.proofs.Replay as Inversion
use Rattle.model.proofs.Replay.{CommandTaken, FetchTaken, DeliveryTaken, ItemTaken, takes_item}
use Rattle.record_facts.proofs.Actions.{Fits, action_fits}

-- A command item of a record with the transition and the action that it takes.
pub record Commands (P : Program) (s : Replay) (i : Item) (t : Transition) (a : Action) : Type 0 where
  pub in_record : InRecord P.header i
  pub fits : Fits P a i.kind
  pub taken : CommandTaken P s i t a

pub data Move (P : Program) (s : Replay) : Event → Replay → Type 0 where
  commands : (i : Item) (t : Transition) (a : Action) → Commands P s i t a →
      Move P s (after_command P s i t.target a).event (after_command P s i t.target a).state
  fetches : (i : Item) (a : Request Origin) (rest : List (Request Origin)) → FetchTaken s i a rest →
      Move P s (after_fetch s i a rest).event (after_fetch s i a rest).state
  delivers : (i : Item) (b : Delivery Origin) (rest : List (Delivery Origin)) → DeliveryTaken s i b rest →
      Move P s (after_delivery s i b rest).event (after_delivery s i b rest).state

-- An item is taken by a move whose event is that item's.
abbrev pub TakenBy : (P : Program) (s : Replay) → Item → Taken → Type 0
TakenBy P s i taken = Move P s taken.event taken.state × (taken.event.item ≡ i)

pub item_taken : (P : Program) (s : Replay) (at : ℕ) (i : Item) {taken : Taken} → InRecord P.header i → take_item P s at i ≡ Ok taken →
    TakenBy P s i taken
item_taken P s at i within h = go (Inversion.item_taken P s at i h)
  where
    go : {taken : Taken} → ItemTaken P s i taken → TakenBy P s i taken
    go (Inversion.commands t a c) =
        let asks = action_asks P i.rank (s.machine.registers i.rank) 0 t.command (c.acts 0) in
        (commands i t a (record { in_record = within; fits = subst (Fits P a) c.kind (action_fits asks); taken = c }), refl)
    go (Inversion.fetches a rest f) = (fetches i a rest f, refl)
    go (Inversion.delivers b rest d) = (delivers i b rest d, refl)

-- And a move's item is taken, whatever its number.
pub move_takes : {P : Program} {s s' : Replay} {e : Event} → Move P s e s' → (at : ℕ) →
    take_item P s at e.item ≡ Ok (record { state = s'; event = e })
move_takes {P} {s} (commands i t a c) at = takes_item P s at i (Inversion.commands t a c.taken)
move_takes {P} {s} (fetches i a rest c) at = takes_item P s at i (Inversion.fetches a rest c)
move_takes {P} {s} (delivers i b rest c) at = takes_item P s at i (Inversion.delivers b rest c)
