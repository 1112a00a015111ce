-- The entries of a queue stand in the order in which they were appended: the numbers of the items that appended them rise along it. An item has a
-- higher number than all before it, so what it appends keeps them rising; and so does what a pop leaves.
use Rattle.model.specs.declared.Action.TheVariants.{Loads, Stores, Assigns, Passes, Issues, Meets}
use Prim.Native.Nat.{ℕ, suc}
use mathlib.Core.Path.{◌≡◌, ◌∙◌}
use mathlib.Core.Bool.{true}
use mathlib.Core.List.{List, [], ◌∷◌, ◌++◌, append_assoc}
use native.Mathlib.Omega.{arith}
use lib.ListN.{length, length-append}
use Rattle.model.specs.declared.Item.{Item}
use Rattle.model.specs.ItemKinds.{is_transfer}
use Rattle.model.specs.Programs.{Program, Transition}
use Rattle.model.specs.Machine.{Start, Request, Delivery, initial, move_to, set_register, set_cell, set_requests, set_deliveries, Action}
use Rattle.model.specs.Replay.{Origin, Event, Replay, begin, perform, origin_of, after_command, after_fetch, after_delivery}
use Rattle.model.specs.HappensBefore.{At}
use Rattle.model.proofs.Laws.{put₂_holds}
use Rattle.model.proofs.Selections.{split_at}
use Rattle.model.proofs.Replay.{FetchTaken, DeliveryTaken, taken_oldest}
use Rattle.record_facts.specs.Facts.{Local}
use Rattle.record_facts.proofs.Moves.{Commands, Move, commands, fetches, delivers}
use Rattle.record_facts.proofs.Trajectory.{Run, begins, grows}
use Rattle.record_facts.proofs.Queues.{oldest_out}
use Rattle.record_facts.proofs.Numbers.{Rises, none, rises_wider, rises_last, rises_out}
use Rattle.record_facts.proofs.Popping.{is_fetch, number_of, transfer_number, fetch_number}

-- The number of the item that appended an entry: a request's transfer, and a delivery's fetch.
module _ (events : List Event) where
  abbrev pub request_number : Request Origin → ℕ
  request_number a = number_of events is_transfer a.mark.group

  abbrev pub delivery_number : Delivery Origin → ℕ
  delivery_number b = number_of events is_fetch b.mark.group

  -- All queues are in order after n items.
  pub record InOrder (n : ℕ) (s : Replay) : Type 0 where
    pub requests : (rank queue : ℕ) → Rises request_number n (s.machine.requests rank queue)
    pub deliveries : (rank queue : ℕ) → Rises delivery_number n (s.machine.deliveries rank queue)

  module _ {n : ℕ} {s : Replay} (ordered : InOrder n s) where
    still_requests : (rank queue : ℕ) → Rises request_number (suc n) (s.machine.requests rank queue)
    still_requests rank queue = rises_wider request_number (omega arith) (ordered.requests rank queue)

    still_deliveries : (rank queue : ℕ) → Rises delivery_number (suc n) (s.machine.deliveries rank queue)
    still_deliveries rank queue = rises_wider delivery_number (omega arith) (ordered.deliveries rank queue)

    -- After a command: a transfer's request is the newest of its queue.
    command_order : {P : Program} (i : Item) (t : Transition) (a : Action) → Commands P s i t a →
        (is_transfer i.kind ≡ true → number_of events is_transfer (origin_of s i).group ≡ n) →
        InOrder (suc n) (after_command P s i t.target a).state
    unfolding move_to perform set_register set_cell set_requests
    command_order i t (Loads x v) c new = record { requests = still_requests; deliveries = still_deliveries }
    command_order i t (Stores x v) c new = record { requests = still_requests; deliveries = still_deliveries }
    command_order i t (Assigns x v) c new = record { requests = still_requests; deliveries = still_deliveries }
    command_order i t Passes c new = record { requests = still_requests; deliveries = still_deliveries }
    command_order i t (Issues q remote source destination) c new =
        record {
          requests =
              put₂_holds (Rises request_number (suc n)) s.machine.requests i.rank q
              (rises_last request_number (new c.fits.0) (ordered.requests i.rank q)) still_requests;
          deliveries = still_deliveries;
        }
    command_order i t Meets c new = record { requests = still_requests; deliveries = still_deliveries }

    -- After a popa: its delivery is the newest of its queue.
    fetch_order : (i : Item) (a : Request Origin) (rest : List (Request Origin)) → FetchTaken s i a rest →
        number_of events is_fetch a.mark.group ≡ n → InOrder (suc n) (after_fetch s i a rest).state
    unfolding set_requests set_deliveries
    fetch_order i a rest c new =
        record {
          requests =
              put₂_holds (Rises request_number (suc n)) s.machine.requests i.rank i.queue
              (rises_out request_number (oldest_out (taken_oldest c)) (still_requests i.rank i.queue)) still_requests;
          deliveries =
              put₂_holds (Rises delivery_number (suc n)) s.machine.deliveries i.rank i.queue
              (rises_last delivery_number new (ordered.deliveries i.rank i.queue)) still_deliveries;
        }

    -- After a popb.
    delivery_order : (i : Item) (b : Delivery Origin) (rest : List (Delivery Origin)) → DeliveryTaken s i b rest →
        InOrder (suc n) (after_delivery s i b rest).state
    unfolding set_deliveries set_cell
    delivery_order i b rest c =
        record {
          requests = still_requests;
          deliveries =
              put₂_holds (Rises delivery_number (suc n)) s.machine.deliveries i.rank i.queue
              (rises_out delivery_number (oldest_out (taken_oldest c)) (still_deliveries i.rank i.queue)) still_deliveries;
        }

-- At each point of a run.
module _ {P : Program} {start : Start} {local : ℕ → ℕ → Local} {events : List Event} {last : Replay} (whole : Run P start local events last) where
  move_order : {n : ℕ} {s s' : Replay} {e : Event} → At events n e → InOrder events n s → Move P s e s' → InOrder events (suc n) s'
  move_order {n} at ordered (commands i t a c) = command_order events ordered i t a c (transfer_number whole n at)
  move_order {n} at ordered (fetches i a rest c) = fetch_order events ordered i a rest c (fetch_number whole n at c.kind_is)
  move_order at ordered (delivers i b rest c) = delivery_order events ordered i b rest c

  pub in_order : {done : List Event} {s : Replay} → Run P start local done s → (rest : List Event) → events ≡ done ++ rest →
      InOrder events (length done) s
  unfolding begin initial
  in_order (begins h) rest is = record { requests = λ rank queue. none; deliveries = λ rank queue. none }
  in_order (grows {done = done} {s' = s'} {e = e} run step h) rest is =
      let split : events ≡ done ++ (e ∷ rest) = is ∙ append_assoc done (e ∷ []) rest in
      let at : At events (length done) e = rw split (split_at done e rest) in
      let long : length (done ++ e ∷ []) ≡ suc (length done) = omega (arith, length-append done (e ∷ [])) in
      rw long (move_order at (in_order run (e ∷ rest) split) step)
