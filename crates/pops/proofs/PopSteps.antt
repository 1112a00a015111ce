-- A pop on arrays that stand for a state, against the definition's. An item that agrees with its access names the cell that is read or written, and
-- the record has only cells that the arrays have.
use Rattle.std.specs.Prelude.{Option, Some}
use Prim.Native.Nat.{ℕ, ◌<◌}
use mathlib.Core.Path.{◌≡◌, refl, ap, ◌∙◌}
use mathlib.Core.Bool.{Bool, true, false}
use native.Mathlib.Omega.{arith}
use lib.Dec.{eqb}
use borrow.Author.Tests.{eqb-true}
use Rattle.model.specs.declared.Address.{Address}
use Rattle.model.specs.declared.Item.{Item}
use Rattle.model.specs.Limits.{max_items, max_queues}
use Rattle.model.specs.Machine.{Access, Request, Delivery, read_of, write_of, cell_at, set_requests, set_deliveries}
use Rattle.model.specs.Replay.{Origin, Replay, Taken, request_for, delivery_for, oldest, same_address, agrees, agrees_with}
use Rattle.model.specs.Replay.{agreed, after_fetch, after_delivery, take_fetch, take_delivery}
use Rattle.model.proofs.Laws.{decided, and-true}
use Rattle.memory.specs.Tables.{Rank, Place, cells_size, stored}
use Rattle.links.specs.declared.Position.{Position}
use Rattle.entries.specs.Entries.{request_at, delivery_at}
use Rattle.queues.specs.Queued.{bare_request, bare_delivery}
use Rattle.queues.specs.Transfers.{fetched, delivered}
use Rattle.links.proofs.Searches.{position_of, none_waits, one_waits}
use Rattle.queues.proofs.Queued.{RequestTold, RequestWaits, DeliveryTold, DeliveryWaits, request_told, delivery_told, fetch_queued, deliver_queued}
use Rattle.items.specs.declared.rows.Progress.{Progress}
use Rattle.items.specs.Accesses.{access_number, access_told}
use Rattle.items.specs.Progress.{pop_progress}
use Rattle.items.proofs.Accesses.{Placed, told_number}
use Rattle.machine.specs.Arrays.{Memory, cells_in, with_cells, with_queues}
use Rattle.machine.specs.Standing.{Holds, Standing, Follows}
use Rattle.machine.proofs.Agreement.{Together, together_agreed, counted}
use Rattle.machine.proofs.Held.{holds_later, holds_cell}
use Rattle.pops.specs.Pops.{fetched_on, delivered_on, popped_on, fetch_on, delivery_on}

-- The address that a place agrees with is the place.
same_address_lem : (a b : Address) → same_address a b ≡ true → a ≡ b
same_address_lem a b h =
    let (r, c) = and-true (eqb a.rank b.rank) (eqb a.cell b.cell) h in
    rw (eqb-true a.rank b.rank r, eqb-true a.cell b.cell c)

module _ (m : Memory) (p : Progress) (s : Replay) (i : Item) (stands : Standing m p s) (r : Rank i.rank) (q : i.queue < max_queues)
    (place : Place i.place) (few : p.at < max_items) where
  -- The cell of an access that the item agrees with is one that the arrays have.
  placed : (a : Address) → same_address i.place a ≡ true → Place a
  placed a h = rw (same_address_lem i.place a h) at place

  -- A read is judged by the arrays' cells as by the state's.
  same_read : (a : Address) → agrees_with i (read_of a (cell_at s.machine.cells a)) ≡ agrees_with i (read_of a (cell_at (cells_in m) a))
  unfolding agrees_with
  same_read a =
      decided (same_address i.place a)
      (λ t. let held = placed a t in rw (stands.holds.cells.same a.rank a.cell held.rank_held held.cell_held))
      (λ t. rw t)

  agreed_place : (writes : Bool) (a : Address) (v : ℕ) → agrees_with i (Some (record { writes = writes; address = a; value = v })) ≡ true → Place a
  unfolding agrees_with
  agreed_place writes a v h = placed a (and-true (same_address i.place a) (agrees i.given v) h).0

  -- What a pop leaves stands for the state after it, if its arrays hold that state's machine.
  pop_follows : {t : Taken} {after : Memory} {group : ℕ} {access : Option Access} → Holds p.at after t.state.machine →
      t.state.opened ≡ s.opened → t.state.row ≡ s.row → t.event.group ≡ group → t.event.access ≡ access → Placed access →
      Follows p.at t after (pop_progress p) group (access_told access)
  pop_follows {access = access} held o w g a at_place =
      record {
        standing =
            record {
              holds = rw (counted stands few) (holds_later held);
              opened = o ∙ stands.opened;
              row = w ∙ stands.row;
              few = rw (counted stands few) (omega (arith, stands.few));
            };
        counted = counted stands few;
        same_group = g;
        same_access = ap access_number a ∙ told_number access at_place;
      }

  -- With the request that waits, popa "reads the source cell now, and appends destination and value to that queue's deliveries."
  module _ (w : RequestWaits stands.holds.queues i r q) where
    abbrev a : Request Origin
    a = w.taken

    abbrev read : ℕ
    read = cell_at (cells_in m) a.source

    abbrev after : Memory
    after = with_queues m (fetched m.queues i.rank i.queue (position_of 0 w) read)

    fetch_holds : cell_at s.machine.cells a.source ≡ read → Holds p.at after (after_fetch s i a w.rest).state.machine
    unfolding set_requests set_deliveries
    fetch_holds v =
        record {
          controls = stands.holds.controls;
          registers = stands.holds.registers;
          cells = stands.holds.cells;
          queues = rw (← v) (fetch_queued stands.holds.queues i r q (cell_at s.machine.cells a.source) w);
        }

    fetch_follows : agrees_with i (read_of a.source read) ≡ true →
        Follows p.at (after_fetch s i a w.rest) after (pop_progress p) a.mark.group (access_told (read_of a.source read))
    fetch_follows e =
        let held = agreed_place false a.source read e in
        let v = stands.holds.cells.same a.source.rank a.source.cell held.rank_held held.cell_held in
        pop_follows (fetch_holds v) refl refl refl (ap (read_of a.source) v) held

    fetched_together : Together p.at m (agreed p.at (after_fetch s i a w.rest)) (fetched_on i p (position_of 0 w) (bare_request a) m)
    unfolding fetched_on
    fetched_together =
        together_agreed p.at m (after_fetch s i a w.rest) (read_of a.source read) _ (same_read a.source) fetch_follows

  -- With the delivery that waits, popb "writes it."
  module _ (w : DeliveryWaits stands.holds.queues i r q) where
    abbrev b : Delivery Origin
    b = w.taken

    abbrev taken_out : Memory
    taken_out = with_queues m (delivered m.queues i.rank i.queue (position_of 0 w))

    delivery_queues : Holds p.at taken_out (set_deliveries s.machine i.rank i.queue w.rest)
    unfolding set_deliveries
    delivery_queues =
        record {
          controls = stands.holds.controls;
          registers = stands.holds.registers;
          cells = stands.holds.cells;
          queues = deliver_queued stands.holds.queues i r q w;
        }

    delivery_follows : agrees_with i (write_of b.destination b.value) ≡ true →
        Follows p.at (after_delivery s i b w.rest)
        (with_cells taken_out (stored cells_size m.cells b.destination.rank b.destination.cell b.value))
        (pop_progress p) b.mark.group (access_told (write_of b.destination b.value))
    delivery_follows e =
        let held = agreed_place true b.destination b.value e in
        pop_follows (holds_cell delivery_queues b.destination b.value held) refl refl refl refl held

    delivered_together : Together p.at m (agreed p.at (after_delivery s i b w.rest)) (delivered_on i p (position_of 0 w) (bare_delivery b) m)
    unfolding delivered_on
    delivered_together =
        together_agreed p.at m (after_delivery s i b w.rest) (write_of b.destination b.value) _ refl delivery_follows

  -- The entry that the code finds is the one that the definition chooses.
  fetch_by : {o : Option Position} → RequestTold stands.holds.queues i r q o →
      Together p.at m (take_fetch s p.at i (oldest (request_for i) (s.machine.requests i.rank i.queue)))
      (popped_on p.at (λ position. fetched_on i p position (request_at m.queues.pool position.entry) m) o)
  unfolding take_fetch
  fetch_by (none_waits chosen) = rw chosen refl
  fetch_by (one_waits w) = rw (w.chosen, w.reads) (fetched_together w)

  delivery_by : {o : Option Position} → DeliveryTold stands.holds.queues i r q o →
      Together p.at m (take_delivery s p.at i (oldest (delivery_for i) (s.machine.deliveries i.rank i.queue)))
      (popped_on p.at (λ position. delivered_on i p position (delivery_at m.queues.pool position.entry) m) o)
  unfolding take_delivery
  delivery_by (none_waits chosen) = rw chosen refl
  delivery_by (one_waits w) = rw (w.chosen, w.reads) (delivered_together w)

  pub fetch_together : Together p.at m (take_fetch s p.at i (oldest (request_for i) (s.machine.requests i.rank i.queue))) (fetch_on i p m)
  fetch_together = fetch_by (request_told stands.holds.queues i r q)

  pub delivery_together :
      Together p.at m (take_delivery s p.at i (oldest (delivery_for i) (s.machine.deliveries i.rank i.queue))) (delivery_on i p m)
  delivery_together = delivery_by (delivery_told stands.holds.queues i r q)
