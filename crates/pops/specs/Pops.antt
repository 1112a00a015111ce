-- The pops on arrays: what the code makes of them, test by test as the definition's step. Nothing is asked of the arrays here.
use Rattle.std.specs.Prelude.{ℕ, Option, Some, None}
use Rattle.model.specs.declared.Item.{Item}
use Rattle.model.specs.Refusals.{Result, refuse, empty_queue}
use Rattle.model.specs.Machine.{read_of, write_of, cell_at}
use Rattle.memory.specs.Tables.{cells_size, stored}
use Rattle.entries.specs.declared.Request.{Request}
use Rattle.entries.specs.declared.Delivery.{Delivery}
use Rattle.links.specs.declared.Position.{Position}
use Rattle.links.specs.declared.Part.TheVariants.{Requests, Deliveries}
use Rattle.entries.specs.Entries.{request_at, delivery_at}
use Rattle.links.specs.Lists.{oldest_in}
use Rattle.queues.specs.Transfers.{fetched, delivered}
use Rattle.items.specs.declared.rows.Progress.{Progress}
use Rattle.items.specs.Accesses.{access_told}
use Rattle.items.specs.Progress.{pop_progress}
use Rattle.machine.specs.Arrays.{Memory, cells_in, with_cells, with_queues}
use Rattle.machine.specs.Outcomes.{Left, agreed_on}

-- With the request at a position, popa "reads the source cell now, and appends destination and value to that queue's deliveries."
unfoldable pub fetched_on : Item → Progress → Position → Request → Memory → Result Left
unfolding agreed_on
fetched_on i p position a m = do
  let value : ℕ = cell_at (cells_in m) a.source
  agreed_on p.at i (read_of a.source value)
      (record {
        memory = with_queues m (fetched m.queues i.rank i.queue position value);
        next = pop_progress p;
        group = a.group;
        access = access_told (read_of a.source value);
      })

-- With the delivery at a position, popb "writes it."
unfoldable pub delivered_on : Item → Progress → Position → Delivery → Memory → Result Left
unfolding agreed_on
delivered_on i p position b m =
    agreed_on p.at i (write_of b.destination b.value)
    (record {
      memory =
          with_cells (with_queues m (delivered m.queues i.rank i.queue position))
          (stored cells_size m.cells b.destination.rank b.destination.cell b.value);
      next = pop_progress p;
      group = b.group;
      access = access_told (write_of b.destination b.value);
    })

-- A pop takes the oldest entry of those that it chooses among, if there is one.
abbrev pub popped_on : (at : ℕ) → (Position → Result Left) → Option Position → Result Left
popped_on at pop None = refuse empty_queue at
popped_on at pop (Some position) = pop position

abbrev pub fetch_on : Item → Progress → Memory → Result Left
fetch_on i p m =
    popped_on p.at (λ position. fetched_on i p position (request_at m.queues.pool position.entry) m)
    (oldest_in m.queues i.rank i.queue Requests i.remote)

abbrev pub delivery_on : Item → Progress → Memory → Result Left
delivery_on i p m =
    popped_on p.at (λ position. delivered_on i p position (delivery_at m.queues.pool position.entry) m)
    (oldest_in m.queues i.rank i.queue Deliveries i.remote)
