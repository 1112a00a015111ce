-- The one relation between the tables and the model's queues.
use Rattle.std.specs.Prelude.{ℕ, ◌≤◌, ◌<◌, ◌≡◌, List, map}
use Rattle.model.specs.Limits.{max_queues}
use Rattle.model.specs.Machine.{Request as Asked, Delivery as Sent}
use Rattle.model.specs.Replay.{Origin}
use Rattle.memory.specs.Tables.{Rank}
use Rattle.entries.specs.declared.Request.{Request}
use Rattle.entries.specs.declared.Delivery.{Delivery}
use Rattle.links.specs.declared.Part.TheVariants.{Requests, Deliveries}
use Rattle.entries.specs.Entries.{request_at, delivery_at}
use Rattle.links.specs.declared.Queues.{Queues}
use Rattle.links.specs.Lists.{list_of}
use Rattle.links.specs.Chains.{All, Chained}

-- The model's entries as the code has them: the group is kept of the command that asked, and not its place.
abbrev pub bare_request : Asked Origin → Request
bare_request a = record { remote = a.remote; source = a.source; destination = a.destination; group = a.mark.group }

abbrev pub bare_delivery : Sent Origin → Delivery
bare_delivery b = record { remote = b.remote; destination = b.destination; value = b.value; group = b.mark.group }

-- "reads the source cell now, and appends destination and value to that queue's deliveries": the delivery of a request.
abbrev pub sent : Asked Origin → (value : ℕ) → Sent Origin
sent a value = record { remote = a.remote; destination = a.destination; value = value; mark = a.mark }

-- The tables hold these requests and deliveries, and every entry was issued by one of the first `most` items.
pub record Queued
    (most : ℕ)
    (t : Queues)
    (requests : ℕ → ℕ → List (Asked Origin))
    (deliveries : ℕ → ℕ → List (Sent Origin)) : Type 0 where
  pub entries : (rank list : ℕ) → List ℕ
  pub owner : ℕ → ℕ × ℕ
  pub chained : Chained t entries owner
  pub issued : (rank list : ℕ) → All (λ e. e ≤ most) (entries rank list)
  pub requested : (rank queue : ℕ) → Rank rank → queue < max_queues →
      map bare_request (requests rank queue) ≡ map (request_at t.pool) (entries rank (list_of queue Requests))
  pub fetched : (rank queue : ℕ) → Rank rank → queue < max_queues →
      map bare_delivery (deliveries rank queue) ≡ map (delivery_at t.pool) (entries rank (list_of queue Deliveries))
