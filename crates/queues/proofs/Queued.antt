-- The laws of the queues: what each operation does to the model's lists, and what is read of them. Proofs above this crate cite these, and never look
-- into a table.
use Rattle.std.specs.Prelude.{Option}
use Prim.Native.Nat.{ℕ, ◌+◌, ◌≤◌, ◌<◌}
use mathlib.Core.Path.{◌≡◌, refl, ap}
use mathlib.Core.Bool.{Bool, ◌&&◌}
use mathlib.Core.List.{List, [], ◌∷◌, ◌++◌}
use native.Mathlib.Omega.{arith}
use lib.Dec.{eqb}
use Rattle.model.specs.declared.Item.{Item}
use Rattle.model.specs.Limits.{max_ranks, max_items, max_queues}
use Rattle.model.specs.Choice.{numbers_from}
use Rattle.model.specs.Programs.{Program}
use Rattle.model.specs.Machine.{State, Request as Asked, Delivery as Sent, put₂}
use Rattle.model.specs.Replay.{Origin, is_for, request_for, delivery_for, every, is_empty, quiet}
use Rattle.memory.specs.Tables.{Row, Rank, number_at, zeros}
use Rattle.memory.proofs.Stores.{zeros_shape, zeros_number}
use Rattle.entries.specs.declared.Request.{Request}
use Rattle.entries.specs.declared.Delivery.{Delivery}
use Rattle.links.specs.declared.Part.{Part}
use Rattle.links.specs.declared.Position.{Position}
use Rattle.links.specs.declared.Part.TheVariants.{Requests, Deliveries}
use Rattle.entries.specs.Entries.{pool_size, remote_field, request_at, delivery_at}
use Rattle.links.specs.declared.Queues.{Queues}
use Rattle.links.specs.Lists.{tables, ends_size, list_of, head_end, tail_end, next_of, oldest_in}
use Rattle.links.specs.Chains.{first, All, Standing}
use Rattle.queues.specs.Transfers.{Room, appended, fetched, delivered}
use Rattle.queues.specs.Endings.{queue_empty, rank_empty, all_empty}
use Rattle.queues.specs.Queued.{bare_request, bare_delivery, sent, Queued}
use Rattle.queues.proofs.Every.{every_same}
use Rattle.links.proofs.EntryLists.{all_map, once_few}
use Rattle.queues.proofs.Contents.{Says, contents_empty}
use Rattle.links.proofs.Chains.{next_told}
use Rattle.links.proofs.Searches.{Waiting, position_of, Tells, search_tells}
use Rattle.queues.proofs.Moves.{list_held, append_entry, fetch_entry, deliver_entry}

-- Cleared tables hold empty queues.
pub cleared : Queued 0 (tables (zeros pool_size) (zeros ends_size)) (λ rank queue. []) (λ rank queue. [])
cleared =
    record {
      entries = λ rank list. [];
      owner = λ e. (0, 0);
      chained =
          record {
            pool_shape = zeros_shape pool_size;
            ends_shape = zeros_shape ends_size;
            chains = λ rank list r l.
                record {
                  head = zeros_number ends_size rank (head_end list);
                  tail = zeros_number ends_size rank (tail_end list);
                  run = tt;
                };
            standing = λ rank list. tt;
            once = λ rank list. tt;
          };
      issued = λ rank list. tt;
      requested = λ rank queue r q. refl;
      fetched = λ rank queue r q. refl;
    }

module _ {most : ℕ} {t : Queues} {requests : ℕ → ℕ → List (Asked Origin)} {deliveries : ℕ → ℕ → List (Sent Origin)}
    (held : Queued most t requests deliveries) where
  -- Items that touch no queue.
  pub later : (more : ℕ) → most ≤ more → Queued more t requests deliveries
  later more h =
      record {
        entries = held.entries;
        owner = held.owner;
        chained = held.chained;
        issued = λ rank list. all_map (λ e. e ≤ most) (λ e. e ≤ more) (λ e b. omega (arith, b, h)) (held.entries rank list) (held.issued rank list);
        requested = held.requested;
        fetched = held.fetched;
      }

  -- "write appends (own rank, e1, e2, e3) to the rank's queue e4 of requests": the transfer of the next item.
  pub append_queued : (rank queue : ℕ) (a : Asked Origin) → Room rank queue most →
      Queued (most + 1) (appended t rank queue most (bare_request a)) (put₂ requests rank queue (requests rank queue ++ a ∷ [])) deliveries
  append_queued = append_entry held

  -- One part of a queue, whose lists of entries say what the model's lists say.
  module _ {A B : Type 0} (bare : A → B) (read : ℕ → B) (part : Part) (model : ℕ → ℕ → List A) (says : Says bare read part model held.entries)
      (rank queue : ℕ) (r : Rank rank) (q : queue < max_queues) where
    abbrev es : List ℕ
    es = held.entries rank (list_of queue part)

    head_told : next_of t.ends rank queue part ≡ first es
    head_told = next_told queue part (held.chained.chains rank (list_of queue part) r (list_held part queue q))

    rows : All (Row max_items) es
    rows =
        all_map (Standing held.owner rank (list_of queue part)) (Row max_items) (λ e s. s.named) es
        (held.chained.standing rank (list_of queue part))

    part_told : (among : A → Bool) (named : ℕ) →
        ((e : ℕ) (a : A) → read e ≡ bare a → is_for named (number_at pool_size t.pool e remote_field) ≡ among a) →
        Tells bare read among (model rank queue) 0 es (oldest_in t rank queue part named)
    part_told among named same =
        rw head_told
        (search_tells bare read among t.pool named same (model rank queue) 0 max_items es (says rank queue r q)
        (held.chained.chains rank (list_of queue part) r (list_held part queue q)).run rows
        (once_few max_items es (held.chained.once rank (list_of queue part)) rows))

    part_empty : is_empty (model rank queue) ≡ eqb (next_of t.ends rank queue part) 0
    part_empty = rw head_told (contents_empty bare read (model rank queue) es (says rank queue r q) rows)

  -- A pop. Of those that it chooses among, what it finds is the model's oldest request or delivery.
  module _ (i : Item) (r : Rank i.rank) (q : i.queue < max_queues) where
    abbrev request_entries : List ℕ
    request_entries = held.entries i.rank (list_of i.queue Requests)

    abbrev delivery_entries : List ℕ
    delivery_entries = held.entries i.rank (list_of i.queue Deliveries)

    abbrev pub RequestTold : Option Position → Type 0
    RequestTold = Tells bare_request (request_at t.pool) (request_for i) (requests i.rank i.queue) 0 request_entries

    abbrev pub RequestWaits : Type 0
    RequestWaits = Waiting bare_request (request_at t.pool) (request_for i) (requests i.rank i.queue) request_entries

    abbrev pub DeliveryTold : Option Position → Type 0
    DeliveryTold = Tells bare_delivery (delivery_at t.pool) (delivery_for i) (deliveries i.rank i.queue) 0 delivery_entries

    abbrev pub DeliveryWaits : Type 0
    DeliveryWaits = Waiting bare_delivery (delivery_at t.pool) (delivery_for i) (deliveries i.rank i.queue) delivery_entries

    pub request_told : RequestTold (oldest_in t i.rank i.queue Requests i.remote)
    request_told =
        part_told bare_request (request_at t.pool) Requests requests held.requested i.rank i.queue r q (request_for i) i.remote
        (λ e a h. ap (λ (x : Request). is_for i.remote x.remote) h)

    pub delivery_told : DeliveryTold (oldest_in t i.rank i.queue Deliveries i.remote)
    delivery_told =
        part_told bare_delivery (delivery_at t.pool) Deliveries deliveries held.fetched i.rank i.queue r q (delivery_for i) i.remote
        (λ e b h. ap (λ (x : Delivery). is_for i.remote x.remote) h)

    -- "popa takes the head request of the named queue", or the oldest for the rank that it names, ".. and appends destination and value to that
    -- queue's deliveries."
    pub fetch_queued : (value : ℕ) (w : RequestWaits) →
        Queued most (fetched t i.rank i.queue (position_of 0 w) value) (put₂ requests i.rank i.queue w.rest)
        (put₂ deliveries i.rank i.queue (deliveries i.rank i.queue ++ sent w.taken value ∷ []))
    fetch_queued value w =
        fetch_entry held i.rank i.queue value r q w.older w.entry w.newer w.split w.taken w.reads w.rest w.leaves

    -- "popb takes the head delivery and writes it", or the oldest for the rank that it names.
    pub deliver_queued : (w : DeliveryWaits) →
        Queued most (delivered t i.rank i.queue (position_of 0 w)) requests (put₂ deliveries i.rank i.queue w.rest)
    deliver_queued w = deliver_entry held i.rank i.queue r q w.older w.entry w.newer w.split w.rest w.leaves

  module _ (rank queue : ℕ) (r : Rank rank) (q : queue < max_queues) where
    -- A queue is empty exactly if it has neither head.
    queue_told : (is_empty (requests rank queue) && is_empty (deliveries rank queue)) ≡ queue_empty t.ends rank queue
    queue_told =
        rw (
          part_empty bare_request (request_at t.pool) Requests requests held.requested rank queue r q,
          part_empty bare_delivery (delivery_at t.pool) Deliveries deliveries held.fetched rank queue r q,
        )

-- "At the end all queues are empty", as the ends tell it.
pub quiet_told : {most : ℕ} {t : Queues} (P : Program) (s : State Origin) → Queued most t s.requests s.deliveries →
    P.header.ranks ≤ max_ranks → P.header.queues ≤ max_queues → quiet P s ≡ all_empty t.ends P.header.ranks P.header.queues
unfolding quiet
quiet_told {most} {t} P s held ranks queues =
    every_same
    (λ r. every (λ q. is_empty (s.requests r q) && is_empty (s.deliveries r q)) (numbers_from 0 P.header.queues))
    (rank_empty t.ends P.header.queues) 1 P.header.ranks
    (λ r low high.
    every_same (λ q. is_empty (s.requests r q) && is_empty (s.deliveries r q)) (queue_empty t.ends r) 0 P.header.queues
    (λ q l u. queue_told held r q (record { first = low; last = omega (arith, high, ranks) }) (omega (arith, u, queues))))
