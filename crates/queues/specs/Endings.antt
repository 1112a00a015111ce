-- "At the end all queues are empty", as the ends tell it.
use Rattle.std.specs.Prelude.{ℕ, Bool, ◌&&◌, eqb}
use Rattle.model.specs.Choice.{numbers_from}
use Rattle.model.specs.Replay.{every}
use Rattle.memory.specs.Tables.{Table}
use Rattle.links.specs.declared.Part.TheVariants.{Requests, Deliveries}
use Rattle.links.specs.Lists.{next_of}

-- Neither a request nor a delivery waits.
abbrev pub queue_empty : (ends : Table) → (rank queue : ℕ) → Bool
queue_empty ends rank queue =
    eqb (next_of ends rank queue Requests) 0 && eqb (next_of ends rank queue Deliveries) 0

abbrev pub rank_empty : (ends : Table) → (queues rank : ℕ) → Bool
rank_empty ends queues rank = every (queue_empty ends rank) (numbers_from 0 queues)

abbrev pub all_empty : (ends : Table) → (ranks queues : ℕ) → Bool
all_empty ends ranks queues = every (rank_empty ends queues) (numbers_from 1 ranks)
