-- Lists through the pool: where their ends stand, and what link and unlink make of the tables.
use Rattle.std.specs.Prelude.{ℕ, zero, suc, ◌+◌, ◌*◌, eqb, Option, Some, None}
use Rattle.model.specs.Limits.{max_ranks, max_items, max_queues}
use Rattle.model.specs.Choice.{when}
use Rattle.model.specs.Replay.{is_for}
use Rattle.memory.specs.Tables.{Table, Size, sized, number_at, stored}
use Rattle.links.specs.declared.Part.{Part}
use Rattle.links.specs.declared.Part.TheVariants.{Requests, Deliveries}
use Rattle.links.specs.declared.Position.{Position}
use Rattle.links.specs.declared.Queues.{Queues}
use Rattle.entries.specs.Entries.{pool_size, remote_field, link_field}

-- The lists of a rank are numbered: each queue has two.
abbrev pub lists_of_rank : ℕ
lists_of_rank = max_queues * 2

abbrev pub list_of : (queue : ℕ) → Part → ℕ
list_of queue Requests = queue * 2
list_of queue Deliveries = queue * 2 + 1

-- Where a list has its head and its tail.
abbrev pub head_end : (list : ℕ) → ℕ
head_end list = list * 2

abbrev pub tail_end : (list : ℕ) → ℕ
tail_end list = list * 2 + 1

abbrev pub ends_size : Size
ends_size = sized max_ranks (lists_of_rank * 2)

-- The contents of the two arrays.
abbrev pub tables : (pool ends : Table) → Queues
tables pool ends = record { pool = pool; ends = ends }

-- A number of an entry, the entry that follows it, and an end of a list.
abbrev pub field_of : Queues → (entry field : ℕ) → ℕ
field_of t entry field = number_at pool_size t.pool entry field

abbrev pub follower : Queues → (entry : ℕ) → ℕ
follower t entry = field_of t entry link_field

abbrev pub end_of : Queues → (rank end : ℕ) → ℕ
end_of t rank end = number_at ends_size t.ends rank end

-- The tables with one number changed.
abbrev pub with_field : Queues → (entry field value : ℕ) → Queues
with_field t entry field value = tables (stored pool_size t.pool entry field value) t.ends

abbrev pub with_end : Queues → (rank end entry : ℕ) → Queues
with_end t rank end entry = tables t.pool (stored ends_size t.ends rank end entry)

-- The entry at the head of a queue's list, or 0.
abbrev pub next_of : (ends : Table) → (rank queue : ℕ) → Part → ℕ
next_of ends rank queue part = number_at ends_size ends rank (head_end (list_of queue part))

-- The first entry for the named rank, from an entry on, where `previous` is the one before it: "takes the oldest entry for that rank". After so many
-- entries the walk ends, since on tables that hold no lists the links may run in a circle.
unfoldable pub searched : Table → (named left previous entry : ℕ) → Option Position
unfolding is_for
searched pool named zero previous entry = None
searched pool named (suc left) previous entry =
    when (eqb entry 0) (λ _. None) (λ _.
    when (is_for named (number_at pool_size pool entry remote_field))
    (λ _. Some (record { previous = previous; entry = entry }))
    (λ _. searched pool named left entry (number_at pool_size pool entry link_field)))

-- The entry that a pop takes, by the remote rank that it names, or 0 for none.
abbrev pub oldest_in : Queues → (rank queue : ℕ) → Part → (named : ℕ) → Option Position
oldest_in t rank queue part named = searched t.pool named max_items 0 (next_of t.ends rank queue part)

-- From now on `next` follows `previous`, or is the head where that is none.
unfoldable pub next_set : Queues → (rank list previous next : ℕ) → Queues
next_set t rank list previous next =
    when (eqb previous 0) (λ _. with_end t rank (head_end list) next) (λ _. with_field t previous link_field next)

-- An entry joins a list at its tail.
unfoldable pub linked : Queues → (rank list entry : ℕ) → Queues
unfolding next_set
linked t rank list entry =
    with_end
    (next_set (with_field t entry link_field 0) rank list (end_of t rank (tail_end list)) entry)
    rank
    (tail_end list)
    entry

-- An entry leaves a list, where `previous` is the one before it, or 0 if it is the head.
unfoldable pub unlinked : Queues → (rank list previous entry : ℕ) → Queues
unfolding next_set
unlinked t rank list previous entry =
    when (eqb (follower t entry) 0)
    (λ _. with_end (next_set t rank list previous (follower t entry)) rank (tail_end list) previous)
    (λ _. next_set t rank list previous (follower t entry))
