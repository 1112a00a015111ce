-- What the steps of the replay make of the tables. Outside the arrays nothing changes.
use Rattle.std.specs.Prelude.{ℕ, ◌+◌, ◌<◌, Bool, ◌&&◌, ltb}
use Rattle.model.specs.Limits.{max_ranks, max_queues, max_items}
use Rattle.model.specs.Choice.{when}
use Rattle.memory.specs.Tables.{Rank, row_of}
use Rattle.entries.specs.declared.Request.{Request}
use Rattle.links.specs.declared.Position.{Position}
use Rattle.links.specs.declared.Part.TheVariants.{Requests, Deliveries}
use Rattle.entries.specs.Entries.{value_field, request_stored}
use Rattle.links.specs.declared.Queues.{Queues}
use Rattle.links.specs.Lists.{tables, list_of, with_field, linked, unlinked}

-- There is such a queue, and an entry for such an item.
pub record Room (rank queue at : ℕ) : Type 0 where
  pub rank_held : Rank rank
  pub queue_held : queue < max_queues
  pub item_held : at < max_items

unfoldable pub has_room : (rank queue at : ℕ) → Bool
has_room rank queue at = ltb (row_of max_ranks rank) max_ranks && (ltb queue max_queues && ltb at max_items)

-- The transfer of item `at` joins the requests of a queue.
unfoldable pub appended : Queues → (rank queue at : ℕ) → Request → Queues
unfolding has_room linked
appended t rank queue at request =
    when (has_room rank queue at)
    (λ _. linked (tables (request_stored t.pool (at + 1) request) t.ends) rank (list_of queue Requests) (at + 1))
    (λ _. t)

-- The request at a position leaves the requests of its queue, and joins the deliveries with the value that was read.
unfoldable pub fetched : Queues → (rank queue : ℕ) → Position → (value : ℕ) → Queues
unfolding linked unlinked
fetched t rank queue p value =
    linked
    (unlinked (with_field t p.entry value_field value) rank (list_of queue Requests) p.previous p.entry)
    rank
    (list_of queue Deliveries)
    p.entry

-- The delivery at a position leaves the deliveries of its queue.
unfoldable pub delivered : Queues → (rank queue : ℕ) → Position → Queues
unfolding unlinked
delivered t rank queue p = unlinked t rank (list_of queue Deliveries) p.previous p.entry
