-- The test for room passes where, and only where, there is such a queue, and an entry for such an item.
use Prim.Native.Nat.{ℕ}
use mathlib.Core.Path.{◌≡◌}
use mathlib.Core.Bool.{true, ◌&&◌}
use lib.Dec.{ltb}
use borrow.Author.Tests.{lt-ltb, ltb-true}
use Rattle.model.specs.Limits.{max_ranks, max_queues, max_items}
use Rattle.model.proofs.Laws.{and-true}
use Rattle.memory.specs.Tables.{row_of}
use Rattle.memory.proofs.Tables.{row_held, row_below}
use Rattle.queues.specs.Transfers.{Room, has_room}

pub room_there : (rank queue at : ℕ) → has_room rank queue at ≡ true → Room rank queue at
unfolding has_room
room_there rank queue at h =
    let (r, rest) = and-true (ltb (row_of max_ranks rank) max_ranks) (ltb queue max_queues && ltb at max_items) h in
    let (q, a) = and-true (ltb queue max_queues) (ltb at max_items) rest in
    record {
      rank_held = row_held max_ranks rank (ltb-true (row_of max_ranks rank) max_ranks r);
      queue_held = ltb-true queue max_queues q;
      item_held = ltb-true at max_items a;
    }

pub there_room : (rank queue at : ℕ) → Room rank queue at → has_room rank queue at ≡ true
unfolding has_room
there_room rank queue at h =
    rw (
      lt-ltb (row_of max_ranks rank) max_ranks (row_below max_ranks rank h.rank_held),
      lt-ltb queue max_queues h.queue_held,
      lt-ltb at max_items h.item_held,
    )
