-- The model's search back through the events ends at the last item that passes a test, or lists the items since a cell's last write. Both are found
-- by item numbers alone.
use Rattle.std.specs.Prelude.{Option, Some, None}
use Prim.Native.Nat.{ℕ, zero, suc, ◌≤◌, ◌<◌}
use mathlib.Core.Path.{◌≡◌, refl, sym, ap, ◌∙◌}
use mathlib.Core.Bool.{Bool, false, ◌&&◌}
use mathlib.Core.List.{List, [], ◌∷◌, ◌++◌, append-nil}
use native.Mathlib.Omega.{arith}
use borrow.Author.Tests.{lt-ltb}
use Rattle.model.specs.Limits.{max_items}
use Rattle.model.specs.Choice.{when}
use Rattle.model.specs.Replay.{Event}
use Rattle.model.specs.HappensBefore.{same_sequence, overwrites, conflict, edges, program_edges, conflict_edges}
use Rattle.model.proofs.Laws.{decided}
use Rattle.memory.specs.Tables.{Table}
use Rattle.happens_before.specs.Told.{told_in, told_at, event_told}
use Rattle.happens_before.specs.Drawing.{group_at, between, from_item, from_each}

-- The last of the first items that passes a test, if one does.
unfoldable pub latest : (test : ℕ → Bool) → (items : ℕ) → Option ℕ
latest test zero = None
latest test (suc item) = when (test item) (λ _. Some item) (λ _. latest test item)

-- Of the first items those that pass a test, the newest first, down to the first one that also ends the search.
unfoldable pub since : (test ends : ℕ → Bool) → (items : ℕ) → List ℕ
since test ends zero = []
since test ends (suc item) =
    when (test item) (λ _. item ∷ when (ends item) (λ _. []) (λ _. since test ends item)) (λ _. since test ends item)

module _ (trail : Table) where
  -- The events that the first rows tell of, the nearest first.
  unfoldable pub before : (items : ℕ) → List Event
  before zero = []
  before (suc item) = event_told (told_at trail item) ∷ before item

  -- An arrow from one of these.
  edges_told : (item : ℕ) → item < max_items → (y : Event) → edges (event_told (told_at trail item)) y ≡ between (group_at trail item) y.group
  unfolding event_told told_in group_at between
  edges_told item b y = rw (lt-ltb _ _ b)

  item_told : (item : ℕ) (to : ℕ) → from_item trail (Some item) to ≡ between (group_at trail item) to
  unfolding from_item
  item_told item to = refl

  module _ (y : Event) (test : ℕ → Bool) where
    -- By program order.
    pub program_search : ((item : ℕ) → same_sequence (event_told (told_at trail item)) y ≡ test item) →
        (items : ℕ) → items ≤ max_items → program_edges y (before items) ≡ from_item trail (latest test items) y.group
    unfolding program_edges before latest from_item
    program_search same zero b = refl
    program_search same (suc item) b =
        decided (test item)
        (λ t. rw (same item, t) (edges_told item (omega arith) y ∙ sym (item_told item y.group)))
        (λ t. rw (same item, t) (program_search same item (omega arith)))

    -- By conflict, where the test ends the search: a read's.
    pub read_search : ((item : ℕ) → conflict (event_told (told_at trail item)).access y.access ≡ test item) →
        ((item : ℕ) → overwrites (event_told (told_at trail item)).access y.access ≡ test item) →
        (items : ℕ) → items ≤ max_items → conflict_edges y (before items) ≡ from_item trail (latest test items) y.group
    unfolding conflict_edges before latest from_item
    read_search same ends zero b = refl
    read_search same ends (suc item) b =
        decided (test item)
        (λ t. rw (same item, ends item, t) (append-nil (edges (event_told (told_at trail item)) y) ∙ edges_told item (omega arith) y ∙ sym (item_told item y.group)))
        (λ t. rw (same item, ends item, t) (read_search same ends item (omega arith)))

    -- By conflict, where only writes end the search: a write's.
    pub write_search : (end : ℕ → Bool) → ((item : ℕ) → conflict (event_told (told_at trail item)).access y.access ≡ test item) →
        ((item : ℕ) → overwrites (event_told (told_at trail item)).access y.access ≡ test item && end item) →
        (items : ℕ) → items ≤ max_items → conflict_edges y (before items) ≡ from_each trail (since test end items) y.group
    unfolding conflict_edges before since from_each
    write_search end same ends zero b = refl
    write_search end same ends (suc item) b =
        decided (test item)
        (λ t.
        decided (end item)
        (λ e. rw (same item, ends item, t, e) (ap (λ es. es ++ []) (edges_told item (omega arith) y)))
        (λ e.
        rw (same item, ends item, t, e)
        (ap (λ es. es ++ conflict_edges y (before item)) (edges_told item (omega arith) y)
        ∙ ap (λ es. between (group_at trail item) y.group ++ es) (write_search end same ends item (omega arith)))))
        (λ t. rw (same item, ends item, t) (write_search end same ends item (omega arith)))

  -- No arrow, where no event passes the test.
  module _ (y : Event) where
    pub no_search : ((item : ℕ) → same_sequence (event_told (told_at trail item)) y ≡ false) → (items : ℕ) → program_edges y (before items) ≡ []
    unfolding program_edges before
    no_search same zero = refl
    no_search same (suc item) = rw (same item) (no_search same item)

    pub no_conflicts : ((item : ℕ) → conflict (event_told (told_at trail item)).access y.access ≡ false) →
        ((item : ℕ) → overwrites (event_told (told_at trail item)).access y.access ≡ false) →
        (items : ℕ) → conflict_edges y (before items) ≡ []
    unfolding conflict_edges before
    no_conflicts same ends zero = refl
    no_conflicts same ends (suc item) = rw (same item, ends item) (no_conflicts same ends item)
