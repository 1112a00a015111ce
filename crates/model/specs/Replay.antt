-- The replay (document 01, "Steps of the replay"): items in turn, from any start, each taken or refused in the order "12 first, for pops too, then
-- 7, 8, 9, 11; a pop has 10 before 11", and document 02's 18 "after 7 and before 8 and 9".
use Rattle.model.specs.declared.Action.TheVariants.{Loads, Stores, Assigns, Passes, Issues, Meets}
use Rattle.std.specs.Prelude.{ℕ, ◌+◌, ◌-◌, Bool, true, false, ◌&&◌, ◌||◌, List, [], ◌∷◌, ◌++◌, ltb, eqb, length, Option, Some, None, slice_get}
use Rattle.model.specs.declared.Address.{Address}
use Rattle.model.specs.declared.Item.{Item}
use Rattle.model.specs.Refusals.{Result, Ok, refuse, require, wrong_transition, empty_queue, access_differs, barrier_row, queues_left, ◌>>=◌}
use Rattle.model.specs.Choice.{when, numbers_from}
use Rattle.model.specs.ItemKinds.{same_kind, is_bar, Part, command, fetch, delivery, part_of}
use Rattle.model.specs.Programs.{Program, Transition, kind_of}
use Rattle.model.specs.Machine.{State, Request, Delivery, Access, read_of, write_of, Start, initial, address, cell_at, put, move_to, set_register, set_cell, set_requests, set_deliveries, Action, action}

-- The command that put an entry into a queue: its place in its rank's sequence of command items, and its group.
pub record Origin : Type 0 where
  pub place : ℕ
  pub group : ℕ

-- An item with what the replay finds of it. "An access is known by its rank, the place of its command in that rank's sequence, and its part."
-- `place` is that place; the rank, and by the kind the part, are the item's. `queue` is a transfer's or a pop's, and else 0.
pub record Event : Type 0 where
  pub item : Item
  pub place : ℕ
  pub group : ℕ
  pub queue : ℕ
  pub access : Option Access

abbrev pub same_address : Address → Address → Bool
same_address a b = eqb a.rank b.rank && eqb a.cell b.cell

-- The machine, how many command items each rank has taken, how many groups there are so far, and how many ranks have entered an open barrier row
-- (0: no row is open).
pub record Replay : Type 0 where
  pub machine : State Origin
  pub taken : ℕ → ℕ
  pub opened : ℕ
  pub row : ℕ

unfoldable pub begin : Start → Replay
unfolding initial
begin start = record { machine = initial start; taken = λ rank. 0; opened = 0; row = 0 }

-- "A barrier is N bar items in a row, ranks 1 to N": with k ranks in the row only a bar of rank k + 1 may come, and only then.
unfoldable pub row_allows : (row : ℕ) → Item → Bool
row_allows row i = when (is_bar i.kind) (λ _. eqb i.rank (row + 1)) (λ _. eqb row 0)

-- The row after an item that it allows. The bar of rank N ends it.
unfoldable pub row_after : (ranks row : ℕ) → Item → ℕ
row_after ranks row i =
    when (is_bar i.kind) (λ _. when (eqb i.rank ranks) (λ _. 0) (λ _. i.rank)) (λ _. row)

-- "Groups are numbered from 0 by their first item." A command item opens a group, unless it is a bar in a row that rank 1 has opened.
unfoldable pub joins_row : Item → Bool
joins_row i = is_bar i.kind && ltb 1 i.rank

unfoldable pub group_of : (opened : ℕ) → Item → ℕ
unfolding joins_row
group_of opened i = when (joins_row i) (λ _. opened - 1) (λ _. opened)

unfoldable pub opened_after : (opened : ℕ) → Item → ℕ
unfolding joins_row
opened_after opened i = when (joins_row i) (λ _. opened) (λ _. opened + 1)

-- "place or given value differs from the replay"; "An absent value is not checked."
unfoldable pub agrees : Option ℕ → ℕ → Bool
agrees (Some given) v = eqb given v
agrees None v = true

unfoldable pub agrees_with : Item → Option Access → Bool
unfolding agrees
agrees_with i None = true
agrees_with i (Some a) = same_address i.place a.address && agrees i.given a.value

-- What a rank's action reads or writes, its queue, and what it does to the machine.
unfoldable pub access_of : (rank : ℕ) → Action → (cells : ℕ → ℕ → ℕ) → Option Access
access_of rank (Loads x a) cells = read_of (address rank a) (cells rank a)
access_of rank (Stores a v) cells = write_of (address rank a) v
access_of rank (Assigns x v) cells = None
access_of rank Passes cells = None
access_of rank (Issues q remote source destination) cells = None
access_of rank Meets cells = None

unfoldable pub queue_of : Action → ℕ
queue_of (Loads x a) = 0
queue_of (Stores a v) = 0
queue_of (Assigns x v) = 0
queue_of Passes = 0
queue_of (Issues q remote source destination) = q
queue_of Meets = 0

unfoldable pub perform : (rank : ℕ) → Origin → Action → State Origin → State Origin
unfolding set_register set_cell set_requests
perform rank origin (Loads x a) s = set_register s rank x (s.cells rank a)
perform rank origin (Stores a v) s = set_cell s (address rank a) v
perform rank origin (Assigns x v) s = set_register s rank x v
perform rank origin Passes s = s
perform rank origin (Issues q remote source destination) s =
    set_requests s rank q
    (s.requests rank q ++ record { remote = remote; source = source; destination = destination; mark = origin } ∷ [])
perform rank origin Meets s = s

-- An item taken: the state after it, and its event.
pub record Taken : Type 0 where
  pub state : Replay
  pub event : Event

-- "place or given value differs from the replay": an item is taken if it agrees with the access that the replay finds.
unfoldable pub agreed : (at : ℕ) → Taken → Result Taken
unfolding agrees_with
agreed at taken = do
  _ ← require (agrees_with taken.event.item taken.event.access) access_differs at
  Ok taken

-- The mark of what a command item puts into a queue.
abbrev pub origin_of : Replay → Item → Origin
origin_of s i = record { place = s.taken i.rank; group = group_of s.opened i }

-- The state after a command's action, with its rank in the transition's target, and the event.
abbrev pub after_command : Program → Replay → Item → (target : ℕ) → Action → Taken
after_command P s i target a =
    record {
      state =
          record {
            machine = move_to (perform i.rank (origin_of s i) a s.machine) i.rank target;
            taken = put s.taken i.rank (s.taken i.rank + 1);
            opened = opened_after s.opened i;
            row = row_after P.header.ranks s.row i;
          };
      event =
          record {
            item = i;
            place = (origin_of s i).place;
            group = (origin_of s i).group;
            queue = queue_of a;
            access = access_of i.rank a s.machine.cells;
          };
    }

-- "A command item takes its transition from the rank's state."
unfoldable pub take_transition : Program → Replay → (at : ℕ) → Item → Option Transition → Result Taken
unfolding put kind_of action move_to row_after group_of opened_after access_of queue_of perform agreed
take_transition P s at i None = refuse wrong_transition at
take_transition P s at i (Some t) = do
  _ ← require (eqb t.source (s.machine.control i.rank) && same_kind (kind_of t.command) i.kind) wrong_transition at
  a ← action P i.rank (s.machine.registers i.rank) at t.command
  agreed at (after_command P s i t.target a)

-- The entries that a pop chooses among (document 02, #108): those for the remote rank that it names, or all where it names none.
unfoldable pub is_for : (named remote : ℕ) → Bool
is_for named remote = eqb named 0 || eqb named remote

abbrev pub request_for : {Mark : Type 0} → Item → Request Mark → Bool
request_for i a = is_for i.remote a.remote

abbrev pub delivery_for : {Mark : Type 0} → Item → Delivery Mark → Bool
delivery_for i b = is_for i.remote b.remote

-- The entry that it takes, and the others as they stood: "Oldest means first appended to the requests or deliveries it is taken from."
abbrev pub behind : {A : Type 0} → A → Option (A × List A) → Option (A × List A)
behind first None = None
behind first (Some (a, rest)) = Some (a, first ∷ rest)

unfoldable pub oldest : {A : Type 0} → (A → Bool) → List A → Option (A × List A)
oldest among [] = None
oldest among (a ∷ rest) = when (among a) (λ _. Some (a, rest)) (λ _. behind a (oldest among rest))

-- A pop changes the machine alone.
abbrev pub popped : Replay → State Origin → Item → Origin → Option Access → Taken
popped s machine i origin access =
    record {
      state = record { machine = machine; taken = s.taken; opened = s.opened; row = s.row };
      event = record { item = i; place = origin.place; group = origin.group; queue = i.queue; access = access };
    }

-- What a fetch sends on: "reads the source cell now".
abbrev pub sent_on : Replay → Request Origin → Delivery Origin
sent_on s a =
    record { remote = a.remote; destination = a.destination; value = cell_at s.machine.cells a.source; mark = a.mark }

-- The state and the event after a fetch of this request, which leaves the rest: "appends destination and value to that queue's deliveries".
abbrev pub after_fetch : Replay → Item → Request Origin → (rest : List (Request Origin)) → Taken
after_fetch s i a rest =
    popped s
    (set_deliveries (set_requests s.machine i.rank i.queue rest) i.rank i.queue
    (s.machine.deliveries i.rank i.queue ++ sent_on s a ∷ []))
    i a.mark (read_of a.source (sent_on s a).value)

-- "popa takes the head request of the named queue", or the oldest for the rank that it names, "reads the source cell now, and appends destination
-- and value to that queue's deliveries."
unfoldable pub take_fetch : Replay → (at : ℕ) → Item → Option (Request Origin × List (Request Origin)) → Result Taken
unfolding set_requests set_deliveries agreed
take_fetch s at i None = refuse empty_queue at
take_fetch s at i (Some (a, rest)) = agreed at (after_fetch s i a rest)

-- The state and the event after a delivery of this entry, which leaves the rest.
abbrev pub after_delivery : Replay → Item → Delivery Origin → (rest : List (Delivery Origin)) → Taken
after_delivery s i b rest =
    popped s
    (set_cell (set_deliveries s.machine i.rank i.queue rest) b.destination b.value)
    i b.mark (write_of b.destination b.value)

-- "popb takes the head delivery and writes it", or the oldest for the rank that it names.
unfoldable pub take_delivery : Replay → (at : ℕ) → Item → Option (Delivery Origin × List (Delivery Origin)) → Result Taken
unfolding set_cell set_deliveries agreed
take_delivery s at i None = refuse empty_queue at
take_delivery s at i (Some (b, rest)) = agreed at (after_delivery s i b rest)

unfoldable pub take_part : Program → Replay → (at : ℕ) → Item → Part → Result Taken
unfolding take_transition is_for oldest take_fetch take_delivery
take_part P s at i command = take_transition P s at i (slice_get P.transitions i.transition)
take_part P s at i fetch = take_fetch s at i (oldest (request_for i) (s.machine.requests i.rank i.queue))
take_part P s at i delivery = take_delivery s at i (oldest (delivery_for i) (s.machine.deliveries i.rank i.queue))

-- One item, the one with this number.
unfoldable pub take_item : Program → Replay → (at : ℕ) → Item → Result Taken
unfolding row_allows take_part
take_item P s at i = do
  _ ← require (row_allows s.row i) barrier_row at
  take_part P s at i (part_of i.kind)

-- The state after the last item, and the events of all.
pub record Replayed : Type 0 where
  pub last : Replay
  pub events : List Event

unfoldable pub take_items : Program → Replay → (at : ℕ) → List Item → Result Replayed
unfolding take_item
take_items P s at [] = Ok (record { last = s; events = [] })
take_items P s at (i ∷ items) = do
  taken ← take_item P s at i
  rest ← take_items P taken.state (at + 1) items
  Ok (record { last = rest.last; events = taken.event ∷ rest.events })

-- "At the end all queues are empty."
unfoldable pub every : (ℕ → Bool) → List ℕ → Bool
every test [] = true
every test (n ∷ ns) = when (test n) (λ _. every test ns) (λ _. false)

abbrev pub is_empty : {A : Type 0} → List A → Bool
is_empty [] = true
is_empty (a ∷ rest) = false

unfoldable pub quiet : Program → State Origin → Bool
unfolding every numbers_from
quiet P s =
    every
    (λ r. every (λ q. is_empty (s.requests r q) && is_empty (s.deliveries r q)) (numbers_from 0 P.header.queues))
    (numbers_from 1 P.header.ranks)

-- "An open row at the end is 12, placed at the item count, and comes before 13."
unfoldable pub at_end : Program → (count : ℕ) → Replayed → Result Replayed
unfolding quiet
at_end P count r = do
  _ ← require (eqb r.last.row 0) barrier_row count
  _ ← require (quiet P r.last.machine) queues_left count
  Ok r

-- The replay of a list of items from a start.
unfoldable pub replay : Program → Start → List Item → Result Replayed
unfolding begin take_items at_end
replay P start items = do
  r ← take_items P (begin start) 0 items
  at_end P (length items) r
