-- Bounds on what an accepted record's events name, whatever values it gives: groups are below the number of groups, of which there is at most one for
-- each event, and ranks and cells are the program's. A pop's group is its command's, so the entries of every queue are of groups below that number.
use Rattle.model.specs.declared.Action.TheVariants.{Loads, Stores, Assigns, Passes, Issues, Meets}
use Rattle.std.specs.Prelude.{Option, Some, None}
use Rattle.model.proofs.Options.{none-ne-some, some-injective}
use Prim.Native.Nat.{ℕ, zero, suc, ◌+◌, ◌<◌, ◌≤◌}
use mathlib.Core.Path.{◌≡◌, refl, subst, ap}
use mathlib.Core.Bool.{true}
use mathlib.Core.List.{List, [], ◌∷◌}
use native.Mathlib.Omega.{arith}
use lib.Dec.{leb}
use lib.ListN.{length}
use borrow.Author.Tests.{leb-true}
use Rattle.model.specs.declared.Address.{Address}
use Rattle.model.specs.declared.Header.{Header}
use Rattle.model.specs.declared.Item.{Item}
use Rattle.model.specs.Limits.{max_items}
use Rattle.model.specs.Refusals.{Ok, record_length, record_range}
use Rattle.model.specs.Choice.{Each, all, one}
use Rattle.model.specs.Bytes.{word, judged}
use Rattle.model.specs.ItemKinds.{has_place}
use Rattle.model.specs.Programs.{Program, Command, Transition, HeaderFits}
use Rattle.model.specs.Records.{read_item, record_reader_in, record_reader, read_record_in, read_record}
use Rattle.model.specs.Machine.{Access, Action}
use Rattle.model.specs.Machine.{Start, initial, move_to, set_register, set_cell, set_requests, set_deliveries}
use Rattle.model.specs.Replay.{Event, Replay, Taken, Replayed, joins_row, opened_after, origin_of, access_of, perform}
use Rattle.model.specs.Replay.{take_item, take_items, same_address, agrees_with, begin, replay}
use Rattle.model.specs.HappensBefore.{At, rank_of}
use Rattle.model.specs.Checks.{Accepted, accept}
use Rattle.model.proofs.Laws.{Within, decided, and-true, bind_ok, ok_injective, put₂_holds}
use Rattle.model.proofs.TakenItems.{replay_taken}
use Rattle.model.proofs.Accepted.{accepted_parts}
use Rattle.model.proofs.Bytes.{finds_anything, finds_bind, finds_judged, finds_times, finds_counted, finds_weaker, whole_finds}
use Rattle.model.proofs.Ranges.{Ranged, item_finds, header_fits}
use Rattle.model.proofs.Actions.{Asks, loading, storing, assigning, passing, reading, writing, meeting, action_asks}
use Rattle.model.proofs.Replay.{CommandTaken, ItemTaken, commands, fetches, delivers, item_taken, taken_oldest, same_address_true}
use Rattle.record_facts.proofs.Rows.{joining, group_joined, group_opened, count_joined, count_opened, each_snoc}
use Rattle.record_facts.proofs.Queues.{oldest_out, each_out}

-- The entries of every queue, and an open row, are of groups that are numbered.
record Bounded (s : Replay) : Type 0 where
  requests : (rank queue : ℕ) → Each (λ a. a.mark.group < s.opened) (s.machine.requests rank queue)
  deliveries : (rank queue : ℕ) → Each (λ b. b.mark.group < s.opened) (s.machine.deliveries rank queue)
  row : 1 ≤ s.row → 1 ≤ s.opened

-- After an item, with its group.
record Stepped (s : Replay) (t : Taken) : Type 0 where
  bounded : Bounded t.state
  group : t.event.group < t.state.opened
  rises : s.opened ≤ t.state.opened
  most : t.state.opened ≤ suc s.opened

each_weaker : {A : Type 0} {Holds Weaker : A → Type 0} → ((a : A) → Holds a → Weaker a) → {l : List A} → Each Holds l → Each Weaker l
each_weaker weaker all = all
each_weaker weaker (one {a = a} h rest) = one (weaker a h) (each_weaker weaker rest)

-- The group of a command, and how many there are after it.
record Numbered (s : Replay) (i : Item) : Type 0 where
  group : (origin_of s i).group < opened_after s.opened i
  rises : s.opened ≤ opened_after s.opened i
  most : opened_after s.opened i ≤ suc s.opened

module _ (P : Program) (s : Replay) (i : Item) (b : Bounded s) where
  numbered : {t : Transition} {a : Action} → CommandTaken P s i t a → Numbered s i
  numbered c =
      decided (joins_row i)
      (λ h. let first : 1 ≤ s.opened = b.row (joining s.row i c.allowed h).1 in
      let group = group_joined s.opened i h in
      let count = count_joined s.opened i h in
      record { group = omega arith; rises = omega arith; most = omega arith })
      (λ h. let group = group_opened s.opened i h in
      let count = count_opened s.opened i h in
      record { group = omega arith; rises = omega arith; most = omega arith })

  -- What a command puts into a queue is of its group.
  module _ (opened : ℕ) (own : (origin_of s i).group < opened) (rises : s.opened ≤ opened) where
    requests_later : (rank queue : ℕ) → Each (λ e. e.mark.group < opened) (s.machine.requests rank queue)
    requests_later rank queue = each_weaker (λ e h. omega (arith, h, rises)) (b.requests rank queue)

    deliveries_later : (rank queue : ℕ) → Each (λ e. e.mark.group < opened) (s.machine.deliveries rank queue)
    deliveries_later rank queue = each_weaker (λ e h. omega (arith, h, rises)) (b.deliveries rank queue)

    requests_performed : (a : Action) (rank queue : ℕ) →
        Each (λ e. e.mark.group < opened) ((perform i.rank (origin_of s i) a s.machine).requests rank queue)
    unfolding perform set_register set_cell set_requests
    requests_performed (Loads x c) = requests_later
    requests_performed (Stores c v) = requests_later
    requests_performed (Assigns x v) = requests_later
    requests_performed Passes = requests_later
    requests_performed (Issues q remote source destination) =
        put₂_holds (Each _) s.machine.requests i.rank q (each_snoc (requests_later i.rank q) own) requests_later
    requests_performed Meets = requests_later

    deliveries_performed : (a : Action) (rank queue : ℕ) →
        Each (λ e. e.mark.group < opened) ((perform i.rank (origin_of s i) a s.machine).deliveries rank queue)
    unfolding perform set_register set_cell set_requests
    deliveries_performed (Loads x c) = deliveries_later
    deliveries_performed (Stores c v) = deliveries_later
    deliveries_performed (Assigns x v) = deliveries_later
    deliveries_performed Passes = deliveries_later
    deliveries_performed (Issues q remote source destination) = deliveries_later
    deliveries_performed Meets = deliveries_later

  stepped : {t : Taken} → ItemTaken P s i t → Stepped s t
  unfolding move_to set_requests set_deliveries set_cell
  stepped (commands t a c) =
      let n = numbered c in
      let opened = opened_after s.opened i in
      record {
        bounded =
            record {
              requests = requests_performed opened n.group n.rises a;
              deliveries = deliveries_performed opened n.group n.rises a;
              row = λ h. omega (arith, n.group);
            };
        group = n.group;
        rises = n.rises;
        most = n.most;
      }
  stepped (fetches a rest c) =
      let (first, others) = each_out (oldest_out (taken_oldest c)) (b.requests i.rank i.queue) in
      record {
        bounded =
            record {
              requests = put₂_holds (Each _) s.machine.requests i.rank i.queue others b.requests;
              deliveries =
                  put₂_holds (Each _) s.machine.deliveries i.rank i.queue (each_snoc (b.deliveries i.rank i.queue) first) b.deliveries;
              row = b.row;
            };
        group = first;
        rises = omega arith;
        most = omega arith;
      }
  stepped (delivers d rest c) =
      let (first, others) = each_out (oldest_out (taken_oldest c)) (b.deliveries i.rank i.queue) in
      record {
        bounded =
            record {
              requests = b.requests;
              deliveries = put₂_holds (Each _) s.machine.deliveries i.rank i.queue others b.deliveries;
              row = b.row;
            };
        group = first;
        rises = omega arith;
        most = omega arith;
      }

-- An address that the program has, and an event that names only such.
pub record AddressIn (header : Header) (a : Address) : Type 0 where
  pub rank : Within 1 header.ranks a.rank
  pub cell : a.cell < header.cells

abbrev pub AccessIn : Header → Option Access → Type 0
AccessIn header None = Unit {0}
AccessIn header (Some a) = AddressIn header a.address

pub record EventIn (header : Header) (e : Event) : Type 0 where
  pub rank : Within 1 header.ranks (rank_of e)
  pub access : AccessIn header e.access

-- A command's cell passed its test, and a pop's is its item's place.
command_inside : (P : Program) (rank : ℕ) (registers : ℕ → ℕ) (cells : ℕ → ℕ → ℕ) → Within 1 P.header.ranks rank →
    {c : Command} {a : Action} → Asks P rank registers c a → AccessIn P.header (access_of rank a cells)
unfolding access_of
command_inside P rank registers cells r (loading here cell) = record { rank = r; cell = cell }
command_inside P rank registers cells r (storing here stored cell) = record { rank = r; cell = cell }
command_inside P rank registers cells r (assigning assigned) = tt
command_inside P rank registers cells r (passing assumed test) = tt
command_inside P rank registers cells r (reading operands) = tt
command_inside P rank registers cells r (writing operands) = tt
command_inside P rank registers cells r meeting = tt

place_inside : {header : Header} {bytes : List ℕ} (i : Item) → Ranged header bytes i → has_place i.kind ≡ true → (access : Access) →
    agrees_with i (Some access) ≡ true → AddressIn header access.address
unfolding agrees_with
place_inside {header} i r has access h =
    let same : i.place ≡ access.address =
    same_address_true i.place access.address (and-true (same_address i.place access.address) _ h).0 in
    subst (AddressIn header) same (record { rank = r.place_rank_lem has; cell = r.place_cell_lem has })

event_inside : (P : Program) (s : Replay) (i : Item) {bytes : List ℕ} {t : Taken} → Ranged P.header bytes i → ItemTaken P s i t →
    EventIn P.header t.event
event_inside P s i r (commands t a c) =
    record {
      rank = r.rank;
      access =
          command_inside P i.rank (s.machine.registers i.rank) s.machine.cells r.rank
          (action_asks P i.rank (s.machine.registers i.rank) 0 t.command (c.acts 0));
    }
event_inside P s i r (fetches a rest c) = record { rank = r.rank; access = place_inside i r (rw c.kind_is) _ c.agreed }
event_inside P s i r (delivers b rest c) = record { rank = r.rank; access = place_inside i r (rw c.kind_is) _ c.agreed }

-- The bounds, of a run of so many items from a state with so many groups.
pub record Bounds (header : Header) (opened items : ℕ) (run : Replayed) : Type 0 where
  pub counted : length run.events ≡ items
  pub inside : (i : ℕ) (e : Event) → At run.events i e → EventIn header e
  pub group : (i : ℕ) (e : Event) → At run.events i e → e.group < run.last.opened
  pub rises : opened ≤ run.last.opened
  pub most : run.last.opened ≤ opened + items

one_more_lem : {header : Header} {opened next items : ℕ} {e : Event} {run : Replayed} → EventIn header e → e.group < next → opened ≤ next →
    next ≤ suc opened → Bounds header next items run → Bounds header opened (suc items) (record { last = run.last; events = e ∷ run.events })
one_more_lem {header} {e = e} {run} inside group rises most rest =
    record {
      counted = ap suc rest.counted;
      inside = at_first (EventIn header) inside rest.inside;
      group = at_first (λ x. x.group < run.last.opened) (omega (arith, rest.rises)) rest.group;
      rises = omega (arith, rest.rises);
      most = omega (arith, rest.most);
    }
  where
    at_first : (Holds : Event → Type 0) → Holds e → ((i : ℕ) (x : Event) → At run.events i x → Holds x) →
        (i : ℕ) (x : Event) → At (e ∷ run.events) i x → Holds x
    at_first Holds h others zero x at = subst Holds (some-injective _ _ at) h
    at_first Holds h others (suc i) x at = others i x at

module _ (P : Program) {bytes : List ℕ} where
  walked : (s : Replay) (at : ℕ) (items : List Item) {run : Replayed} → Each (Ranged P.header bytes) items →
      Bounded s → take_items P s at items ≡ Ok run → Bounds P.header s.opened (length items) run
  unfolding take_items
  walked s at [] all b h =
      rw (← (ok_injective h))
      (record {
        counted = refl;
        inside = λ i e at. absurd (none-ne-some _ at);
        group = λ i e at. absurd (none-ne-some _ at);
        rises = omega arith;
        most = omega arith;
      })
  walked s at (i ∷ items) (one r ranged) b h =
      let (t, taken, h₁) = bind_ok (take_item P s at i) _ h in
      let (rest, others, h₂) = bind_ok (take_items P t.state (at + 1) items) _ h₁ in
      let item = item_taken P s at i taken in
      let step = stepped P s i b item in
      rw (← (ok_injective h₂))
      (one_more_lem (event_inside P s i r item) step.group step.rises step.most
      (walked t.state (at + 1) items ranged step.bounded others))

  -- An accepted list of items that were read.
  pub replayed_bounds : (start : Start) (items : List Item) {run : Replayed} → Each (Ranged P.header bytes) items →
      replay P start items ≡ Ok run → Bounds P.header 0 (length items) run
  unfolding begin initial
  replayed_bounds start items ranged h =
      walked (begin start) 0 items ranged
      (record { requests = λ rank queue. all; deliveries = λ rank queue. all; row = λ h. omega arith }) (replay_taken P start items h).0

-- The items that were read: in their ranges, and no more than a record has.
module _ (header : Header) (bytes : List ℕ) where
  pub read_ranged : {items : List Item} → read_record header bytes ≡ Ok items → Each (Ranged header bytes) items
  unfolding read_record_in record_reader_in
  read_ranged =
      whole_finds record_length (record_reader header) bytes (Each (Ranged header bytes))
      (finds_bind (finds_anything (judged (λ n. leb n max_items) record_range (word record_length))) λ count _. finds_times count (item_finds header))

  pub read_few : {items : List Item} → read_record header bytes ≡ Ok items → length items ≤ max_items
  unfolding read_record_in record_reader_in
  read_few =
      whole_finds record_length (record_reader header) bytes (λ items. length items ≤ max_items)
      (finds_bind (finds_judged (λ n. leb n max_items) record_range (word record_length)) λ count few.
      finds_weaker (finds_counted count (read_item header)) (λ items e. rw e (leb-true count max_items few)))

-- An accepted record.
pub record AcceptedBounds (a : Accepted) : Type 0 where
  pub header : HeaderFits a.program.header
  pub few : length a.run.events ≤ max_items
  pub bounds : Bounds a.program.header 0 (length a.run.events) a.run

pub accepted_bounds : (program start recorded : List ℕ) (a : Accepted) → accept program start recorded ≡ Ok a → AcceptedBounds a
accepted_bounds program start recorded a accepted =
    let p = accepted_parts program start recorded a accepted in
    let header = a.program.header in
    let bounds = replayed_bounds a.program a.readings p.items (read_ranged header recorded p.record_read_lem) p.replayed in
    record {
      header = header_fits program p.program_read_lem;
      few = rw bounds.counted (read_few header recorded p.record_read_lem);
      bounds = rw bounds.counted bounds;
    }
