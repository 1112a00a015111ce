-- A group as it stands in the middle of a run: its events so far, and its entries in the queues. A transfer is issued (a request waits), fetched (a
-- delivery waits) or delivered; every other group has no entry. A pop takes its transfer one stage on; once the queues are quiet, each group has
-- one of its last shapes.
use Rattle.model.specs.declared.Action.TheVariants.{Issues}
use Rattle.std.specs.Prelude.{Some, slice_get}
use Prim.Native.Nat.{ℕ, ◌<◌, ◌≤◌}
use mathlib.Core.Path.{◌≡◌, refl, sym, ◌∙◌, ap}
use mathlib.Core.Bool.{true, false, ◌&&◌}
use mathlib.Core.List.{List, [], ◌∷◌, ◌++◌, map}
use lib.Dec.{eqb}
use borrow.Author.Tests.{eqb-true}
use Rattle.model.specs.declared.Address.{Address}
use Rattle.model.specs.declared.Kind.{Kind}
use Rattle.model.specs.declared.Kind.TheVariants.{Popa, Popb, Bar}
use Rattle.model.specs.Refusals.{Ok}
use Rattle.model.specs.Choice.{numbers_from, Each}
use Rattle.model.specs.ItemKinds.{is_bar, is_transfer}
use Rattle.model.specs.Programs.{Program, Transition}
use Rattle.model.specs.Machine.{Request, Delivery, read_of, write_of, put₂, action}
use Rattle.model.specs.Replay.{Origin, Event, Replay, is_for}
use Rattle.model.specs.HappensBefore.{is_command, rank_of}
use Rattle.model.specs.Checks.{group_events}
use Rattle.model.proofs.Laws.{decided, and-true, put₂_same}
use Rattle.record_facts.specs.Facts.{Local, PopOf, TransferOf, Shape, single, transfer, row}
use Rattle.record_facts.proofs.Queues.{cons≢nil, Out, out_nothing, out_only, of_group, put₂_again, put₂_idle}

-- What a group has: its events, and its entries in each queue of each rank.
pub record Standing : Type 0 where
  pub events : List Event
  pub requests : ℕ → ℕ → List (Request Origin)
  pub deliveries : ℕ → ℕ → List (Delivery Origin)

-- The group that an entry is marked with.
abbrev pub request_group : Request Origin → ℕ
request_group a = a.mark.group

abbrev pub delivery_group : Delivery Origin → ℕ
delivery_group b = b.mark.group

-- What a group has at a point of a run.
abbrev pub standing : (g : ℕ) → List Event → Replay → Standing
standing g done s =
    record {
      events = group_events g done;
      requests = of_group request_group g s.machine.requests;
      deliveries = of_group delivery_group g s.machine.deliveries;
    }

-- No entry in any queue, and one entry in one queue.
abbrev pub nothing : {A : Type 0} → ℕ → ℕ → List A
nothing rank queue = []

abbrev pub only : {A : Type 0} → (rank queue : ℕ) → A → ℕ → ℕ → List A
only rank queue a = put₂ nothing rank queue (a ∷ [])

-- A group with no entry in any queue, and one that is not yet opened.
abbrev pub resting : List Event → Standing
resting events = record { events = events; requests = nothing; deliveries = nothing }

abbrev pub unopened : Standing
unopened = resting []

-- A group with one event, request or delivery more, and with what is left of a queue.
abbrev pub plus_event : Event → Standing → Standing
plus_event e w = record { events = w.events ++ e ∷ []; requests = w.requests; deliveries = w.deliveries }

abbrev pub plus_request : (rank queue : ℕ) → Request Origin → Standing → Standing
plus_request rank queue a w =
    record {
      events = w.events;
      requests = put₂ w.requests rank queue (w.requests rank queue ++ a ∷ []);
      deliveries = w.deliveries;
    }

abbrev pub plus_delivery : (rank queue : ℕ) → Delivery Origin → Standing → Standing
plus_delivery rank queue b w =
    record {
      events = w.events;
      requests = w.requests;
      deliveries = put₂ w.deliveries rank queue (w.deliveries rank queue ++ b ∷ []);
    }

abbrev pub left_requests : (rank queue : ℕ) → List (Request Origin) → Standing → Standing
left_requests rank queue left w =
    record { events = w.events; requests = put₂ w.requests rank queue left; deliveries = w.deliveries }

abbrev pub left_deliveries : (rank queue : ℕ) → List (Delivery Origin) → Standing → Standing
left_deliveries rank queue left w =
    record { events = w.events; requests = w.requests; deliveries = put₂ w.deliveries rank queue left }

-- An event that issues a transfer, on a queue of its rank.
pub record Issuing (P : Program) (local : ℕ → ℕ → Local) (e : Event) (remote : ℕ) (source destination : Address) : Type 0 where
  pub kind : is_transfer e.item.kind ≡ true
  pub low : 1 ≤ rank_of e
  pub high : rank_of e ≤ P.header.ranks
  pub queue : e.queue < P.header.queues
  pub acts : (at : ℕ) (t : Transition) → slice_get P.transitions e.item.transition ≡ Some t →
      action P (rank_of e) (local (rank_of e) e.place).registers at t.command ≡ Ok (Issues e.queue remote source destination)

-- The request of a transfer, and its delivery.
abbrev pub request_of : (g : ℕ) → Event → (remote : ℕ) → (source destination : Address) → Request Origin
request_of g e remote source destination =
    record { remote = remote; source = source; destination = destination; mark = record { place = e.place; group = g } }

abbrev pub delivery_of : (g : ℕ) → Event → (remote : ℕ) → (destination : Address) → (value : ℕ) → Delivery Origin
delivery_of g e remote destination value =
    record { remote = remote; destination = destination; value = value; mark = record { place = e.place; group = g } }

-- How a group stands: a command that is done, a closed row, or a transfer at one of its three stages.
pub data Status (P : Program) (local : ℕ → ℕ → Local) (g : ℕ) : Standing → Type 0 where
  alone : (e : Event) → is_command e ≡ true → is_transfer e.item.kind ≡ false → is_bar e.item.kind ≡ false →
      Status P local g (resting (e ∷ []))
  closed : (bars : List Event) → Each (λ e. e.item.kind ≡ Bar) bars → map rank_of bars ≡ numbers_from 1 P.header.ranks →
      Status P local g (resting bars)
  issued : (e : Event) (remote : ℕ) (source destination : Address) → Issuing P local e remote source destination →
      Status P local g
      (record {
        events = e ∷ [];
        requests = only (rank_of e) e.queue (request_of g e remote source destination);
        deliveries = nothing;
      })
  fetched : (e a : Event) (remote : ℕ) (source destination : Address) (value : ℕ) → Issuing P local e remote source destination →
      PopOf Popa e a → is_for a.item.remote remote ≡ true → a.access ≡ read_of source value →
      Status P local g
      (record {
        events = e ∷ a ∷ [];
        requests = nothing;
        deliveries = only (rank_of e) e.queue (delivery_of g e remote destination value);
      })
  delivered : (e a b : Event) → TransferOf P local e a b → Status P local g (resting (e ∷ a ∷ b ∷ []))

-- A pop of a rank and queue, of an entry with this mark and this remote rank.
pub record Pops (p : Event) (rank queue : ℕ) (mark : Origin) (remote : ℕ) : Type 0 where
  pub rank_is : rank_of p ≡ rank
  pub item_queue : p.item.queue ≡ queue
  pub queue_is : p.queue ≡ queue
  pub place : p.place ≡ mark.place
  pub for_remote : is_for p.item.remote remote ≡ true

-- The one entry lies in its queue alone.
pub record There {A : Type 0} (rank queue : ℕ) (x : A) (k l : ℕ) (a : A) (left : List A) : Type 0 where
  pub rank_is : k ≡ rank
  pub queue_is : l ≡ queue
  pub entry : a ≡ x
  pub none_left : left ≡ []

pub only_there : {A : Type 0} (rank queue : ℕ) (x : A) {a : A} {left : List A} (k l : ℕ) → Out a (only rank queue x k l) left →
    There rank queue x k l a left
unfolding put₂
only_there rank queue x k l o =
    decided (eqb k rank && eqb l queue)
    (λ here.
    let (p, q) = and-true (eqb k rank) (eqb l queue) here in
    let (entry, none_left) = out_only o (rw here) in
    record { rank_is = eqb-true k rank p; queue_is = eqb-true l queue q; entry = entry; none_left = none_left })
    (λ elsewhere. absurd (out_nothing o (rw elsewhere)))

-- A pop of a transfer's rank, queue and place is one of its pops.
pop_of : {kind : Kind} {e p : Event} {rank queue remote : ℕ} {mark : Origin} → p.item.kind ≡ kind → Pops p rank queue mark remote →
    rank ≡ rank_of e → queue ≡ e.queue → mark.place ≡ e.place → PopOf kind e p
pop_of kind pops k l place =
    record {
      kind_is = kind;
      rank = pops.rank_is ∙ k;
      place = pops.place ∙ place;
      queue = pops.queue_is ∙ l;
      item_queue = pops.item_queue ∙ l;
    }

-- Taken out, the one entry leaves its queue empty too.
only_gone : {A : Type 0} (rank queue : ℕ) (x : A) → put₂ (only rank queue x) rank queue [] ≡ nothing
only_gone rank queue x = put₂_again nothing rank queue (x ∷ []) [] ∙ put₂_idle nothing rank queue [] refl

-- A queue with the one entry is not empty.
waiting : {A : Type 0} (rank queue : ℕ) (x : A) → ¬ (only rank queue x rank queue ≡ [])
waiting rank queue x empty = cons≢nil (sym (put₂_same nothing rank queue (x ∷ [])) ∙ empty)

module _ {P : Program} {local : ℕ → ℕ → Local} {g : ℕ} where
  -- A fetch takes an issued transfer one stage on.
  pub fetch_status : {was : Standing} → Status P local g was →
      (p : Event) (rank queue value : ℕ) (a : Request Origin) (left : List (Request Origin)) →
      p.item.kind ≡ Popa → Pops p rank queue a.mark a.remote → p.access ≡ read_of a.source value → Out a (was.requests rank queue) left →
      let b : Delivery Origin = record { remote = a.remote; destination = a.destination; value = value; mark = a.mark } in
      Status P local g (plus_delivery rank queue b (left_requests rank queue left (plus_event p was)))
  fetch_status (alone e command plain bar) p rank queue value a left kind pops access o = absurd (out_nothing o refl)
  fetch_status (closed bars each ranks) p rank queue value a left kind pops access o = absurd (out_nothing o refl)
  fetch_status (issued e remote source destination issue) p rank queue value a left kind pops access o =
      let there = only_there (rank_of e) e.queue (request_of g e remote source destination) rank queue o in
      let same = there.entry in
      rw (there.rank_is, there.queue_is, same, there.none_left, only_gone (rank_of e) e.queue)
      (fetched e p remote source destination value issue
      (pop_of kind pops there.rank_is there.queue_is (ap (λ r. r.mark.place) same))
      (ap (λ r. is_for p.item.remote r.remote) (sym same) ∙ pops.for_remote)
      (access ∙ ap (λ r. read_of r.source value) same))
  fetch_status (fetched e a' remote source destination value' issue popa names reads) p rank queue value a left kind pops access o =
      absurd (out_nothing o refl)
  fetch_status (delivered e a' b whole) p rank queue value a left kind pops access o = absurd (out_nothing o refl)

  -- A delivery takes a fetched transfer to its end.
  pub delivery_status : {was : Standing} → Status P local g was → (p : Event) (rank queue : ℕ) (b : Delivery Origin) (left : List (Delivery Origin)) →
      p.item.kind ≡ Popb → Pops p rank queue b.mark b.remote → p.access ≡ write_of b.destination b.value → Out b (was.deliveries rank queue) left →
      Status P local g (left_deliveries rank queue left (plus_event p was))
  delivery_status (alone e command plain bar) p rank queue b left kind pops access o = absurd (out_nothing o refl)
  delivery_status (closed bars each ranks) p rank queue b left kind pops access o = absurd (out_nothing o refl)
  delivery_status (issued e remote source destination issue) p rank queue b left kind pops access o = absurd (out_nothing o refl)
  delivery_status (fetched e a remote source destination value issue popa names reads) p rank queue b left kind pops access o =
      let there = only_there (rank_of e) e.queue (delivery_of g e remote destination value) rank queue o in
      let same = there.entry in
      rw (there.rank_is, there.queue_is, there.none_left, only_gone (rank_of e) e.queue)
      (delivered e a p
      (record {
        remote = remote;
        source = source;
        destination = destination;
        value = value;
        is_transfer_lem = issue.kind;
        fetch_of_lem = popa;
        delivery_of_lem = pop_of kind pops there.rank_is there.queue_is (ap (λ d. d.mark.place) same);
        fetch_for = names;
        delivery_for_lem = ap (λ d. is_for p.item.remote d.remote) (sym same) ∙ pops.for_remote;
        reads = reads;
        writes = access ∙ ap (λ d. write_of d.destination d.value) same;
        acts = issue.acts;
      }))
  delivery_status (delivered e a b' whole) p rank queue b left kind pops access o = absurd (out_nothing o refl)

  -- Once no queue of the machine has an entry of the group, it has its last shape.
  pub finished : {was : Standing} → Status P local g was →
      ((rank queue : ℕ) → 1 ≤ rank → rank ≤ P.header.ranks → queue < P.header.queues →
      (was.requests rank queue ≡ []) × (was.deliveries rank queue ≡ [])) →
      Shape P local was.events
  finished (alone e command plain bar) quiet = single e command plain bar
  finished (closed bars each ranks) quiet = row bars each ranks
  finished (issued e remote source destination issue) quiet =
      absurd (waiting (rank_of e) e.queue _ (quiet (rank_of e) e.queue issue.low issue.high issue.queue).0)
  finished (fetched e a remote source destination value issue popa names reads) quiet =
      absurd (waiting (rank_of e) e.queue _ (quiet (rank_of e) e.queue issue.low issue.high issue.queue).1)
  finished (delivered e a b whole) quiet = transfer e a b whole
