-- What a pop of a run finds. A popa takes the oldest request that it may, and that is the request of a transfer which stands alone in its group so
-- far; a popb takes the oldest delivery, and its group has the transfer and its popa. So a group has one transfer, the first of its events, and one
-- popa: either is known by its group.
use Rattle.std.specs.Prelude.{Some, None, slice_get}
use Prim.Native.Nat.{ℕ, ◌<◌}
use mathlib.Core.Path.{◌≡◌, refl, sym, ◌∙◌, ap}
use mathlib.Core.Bool.{Bool, true, ◌&&◌, true≢false}
use mathlib.Core.List.{List}
use mathlib.Core.Logic.{inl}
use lib.ListN.{length, take}
use native.Mathlib.Omega.{arith}
use borrow.Author.Tests.{eq-eqb, eqb-true}
use Rattle.model.specs.declared.Kind.{Kind}
use Rattle.model.specs.declared.Kind.TheVariants.{Popa, Popb}
use Rattle.model.specs.Choice.{select}
use Rattle.model.specs.ItemKinds.{same_kind, is_transfer, part_of}
use Rattle.model.specs.Programs.{Program}
use Rattle.model.specs.Machine.{Start, Request, Delivery}
use Rattle.model.specs.Replay.{Origin, Event, Replay, request_for, delivery_for}
use Rattle.model.specs.HappensBefore.{At, rank_of}
use Rattle.model.specs.Checks.{in_group, group_events}
use Rattle.model.proofs.Laws.{decided, and-true, true_and, slice_get_take, slice_get_taken}
use Rattle.model.proofs.Selections.{Selected, select_at, select_from}
use Rattle.model.proofs.ItemKinds.{same_kind_true, transfer_command, transfer_no_bar, command≢fetch, command≢delivery, fetch≢delivery}
use Rattle.model.proofs.Replay.{Oldest, taken_oldest}
use Rattle.record_facts.specs.Facts.{Local}
use Rattle.record_facts.proofs.Moves.{Move, commands, fetches, delivers}
use Rattle.record_facts.proofs.Trajectory.{Run, StepAt, move_at}
use Rattle.record_facts.proofs.Queues.{oldest_out, out_own}
use Rattle.record_facts.proofs.Status.{standing, request_group, delivery_group}
use Rattle.record_facts.proofs.Rows.{no_row, not_joining}
use Rattle.record_facts.proofs.Groups.{Groups, known_group}
use Rattle.record_facts.proofs.GroupMoves.{groups}
use Rattle.record_facts.proofs.Shapes.{opens}
use Rattle.record_facts.proofs.Waiting.{in_one, Asked, asked, Sent, sent}
use Rattle.record_facts.proofs.Numbers.{first_number, first_number_lem}

-- A popa, with the request that it takes and the transfer of that request.
pub record Fetching (P : Program) (local : ℕ → ℕ → Local) (done : List Event) (s : Replay) (x : Event) : Type 0 where
  pub row : s.row ≡ 0
  pub a : Request Origin
  pub rest : List (Request Origin)
  pub chosen : Oldest (request_for x.item) (s.machine.requests (rank_of x) x.item.queue) a rest
  pub group : a.mark.group ≡ x.group
  pub place : a.mark.place ≡ x.place
  pub of : Asked P local (standing x.group done s) (rank_of x) x.item.queue a

fetching : {P : Program} {local : ℕ → ℕ → Local} {done : List Event} {s s' : Replay} {x : Event} → Groups P local done s → Move P s x s' →
    x.item.kind ≡ Popa → Fetching P local done s x
fetching inv (commands i t a c) popa = absurd (command≢fetch (sym c.taken.part ∙ ap part_of popa))
fetching {s = s} inv (fetches i a rest c) popa =
    let chosen = taken_oldest c in
    let out = oldest_out chosen in
    let known = known_group inv request_group out (ap (λ w. w.requests i.rank i.queue)) in
    let row = no_row s.row i c.allowed (rw popa refl) in
    record {
      row = row;
      a = a;
      rest = rest;
      chosen = chosen;
      group = refl;
      place = refl;
      of = asked (inv.settled (request_group a) known (inl row)) (out_own request_group (request_group a) out refl);
    }
fetching inv (delivers i b rest c) popa = absurd (fetch≢delivery (ap part_of (sym popa ∙ c.kind_is)))

-- A popb, with the delivery that it takes, and the transfer and the fetch of that delivery.
pub record Delivering (P : Program) (local : ℕ → ℕ → Local) (done : List Event) (s : Replay) (x : Event) : Type 0 where
  pub row : s.row ≡ 0
  pub b : Delivery Origin
  pub rest : List (Delivery Origin)
  pub chosen : Oldest (delivery_for x.item) (s.machine.deliveries (rank_of x) x.item.queue) b rest
  pub group : b.mark.group ≡ x.group
  pub place : b.mark.place ≡ x.place
  pub of : Sent P local (standing x.group done s) (rank_of x) x.item.queue b

delivering : {P : Program} {local : ℕ → ℕ → Local} {done : List Event} {s s' : Replay} {x : Event} → Groups P local done s → Move P s x s' →
    x.item.kind ≡ Popb → Delivering P local done s x
delivering inv (commands i t a c) popb = absurd (command≢delivery (sym c.taken.part ∙ ap part_of popb))
delivering inv (fetches i a rest c) popb = absurd (fetch≢delivery (ap part_of (sym c.kind_is ∙ popb)))
delivering {s = s} inv (delivers i b rest c) popb =
    let chosen = taken_oldest c in
    let out = oldest_out chosen in
    let known = known_group inv delivery_group out (ap (λ w. w.deliveries i.rank i.queue)) in
    let row = no_row s.row i c.allowed (rw popb refl) in
    record {
      row = row;
      b = b;
      rest = rest;
      chosen = chosen;
      group = refl;
      place = refl;
      of = sent (inv.settled (delivery_group b) known (inl row)) (out_own delivery_group (delivery_group b) out refl);
    }

-- An event of a group among the group's events so far; and an event of those, with its number.
module _ (events : List Event) (j : ℕ) where
  pub in_group_lem : (k : ℕ) {y : Event} (g : ℕ) → k < j → At events k y → y.group ≡ g → (m : ℕ) × At (group_events g (take j events)) m y
  in_group_lem k {y} g less at own = (
    length (select (in_group g) (take k (take j events))),
    select_at (in_group g) (take j events) k (slice_get_take events j k less at) (eq-eqb y.group g own),
  )

  pub record Numbered (g : ℕ) (y : Event) : Type 0 where
    pub number : ℕ
    pub at : At events number y
    pub before : number < j
    pub own : y.group ≡ g

  pub from_group : (g m : ℕ) {y : Event} → At (group_events g (take j events)) m y → Numbered g y
  from_group g m {y} at =
      let found : Selected (in_group g) (take j events) m y = select_from (in_group g) (take j events) m at in
      let (there, before) = slice_get_taken events j found.i found.at in
      record { number = found.i; at = there; before = before; own = eqb-true y.group g found.passes }

-- The number of the one event of a group whose kind passes a test.
abbrev pub of_kind : (Kind → Bool) → (g : ℕ) → Event → Bool
of_kind test g y = test y.item.kind && in_group g y

abbrev pub is_fetch : Kind → Bool
is_fetch kind = same_kind kind Popa

abbrev pub number_of : List Event → (Kind → Bool) → (g : ℕ) → ℕ
number_of events test g = first_number (of_kind test g) events

number_of_lem : (events : List Event) (test : Kind → Bool) (i : ℕ) {e : Event} → At events i e → test e.item.kind ≡ true →
    ((k : ℕ) (y : Event) → k < i → At events k y → test y.item.kind ≡ true → ¬ (y.group ≡ e.group)) → number_of events test e.group ≡ i
number_of_lem events test i {e} at passes others =
    first_number_lem (of_kind test e.group) events i at (true_and _ _ passes (eq-eqb e.group e.group refl))
    (λ k y less there.
    decided (of_kind test e.group y)
    (λ own.
    let (kind, group) = and-true (test y.item.kind) (in_group e.group y) own in
    absurd (others k y less there kind (eqb-true y.group e.group group)))
    (λ other. other))

-- The one of the event's own group.
unfoldable pub partner : List Event → (Kind → Bool) → (j : ℕ) → ℕ
partner events test j = elim (slice_get events j) [ None ↦ 0 | Some x ↦ number_of events test x.group ]

pub partner_of : (events : List Event) (test : Kind → Bool) (j : ℕ) {x : Event} → At events j x → {g : ℕ} → x.group ≡ g →
    partner events test j ≡ number_of events test g
unfolding partner
partner_of events test j at own = rw (at, partner) (ap (number_of events test) own)

module _ {P : Program} {start : Start} {local : ℕ → ℕ → Local} {events : List Event} {last : Replay} (run : Run P start local events last) where
  pub fetch_at : (j : ℕ) {x : Event} → At events j x → x.item.kind ≡ Popa →
      (h : StepAt P start local (take j events) x) × Fetching P local (take j events) h.before x
  fetch_at j {x} at popa = let here = move_at run j x at in (here, fetching (groups here.run) here.step popa)

  pub delivery_at_lem : (j : ℕ) {x : Event} → At events j x → x.item.kind ≡ Popb →
      (h : StepAt P start local (take j events) x) × Delivering P local (take j events) h.before x
  delivery_at_lem j {x} at popb = let here = move_at run j x at in (here, delivering (groups here.run) here.step popb)

  -- A transfer has a higher group than all before it, and a popa stands behind its transfer alone.
  pub transfer_number : (i : ℕ) {e : Event} → At events i e → is_transfer e.item.kind ≡ true → number_of events is_transfer e.group ≡ i
  transfer_number i {e} at transfer =
      number_of_lem events is_transfer i at transfer
      (λ k y less there kind same.
      let first = not_joining e.item (transfer_no_bar e.item.kind transfer) in
      let lower = opens run i k e y at (transfer_command e.item.kind transfer) first less there in
      omega arith)

  pub fetch_number : (j : ℕ) {x : Event} → At events j x → x.item.kind ≡ Popa → number_of events is_fetch x.group ≡ j
  fetch_number j {x} at popa =
      let (here, f) = fetch_at j at popa in
      number_of_lem events is_fetch j at (ap is_fetch popa)
      (λ k y less there kind same.
      let (m, inside) = in_group_lem events j k x.group less there same in
      let alone : f.of.e ≡ y = in_one m (rw f.of.events at inside) in
      true≢false (sym f.of.issue.kind ∙ ap (λ z. is_transfer z.item.kind) alone ∙ ap is_transfer (same_kind_true y.item.kind Popa kind)))
