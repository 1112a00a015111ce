-- A popa is for the transfer of its group. That transfer is there for it, since no popa before has its group; and a transfer that is there waits in
-- the popa's queue, where requests stand in the order in which they were issued: so the one that it takes is the oldest.
use Rattle.model.proofs.Options.{some-injective}
use Prim.Native.Nat.{ℕ, ◌≤◌}
use mathlib.Core.Path.{◌≡◌, refl, sym, ◌∙◌, ap, subst, subst₂}
use mathlib.Core.Bool.{true}
use mathlib.Core.List.{List, map}
use mathlib.Core.Logic.{inl}
use native.Mathlib.Omega.{arith}
use lib.ListN.{take, drop, take-append-drop}
use Rattle.model.specs.declared.Item.{Item}
use Rattle.model.specs.declared.Kind.TheVariants.{Popa}
use Rattle.model.specs.ItemKinds.{is_transfer}
use Rattle.model.specs.Programs.{Program}
use Rattle.model.specs.Machine.{Start}
use Rattle.model.specs.Replay.{Event, Replay, request_for}
use Rattle.model.specs.HappensBefore.{At, rank_of}
use Rattle.model.proofs.Laws.{slice_get_take}
use Rattle.model.proofs.Replay.{for_rank, rank_for}
use Rattle.record_facts.specs.Facts.{Local}
use Rattle.record_facts.specs.Transfers.{IsThere, AppendsRequest, SameMarks}
use Rattle.record_facts.proofs.Trajectory.{Run, StepAt}
use Rattle.record_facts.proofs.Status.{standing, request_group, request_of}
use Rattle.record_facts.proofs.GroupMoves.{groups}
use Rattle.record_facts.proofs.Shapes.{group_bound}
use Rattle.record_facts.proofs.Waiting.{Asking, asking, Waits, only_entry}
use Rattle.record_facts.proofs.Numbers.{rises_oldest}
use Rattle.record_facts.proofs.Popping.{Fetching, is_fetch, number_of, partner, partner_of, in_group_lem, Numbered, from_group, fetch_at, transfer_number, fetch_number}
use Rattle.record_facts.proofs.InOrder.{request_number, in_order}
use Rattle.record_facts.proofs.Requesting.{event_at, pop_at, appends_request, same_request_lem}

module _ {P : Program} {start : Start} {local : ℕ → ℕ → Local} {items : List Item} {events : List Event} {last : Replay}
    (whole : Run P start local events last) (items_of : map (λ e. e.item) events ≡ items) where
  -- The transfer of an event's group.
  abbrev pub transfer_of : ℕ → ℕ
  transfer_of = partner events is_transfer

  -- Whose request a popa takes: the transfer of its group.
  module _ (j : ℕ) {x : Event} (at : At events j x) (popa : x.item.kind ≡ Popa) where
    abbrev before_fetch : StepAt P start local (take j events) x
    before_fetch = (fetch_at whole j at popa).0

    abbrev fetch : Fetching P local (take j events) before_fetch.before x
    fetch = (fetch_at whole j at popa).1

    its_transfer : Numbered events j x.group fetch.of.e
    its_transfer = from_group events j x.group 0 (subst (λ l. At l 0 fetch.of.e) (sym fetch.of.events) refl)

    transfer_is : transfer_of j ≡ its_transfer.number
    transfer_is =
        partner_of events is_transfer j at (sym its_transfer.own) ∙
        transfer_number whole its_transfer.number its_transfer.at fetch.of.issue.kind

    transfer_at : At events (transfer_of j) fetch.of.e
    transfer_at = rw transfer_is its_transfer.at

    pub fetch_marked : (e : Event) → At events (transfer_of j) e → SameMarks x e
    fetch_marked e ae =
        let same : fetch.of.e ≡ e = some-injective _ _ (sym transfer_at ∙ ae) in
        subst (SameMarks x) same (record { place = sym fetch.place ∙ fetch.of.place; group = sym its_transfer.own })

    request_appended : AppendsRequest P start items (rank_of x) x.item.queue fetch.a.remote (transfer_of j)
    request_appended =
        subst₂ (λ rank queue. AppendsRequest P start items rank queue fetch.a.remote (transfer_of j)) (sym fetch.of.rank_is)
        (sym fetch.of.queue_is) (appends_request whole items_of (transfer_of j) transfer_at fetch.of.issue)

    -- No other popa has its group.
    one_fetch : (k : ℕ) {y : Event} → At events k y → y.item.kind ≡ Popa → y.group ≡ x.group → k ≡ j
    one_fetch k ay kind same = sym (fetch_number whole k ay kind) ∙ ap (number_of events is_fetch) same ∙ fetch_number whole j at popa

  pub there_request : (j : ℕ) {x : Event} → At events j x → x.item.kind ≡ Popa →
      IsThere items (AppendsRequest P start items) Popa transfer_of j x.item (transfer_of j)
  there_request j {x} at popa =
      let f = fetch j at popa in
      record {
        remote = f.a.remote;
        appended = request_appended j at popa;
        for_rank = for_rank x.item.remote f.a.remote f.chosen.passes;
        before = rw (transfer_is j at popa) (its_transfer j at popa).before;
        not_taken = λ k other pop less is.
            let (y, ay, item_is) = event_at events items_of k pop.at in
            let kind : y.item.kind ≡ Popa = ap (λ (i : Item). i.kind) item_is ∙ pop.kind_is in
            let marks = fetch_marked k ay kind f.of.e (rw is (transfer_at j at popa)) in
            omega (arith, one_fetch j at popa k ay kind (marks.group ∙ (its_transfer j at popa).own));
      }

  -- A transfer that is there for a popa has not been taken on, so its request waits in the popa's queue.
  asking_there : (j : ℕ) {x : Event} (at : At events j x) (popa : x.item.kind ≡ Popa) (i : ℕ) {e : Event} → At events i e →
      is_transfer e.item.kind ≡ true → IsThere items (AppendsRequest P start items) Popa transfer_of j x.item i →
      Asking P local e.group (standing e.group (take j events) (before_fetch j at popa).before) e
  asking_there j at popa i {e} ae transfer t =
      let before = before_fetch j at popa in
      let known = group_bound before.run i e (slice_get_take events j i t.before ae) in
      let (m, inside) = in_group_lem events j i e.group t.before ae refl in
      asking ((groups before.run).settled e.group known (inl (fetch j at popa).row)) m inside transfer
      (λ k y ay kind.
      let n = from_group events j e.group k ay in
      t.not_taken n.number y.item (pop_at events items_of n.number n.at kind) n.before
      (partner_of events is_transfer n.number n.at n.own ∙ transfer_number whole i ae transfer))

  request_waits : (j i : ℕ) (s : Replay) {pop : Item} {e : Event} → At events i e →
      IsThere items (AppendsRequest P start items) Popa transfer_of j pop i →
      Asking P local e.group (standing e.group (take j events) s) e →
      Waits request_group (request_for pop) (s.machine.requests pop.rank pop.queue) e.group
  request_waits j i s {pop} {e} ae t q =
      let same = same_request_lem whole items_of ae t.appended q.issue in
      record {
        entry = request_of e.group e q.remote q.source q.destination;
        waits = only_entry request_group e.group s.machine.requests same.rank_is same.queue_is q.waits;
        passes = rank_for pop.remote q.remote (rw same.remote_is t.for_rank);
        own = refl;
      }

  pub oldest_request : (j : ℕ) {x : Event} → At events j x → x.item.kind ≡ Popa → (i : ℕ) →
      IsThere items (AppendsRequest P start items) Popa transfer_of j x.item i → transfer_of j ≤ i
  oldest_request j {x} at popa i t =
      let (e, ae, item_is) = event_at events items_of i t.appended.at in
      let transfer : is_transfer e.item.kind ≡ true = ap (λ (i : Item). is_transfer i.kind) item_is ∙ t.appended.kind in
      let f = fetch j at popa in
      let w = request_waits j i (before_fetch j at popa).before ae t (asking_there j at popa i ae transfer t) in
      let ordered =
      (in_order whole (before_fetch j at popa).run (drop j events) (sym (take-append-drop j events))).requests (rank_of x) x.item.queue in
      let low : request_number events f.a ≤ request_number events w.entry =
      rises_oldest (request_number events) f.chosen ordered w.waits w.passes in
      let own : transfer_of j ≡ request_number events f.a =
      partner_of events is_transfer j at (sym f.group) in
      let its : request_number events w.entry ≡ i = ap (number_of events is_transfer) w.own ∙ transfer_number whole i ae transfer in
      omega (arith, low, own, its)
