-- A popb carries on the popa of its group. That one is there for it, since no popb before has its group; and a popa that is there has its delivery in
-- the popb's queue, where deliveries stand in the order in which they were fetched: so the one that it takes is the oldest.
use Rattle.model.proofs.Options.{some-injective}
use Prim.Native.Nat.{ℕ, ◌≤◌, ◌<◌}
use mathlib.Core.Path.{◌≡◌, refl, sym, ◌∙◌, ap, subst, subst₂}
use mathlib.Core.Bool.{true≢false}
use mathlib.Core.List.{List, map}
use mathlib.Core.Logic.{inl, ⊎_elim}
use native.Mathlib.Omega.{arith}
use lib.ListN.{take, drop, take-append-drop}
use Rattle.model.specs.declared.Item.{Item}
use Rattle.model.specs.declared.Kind.TheVariants.{Popa, Popb}
use Rattle.model.specs.ItemKinds.{is_transfer, part_of}
use Rattle.model.specs.Programs.{Program}
use Rattle.model.specs.Machine.{Start}
use Rattle.model.specs.Replay.{Event, Replay, delivery_for}
use Rattle.model.specs.HappensBefore.{At, rank_of}
use Rattle.model.proofs.Laws.{slice_get_take}
use Rattle.model.proofs.ItemKinds.{fetch≢delivery}
use Rattle.model.proofs.Replay.{for_rank, rank_for}
use Rattle.record_facts.specs.Facts.{Local}
use Rattle.record_facts.specs.Transfers.{IsThere, AppendsRequest, AppendsDelivery, SameMarks}
use Rattle.record_facts.proofs.Trajectory.{Run, StepAt}
use Rattle.record_facts.proofs.Status.{standing, delivery_group, delivery_of}
use Rattle.record_facts.proofs.GroupMoves.{groups}
use Rattle.record_facts.proofs.Shapes.{group_bound}
use Rattle.record_facts.proofs.Waiting.{in_two, Sending, sending, Waits, only_entry}
use Rattle.record_facts.proofs.Numbers.{rises_oldest}
use Rattle.record_facts.proofs.Popping.{Delivering, is_fetch, number_of, partner, partner_of, in_group_lem, Numbered, from_group, delivery_at_lem, transfer_number, fetch_number}
use Rattle.record_facts.proofs.InOrder.{delivery_number, in_order}
use Rattle.record_facts.proofs.Requesting.{event_at, pop_at, appends_request, same_request_lem}

module _ {P : Program} {start : Start} {local : ℕ → ℕ → Local} {items : List Item} {events : List Event} {last : Replay}
    (whole : Run P start local events last) (items_of : map (λ e. e.item) events ≡ items) where
  -- The transfer and the popa of an event's group.
  abbrev transfer_of : ℕ → ℕ
  transfer_of = partner events is_transfer

  abbrev pub fetch_of : ℕ → ℕ
  fetch_of = partner events is_fetch

  -- Which fetch a popb carries on: the one of its group.
  module _ (j : ℕ) {x : Event} (at : At events j x) (popb : x.item.kind ≡ Popb) where
    abbrev before_delivery : StepAt P start local (take j events) x
    before_delivery = (delivery_at_lem whole j at popb).0

    abbrev delivery : Delivering P local (take j events) before_delivery.before x
    delivery = (delivery_at_lem whole j at popb).1

    its_fetch : Numbered events j x.group delivery.of.a
    its_fetch = from_group events j x.group 1 (subst (λ l. At l 1 delivery.of.a) (sym delivery.of.events) refl)

    carried : Numbered events j x.group delivery.of.e
    carried = from_group events j x.group 0 (subst (λ l. At l 0 delivery.of.e) (sym delivery.of.events) refl)

    fetch_is : fetch_of j ≡ its_fetch.number
    fetch_is =
        partner_of events is_fetch j at (sym its_fetch.own) ∙
        fetch_number whole its_fetch.number its_fetch.at delivery.of.fetch.kind_is

    fetched_at : At events (fetch_of j) delivery.of.a
    fetched_at = rw fetch_is its_fetch.at

    carried_is : transfer_of (fetch_of j) ≡ carried.number
    carried_is =
        partner_of events is_transfer (fetch_of j) fetched_at (its_fetch.own ∙ sym carried.own) ∙
        transfer_number whole carried.number carried.at delivery.of.issue.kind

    carried_at : At events (transfer_of (fetch_of j)) delivery.of.e
    carried_at = rw carried_is carried.at

    pub delivery_marked : (e : Event) → At events (transfer_of (fetch_of j)) e → SameMarks x e
    delivery_marked e ae =
        let same : delivery.of.e ≡ e = some-injective _ _ (sym carried_at ∙ ae) in
        subst (SameMarks x) same (record { place = sym delivery.place ∙ delivery.of.place; group = sym carried.own })

    delivery_appended : AppendsDelivery P start items transfer_of (rank_of x) x.item.queue delivery.b.remote (fetch_of j)
    delivery_appended =
        record {
          pop = delivery.of.a.item;
          at = pop_at events items_of (fetch_of j) fetched_at delivery.of.fetch.kind_is;
          own = delivery.of.fetch.rank ∙ sym delivery.of.rank_is;
          queue_is = delivery.of.fetch.item_queue ∙ sym delivery.of.queue_is;
          issued =
              subst₂ (λ rank queue. AppendsRequest P start items rank queue delivery.b.remote (transfer_of (fetch_of j)))
              (sym delivery.of.rank_is) (sym delivery.of.queue_is) (appends_request whole items_of (transfer_of (fetch_of j)) carried_at delivery.of.issue);
        }

    -- No popb before it has its group.
    first_delivery : (k : ℕ) {y : Event} → At events k y → y.item.kind ≡ Popb → k < j → ¬ (y.group ≡ x.group)
    first_delivery k {y} ay kind less same =
        let (m, inside) = in_group_lem events j k x.group less ay same in
        ⊎_elim
        (λ first. true≢false (sym delivery.of.issue.kind ∙ ap (λ z. is_transfer z.item.kind) first ∙ ap is_transfer kind))
        (λ second. fetch≢delivery (ap part_of (sym delivery.of.fetch.kind_is ∙ ap (λ z. z.item.kind) second ∙ kind)))
        (in_two m (rw delivery.of.events at inside))

  pub there_delivery : (j : ℕ) {x : Event} → At events j x → x.item.kind ≡ Popb →
      IsThere items (AppendsDelivery P start items transfer_of) Popb fetch_of j x.item (fetch_of j)
  there_delivery j {x} at popb =
      let d = delivery j at popb in
      record {
        remote = d.b.remote;
        appended = delivery_appended j at popb;
        for_rank = for_rank x.item.remote d.b.remote d.chosen.passes;
        before = rw (fetch_is j at popb) (its_fetch j at popb).before;
        not_taken = λ k other pop less is.
            let (y, ay, item_is) = event_at events items_of k pop.at in
            let kind : y.item.kind ≡ Popb = ap (λ (i : Item). i.kind) item_is ∙ pop.kind_is in
            let one : (delivery k ay kind).of.a ≡ d.of.a = some-injective _ _ (sym (fetched_at k ay kind) ∙ rw is (fetched_at j at popb)) in
            first_delivery j at popb k ay kind less
            (sym (its_fetch k ay kind).own ∙ ap (λ (e : Event). e.group) one ∙ (its_fetch j at popb).own);
      }

  -- A fetch that is there for a popb has not been taken on, so its delivery waits in the popb's queue.
  sending_there : (j : ℕ) {x : Event} (at : At events j x) (popb : x.item.kind ≡ Popb) (k : ℕ) {a : Event} → At events k a →
      a.item.kind ≡ Popa → IsThere items (AppendsDelivery P start items transfer_of) Popb fetch_of j x.item k →
      Sending P local a.group (standing a.group (take j events) (before_delivery j at popb).before) a
  sending_there j at popb k {a} aa popa t =
      let before = before_delivery j at popb in
      let known = group_bound before.run k a (slice_get_take events j k t.before aa) in
      let (m, inside) = in_group_lem events j k a.group t.before aa refl in
      sending ((groups before.run).settled a.group known (inl (delivery j at popb).row)) m inside popa
      (λ l y ay kind.
      let n = from_group events j a.group l ay in
      t.not_taken n.number y.item (pop_at events items_of n.number n.at kind) n.before
      (partner_of events is_fetch n.number n.at n.own ∙ fetch_number whole k aa popa))

  delivery_waits : (j k : ℕ) (s : Replay) {pop : Item} {a : Event} → At events k a →
      IsThere items (AppendsDelivery P start items transfer_of) Popb fetch_of j pop k →
      Sending P local a.group (standing a.group (take j events) s) a →
      Waits delivery_group (delivery_for pop) (s.machine.deliveries pop.rank pop.queue) a.group
  delivery_waits j k s {pop} {a} aa t q =
      let n = from_group events j a.group 0 (subst (λ l. At l 0 q.e) (sym q.events) refl) in
      let is : transfer_of k ≡ n.number =
      partner_of events is_transfer k aa (sym n.own) ∙
      transfer_number whole n.number n.at q.issue.kind in
      let same = same_request_lem whole items_of (rw is n.at) t.appended.issued q.issue in
      record {
        entry = delivery_of a.group q.e q.remote q.destination q.value;
        waits = only_entry delivery_group a.group s.machine.deliveries same.rank_is same.queue_is q.waits;
        passes = rank_for pop.remote q.remote (rw same.remote_is t.for_rank);
        own = refl;
      }

  pub oldest_delivery : (j : ℕ) {x : Event} → At events j x → x.item.kind ≡ Popb → (k : ℕ) →
      IsThere items (AppendsDelivery P start items transfer_of) Popb fetch_of j x.item k → fetch_of j ≤ k
  oldest_delivery j {x} at popb k t =
      let (a, aa, item_is) = event_at events items_of k t.appended.at.at in
      let popa : a.item.kind ≡ Popa = ap (λ (i : Item). i.kind) item_is ∙ t.appended.at.kind_is in
      let d = delivery j at popb in
      let w = delivery_waits j k (before_delivery j at popb).before aa t (sending_there j at popb k aa popa t) in
      let ordered =
      (in_order whole (before_delivery j at popb).run (drop j events) (sym (take-append-drop j events))).deliveries (rank_of x) x.item.queue in
      let low : delivery_number events d.b ≤ delivery_number events w.entry =
      rises_oldest (delivery_number events) d.chosen ordered w.waits w.passes in
      let own : fetch_of j ≡ delivery_number events d.b =
      partner_of events is_fetch j at (sym d.group) in
      let its : delivery_number events w.entry ≡ k = ap (number_of events is_fetch) w.own ∙ fetch_number whole k aa popa in
      omega (arith, low, own, its)
