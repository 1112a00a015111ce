-- The pops of a run are paired with their transfers, first in, first out, by the events of their groups; so each has its transfer's marks.
use Prim.Native.Nat.{ℕ, ◌≤◌}
use mathlib.Core.Path.{◌≡◌, ◌∙◌, ap, subst}
use mathlib.Core.List.{List, map}
use Rattle.model.specs.declared.Item.{Item}
use Rattle.model.specs.declared.Kind.{Kind}
use Rattle.model.specs.declared.Kind.TheVariants.{Popa, Popb}
use Rattle.model.specs.Refusals.{Ok}
use Rattle.model.specs.Choice.{Each}
use Rattle.model.specs.ItemKinds.{is_transfer}
use Rattle.model.specs.Programs.{Program}
use Rattle.model.specs.Machine.{Start}
use Rattle.model.specs.Replay.{Event, Replay, Replayed, begin, take_items}
use Rattle.model.specs.HappensBefore.{At}
use Rattle.model.specs.Traces.{InRecord}
use Rattle.record_facts.specs.Facts.{Local}
use Rattle.record_facts.specs.Transfers.{PopAt, IsThere, AppendsRequest, AppendsDelivery, Paired, MarksAgree}
use Rattle.record_facts.proofs.Trajectory.{Run, taken_run}
use Rattle.record_facts.proofs.Popping.{is_fetch, partner}
use Rattle.record_facts.proofs.Requesting.{event_at}
use Rattle.record_facts.proofs.Pairing.{one_pairing}
use Rattle.record_facts.proofs.PairedFetches.{fetch_marked, there_request, oldest_request}
use Rattle.record_facts.proofs.PairedDeliveries.{delivery_marked, there_delivery, oldest_delivery}

module _ {P : Program} {start : Start} {local : ℕ → ℕ → Local} {items : List Item} {events : List Event} {last : Replay}
    (whole : Run P start local events last) (items_of : map (λ e. e.item) events ≡ items) where
  abbrev transfer_of : ℕ → ℕ
  transfer_of = partner events is_transfer

  abbrev fetch_of : ℕ → ℕ
  fetch_of = partner events is_fetch

  -- The pairing, in items.
  at_pop : {kind : Kind} (Holds : (j : ℕ) → Item → Type 0) → ((j : ℕ) (x : Event) → At events j x → x.item.kind ≡ kind → Holds j x.item) →
      (j : ℕ) (pop : Item) → PopAt items kind j pop → Holds j pop
  at_pop Holds holds j pop p =
      let (x, at, is) = event_at events items_of j p.at in
      subst (Holds j) is (holds j x at (ap (λ (i : Item). i.kind) is ∙ p.kind_is))

  paired : Paired P start items transfer_of fetch_of
  paired =
      record {
        requests =
            record {
              there =
                  at_pop (λ j pop. IsThere items (AppendsRequest P start items) Popa transfer_of j pop (transfer_of j))
                  (λ j x. there_request whole items_of j);
              oldest =
                  at_pop (λ j pop. (i : ℕ) → IsThere items (AppendsRequest P start items) Popa transfer_of j pop i → transfer_of j ≤ i)
                  (λ j x. oldest_request whole items_of j);
            };
        deliveries =
            record {
              there =
                  at_pop (λ j pop. IsThere items (AppendsDelivery P start items transfer_of) Popb fetch_of j pop (fetch_of j))
                  (λ j x. there_delivery whole items_of j);
              oldest =
                  at_pop (λ j pop. (k : ℕ) → IsThere items (AppendsDelivery P start items transfer_of) Popb fetch_of j pop k → fetch_of j ≤ k)
                  (λ j x. oldest_delivery whole items_of j);
            };
      }

  agreeing : MarksAgree P start items (record { last = last; events = events })
  agreeing =
      record {
        transfer_of = transfer_of;
        fetch_of = fetch_of;
        paired = paired;
        only = λ transfer_of' fetch_of' other. one_pairing other paired;
        fetch_marks = λ j x e at popa. fetch_marked whole items_of j at popa e;
        delivery_marks = λ j x e at popb. delivery_marked whole items_of j at popb e;
      }

-- Of all items that the replay takes.
pub marks_agree : (P : Program) (start : Start) (items : List Item) (run : Replayed) → Each (InRecord P.header) items →
    take_items P (begin start) 0 items ≡ Ok run → MarksAgree P start items run
marks_agree P start items run within h = let t = taken_run P start items run within h in agreeing t.whole t.items_of
