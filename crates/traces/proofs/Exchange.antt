-- Two neighbouring items of different ranks, neither a bar, whose accesses do not conflict, may change places in a record: what stands before them is
-- taken as it was, they are taken in the other order, and what follows goes on alike, but for the numbers of two groups. The trace is the same.
use Rattle.std.specs.Prelude.{Option, Some, None}
use Prim.Native.Nat.{ℕ, suc, ◌+◌}
use mathlib.Core.Path.{◌≡◌, refl, sym, ◌∙◌, ap, subst}
use mathlib.Core.Bool.{false}
use mathlib.Core.List.{List, [], ◌∷◌, ◌++◌}
use native.Mathlib.Omega.{arith}
use lib.ListN.{length, length-map}
use Rattle.model.specs.declared.Item.{Item}
use Rattle.model.specs.Choice.{Each, one}
use Rattle.model.specs.Refusals.{Ok}
use Rattle.model.specs.Programs.{Program}
use Rattle.model.specs.Machine.{Start, Access}
use Rattle.model.specs.Replay.{Event, Replay, Replayed, Taken, begin, take_items, replay}
use Rattle.model.specs.HappensBefore.{At, conflict}
use Rattle.model.specs.Traces.{SameTrace, InRecord}
use Rattle.model.proofs.Laws.{bind_ok, ok_injective, slice_get_behind}
use Rattle.model.proofs.Replay.{ItemTaken, item_taken}
use Rattle.model.proofs.TakenItems.{headed, taken_onward, onward_taken, event_item, taken_items, joined, take_items_append, Ended, replay_taken}
use Rattle.model.proofs.TakenItems.{taken_replay}
use Rattle.serializability.proofs.Alike.{Alike, AllAlike, none_alike, more_alike}
use Rattle.traces.specs.Claims.{Exchangeable}
use Rattle.traces.proofs.Views.{by_place}
use Rattle.traces.proofs.Locality.{SameEvent}
use Rattle.traces.proofs.Following.{AllSame, none_same, more_same, RunToo, CaredAt, AllCared, ends_too, follow}
use Rattle.traces.proofs.Commuting.{EveryCell, Like, Exchanged, exchanged}
use Rattle.traces.proofs.Turned.{Turned, here, later, turned_trace}

-- Events that are the same by place are alike.
same_alike : {x y : Event} → SameEvent by_place x y → Alike x y
same_alike e = record { item = e.item; place = e.mark; queue = e.queue; access = e.access }

all_alike : {xs ys : List Event} → AllSame by_place xs ys → AllAlike xs ys
all_alike none_same = none_alike
all_alike (more_same e rest) = more_alike (same_alike e) (all_alike rest)

turned_behind : (done : List Event) {xs ys : List Event} → Turned xs ys → Turned (done ++ xs) (done ++ ys)
turned_behind [] t = t
turned_behind (d ∷ done) t = later d (turned_behind done t)

every_cared : (events : List Event) → AllCared by_place EveryCell events
every_cared events i e at = any e.access
  where
    any : (x : Option Access) → CaredAt by_place EveryCell x
    any None = tt
    any (Some a) = tt

-- Two items and more, taken from a state, with the two exchanged.
record Swapped (P : Program) (s : Replay) (at : ℕ) (x y : Item) (after : List Item) (run : Replayed) : Type 0 where
  too : Replayed
  taken : take_items P s at (y ∷ x ∷ after) ≡ Ok too
  turned : Turned run.events too.events
  like : Like run.last too.last

module _ (P : Program) (s : Replay) (at : ℕ) (x y : Item) (after : List Item) where
  -- The items taken one by one.
  swapped_each : (first second : Taken) (rest : Replayed) → ItemTaken P s x first → ItemTaken P first.state y second →
      take_items P second.state (at + 1 + 1) after ≡ Ok rest → Exchangeable (headed first (headed second rest)).events 0 x y →
      Swapped P s at x y after (headed first (headed second rest))
  swapped_each first second rest takes_x takes_y takes_rest may =
      let free : conflict first.event.access second.event.access ≡ false = may.no_conflict first.event second.event refl refl in
      let ex : Exchanged P s x y first second = exchanged P s x y takes_x takes_y may.ranks may.first_no_bar may.second_no_bar free in
      let later : RunToo by_place EveryCell P ex.last.state (at + 1 + 1) after rest =
      follow by_place EveryCell P after second.state ex.last.state (at + 1 + 1) (at + 1 + 1) ex.related takes_rest (every_cared rest.events) in
      record {
        too = headed ex.then (headed ex.last later.too);
        taken =
            onward_taken P s at y (x ∷ after) (ex.takes_first at)
            (onward_taken P ex.then.state (at + 1) x after (ex.takes_second (at + 1)) later.taken);
        turned =
            here (same_alike ex.same_first) (same_alike ex.same_second) free
            (λ same. may.ranks (sym (ap (λ i. i.rank) (event_item takes_x)) ∙ same ∙ ap (λ i. i.rank) (event_item takes_y)))
            (all_alike later.events);
        like = later.related;
      }

  swapped : {run : Replayed} → take_items P s at (x ∷ y ∷ after) ≡ Ok run → Exchangeable run.events 0 x y → Swapped P s at x y after run
  swapped {run} h may =
      let o = taken_onward P s at x (y ∷ after) h in
      let o' = taken_onward P o.first.state (at + 1) y after o.takes_rest in
      let is : headed o.first (headed o'.first o'.rest) ≡ run = ap (headed o.first) o'.is ∙ o.is in
      subst (Swapped P s at x y after) is
      (swapped_each o.first o'.first o'.rest (item_taken P s at x o.takes_first)
      (item_taken P o.first.state (at + 1) y o'.takes_first) o'.takes_rest
      (subst (λ (r : Replayed). Exchangeable r.events 0 x y) (sym is) may))

-- The whole record with the two items exchanged.
module _ (P : Program) (start : Start) (before : List Item) (x y : Item) (after : List Item) where
  record ExchangedRun (run : Replayed) : Type 0 where
    too : Replayed
    replayed : replay P start (before ++ y ∷ x ∷ after) ≡ Ok too
    turned : Turned run.events too.events
    like : Like run.last too.last

  -- A front and the rest.
  exchanged_behind : (front rest : Replayed) → take_items P (begin start) 0 before ≡ Ok front →
      take_items P front.last (0 + length before) (x ∷ y ∷ after) ≡ Ok rest → Ended P (joined front rest) →
      Exchangeable (joined front rest).events (length before) x y → ExchangedRun (joined front rest)
  exchanged_behind front rest takes_front takes_rest ended may =
      let sw : Swapped P front.last (0 + length before) x y after rest = swapped P front.last (0 + length before) x y after takes_rest may_behind in
      record {
        too = joined front sw.too;
        replayed =
            taken_replay P start (before ++ y ∷ x ∷ after)
            (take_items_append P before (y ∷ x ∷ after) (begin start) 0 ∙ rw (takes_front, sw.taken))
            (ends_too by_place EveryCell P {run = joined front rest} {run' = joined front sw.too} sw.like ended);
        turned = turned_behind front.events sw.turned;
        like = sw.like;
      }
    where
      -- As many events as items stand before the two.
      many : length front.events ≡ length before
      many = sym (length-map front.events (λ e. e.item)) ∙ ap length (taken_items P (begin start) 0 before takes_front)

      placed : (i k : ℕ) {e : Event} → length before + i ≡ k → At rest.events i e → At (joined front rest).events k e
      placed i k {e} is at =
          subst (λ n. At (joined front rest).events n e) (ap (λ n. n + i) many ∙ is) (slice_get_behind front.events rest.events i ∙ at)

      may_behind : Exchangeable rest.events 0 x y
      may_behind =
          record {
            ranks = may.ranks;
            first_no_bar = may.first_no_bar;
            second_no_bar = may.second_no_bar;
            no_conflict = λ e f ae af. may.no_conflict e f (placed 0 (length before) (omega arith) ae) (placed 1 (suc (length before)) (omega arith) af);
          }

  exchanged_run : (run : Replayed) → replay P start (before ++ x ∷ y ∷ after) ≡ Ok run → Exchangeable run.events (length before) x y →
      ExchangedRun run
  exchanged_run run h may =
      let (taken, ended) = replay_taken P start (before ++ x ∷ y ∷ after) h in
      let (front, takes_front, h₁) = bind_ok (take_items P (begin start) 0 before) _
      (sym (take_items_append P before (x ∷ y ∷ after) (begin start) 0) ∙ taken) in
      let (rest, takes_rest, h₂) = bind_ok (take_items P front.last (0 + length before) (x ∷ y ∷ after)) _ h₁ in
      let is : joined front rest ≡ run = ok_injective h₂ in
      subst ExchangedRun is
      (exchanged_behind front rest takes_front takes_rest (subst (Ended P) (sym is) ended)
      (subst (λ (r : Replayed). Exchangeable r.events (length before) x y) (sym is) may))

-- What holds of each item holds of each when two have changed places.
pub each_exchanged : {Holds : Item → Type 0} (before : List Item) (x y : Item) (after : List Item) → Each Holds (before ++ x ∷ y ∷ after) →
    Each Holds (before ++ y ∷ x ∷ after)
each_exchanged [] x y after (one hx (one hy rest)) = one hy (one hx rest)
each_exchanged (b ∷ before) x y after (one h rest) = one h (each_exchanged before x y after rest)

-- The theorem: the exchanged record is accepted, and its trace is the same.
pub exchange : (P : Program) (start : Start) (before : List Item) (x y : Item) (after : List Item) (run : Replayed) →
    Each (InRecord P.header) (before ++ x ∷ y ∷ after) → replay P start (before ++ x ∷ y ∷ after) ≡ Ok run →
    Exchangeable run.events (length before) x y →
    (too : Replayed) × (replay P start (before ++ y ∷ x ∷ after) ≡ Ok too) × SameTrace run.events too.events
exchange P start before x y after run each h may =
    let e = exchanged_run P start before x y after run h may in (
      e.too,
      e.replayed,
      turned_trace (record { items = before ++ x ∷ y ∷ after; in_record = each; replayed = h })
          (record { items = before ++ y ∷ x ∷ after; in_record = each_exchanged before x y after each; replayed = e.replayed }) e.turned,
    )
