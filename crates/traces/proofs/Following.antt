-- Two states that agree on every rank, and on the cells that the items to come access, go on alike: the same items are taken, into events that are the
-- same as they are seen.
use Rattle.std.specs.Prelude.{Option, Some, None}
use Prim.Native.Nat.{ℕ, suc, ◌+◌}
use mathlib.Core.Path.{◌≡◌, refl, sym, ◌∙◌, ap, ap₂, subst, fun_ext}
use mathlib.Core.Bool.{Bool, ◌&&◌}
use mathlib.Core.List.{List, [], ◌∷◌, map}
use lib.Dec.{eqb}
use borrow.Author.Tests.{eqb-true, eqb-false}
use Rattle.model.specs.declared.Item.{Item}
use Rattle.model.specs.Refusals.{Ok}
use Rattle.model.specs.Choice.{numbers_from}
use Rattle.model.specs.Programs.{Program}
use Rattle.model.specs.Machine.{Access, address}
use Rattle.model.specs.Replay.{Event, Replay, Replayed, Taken, group_of, origin_of, take_item, take_items, every, is_empty, quiet}
use Rattle.model.specs.HappensBefore.{At}
use Rattle.model.proofs.Laws.{decided, ok_injective}
use Rattle.model.proofs.Replay.{ItemTaken, item_taken, takes_item}
use Rattle.model.proofs.TakenItems.{Ended, headed, taken_onward, onward_taken}
use Rattle.record_facts.specs.Facts.{written}
use Rattle.serializability.proofs.Cells.{written_agree}
use Rattle.traces.proofs.Views.{View}
use Rattle.traces.proofs.Locality.{SameRank, SameEvent, AgreeAt, TakenToo, Opened, opens, keeps, taken_too, left_alone, taken_cells}
use Rattle.traces.proofs.Locality.{seen_request, seen_delivery}

module _ (view : View) where
  pub same_sym : {r : ℕ} {s t : Replay} → SameRank view r s t → SameRank view r t s
  same_sym h =
      record {
        control = sym h.control;
        registers = sym h.registers;
        taken = sym h.taken;
        requests = λ q. sym (h.requests q);
        deliveries = λ q. sym (h.deliveries q);
      }

  pub same_trans : {r : ℕ} {s t u : Replay} → SameRank view r s t → SameRank view r t u → SameRank view r s u
  same_trans h k =
      record {
        control = h.control ∙ k.control;
        registers = h.registers ∙ k.registers;
        taken = h.taken ∙ k.taken;
        requests = λ q. h.requests q ∙ k.requests q;
        deliveries = λ q. h.deliveries q ∙ k.deliveries q;
      }

  -- Queues that are seen alike are empty alike.
  empty_seen : {A B : Type 0} (f : A → B) (l m : List A) → map f l ≡ map f m → is_empty l ≡ is_empty m
  empty_seen f [] [] h = refl
  empty_seen f [] (b ∷ m) h = cc
  empty_seen f (a ∷ l) [] h = cc
  empty_seen f (a ∷ l) (b ∷ m) h = refl

  quiet_too : (P : Program) (s t : Replay) → ((r : ℕ) → SameRank view r s t) → quiet P s.machine ≡ quiet P t.machine
  unfolding quiet
  quiet_too P s t same =
      ap
      (λ (test : ℕ → ℕ → Bool). every (λ r. every (test r) (numbers_from 0 P.header.queues)) (numbers_from 1 P.header.ranks))
      (fun_ext λ r. fun_ext λ q.
      ap₂ ◌&&◌ (empty_seen (seen_request view) (s.machine.requests r q) (t.machine.requests r q) ((same r).requests q))
      (empty_seen (seen_delivery view) (s.machine.deliveries r q) (t.machine.deliveries r q) ((same r).deliveries q)))

  -- Two lists of events, one for one the same as they are seen.
  pub data AllSame : List Event → List Event → Type 0 where
    none_same : AllSame [] []
    more_same : {x y : Event} {xs ys : List Event} → SameEvent view x y → AllSame xs ys → AllSame (x ∷ xs) (y ∷ ys)

  -- States that agree, on the cells that are cared about.
  module _ (Cared : ℕ → ℕ → Type 0) where
    pub record Related (s t : Replay) : Type 0 where
      pub ranks : (r : ℕ) → SameRank view r s t
      pub row : s.row ≡ t.row
      pub opened : view.Even s.opened t.opened
      pub cells : (r c : ℕ) → Cared r c → s.machine.cells r c ≡ t.machine.cells r c

    -- What ends in the one ends in the other.
    pub ends_too : (P : Program) {run run' : Replayed} → Related run.last run'.last → Ended P run → Ended P run'
    ends_too P {run} {run'} h ended =
        record {
          no_row = sym h.row ∙ ended.no_row;
          all_quiet = sym (quiet_too P run.last run'.last h.ranks) ∙ ended.all_quiet;
        }

    -- An access at a cell that is cared about, and events all of whose accesses are.
    abbrev pub CaredAt : Option Access → Type 0
    CaredAt None = Unit {0}
    CaredAt (Some a) = Cared a.address.rank a.address.cell

    abbrev pub AllCared : List Event → Type 0
    AllCared events = (i : ℕ) (e : Event) → At events i e → CaredAt e.access

    agree_at : {s t : Replay} → Related s t → (x : Option Access) → CaredAt x → AgreeAt x s.machine.cells t.machine.cells
    agree_at h None cared = tt
    agree_at h (Some a) cared = h.cells a.address.rank a.address.cell cared

    evenly : {i : Item} {o a o' a' : ℕ} → Opened view i o a o' a' → view.Even o o' → view.Even a a'
    evenly {i} {o} {a} {o'} {a'} (opens p q) even = rw (p, q) (view.stays i o o' even)
    evenly (keeps p q) even = rw (p, q) even

    -- One item.
    record StepToo (P : Program) (t : Replay) (i : Item) (after : Taken) : Type 0 where
      too : Taken
      taken : (at : ℕ) → take_item P t at i ≡ Ok too
      event : SameEvent view after.event too.event
      related : Related after.state too.state

    step_too : (P : Program) (s t : Replay) (at : ℕ) (i : Item) {after : Taken} → Related s t → take_item P s at i ≡ Ok after →
        CaredAt after.event.access → StepToo P t i after
    step_too P s t at i {after} h taken cared =
        let item : ItemTaken P s i after = item_taken P s at i taken in
        let place : s.taken i.rank ≡ t.taken i.rank = (h.ranks i.rank).taken in
        let origin : view.see (origin_of s i) ≡ view.see (origin_of t i) =
        ap (λ n. view.see (record { place = n; group = group_of s.opened i })) place ∙
        view.marks i (t.taken i.rank) s.opened t.opened h.opened in
        let too : TakenToo view P s t i after =
        taken_too view P s t i (h.ranks i.rank) h.row origin item (agree_at h after.event.access cared) in
        record {
          too = too.too;
          taken = λ at'. takes_item P t at' i too.item;
          event = too.event;
          related =
              record {
                ranks = λ r.
                    decided (eqb r i.rank)
                    (λ own. rw (eqb-true r i.rank own) too.own)
                    (λ other.
                    let elsewhere = eqb-false r i.rank other in
                    same_trans (same_sym (left_alone view P s i item r elsewhere))
                    (same_trans (h.ranks r) (left_alone view P t i too.item r elsewhere)));
                row = too.row;
                opened = evenly too.opened h.opened;
                cells = λ r c care.
                    ap (λ cells. cells r c) (taken_cells P s i item) ∙
                    written_agree s.machine.cells t.machine.cells after.event.access (address r c) (h.cells r c care) ∙
                    ap (λ x. written t.machine.cells x r c) too.event.access ∙
                    ap (λ cells. cells r c) (sym (taken_cells P t i too.item));
              };
        }

    -- All items that are still to come.
    pub record RunToo (P : Program) (t : Replay) (at : ℕ) (items : List Item) (run : Replayed) : Type 0 where
      pub too : Replayed
      pub taken : take_items P t at items ≡ Ok too
      pub events : AllSame run.events too.events
      pub related : Related run.last too.last

    follow_one : (P : Program) (t : Replay) (at : ℕ) (i : Item) (items : List Item) (after : Taken) (rest : Replayed) (first : StepToo P t i after) →
        RunToo P first.too.state (at + 1) items rest → RunToo P t at (i ∷ items) (headed after rest)
    follow_one P t at i items after rest first later =
        record {
          too = headed first.too later.too;
          taken = onward_taken P t at i items (first.taken at) later.taken;
          events = more_same first.event later.events;
          related = later.related;
        }

    pub follow : (P : Program) (items : List Item) (s t : Replay) (at at' : ℕ) {run : Replayed} → Related s t → take_items P s at items ≡ Ok run →
        AllCared run.events → RunToo P t at' items run
    unfolding take_items
    follow P [] s t at at' h taken cared =
        rw (← (ok_injective taken)) (record { too = record { last = t; events = [] }; taken = refl; events = none_same; related = h })
    follow P (i ∷ items) s t at at' h taken cared =
        let o = taken_onward P s at i items taken in
        let care : AllCared (headed o.first o.rest).events = subst (λ (r : Replayed). AllCared r.events) (sym o.is) cared in
        let first : StepToo P t i o.first = step_too P s t at i h o.takes_first (care 0 o.first.event refl) in
        subst (RunToo P t at' (i ∷ items)) o.is
        (follow_one P t at' i items o.first o.rest first
        (follow P items o.first.state first.too.state (at + 1) (at' + 1) first.related o.takes_rest (λ k. care (suc k))))
