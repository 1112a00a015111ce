-- Events that differ in nothing but their group's number: what a run replayed in another order makes of each event.
use Rattle.model.proofs.Options.{none-ne-some, some-injective}
use Prim.Native.Nat.{ℕ, zero, suc}
use mathlib.Core.Path.{◌≡◌, refl, ◌∙◌, ap, subst, sym, ap₂}
use mathlib.Core.Bool.{◌&&◌}
use mathlib.Core.List.{List, [], ◌∷◌}
use lib.Dec.{eqb}
use Rattle.model.specs.declared.Item.{Item}
use Rattle.model.specs.Choice.{select}
use Rattle.model.specs.Refusals.{Ok}
use Rattle.model.specs.ItemKinds.{part_of, is_command_kind}
use Rattle.model.specs.Programs.{Program}
use Rattle.model.specs.Replay.{Event, Replay, take_item, Taken}
use Rattle.model.specs.HappensBefore.{At}
use Rattle.model.specs.Traces.{transitions_of, Identified, command_of}
use Rattle.model.proofs.Selections.{select_yes, select_no}
use Rattle.model.proofs.Replay.{ItemTaken, takes_item}
use Rattle.model.proofs.Laws.{decided}

-- y is x but for its group.
pub record Alike (x y : Event) : Type 0 where
  pub item : x.item ≡ y.item
  pub place : x.place ≡ y.place
  pub queue : x.queue ≡ y.queue
  pub access : x.access ≡ y.access

-- Two lists of events alike, one for one.
pub data AllAlike : List Event → List Event → Type 0 where
  none_alike : AllAlike [] []
  more_alike : {x y : Event} {xs ys : List Event} → Alike x y → AllAlike xs ys → AllAlike (x ∷ xs) (y ∷ ys)

-- Each event is like itself, and its like is like it.
pub alike_refl : (e : Event) → Alike e e
alike_refl e = record { item = refl; place = refl; queue = refl; access = refl }

pub alike_sym : {x y : Event} → Alike x y → Alike y x
alike_sym a = record { item = sym a.item; place = sym a.place; queue = sym a.queue; access = sym a.access }

pub all_alike_sym : {xs ys : List Event} → AllAlike xs ys → AllAlike ys xs
all_alike_sym none_alike = none_alike
all_alike_sym (more_alike a rest) = more_alike (alike_sym a) (all_alike_sym rest)

-- An item taken from one state to another, into an event like this one.
pub record TakenAs (P : Program) (s : Replay) (at : ℕ) (e : Event) (t : Replay) : Type 0 where
  pub event : Event
  pub alike : Alike e event
  pub takes : take_item P s at e.item ≡ Ok (record { state = t; event = event })

pub taken_as : {P : Program} {s : Replay} {at : ℕ} {e : Event} {after : Taken} → ItemTaken P s e.item after → Alike e after.event →
    TakenAs P s at e after.state
taken_as {P} {s} {at} {e} {after} item alike = record { event = after.event; alike = alike; takes = takes_item P s at e.item item }

pub taken_to : {P : Program} {s t u : Replay} {at : ℕ} {e : Event} → TakenAs P s at e t → t ≡ u → TakenAs P s at e u
taken_to taken same =
    record {
      event = taken.event;
      alike = taken.alike;
      takes = taken.takes ∙ ap (λ v. Ok (record { state = v; event = taken.event })) same;
    }

-- What stands at a place has its like there, and back.
pub alike_at : {xs ys : List Event} → AllAlike xs ys → (i : ℕ) (x : Event) → At xs i x → (y : Event) × At ys i y × Alike x y
alike_at none_alike i x h = absurd (none-ne-some _ h)
alike_at (more_alike {x = z} {y = y} like rest) zero x h = (y, refl, subst (λ w. Alike w y) (some-injective z x h) like)
alike_at (more_alike like rest) (suc i) x h = alike_at rest i x h

pub alike_from : {xs ys : List Event} → AllAlike xs ys → (i : ℕ) (y : Event) → At ys i y → (x : Event) × At xs i x × Alike x y
alike_from none_alike i y h = absurd (none-ne-some _ h)
alike_from (more_alike {x = x} {y = z} like rest) zero y h = (x, refl, subst (Alike x) (some-injective z y h) like)
alike_from (more_alike like rest) (suc i) y h = alike_from rest i y h

-- Events alike have the same transitions.
pub alike_transitions : {xs ys : List Event} → AllAlike xs ys → (rank : ℕ) → transitions_of rank xs ≡ transitions_of rank ys
unfolding select
alike_transitions none_alike rank = refl
alike_transitions (more_alike {x = x} {y = y} {xs = xs} {ys = ys} like rest) rank =
    let ih = alike_transitions rest rank in
    let same : command_of rank x ≡ command_of rank y = ap (λ (i : Item). is_command_kind i.kind && eqb i.rank rank) like.item in
    decided (command_of rank x)
    (λ t. rw (select_yes (command_of rank) x xs t, select_yes (command_of rank) y ys (sym same ∙ t))
    (ap₂ (λ (i : Item) (l : List ℕ). i.transition ∷ l) like.item ih))
    (λ t. rw (select_no (command_of rank) x xs t, select_no (command_of rank) y ys (sym same ∙ t)) ih)

-- An event and its like have one identity.
pub alike_identity : {x y : Event} → Alike x y → Identified x y
alike_identity like =
    record { rank = ap (λ i. i.rank) like.item; place = like.place; part = ap (λ i. part_of i.kind) like.item }
