-- Lists of items that the replay takes: their events are the items', one for one; two lists, one after the other, are taken as the second is from the
-- state that the first left; and a list is accepted if it is taken and ends with no row open and empty queues.
use Prim.Native.Nat.{ℕ, suc, ◌+◌}
use mathlib.Core.Path.{◌≡◌, refl, sym, ap, ap₂, ◌∙◌}
use mathlib.Core.Bool.{true}
use mathlib.Core.List.{List, [], ◌∷◌, ◌++◌, map}
use native.Mathlib.Omega.{arith}
use lib.Dec.{eqb}
use lib.ListN.{length}
use borrow.Author.Tests.{eq-eqb, eqb-true}
use Rattle.model.specs.declared.Item.{Item}
use Rattle.model.specs.Refusals.{Result, Ok, Err, barrier_row, queues_left, ◌>>=◌}
use Rattle.model.specs.Programs.{Program}
use Rattle.model.specs.Machine.{Start}
use Rattle.model.specs.Replay.{Replay, Taken, Replayed, begin, take_item, take_items, quiet, at_end, replay}
use Rattle.model.proofs.Laws.{bind_ok, required, ok_injective}
use Rattle.model.proofs.Replay.{ItemTaken, commands, fetches, delivers, item_taken}

-- An item's event, then those of the items after it.
abbrev pub headed : Taken → Replayed → Replayed
headed t r = record { last = r.last; events = t.event ∷ r.events }

-- A list is taken if its first item is, and the others are from there.
pub record Onward (P : Program) (s : Replay) (at : ℕ) (i : Item) (items : List Item) (run : Replayed) : Type 0 where
  pub first : Taken
  pub rest : Replayed
  pub takes_first : take_item P s at i ≡ Ok first
  pub takes_rest : take_items P first.state (at + 1) items ≡ Ok rest
  pub is : headed first rest ≡ run

pub taken_onward : (P : Program) (s : Replay) (at : ℕ) (i : Item) (items : List Item) {run : Replayed} → take_items P s at (i ∷ items) ≡ Ok run →
    Onward P s at i items run
unfolding take_items
taken_onward P s at i items h =
    let (t, takes_first, h₁) = bind_ok (take_item P s at i) _ h in
    let (r, takes_rest, h₂) = bind_ok (take_items P t.state (at + 1) items) _ h₁ in
    record { first = t; rest = r; takes_first = takes_first; takes_rest = takes_rest; is = ok_injective h₂ }

pub onward_taken : (P : Program) (s : Replay) (at : ℕ) (i : Item) (items : List Item) {t : Taken} {r : Replayed} → take_item P s at i ≡ Ok t →
    take_items P t.state (at + 1) items ≡ Ok r → take_items P s at (i ∷ items) ≡ Ok (headed t r)
unfolding take_items
onward_taken P s at i items first rest = rw (first, rest)

-- The events of a replay are its items', in turn.
pub event_item : {P : Program} {s : Replay} {i : Item} {t : Taken} → ItemTaken P s i t → t.event.item ≡ i
event_item (commands t a c) = refl
event_item (fetches a rest c) = refl
event_item (delivers b rest c) = refl

pub taken_items : (P : Program) (s : Replay) (at : ℕ) (items : List Item) {r : Replayed} → take_items P s at items ≡ Ok r →
    map (λ e. e.item) r.events ≡ items
unfolding take_items
taken_items P s at [] h = ap (λ (r : Replayed). map (λ e. e.item) r.events) (sym (ok_injective h))
taken_items P s at (i ∷ items) h =
    let o = taken_onward P s at i items h in
    rw (← o.is)
    (ap₂ ◌∷◌ (event_item (item_taken P s at i o.takes_first)) (taken_items P o.first.state (at + 1) items o.takes_rest))

-- Events of an earlier part, then those of a later one.
abbrev pub joined : Replayed → Replayed → Replayed
joined r r' = record { last = r'.last; events = r.events ++ r'.events }

-- Going on with more items, after some.
abbrev go_on : (Replay → Result Replayed) → Replayed → Result Replayed
go_on more r = more r.last >>= λ r'. Ok (joined r r')

-- An item before some and more: whether its event is put in front before or after more are taken.
headed_go_on : (t : Taken) (more : Replay → Result Replayed) (m : Result Replayed) →
    ((m >>= go_on more) >>= λ r. Ok (headed t r)) ≡ ((m >>= λ r. Ok (headed t r)) >>= go_on more)
headed_go_on t more (Err no') = refl
headed_go_on t more (Ok r) = go (more r.last)
  where
    go : (m : Result Replayed) → ((m >>= λ r'. Ok (joined r r')) >>= λ r'. Ok (headed t r')) ≡ (m >>= λ r'. Ok (joined (headed t r) r'))
    go (Err no') = refl
    go (Ok r') = refl

-- The laws of results: nothing is left to do, the same is done next, and steps are bracketed either way.
bind_end : {A : Type 0} (m : Result A) → m ≡ (m >>= Ok)
bind_end (Ok a) = refl
bind_end (Err r) = refl

bind_same : {A B : Type 0} (m : Result A) {f g : A → Result B} → ((a : A) → f a ≡ g a) → (m >>= f) ≡ (m >>= g)
bind_same (Ok a) h = h a
bind_same (Err r) h = refl

bind_assoc : {A B C : Type 0} (m : Result A) (f : A → Result B) (g : B → Result C) → (m >>= λ a. f a >>= g) ≡ ((m >>= f) >>= g)
bind_assoc (Ok a) f g = refl
bind_assoc (Err r) f g = refl

-- The replay of two lists, one after the other.
pub take_items_append : (P : Program) (items more : List Item) (s : Replay) (at : ℕ) →
    take_items P s at (items ++ more) ≡ (take_items P s at items >>= λ r. take_items P r.last (at + length items) more >>= λ r'. Ok (joined r r'))
unfolding take_items
take_items_append P [] more s at = ap (λ n. take_items P s n more) (omega arith) ∙ bind_end (take_items P s (at + 0) more)
take_items_append P (i ∷ items) more s at =
    let some' : Replay → Result Replayed = λ x. take_items P x (at + 1) items in
    let later : Replay → Result Replayed = λ x. take_items P x (at + suc (length items)) more in
    bind_same (take_item P s at i)
    (λ t.
    ap (λ (m : Result Replayed). m >>= λ r. Ok (headed t r))
    (take_items_append P items more t.state (at + 1) ∙ ap (λ n. some' t.state >>= go_on (λ x. take_items P x n more)) (omega arith)) ∙
    headed_go_on t later (some' t.state)) ∙
    bind_assoc (take_item P s at i) (λ t. some' t.state >>= λ r. Ok (headed t r)) (go_on later)

-- What the end asks: no row is open, and all queues are empty.
pub record Ended (P : Program) (r : Replayed) : Type 0 where
  pub no_row : r.last.row ≡ 0
  pub all_quiet : quiet P r.last.machine ≡ true

-- An accepted list is taken, and ends so; and back.
pub replay_taken : (P : Program) (start : Start) (items : List Item) {run : Replayed} → replay P start items ≡ Ok run →
    (take_items P (begin start) 0 items ≡ Ok run) × Ended P run
unfolding replay at_end
replay_taken P start items h =
    let (r, taken, ended) = bind_ok (take_items P (begin start) 0 items) _ h in
    let (row, left) = required (eqb r.last.row 0) barrier_row (length items) _ ended in
    let (silent, done) = required (quiet P r.last.machine) queues_left (length items) _ left in
    rw (← (ok_injective done)) (taken, record { no_row = eqb-true r.last.row 0 row; all_quiet = silent })

pub taken_replay : (P : Program) (start : Start) (items : List Item) {run : Replayed} → take_items P (begin start) 0 items ≡ Ok run → Ended P run →
    replay P start items ≡ Ok run
unfolding replay at_end
taken_replay P start items {run} taken ended = rw (taken, eq-eqb run.last.row 0 ended.no_row, ended.all_quiet)
