-- Same trace, and plain runs (document 01, "Groups and arrows"). The checker's answer has no part in this file.
use Rattle.std.specs.Prelude.{ℕ, ◌<◌, ◌≤◌, ◌≡◌, Bool, true, false, ◌&&◌, List, [], ◌∷◌, map, ◌↔◌, eqb, Option, Some, None}
use Rattle.model.specs.declared.Address.{Address}
use Rattle.model.specs.declared.Header.{Header}
use Rattle.model.specs.declared.Kind.{Kind}
use Rattle.model.specs.declared.Kind.TheVariants.{Popa, Popb}
use Rattle.model.specs.declared.Item.{Item}
use Rattle.model.specs.Limits.{word_values}
use Rattle.model.specs.Refusals.{Ok}
use Rattle.model.specs.Choice.{when, select, Each}
use Rattle.model.specs.ItemKinds.{same_kind, is_transfer, has_place, Part, command, fetch, delivery, part_of}
use Rattle.model.specs.Programs.{Program}
use Rattle.model.specs.Machine.{Start}
use Rattle.model.specs.Replay.{Event, Replayed, replay}
use Rattle.model.specs.HappensBefore.{is_command, rank_of, conflict}
use Rattle.model.specs.Lists.{◌∈◌, Precedes}

-- The command items of a rank, and the transitions that they take, in order.
abbrev pub command_of : (rank : ℕ) → Event → Bool
command_of rank e = is_command e && eqb (rank_of e) rank

abbrev pub transitions_of : (rank : ℕ) → List Event → List ℕ
transitions_of rank events = map (λ e. e.item.transition) (select (command_of rank) events)

-- "An access is known by its rank, the place of its command in that rank's sequence, and its part (command, fetch or delivery)."
pub record Identified (x y : Event) : Type 0 where
  pub rank : rank_of x ≡ rank_of y
  pub place : x.place ≡ y.place
  pub part : part_of x.item.kind ≡ part_of y.item.kind

-- The cell of an access, and its value: "what it reads or writes, whether the item gives it or not".
abbrev pub cell_of : Event → Option Address
cell_of e = elim e.access [ None ↦ None | Some a ↦ Some a.address ]

abbrev pub value_at : Event → Option ℕ
value_at e = elim e.access [ None ↦ None | Some a ↦ Some a.value ]

-- "Same trace: each rank takes the same transitions in the same order, each access is at the same cell, and any two accesses of one cell, one of
-- them a write, come in the same order."
pub record SameTrace (events others : List Event) : Type 0 where
  pub transitions : (rank : ℕ) → transitions_of rank events ≡ transitions_of rank others
  pub cells : (x y : Event) → x ∈ events → y ∈ others → Identified x y → cell_of x ≡ cell_of y
  pub order : (x x' y y' : Event) → x ∈ events → x' ∈ events → y ∈ others → y' ∈ others →
      Identified x y → Identified x' y' → conflict x.access x'.access ≡ true →
      (Precedes events x x' ↔ Precedes others y y')

-- The same value at each access, by identity.
abbrev pub SameValues : List Event → List Event → Type 0
SameValues events others = (x y : Event) → x ∈ events → y ∈ others → Identified x y → value_at x ≡ value_at y

-- A command item names a transition of the program, a pop a queue, and a remote rank or none.
abbrev pub ChosenIn : Header → Part → Item → Type 0
ChosenIn h command i = i.transition < h.transitions
ChosenIn h fetch i = (i.queue < h.queues) × (i.remote ≤ h.ranks)
ChosenIn h delivery i = (i.queue < h.queues) × (i.remote ≤ h.ranks)

abbrev pub GivenIn : Option ℕ → Type 0
GivenIn (Some v) = v < word_values
GivenIn None = Unit {0}

-- "items as a record has them": the fields of an item's kind are in their ranges.
pub record InRecord (h : Header) (i : Item) : Type 0 where
  pub low : 1 ≤ i.rank
  pub high : i.rank ≤ h.ranks
  pub choice : ChosenIn h (part_of i.kind) i
  pub place : has_place i.kind ≡ true → (1 ≤ i.place.rank) × (i.place.rank ≤ h.ranks) × (i.place.cell < h.cells)
  pub given : GivenIn i.given

-- A pop of this kind, of this event's rank and queue.
abbrev pub is_pop : Kind → Event → Event → Bool
is_pop kind e p = same_kind p.item.kind kind && eqb (rank_of p) (rank_of e) && eqb p.queue e.queue

-- "Each read or write is followed at once by a popa and then a popb of its rank and queue."
unfoldable pub followed_at_once : Event → List Event → Bool
followed_at_once e [] = false
followed_at_once e (a ∷ []) = false
followed_at_once e (a ∷ b ∷ rest) = is_pop Popa e a && is_pop Popb e b

unfoldable pub transfers_together : List Event → Bool
unfolding followed_at_once
transfers_together [] = true
transfers_together (e ∷ events) =
    when (is_transfer e.item.kind) (λ _. followed_at_once e events) (λ _. true) && transfers_together events

-- Serial runs (document 01: plain run): "for a program and a start, a list of items as a record has them, of any length. Its state is the replay's."
-- "A list with an item or an end that the replay refuses, or with a transfer not so followed, is no plain run; every other is one." That a barrier
-- is a row, and that any other command is one item, is the replay's.
pub record SerialRun (P : Program) (start : Start) (items : List Item) (run : Replayed) : Type 0 where
  pub in_record : Each (InRecord P.header) items
  pub replayed : replay P start items ≡ Ok run
  pub together : transfers_together run.events ≡ true
