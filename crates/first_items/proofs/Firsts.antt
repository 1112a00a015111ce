-- The first items of a run's groups, by the table, are those by its events. A row that is set stays as it is, and a row that is not yet set is set
-- by the first event of its group, whose item is read again at its place.
use Rattle.model.specs.declared.Found.{Found}
use Rattle.std.specs.Prelude.{Option, Some, None, slice_get}
use Prim.Native.Nat.{ℕ, zero, suc, ◌+◌, ◌≤◌, ◌<◌}
use mathlib.Core.Path.{◌≡◌, refl, sym, ap, subst, ◌∙◌}
use mathlib.Core.List.{List, [], ◌∷◌, map}
use native.Mathlib.Omega.{arith}
use lib.Dec.{ltb, eqb}
use lib.ListN.{length, get_or, set, length-set}
use lib.Seq.{get_or-set_same, get_or-set_other}
use borrow.Author.Tests.{lt-ltb, eqb-true, eqb-false}
use Rattle.model.specs.declared.Header.{Header}
use Rattle.model.specs.declared.Item.{Item}
use Rattle.model.specs.Limits.{max_items}
use Rattle.model.specs.Refusals.{Result, Ok, Err}
use Rattle.model.specs.Bytes.{found}
use Rattle.model.specs.Records.{read_item}
use Rattle.model.specs.Replay.{Event}
use Rattle.model.proofs.Laws.{decided}
use Rattle.memory.specs.Tables.{Table}
use Rattle.record.specs.Places.{ItemsFrom, ended, then}
use Rattle.first_items.specs.declared.Noted.{Noted}
use Rattle.first_items.specs.Firsts.{Firsts, first_in, noted_at, unless_noted, noted_under, noted, behind, firsts_from, row_again, first_of}

-- The rows of a trail, from a number on, tell the groups of these events.
abbrev pub TellsGroups : (trail : Table) → (number : ℕ) → List Event → Type 0
TellsGroups trail number events = (i : ℕ) (e : Event) → slice_get events i ≡ Some e → get_or (get_or trail (number + i) []) 1 0 ≡ e.group

-- What noting an item under a group does to the rows.
module _ (group : ℕ) (item : Noted) (firsts : Firsts) where
  abbrev after : Firsts
  after = noted_under group item firsts

  unless_length : (row : Option Noted) → length (unless_noted row firsts (set firsts group (Some item))) ≡ length firsts
  unless_length None = length-set firsts group (Some item)
  unless_length (Some earlier) = refl

  under_length : length after ≡ length firsts
  unfolding noted_under
  under_length = decided (ltb group max_items) (λ t. rw t (unless_length (noted_at firsts group))) (λ t. rw t)

  unless_other : (row : Option Noted) (g : ℕ) → (g ≡ group → ⊥) →
      noted_at (unless_noted row firsts (set firsts group (Some item))) g ≡ noted_at firsts g
  unless_other None g other = get_or-set_other firsts group g (Some item) None other
  unless_other (Some earlier) g other = refl

  under_other : (g : ℕ) → (g ≡ group → ⊥) → noted_at after g ≡ noted_at firsts g
  unfolding noted_under
  under_other g other = decided (ltb group max_items) (λ t. rw t (unless_other (noted_at firsts group) g other)) (λ t. rw t)

  under_set : {earlier : Noted} → noted_at firsts group ≡ Some earlier → after ≡ firsts
  unfolding noted_under
  under_set is_set = decided (ltb group max_items) (λ t. rw (t, is_set)) (λ t. rw t)

  under_first : group < max_items → length firsts ≡ max_items → noted_at firsts group ≡ None → noted_at after group ≡ Some item
  unfolding noted_under
  under_first row long none = rw (lt-ltb _ _ row, none) (get_or-set_same firsts group (Some item) None (rw long row))

  under_kept : (g : ℕ) {earlier : Noted} → noted_at firsts g ≡ Some earlier → noted_at after g ≡ noted_at firsts g
  under_kept g {earlier} is_set =
      decided (eqb g group)
      (λ t. let e = eqb-true g group t in ap (λ table. noted_at table g) (under_set (subst (λ n. noted_at firsts n ≡ Some earlier) e is_set)))
      (λ t. under_other g (eqb-false g group t))

-- What follows an item keeps a row, whether the item was read or not.
behind_kept : (firsts : Firsts) (g : ℕ) (rest : ℕ → Firsts) (m : Result (Found Item)) → ((at : ℕ) → noted_at (rest at) g ≡ noted_at firsts g) →
    noted_at (behind firsts rest m) g ≡ noted_at firsts g
behind_kept firsts g rest (Ok f) same = same f.next
behind_kept firsts g rest (Err r) same = refl

module _ (h : Header) (recorded : List ℕ) (trail : Table) where
  abbrev at_place : (number place : ℕ) → Noted
  at_place number place = record { number = number; place = place }

  -- An item that has a row in the trail is noted under the group that the row tells.
  noted_under_lem : (number place : ℕ) (firsts : Firsts) → number < max_items →
      noted trail number place firsts ≡ noted_under (get_or (get_or trail number []) 1 0) (at_place number place) firsts
  unfolding noted
  noted_under_lem number place firsts few = rw (lt-ltb _ _ few)

  noted_kept : (number place : ℕ) (firsts : Firsts) (g : ℕ) {earlier : Noted} → noted_at firsts g ≡ Some earlier →
      noted_at (noted trail number place firsts) g ≡ noted_at firsts g
  unfolding noted
  noted_kept number place firsts g is_set =
      decided (ltb number max_items) (λ t. rw t (under_kept (get_or (get_or trail number []) 1 0) (at_place number place) firsts g is_set)) (λ t. rw t)

  -- A row that is set stays.
  kept : (left number place : ℕ) (firsts : Firsts) (g : ℕ) {earlier : Noted} → noted_at firsts g ≡ Some earlier →
      noted_at (firsts_from h recorded trail left number place firsts) g ≡ noted_at firsts g
  unfolding firsts_from
  kept zero number place firsts g is_set = refl
  kept (suc left) number place firsts g is_set =
      let next = noted trail number place firsts in
      let same = noted_kept number place firsts g is_set in
      behind_kept firsts g _ (read_item h recorded place) (λ at. kept left (number + 1) at next g (same ∙ is_set) ∙ same)

  module _ (g : ℕ) (row : g < max_items) where
    abbrev Finds : (items number place : ℕ) → Firsts → List Event → Type 0
    Finds items number place firsts events =
        first_of h recorded (firsts_from h recorded trail items number place firsts) g ≡ first_in g number events

    -- The first item of the group is noted in its row, which stays as it is.
    own_noted : (left number place next : ℕ) (firsts : Firsts) {item : Item} {at : ℕ} → length firsts ≡ max_items →
        noted_at firsts g ≡ None → read_item h recorded place ≡ found item at →
        first_of h recorded (firsts_from h recorded trail left (number + 1) next (noted_under g (at_place number place) firsts)) g ≡
        Some (record { item = item; number = number })
    unfolding first_of
    own_noted left number place next firsts long none read =
        let first = under_first g (at_place number place) firsts row long none in
        ap (row_again h recorded) (kept left (number + 1) next (noted_under g (at_place number place) firsts) g first ∙ first)
        ∙ rw read

    none_noted : (firsts : Firsts) → noted_at firsts g ≡ None → first_of h recorded firsts g ≡ None
    unfolding first_of
    none_noted firsts none = rw none

    pub finds : {place : ℕ} {items : List Item} (events : List Event) (number : ℕ) (firsts : Firsts) {end : ℕ} → ItemsFrom h recorded place items end →
        map (λ e. e.item) events ≡ items → TellsGroups trail number events → number + length events ≤ max_items →
        length firsts ≡ max_items → noted_at firsts g ≡ None → Finds (length events) number place firsts events
    unfolding firsts_from first_in
    finds [] number firsts from same tells few long none = none_noted firsts none
    finds (e ∷ events) number firsts ended same tells few long none = let z : ◌≡◌ {A = ℕ} 0 1 = cc in absurd (omega arith)
    finds {place} (e ∷ events) number firsts (then {next = next} {item = item} {items = items} read from) same tells few long none =
        let is : e.item ≡ item = cc in
        let others : map (λ e. e.item) events ≡ items = cc in
        let zeroth : number + 0 ≡ number = omega arith in
        let group : get_or (get_or trail number []) 1 0 ≡ e.group = ap (λ n. get_or (get_or trail n []) 1 0) (sym zeroth) ∙ tells 0 e refl in
        let here : noted trail number place firsts ≡ noted_under e.group (at_place number place) firsts =
        noted_under_lem number place firsts (omega arith) ∙ ap (λ n. noted_under n (at_place number place) firsts) group in
        rw (read, here)
        (decided (eqb e.group g)
        (λ t.
        rw (t, is, eqb-true e.group g t) (own_noted (length events) number place next firsts long none read))
        (λ t.
        let row : noted_at (noted_under e.group (at_place number place) firsts) g ≡ noted_at firsts g =
        under_other e.group (at_place number place) firsts g (λ p. eqb-false e.group g t (sym p)) in
        rw t
        (finds events (number + 1) (noted_under e.group (at_place number place) firsts) from others (later events tells) (omega arith)
        (under_length e.group (at_place number place) firsts ∙ long) (row ∙ none))))
      where
        later : (events : List Event) → TellsGroups trail number (e ∷ events) → TellsGroups trail (number + 1) events
        later events tells i x at = let n : number + 1 + i ≡ number + suc i = omega arith in rw n (tells (suc i) x at)
