-- A serial run with the record's trace orders the record's groups: give each group the number that its events' counterparts have in the serial run.
-- An edge puts a counterpart before a counterpart, by program order since both runs take the same transitions, by conflict since they have the same
-- trace; group numbers never fall along a serial run; and they are not equal, or the edge would stay inside one group. Nothing here looks at
-- values.
use Rattle.std.specs.Prelude.{Some, slice_get}
use Rattle.model.proofs.Options.{none-ne-some}
use Prim.Native.Nat.{ℕ, ◌<◌}
use mathlib.Core.Path.{◌≡◌, refl, sym, ◌∙◌, ap}
use mathlib.Core.Bool.{Bool, true, ◌&&◌}
use mathlib.Core.List.{List, [], ◌∷◌}
use mathlib.Core.Logic.{◌⊎◌, inl, inr}
use native.Mathlib.Nat.{eq-or-lt_of_le}
use native.Mathlib.Omega.{arith}
use lib.Dec.{eqb}
use borrow.Author.Tests.{eq-eqb, eqb-true}
use Rattle.model.specs.declared.Item.{Item}
use Rattle.model.specs.Choice.{select}
use Rattle.model.specs.Programs.{Program}
use Rattle.model.specs.Machine.{Start}
use Rattle.model.specs.Replay.{Event, Replayed}
use Rattle.model.specs.HappensBefore.{At, is_command, rank_of, same_sequence, ProgramOrder, Conflict, HappensBefore}
use Rattle.model.specs.Traces.{SameTrace, transfers_together, command_of}
use Rattle.model.specs.Checks.{in_group}
use Rattle.model.specs.Lists.{Precedes}
use Rattle.model.proofs.Selections.{select_at, select_from}
use Rattle.model.proofs.Laws.{and-true, true_and}
use Rattle.record_facts.specs.Facts.{Facts}
use Rattle.serializability.proofs.Identity.{identified_sym, compared, commander, command_unique, at_unique, place_rises}
use Rattle.serializability.proofs.Correspondence.{counterpart, twins, same_groups}
use Rattle.serializability.proofs.CommandKinds.{Twins, first_in_lem, second_in, twin_command}
use Rattle.serializability.proofs.Blocks.{groups_rise}
use Rattle.ordering.proofs.Links.{sequence_parts}

-- The command of this rank and place.
abbrev command_at : (rank place : ℕ) → Event → Bool
command_at rank place e = command_of rank e && eqb e.place place

-- The group of a list's first event, and of the command by which that event is known among others.
group_of_first : List Event → ℕ
group_of_first [] = 0
group_of_first (e ∷ rest) = e.group

counterpart_group : (others : List Event) → List Event → ℕ
counterpart_group others [] = 0
counterpart_group others (e ∷ rest) = group_of_first (select (command_at (rank_of e) e.place) others)

-- The number of a group in the other run, told by the group's first event.
pub placement : (events others : List Event) → ℕ → ℕ
placement events others g = counterpart_group others (select (in_group g) events)

-- A list with a member has a first one.
first_of : {A : Type 0} (l : List A) (k : ℕ) {x : A} → slice_get l k ≡ Some x → (y : A) × (rest : List A) × (l ≡ y ∷ rest)
first_of [] k h = absurd (none-ne-some _ h)
first_of (y ∷ l) k h = (y, l, refl)

module _ {P : Program} {start start' : Start} {items items' : List Item} {run run' : Replayed}
    (f : Facts P start items run) (f' : Facts P start' items' run') (trace : SameTrace run.events run'.events) where
  -- The command at its rank and place is the only one there.
  first_command : (j : ℕ) (d : Event) → At run'.events j d → is_command d ≡ true → {rank place : ℕ} → rank_of d ≡ rank → d.place ≡ place →
      group_of_first (select (command_at rank place) run'.events) ≡ d.group
  unfolding group_of_first
  first_command j d ad cd {rank} {place} er ep =
      let test : Event → Bool = command_at rank place in
      let passes : test d ≡ true =
      true_and (command_of rank d) (eqb d.place place)
      (true_and (is_command d) (eqb (rank_of d) rank) cd (eq-eqb (rank_of d) rank er)) (eq-eqb d.place place ep) in
      let first = first_of (select test run'.events) _ (select_at test run'.events j ad passes) in
      let s = select_from test run'.events 0 {x = first.0} (ap (λ l. slice_get l 0) first.2) in
      let outer = and-true (command_of rank first.0) (eqb first.0.place place) s.passes in
      let inner = and-true (is_command first.0) (eqb (rank_of first.0) rank) outer.0 in
      ap group_of_first first.2 ∙
      ap (λ e. e.group)
      (at_unique f' s.at ad
      (command_unique f' s.i j s.at ad inner.0 cd
      (eqb-true (rank_of first.0) rank inner.1 ∙ sym er) (eqb-true first.0.place place outer.1 ∙ sym ep)))

  -- The number of an event's group, told by any event of the group, is the group of its counterpart.
  told_by : (i : ℕ) (e : Event) → At run.events i e → (w : Twins run.events run'.events) → e.group ≡ w.x.group →
      group_of_first (select (command_at (rank_of e) e.place) run'.events) ≡ w.y.group
  told_by i e at w group =
      let c = counterpart f f' trace.transitions i e at in
      let d = commander f' c.j c.y c.at in
      first_command d.j d.e d.at d.is_command_lem (d.rank ∙ sym c.same.rank) (d.place ∙ sym c.same.place) ∙
      d.group ∙
      same_groups f f' trace.transitions (twins i e at c) w group

  pub placement_of : (w : Twins run.events run'.events) → placement run.events run'.events w.x.group ≡ w.y.group
  unfolding placement counterpart_group
  placement_of w =
      let g : ℕ = w.x.group in
      let passes : in_group g w.x ≡ true = eq-eqb w.x.group g refl in
      let first = first_of (select (in_group g) run.events) _ (select_at (in_group g) run.events w.i w.first passes) in
      let s = select_from (in_group g) run.events 0 {x = first.0} (ap (λ l. slice_get l 0) first.2) in
      ap (counterpart_group run'.events) first.2 ∙ told_by s.i first.0 s.at w (eqb-true first.0.group g s.passes)

  -- Commands of one rank come in the same order in both runs.
  sequence_kept : (v w : Twins run.events run'.events) → v.i < w.i → same_sequence v.x w.x ≡ true →
      Precedes run'.events v.y w.y
  sequence_kept v w before same =
      let (first, second, rank) = sequence_parts v.x w.x same in
      let rank' : rank_of v.y ≡ rank_of w.y = sym v.same.rank ∙ rank ∙ w.same.rank in
      let rises : v.x.place < w.x.place = place_rises f v.i w.i v.first w.first first second rank before in
      compared v.j w.j
      (λ less. record { i = v.j; j = w.j; first = v.second; second = w.second; before = less })
      (λ more.
      let falls : w.y.place < v.y.place =
      place_rises f' w.j v.j w.second v.second (twin_command w second) (twin_command v first) (sym rank') more in
      absurd (omega (arith, rises, falls, v.same.place, w.same.place)))
      (λ here.
      let one : v.y.place ≡ w.y.place = ap (λ e. e.place) (at_unique f' v.second w.second here) in
      absurd (omega (arith, rises, one, v.same.place, w.same.place)))

  -- Where a counterpart precedes another of another group, its group's number is lower.
  number_rises : transfers_together run'.events ≡ true → (v w : Twins run.events run'.events) → ¬ (v.x.group ≡ w.x.group) →
      Precedes run'.events v.y w.y →
      placement run.events run'.events v.x.group < placement run.events run'.events w.x.group
  number_rises serial v w different p =
      go (eq-or-lt_of_le (groups_rise f' serial p.j p.i v.y w.y p.first p.second p.before))
    where
      turned : Twins run.events run'.events → Twins run'.events run.events
      turned t =
          record { i = t.j; j = t.i; x = t.y; y = t.x; first = t.second; second = t.first; same = identified_sym t.same }

      go : (v.y.group ≡ w.y.group) ⊎ (v.y.group < w.y.group) →
          placement run.events run'.events v.x.group < placement run.events run'.events w.x.group
      go (inl same) = absurd (different (same_groups f' f (λ rank. sym (trace.transitions rank)) (turned v) (turned w) same))
      go (inr less) = omega (arith, less, placement_of v, placement_of w)

  -- An edge between groups goes up in the serial run's numbers.
  pub backward : transfers_together run'.events ≡ true → (g h : ℕ) → HappensBefore run.events g h →
      placement run.events run'.events g < placement run.events run'.events h
  backward serial g h edge = go edge.reason
    where
      x : Event
      x = edge.x

      y : Event
      y = edge.y

      number : ℕ → ℕ
      number = placement run.events run'.events

      twin : (i : ℕ) (e : Event) → At run.events i e → Twins run.events run'.events
      twin i e at = twins i e at (counterpart f f' trace.transitions i e at)

      rising : (i j : ℕ) (ax : At run.events i x) (ay : At run.events j y) →
          Precedes run'.events (twin i x ax).y (twin j y ay).y → number g < number h
      rising i j ax ay precedes =
          let less : number x.group < number y.group =
          number_rises serial (twin i x ax) (twin j y ay) (λ same. edge.different (sym edge.from ∙ same ∙ edge.to)) precedes in
          omega (arith, less, ap number edge.from, ap number edge.to)

      go : ProgramOrder run.events x y ⊎ Conflict run.events x y → number g < number h
      go (inl p) =
          let n = p.next in
          rising n.i n.j n.first n.second
          (sequence_kept (twin n.i x n.first) (twin n.j y n.second) n.before p.same)
      go (inr c) =
          let n = c.nearest in
          let v = twin n.i x n.first in
          let w = twin n.j y n.second in
          let kept =
          trace.order x y v.y w.y (first_in_lem v) (first_in_lem w) (second_in v) (second_in w) v.same w.same c.conflicting in
          rising n.i n.j n.first n.second
          (kept.0 (record { i = n.i; j = n.j; first = n.first; second = n.second; before = n.before }))
