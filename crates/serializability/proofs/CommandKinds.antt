-- What a rank's transitions tell of its commands: the kind of each, and how many bars it has before each. So two runs with the same transitions
-- agree on these.
use Rattle.std.specs.Prelude.{Option, Some, None, slice_get}
use Rattle.model.proofs.Options.{some-injective}
use Prim.Native.Nat.{ℕ, suc}
use mathlib.Core.Path.{◌≡◌, refl, sym, ◌∙◌, ap}
use mathlib.Core.Bool.{Bool, true, false, true≢false}
use mathlib.Core.List.{List, [], ◌∷◌, map}
use lib.Dec.{eqb}
use lib.ListN.{length, take}
use Rattle.model.specs.declared.Item.{Item}
use Rattle.model.specs.declared.Kind.TheVariants.{Bar}
use Rattle.model.specs.Choice.{select}
use Rattle.model.specs.ItemKinds.{is_bar, part_of, is_command_part}
use Rattle.model.specs.Programs.{Program, Transition, kind_of}
use Rattle.model.specs.Machine.{Start}
use Rattle.model.specs.Replay.{Event, Replayed}
use Rattle.model.specs.HappensBefore.{At, is_command, rank_of}
use Rattle.model.specs.Traces.{transitions_of, Identified, command_of}
use Rattle.model.specs.Lists.{◌∈◌}
use Rattle.model.proofs.Lists.{at_position}
use Rattle.model.proofs.Selections.{select_yes, select_no, select_at, select_take}
use Rattle.model.proofs.ItemKinds.{same_kind_true, command_part}
use Rattle.model.proofs.Laws.{decided, and-true, true_and, slice_get_map, slice_get_taken, take_map}
use Rattle.record_facts.specs.Facts.{Facts, bars_of, count_of, bar_of}
use Rattle.serializability.proofs.Projections.{command_of_true}
use Rattle.serializability.proofs.Groups.{kind_command}

-- A transition that is a bar's.
bar_transition_of : Option Transition → Bool
bar_transition_of None = false
bar_transition_of (Some t) = is_bar (kind_of t.command)

pub bar_transition : Program → ℕ → Bool
bar_transition P t = bar_transition_of (slice_get P.transitions t)

module _ {P : Program} {start : Start} {items : List Item} {run : Replayed} (f : Facts P start items run) where
  -- A command's kind is its transition's.
  kind_taken : (i : ℕ) (e : Event) → At run.events i e → is_command e ≡ true →
      (t : Transition) × (slice_get P.transitions e.item.transition ≡ Some t) × (kind_of t.command ≡ e.item.kind)
  kind_taken i e at c =
      let s = f.local_step i e at c in
      (s.transition, s.taken, s.kind)

  bar_transition_lem : (i : ℕ) (e : Event) → At run.events i e → is_command e ≡ true → bar_transition P e.item.transition ≡ is_bar e.item.kind
  unfolding bar_transition_of bar_transition
  bar_transition_lem i e at c =
      let s = kind_taken i e at c in
      ap bar_transition_of s.1 ∙ ap is_bar s.2

-- A bar is a command.
bar_command : (rank : ℕ) (e : Event) → command_of rank e ≡ false → bar_of rank e ≡ false
bar_command rank e c =
    decided (bar_of rank e)
    (λ t.
    let both = and-true (is_bar e.item.kind) (eqb (rank_of e) rank) t in
    absurd (true≢false (sym (true_and (is_command e) (eqb (rank_of e) rank) (kind_command e (same_kind_true e.item.kind Bar both.0))
    both.1) ∙ c)))
    (λ t. t)

-- Among these events the bars are the transitions that are bars'.
bars_selected : (P : Program) (rank : ℕ) (events : List Event) →
    ((i : ℕ) (e : Event) → At events i e → is_command e ≡ true → bar_transition P e.item.transition ≡ is_bar e.item.kind) →
    bars_of rank events ≡ length (select (bar_transition P) (transitions_of rank events))
unfolding select
bars_selected P rank [] h = refl
bars_selected P rank (e ∷ events) h =
    let ih = bars_selected P rank events (λ i. h (suc i)) in
    decided (command_of rank e)
    (λ c.
    let both = and-true (is_command e) (eqb (rank_of e) rank) c in
    let kind = h 0 e refl both.0 in
    rw (select_yes (command_of rank) e events c)
    (decided (is_bar e.item.kind)
    (λ b. rw (
      select_yes (bar_of rank) e events (true_and (is_bar e.item.kind) (eqb (rank_of e) rank) b both.1),
      select_yes (bar_transition P) e.item.transition (transitions_of rank events) (kind ∙ b),
    )
    (ap suc ih))
    (λ b. rw (select_no (bar_of rank) e events (rw b), select_no (bar_transition P) e.item.transition (transitions_of rank events) (kind ∙ b)) ih)))
    (λ c. rw (select_no (command_of rank) e events c, select_no (bar_of rank) e events (bar_command rank e c)) ih)

-- The transitions before a place are the front of all.
pub transitions_take : (rank : ℕ) (events : List Event) (i : ℕ) →
    transitions_of rank (take i events) ≡ take (count_of rank (take i events)) (transitions_of rank events)
transitions_take rank events i =
    ap (map (λ e. e.item.transition)) (sym (select_take (command_of rank) events i)) ∙
    sym (take_map (λ e. e.item.transition) (count_of rank (take i events)) (select (command_of rank) events))

module _ {P : Program} {start : Start} {items : List Item} {run : Replayed} (f : Facts P start items run) where
  -- How many bars a rank has before a command, told from its transitions.
  bars_before : (i : ℕ) (e : Event) → At run.events i e → is_command e ≡ true →
      bars_of (rank_of e) (take i run.events) ≡
      length (select (bar_transition P) (take e.place (transitions_of (rank_of e) run.events)))
  bars_before i e at c =
      bars_selected P (rank_of e) (take i run.events) (λ j x ax. bar_transition_lem f j x (slice_get_taken run.events i j ax).0) ∙
      ap (λ l. length (select (bar_transition P) l))
      (transitions_take (rank_of e) run.events i ∙ ap (λ n. take n (transitions_of (rank_of e) run.events)) (sym (f.place_of i e at c)))

  -- A command's transition stands at its place.
  pub transition_at : (i : ℕ) (e : Event) → At run.events i e → is_command e ≡ true →
      slice_get (transitions_of (rank_of e) run.events) e.place ≡ Some e.item.transition
  transition_at i e at c =
      ap (slice_get (transitions_of (rank_of e) run.events)) (f.place_of i e at c) ∙
      slice_get_map (λ x. x.item.transition) (select (command_of (rank_of e)) run.events) _
      (select_at (command_of (rank_of e)) run.events i at (command_of_true e c))

-- An event of one run, and the event of the same identity in another.
pub record Twins (events others : List Event) : Type 0 where
  pub i : ℕ
  pub j : ℕ
  pub x : Event
  pub y : Event
  pub first : At events i x
  pub second : At others j y
  pub same : Identified x y

-- Each stands in its run.
pub first_in_lem : {events others : List Event} (w : Twins events others) → w.x ∈ events
first_in_lem w = at_position _ w.i w.first

pub second_in : {events others : List Event} (w : Twins events others) → w.y ∈ others
second_in w = at_position _ w.j w.second

-- If one is a command, the other is.
pub twin_command : {events others : List Event} (w : Twins events others) → is_command w.x ≡ true → is_command w.y ≡ true
twin_command w c = ap is_command_part (sym w.same.part ∙ command_part (part_of w.x.item.kind) c)

-- Two runs in which each rank takes the same transitions, and a command of both.
module _ {P : Program} {start start' : Start} {items items' : List Item} {run run' : Replayed}
    (f : Facts P start items run) (f' : Facts P start' items' run')
    (same : (rank : ℕ) → transitions_of rank run.events ≡ transitions_of rank run'.events)
    (w : Twins run.events run'.events) (c : is_command w.x ≡ true) where
  pub same_bars : bars_of (rank_of w.x) (take w.i run.events) ≡ bars_of (rank_of w.y) (take w.j run'.events)
  same_bars =
      bars_before f w.i w.x w.first c ∙
      ap (λ l. length (select (bar_transition P) (take w.x.place l))) (same (rank_of w.x)) ∙
      ap (λ r. length (select (bar_transition P) (take w.x.place (transitions_of r run'.events)))) w.same.rank ∙
      ap (λ n. length (select (bar_transition P) (take n (transitions_of (rank_of w.y) run'.events)))) w.same.place ∙
      sym (bars_before f' w.j w.y w.second (twin_command w c))

  pub same_transition : w.x.item.transition ≡ w.y.item.transition
  same_transition =
      some-injective _ _
      (sym (transition_at f w.i w.x w.first c) ∙
      ap (λ l. slice_get l w.x.place) (same (rank_of w.x)) ∙
      ap (λ r. slice_get (transitions_of r run'.events) w.x.place) w.same.rank ∙
      ap (slice_get (transitions_of (rank_of w.y) run'.events)) w.same.place ∙
      transition_at f' w.j w.y w.second (twin_command w c))

  pub same_kinds : w.x.item.kind ≡ w.y.item.kind
  same_kinds =
      let sx = kind_taken f w.i w.x w.first c in
      let sy = kind_taken f' w.j w.y w.second (twin_command w c) in
      let one : sx.0 ≡ sy.0 = some-injective _ _ (sym sx.1 ∙ ap (slice_get P.transitions) same_transition ∙ sy.1) in
      sym sx.2 ∙ ap (λ t. kind_of t.command) one ∙ sy.2
