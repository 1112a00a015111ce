-- The projections of a run that its trace is made of: each rank's commands, and at each cell all writes with the reads of one group. Lists of
-- events with the same projections have the same places, the same last writes before each read, the same last contents, and conflicting accesses in
-- the same order.
use Rattle.std.specs.Prelude.{Option, Some, None}
use Prim.Native.Nat.{ℕ, ◌<◌}
use mathlib.Core.Path.{◌≡◌, refl, sym, ◌∙◌, ap}
use mathlib.Core.Bool.{Bool, true, false, ◌&&◌, ◌||◌, true≢false, false≢true}
use mathlib.Core.List.{List, map}
use mathlib.Core.Logic.{◌⊎◌, inl, inr}
use lib.Dec.{eqb}
use lib.ListN.{length, take}
use borrow.Author.Tests.{eq-eqb, eqb-true}
use Rattle.model.specs.declared.Address.{Address}
use Rattle.model.specs.Choice.{select}
use Rattle.model.specs.Machine.{Access, Start}
use Rattle.model.specs.Replay.{Event, same_address}
use Rattle.model.specs.HappensBefore.{At, is_command, rank_of, same_sequence, conflict, either_writes}
use Rattle.model.specs.Traces.{transitions_of, command_of}
use Rattle.model.specs.Checks.{in_group, arranged}
use Rattle.model.specs.Lists.{Precedes}
use Rattle.model.proofs.Selections.{select_before, select_order}
use Rattle.model.proofs.Replay.{same_address_true, true_same_address}
use Rattle.model.proofs.Laws.{decided, and-true, true_and, or-true}
use Rattle.record_facts.specs.Facts.{count_of, cells_after}
use Rattle.serializability.specs.Orders.{Dependent, Forward}
use Rattle.serializability.proofs.Cells.{writes_to, cells_after_select}
use Rattle.serializability.proofs.Arrangement.{arranged_same}
use Rattle.ordering.proofs.Links.{sequence_of, command_in_order}

-- A command is one of its rank's.
pub command_of_true : (e : Event) → is_command e ≡ true → command_of (rank_of e) e ≡ true
command_of_true e c = true_and (is_command e) (eqb (rank_of e) (rank_of e)) c (eq-eqb (rank_of e) (rank_of e) refl)

-- An access of the cell at this address that writes, or is one's own.
unfoldable pub touches : Address → (own : Bool) → Option Access → Bool
touches a own None = false
touches a own (Some b) = same_address a b.address && (b.writes || own)

-- The events at an address that write, or are of this group.
abbrev pub touching : Address → (group : ℕ) → Event → Bool
touching a g e = touches a (in_group g e) e.access

-- A write touches its address whoever looks.
pub touches_writes : (a : Address) (own : Bool) (x : Option Access) → writes_to a x ≡ true → touches a own x ≡ true
unfolding touches writes_to
touches_writes a own None h = h
touches_writes a own (Some b) h =
    let both = and-true (same_address a b.address) b.writes h in
    true_and (same_address a b.address) (b.writes || own) both.0 (rw both.1)

or_right : (s : Bool) {t : Bool} → t ≡ true → (s || t) ≡ true
or_right true h = refl
or_right false h = h

-- An access touches its own address, with its own group.
pub touches_own : (e : Event) (a : Access) → e.access ≡ Some a → touching a.address e.group e ≡ true
unfolding touches
touches_own e a is =
    rw (is, touches)
    (true_and (same_address a.address a.address) (a.writes || in_group e.group e) (true_same_address a.address a.address refl)
    (or_right a.writes (eq-eqb e.group e.group refl)))

-- Two accesses that touch an address conflict, unless neither writes.
pub touches_conflict : (a : Address) (own other : Bool) (x y : Option Access) → touches a own x ≡ true → touches a other y ≡ true →
    (conflict x y ≡ true) ⊎ ((own ≡ true) × (other ≡ true))
unfolding touches conflict
touches_conflict a own other None y hx hy = absurd (false≢true hx)
touches_conflict a own other (Some b) None hx hy = absurd (false≢true hy)
touches_conflict a own other (Some b) (Some c) hx hy =
    let tx = and-true (same_address a b.address) (b.writes || own) hx in
    let ty = and-true (same_address a c.address) (c.writes || other) hy in
    let same =
    true_same_address b.address c.address (sym (same_address_true a b.address tx.0) ∙ same_address_true a c.address ty.0) in
    decided (either_writes b c)
    (λ w. inl (true_and (same_address b.address c.address) (either_writes b c) same w))
    (λ w.
    let neither = or-false b.writes c.writes w in
    inr (or-true b.writes own neither.0 tx.1, or-true c.writes other neither.1 ty.1))
  where
    or-false : (s t : Bool) → (s || t) ≡ false → (s ≡ false) × (t ≡ false)
    or-false true t h = absurd (true≢false h)
    or-false false t h = (refl, h)

-- Two commands of a rank, and two events that touch an address, are dependent or of one group.
commands_tied : (rank : ℕ) (x y : Event) → command_of rank x ≡ true → command_of rank y ≡ true → same_sequence x y ≡ true
commands_tied rank x y px py =
    let bx = and-true (is_command x) (eqb (rank_of x) rank) px in
    let by = and-true (is_command y) (eqb (rank_of y) rank) py in
    sequence_of x y (command_in_order x bx.0) (command_in_order y by.0)
    (eqb-true (rank_of x) rank bx.1 ∙ sym (eqb-true (rank_of y) rank by.1))

touching_tied : (a : Address) (g : ℕ) (x y : Event) → touching a g x ≡ true → touching a g y ≡ true → (x.group ≡ y.group) ⊎ Dependent x y
touching_tied a g x y px py = go (touches_conflict a (in_group g x) (in_group g y) x.access y.access px py)
  where
    go : (conflict x.access y.access ≡ true) ⊎ ((in_group g x ≡ true) × (in_group g y ≡ true)) → (x.group ≡ y.group) ⊎ Dependent x y
    go (inl c) = inr (inl c)
    go (inr both) = inl (eqb-true x.group g both.0 ∙ sym (eqb-true y.group g both.1))

-- Conflicting accesses touch one address: one of them writes, and the group is the other's.
touches_both : (x y : Event) (b c : Option Access) → x.access ≡ b → y.access ≡ c → conflict b c ≡ true →
    (a : Address) × (g : ℕ) × (touching a g x ≡ true) × (touching a g y ≡ true)
unfolding touches conflict
touches_both x y None c eb ec h = absurd (false≢true h)
touches_both x y (Some b) None eb ec h = absurd (false≢true h)
touches_both x y (Some b) (Some c) eb ec h =
    let both = and-true (same_address b.address c.address) (either_writes b c) h in
    let own : same_address b.address b.address ≡ true = true_same_address b.address b.address refl in
    decided b.writes
    (λ w. (
      b.address,
      y.group,
      rw (eb, touches) (true_and (same_address b.address b.address) (b.writes || in_group y.group x) own (rw w)),
      rw (ec, touches) (true_and (same_address b.address c.address) (c.writes || in_group y.group y) both.0
          (or_right c.writes (eq-eqb y.group y.group refl))),
    ))
    (λ w. (
      b.address,
      x.group,
      touches_own x b eb,
      rw (ec, touches) (true_and (same_address b.address c.address) (c.writes || in_group x.group y) both.0
          (rw (or-true b.writes c.writes w both.1))),
    ))

conflict_touching : (x y : Event) → conflict x.access y.access ≡ true →
    (a : Address) × (g : ℕ) × (touching a g x ≡ true) × (touching a g y ≡ true)
conflict_touching x y = touches_both x y x.access y.access refl refl

-- Two lists of events with the same projections.
pub record Projected (events others : List Event) : Type 0 where
  pub commands : (rank : ℕ) → select (command_of rank) events ≡ select (command_of rank) others
  pub cells : (a : Address) (group : ℕ) → select (touching a group) events ≡ select (touching a group) others

pub projected_sym : {events others : List Event} → Projected events others → Projected others events
projected_sym p = record { commands = λ rank. sym (p.commands rank); cells = λ a g. sym (p.cells a g) }

-- An arrangement along the dependences has the record's projections.
pub arranged_projected : {groups : List ℕ} {opened : ℕ} (events : List Event) → Forward events opened groups →
    ((i : ℕ) (x : Event) → At events i x → x.group < opened) → Projected (arranged groups events) events
arranged_projected events f bound =
    record {
      commands = λ rank. arranged_same (command_of rank) events f bound (λ i j x y hx hy before px py. inr (inr (commands_tied rank x y px py)));
      cells = λ a g. arranged_same (touching a g) events f bound (λ i j x y hx hy before px py. touching_tied a g x y px py);
    }

module _ {events others : List Event} (p : Projected events others) where
  -- Each rank takes the same transitions.
  pub same_transitions : (rank : ℕ) → transitions_of rank events ≡ transitions_of rank others
  same_transitions rank =
      ap (map (λ e. e.item.transition)) (p.commands rank)

  -- A command stands behind as many of its rank's commands in both.
  pub same_place : (i : ℕ) (e : Event) → At events i e → is_command e ≡ true →
      (j : ℕ) × At others j e × (count_of (rank_of e) (take j others) ≡ count_of (rank_of e) (take i events))
  same_place i e at c =
      let r : ℕ = rank_of e in
      let b = select_before (command_of r) events others (p.commands r) i at (command_of_true e c) in (
        b.0,
        b.1,
        ap length b.2,
      )

  -- A cell holds the same before an access of it that is of this group, and at the end.
  pub same_contents : (start : Start) (a : Address) (i : ℕ) (e : Event) → At events i e → touching a e.group e ≡ true →
      (j : ℕ) × At others j e ×
      (cells_after start (take j others) a.rank a.cell ≡ cells_after start (take i events) a.rank a.cell)
  same_contents start a i e at t =
      let q : Event → Bool = touching a e.group in
      let covers : (x : Event) → writes_to a x.access ≡ true → q x ≡ true = λ x. touches_writes a (in_group e.group x) x.access in
      let b = select_before q events others (p.cells a e.group) i at t in (
        b.0,
        b.1,
        cells_after_select q a covers start start (take b.0 others) refl ∙
            ap (λ l. cells_after start l a.rank a.cell) b.2 ∙
            sym (cells_after_select q a covers start start (take i events) refl),
      )

  pub same_end : (start : Start) (a : Address) → cells_after start events a.rank a.cell ≡ cells_after start others a.rank a.cell
  same_end start a =
      let q : Event → Bool = touching a 0 in
      let covers : (x : Event) → writes_to a x.access ≡ true → q x ≡ true = λ x. touches_writes a (in_group 0 x) x.access in
      cells_after_select q a covers start start events refl ∙
      ap (λ l. cells_after start l a.rank a.cell) (p.cells a 0) ∙
      sym (cells_after_select q a covers start start others refl)

  -- Conflicting accesses come in the same order.
  pub same_order : (x y : Event) → conflict x.access y.access ≡ true → Precedes events x y → Precedes others x y
  same_order x y c h =
      let t = conflict_touching x y c in
      let o =
      select_order (touching t.0 t.1) events others (p.cells t.0 t.1) h.i h.j h.first h.second t.2 t.3 h.before in
      record { i = o.0; j = o.1; first = o.2; second = o.3; before = o.4 }
