-- The groups and identities of an accepted record. Each event has in its group the command that it is known by; two commands of a rank have
-- different places, and a transfer has one fetch and one delivery; so an identity names one event.
use Rattle.std.specs.Prelude.{slice_get}
use Rattle.model.proofs.Options.{some-injective}
use Prim.Native.Nat.{ℕ, ◌<◌}
use mathlib.Core.Path.{◌≡◌, refl, sym, ◌∙◌, ap}
use mathlib.Core.Bool.{true, false, true≢false}
use mathlib.Core.List.{List}
use native.Mathlib.Nat.{lt_irrefl}
use native.Mathlib.Omega.{arith}
use lib.Dec.{ltb}
use lib.ListN.{length, take}
use borrow.Author.Tests.{eq-eqb, eqb-true, ltb-true, ltb-false}
use Rattle.model.specs.declared.Item.{Item}
use Rattle.model.specs.declared.Kind.{Kind}
use Rattle.model.specs.declared.Kind.TheVariants.{Popa, Popb}
use Rattle.model.specs.Choice.{select}
use Rattle.model.specs.ItemKinds.{is_transfer, part_of, is_command_kind}
use Rattle.model.specs.Programs.{Program}
use Rattle.model.specs.Machine.{Start}
use Rattle.model.specs.Replay.{Event, Replayed}
use Rattle.model.specs.HappensBefore.{At, is_command, rank_of}
use Rattle.model.specs.Traces.{Identified, command_of}
use Rattle.model.specs.Checks.{group_events, in_group}
use Rattle.model.proofs.Selections.{select_at, select_from, Selected, selected_rises, select_rises}
use Rattle.model.proofs.ItemKinds.{transfer_command, command≢fetch, command≢delivery, fetch≢delivery, command_part}
use Rattle.model.proofs.Laws.{decided}
use Rattle.record_facts.specs.Facts.{Facts, PopOf, count_of}
use Rattle.serializability.proofs.Projections.{command_of_true}
use Rattle.serializability.proofs.Groups.{kind_command, Role, commands, fetches, delivers, shape_role, shape_transfer, Together, fetched, delivered, passed_on, met, shape_together}

-- One identity, either way round and from one to the next.
pub identified_sym : {x y : Event} → Identified x y → Identified y x
identified_sym s = record { rank = sym s.rank; place = sym s.place; part = sym s.part }

pub identified_trans : {x y z : Event} → Identified x y → Identified y z → Identified x z
identified_trans s t = record { rank = s.rank ∙ t.rank; place = s.place ∙ t.place; part = s.part ∙ t.part }

-- Of two places either one is first, or they are one.
pub compared : {C : Type 0} (i j : ℕ) → (i < j → C) → (j < i → C) → (i ≡ j → C) → C
compared i j less more same =
    decided (ltb i j)
    (λ t. less (ltb-true i j t))
    (λ t. decided (ltb j i)
    (λ u. more (ltb-true j i u))
    (λ u. let le = ltb-false i j t in let ge = ltb-false j i u in same (omega (arith, le, ge))))

-- The command of a pop: an earlier transfer of its group.
pub record Issued (events : List Event) (kind : Kind) (i : ℕ) (x : Event) : Type 0 where
  pub j : ℕ
  pub e : Event
  pub at : At events j e
  pub before : j < i
  pub is_transfer_lem : is_transfer e.item.kind ≡ true
  pub pop : PopOf kind e x
  pub group : e.group ≡ x.group

-- What an event is in a record.
pub data Known (events : List Event) (i : ℕ) (x : Event) : Type 0 where
  commanded : is_command x ≡ true → Known events i x
  fetching : Issued events Popa i x → Known events i x
  delivering : Issued events Popb i x → Known events i x

-- The command that an event is known by.
pub record Commander (events : List Event) (x : Event) : Type 0 where
  pub j : ℕ
  pub e : Event
  pub at : At events j e
  pub is_command_lem : is_command e ≡ true
  pub rank : rank_of e ≡ rank_of x
  pub place : e.place ≡ x.place
  pub group : e.group ≡ x.group

-- A transfer's two pops.
pub record Completed (events : List Event) (e : Event) : Type 0 where
  pub ia : ℕ
  pub ib : ℕ
  pub a : Event
  pub b : Event
  pub fetch_at : At events ia a
  pub delivery_at_lem : At events ib b
  pub fetch_of_lem : PopOf Popa e a
  pub delivery_of_lem : PopOf Popb e b

-- An event's place in its group, and back.
pub in_group_lem : (events : List Event) (g i : ℕ) (x : Event) → At events i x → x.group ≡ g →
    At (group_events g events) (length (select (in_group g) (take i events))) x
in_group_lem events g i x at e = select_at (in_group g) events i at (eq-eqb x.group g e)

pub from_group : (events : List Event) (g k : ℕ) {x : Event} → At (group_events g events) k x → Selected (in_group g) events k x
from_group events g k h = select_from (in_group g) events k h

-- What stands earlier in a group stands earlier.
in_order : {events : List Event} {g i k : ℕ} {x y : Event} → At events i x → x.group ≡ g → (s : Selected (in_group g) events k y) →
    k < length (select (in_group g) (take i events)) → s.i < i
in_order {events} {g} {i} {k} {x} at e s before =
    let own : Selected (in_group g) events (length (select (in_group g) (take i events))) x =
    record { i = i; at = at; passes = eq-eqb x.group g e; before = refl } in
    selected_rises s own before

-- Two events of one group are not both fetches, nor both deliveries.
pub not_together : {x y : Event} (k : Kind) → is_command_kind k ≡ false → x.item.kind ≡ k → y.item.kind ≡ k → ¬ (Together x y)
not_together {x} k pop hx hy (fetched t p) = true≢false (sym (transfer_command x.item.kind t) ∙ kind_command x hx ∙ pop)
not_together {x} k pop hx hy (delivered t p) = true≢false (sym (transfer_command x.item.kind t) ∙ kind_command x hx ∙ pop)
not_together k pop hx hy (passed_on e pa pb) = fetch≢delivery (ap part_of (sym pa.kind_is ∙ hx ∙ sym hy ∙ pb.kind_is))
not_together {x} k pop hx hy (met bx by rises) = true≢false (sym (kind_command x bx) ∙ kind_command x hx ∙ pop)

module _ {P : Program} {start : Start} {items : List Item} {run : Replayed} (f : Facts P start items run) where
  -- Two events of one group, and what each event is.
  pub together : (i j : ℕ) {x y : Event} → At run.events i x → At run.events j y → i < j → x.group ≡ y.group → Together x y
  together i j {x} {y} ax ay before same =
      let g : ℕ = y.group in
      shape_together (f.shape g (f.group_bound j y ay)) _ _ (in_group_lem run.events g i x ax same) (in_group_lem run.events g j y ay refl)
      (select_rises (in_group g) run.events i j ax (eq-eqb x.group g same) before)

  pub known : (i : ℕ) (x : Event) → At run.events i x → Known run.events i x
  known i x at = go (shape_role (f.shape g (f.group_bound i x at)) _ x (in_group_lem run.events g i x at refl))
    where
      g : ℕ
      g = x.group

      by : {k : Kind} (e : Event) → At (group_events g run.events) 0 e → 0 < length (select (in_group g) (take i run.events)) →
          is_transfer e.item.kind ≡ true → PopOf k e x → Issued run.events k i x
      by e first later t pop =
          let s = from_group run.events g 0 first in
          record {
            j = s.i;
            e = e;
            at = s.at;
            before = in_order at refl s later;
            is_transfer_lem = t;
            pop = pop;
            group = eqb-true e.group g s.passes;
          }

      go : Role (group_events g run.events) (length (select (in_group g) (take i run.events))) x → Known run.events i x
      go (commands c) = commanded c
      go (fetches e first k t pop) = fetching (by e first (omega (arith, k)) t pop)
      go (delivers e first k t pop) = delivering (by e first (omega (arith, k)) t pop)

  -- A transfer's group has its fetch and its delivery.
  pub completed : (i : ℕ) (e : Event) → At run.events i e → is_transfer e.item.kind ≡ true → Completed run.events e
  completed i e at t =
      let g : ℕ = e.group in
      let s = shape_transfer (f.shape g (f.group_bound i e at)) _ e (in_group_lem run.events g i e at refl) t in
      let sa = from_group run.events g 1 s.fetched in
      let sb = from_group run.events g 2 s.delivered in
      record {
        ia = sa.i;
        ib = sb.i;
        a = s.a;
        b = s.b;
        fetch_at = sa.at;
        delivery_at_lem = sb.at;
        fetch_of_lem = s.fetch_of_lem;
        delivery_of_lem = s.delivery_of_lem;
      }

  -- A command has more of its rank before it than an earlier one.
  pub place_rises : (i j : ℕ) {x y : Event} → At run.events i x → At run.events j y → is_command x ≡ true → is_command y ≡ true →
      rank_of x ≡ rank_of y → i < j → x.place < y.place
  place_rises i j {x} {y} ax ay cx cy same before =
      let r : ℕ = rank_of y in
      let px : x.place ≡ count_of r (take i run.events) = f.place_of i x ax cx ∙ ap (λ s. count_of s (take i run.events)) same in
      let py : y.place ≡ count_of r (take j run.events) = f.place_of j y ay cy in
      let rise = select_rises (command_of r) run.events i j ax (rw (← same) (command_of_true x cx)) before in
      omega (arith, px, py, rise)

  -- So a rank and a place name one command.
  pub command_unique : (i j : ℕ) {x y : Event} → At run.events i x → At run.events j y → is_command x ≡ true → is_command y ≡ true →
      rank_of x ≡ rank_of y → x.place ≡ y.place → i ≡ j
  command_unique i j {x} {y} ax ay cx cy same place =
      compared i j
      (λ less. absurd (lt_irrefl y.place (rw place at (place_rises i j ax ay cx cy same less))))
      (λ more. absurd (lt_irrefl y.place (rw place at (place_rises j i ay ax cy cx (sym same) more))))
      (λ e. e)

  -- The events at one place are one.
  pub at_unique : {i j : ℕ} {x y : Event} → At run.events i x → At run.events j y → i ≡ j → x ≡ y
  at_unique {i} {j} {x} {y} ax ay e = some-injective x y (sym ax ∙ ap (slice_get run.events) e ∙ ay)

  -- Of two commands of a rank the one with the lower place stands first.
  pub place_order : (i j : ℕ) {x y : Event} → At run.events i x → At run.events j y → is_command x ≡ true → is_command y ≡ true →
      rank_of x ≡ rank_of y → x.place < y.place → i < j
  place_order i j {x} {y} ax ay cx cy same lower =
      compared i j
      (λ less. less)
      (λ more. absurd (omega (arith, lower, place_rises j i ay ax cy cx (sym same) more)))
      (λ here. absurd (omega (arith, lower, ap (λ (e : Event). e.place) (at_unique ax ay here))))

  -- Pops of one command are of one group.
  issued_group : (k : Kind) (i j : ℕ) {x y : Event} → Issued run.events k i x → Issued run.events k j y →
      rank_of x ≡ rank_of y → x.place ≡ y.place → x.group ≡ y.group
  issued_group k i j {x} {y} ix iy same place =
      let one : ix.j ≡ iy.j =
      command_unique ix.j iy.j ix.at iy.at (transfer_command ix.e.item.kind ix.is_transfer_lem) (transfer_command
      iy.e.item.kind iy.is_transfer_lem)
      (sym ix.pop.rank ∙ same ∙ iy.pop.rank) (sym ix.pop.place ∙ place ∙ iy.pop.place) in
      sym ix.group ∙ ap (λ e. e.group) (at_unique ix.at iy.at one) ∙ iy.group

  -- Two pops of one kind in one group are one.
  pub one_pop : (k : Kind) → is_command_kind k ≡ false → (i j : ℕ) {x y : Event} → At run.events i x → At run.events j y →
      x.item.kind ≡ k → y.item.kind ≡ k → x.group ≡ y.group → i ≡ j
  one_pop k pop i j ax ay kx ky group =
      compared i j
      (λ less. absurd (not_together k pop kx ky (together i j ax ay less group)))
      (λ more. absurd (not_together k pop ky kx (together j i ay ax more (sym group))))
      (λ same. same)

  pop_unique : (k : Kind) → is_command_kind k ≡ false → (i j : ℕ) {x y : Event} → At run.events i x → At run.events j y →
      Issued run.events k i x → Issued run.events k j y → rank_of x ≡ rank_of y → x.place ≡ y.place → i ≡ j
  pop_unique k pop i j ax ay ix iy same place =
      one_pop k pop i j ax ay ix.pop.kind_is iy.pop.kind_is (issued_group k i j ix iy same place)

  -- An identity names one event.
  pub identity_unique : (i j : ℕ) {x y : Event} → At run.events i x → At run.events j y → Identified x y → i ≡ j
  identity_unique i j {x} {y} ax ay same = go (known i x ax) (known j y ay)
    where
      go : Known run.events i x → Known run.events j y → i ≡ j
      go (commanded cx) (commanded cy) = command_unique i j ax ay cx cy same.rank same.place
      go (commanded cx) (fetching iy) = absurd (command≢fetch (sym (command_part (part_of x.item.kind) cx) ∙ same.part ∙
          ap part_of iy.pop.kind_is))
      go (commanded cx) (delivering iy) = absurd (command≢delivery (sym (command_part (part_of x.item.kind) cx) ∙ same.part ∙
          ap part_of iy.pop.kind_is))
      go (fetching ix) (commanded cy) = absurd (command≢fetch (sym (command_part (part_of y.item.kind) cy) ∙ sym same.part ∙
          ap part_of ix.pop.kind_is))
      go (fetching ix) (fetching iy) = pop_unique Popa refl i j ax ay ix iy same.rank same.place
      go (fetching ix) (delivering iy) = absurd (fetch≢delivery (sym (ap part_of ix.pop.kind_is) ∙ same.part ∙ ap part_of iy.pop.kind_is))
      go (delivering ix) (commanded cy) = absurd (command≢delivery (sym (command_part (part_of y.item.kind) cy) ∙ sym same.part ∙
          ap part_of ix.pop.kind_is))
      go (delivering ix) (fetching iy) = absurd (fetch≢delivery (sym (ap part_of iy.pop.kind_is) ∙ sym same.part ∙
          ap part_of ix.pop.kind_is))
      go (delivering ix) (delivering iy) = pop_unique Popb refl i j ax ay ix iy same.rank same.place

  -- Each event's command is in its group.
  pub commander : (i : ℕ) (x : Event) → At run.events i x → Commander run.events x
  commander i x at = go (known i x at)
    where
      issuer : {k : Kind} → Issued run.events k i x → Commander run.events x
      issuer w =
          record {
            j = w.j;
            e = w.e;
            at = w.at;
            is_command_lem = transfer_command w.e.item.kind w.is_transfer_lem;
            rank = sym w.pop.rank;
            place = sym w.pop.place;
            group = w.group;
          }

      go : Known run.events i x → Commander run.events x
      go (commanded c) = record { j = i; e = x; at = at; is_command_lem = c; rank = refl; place = refl; group = refl }
      go (fetching w) = issuer w
      go (delivering w) = issuer w
