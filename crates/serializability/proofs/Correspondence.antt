-- Two runs of one program in which each rank takes the same transitions. Each event of the one has its counterpart in the other, the event of the
-- same identity; and two events are of one group in the one exactly if their counterparts are in the other: a transfer with its pops, or bars with
-- as many bars before them.
use Prim.Native.Nat.{ℕ, ◌<◌}
use mathlib.Core.Path.{◌≡◌, sym, ◌∙◌, ap}
use mathlib.Core.Bool.{true, true≢false}
use mathlib.Core.List.{List}
use lib.Dec.{eqb}
use lib.ListN.{take}
use borrow.Author.Tests.{eqb-true}
use Rattle.model.specs.declared.Item.{Item}
use Rattle.model.specs.declared.Kind.{Kind}
use Rattle.model.specs.declared.Kind.TheVariants.{Bar}
use Rattle.model.specs.Choice.{select}
use Rattle.model.specs.ItemKinds.{is_transfer, part_of}
use Rattle.model.specs.Programs.{Program}
use Rattle.model.specs.Machine.{Start}
use Rattle.model.specs.Replay.{Event, Replayed}
use Rattle.model.specs.HappensBefore.{At, is_command, rank_of}
use Rattle.model.specs.Traces.{transitions_of, Identified, command_of}
use Rattle.model.specs.Lists.{◌∈◌}
use Rattle.model.proofs.Lists.{at_position}
use Rattle.model.proofs.Selections.{select_from, Selected}
use Rattle.model.proofs.ItemKinds.{transfer_command, command_part}
use Rattle.model.proofs.Laws.{and-true, slice_get_mapped}
use Rattle.record_facts.specs.Facts.{Facts, PopOf, count_of}
use Rattle.serializability.proofs.Groups.{kind_command, Together, fetched, delivered, passed_on, met}
use Rattle.serializability.proofs.Identity.{compared, Issued, Known, commanded, fetching, delivering, Completed, Commander, together, known, completed, command_unique, at_unique, commander}
use Rattle.serializability.proofs.CommandKinds.{Twins, twin_command, transition_at, same_bars, same_kinds}

-- The event of this identity in other events.
pub record Counterpart (others : List Event) (x : Event) : Type 0 where
  pub j : ℕ
  pub y : Event
  pub at : At others j y
  pub same : Identified x y

pub counterpart_in : {others : List Event} {x : Event} (c : Counterpart others x) → c.y ∈ others
counterpart_in c = at_position _ c.j c.at

-- An event and its counterpart.
abbrev pub twins : {events others : List Event} (i : ℕ) (x : Event) → At events i x → Counterpart others x → Twins events others
twins i x at c = record { i = i; j = c.j; x = x; y = c.y; first = at; second = c.at; same = c.same }

module _ {P : Program} {start start' : Start} {items items' : List Item} {run run' : Replayed}
    (f : Facts P start items run) (f' : Facts P start' items' run')
    (same : (rank : ℕ) → transitions_of rank run.events ≡ transitions_of rank run'.events) where
  -- A command's is the one with its transition at its place; a pop's, the pop of its command's.
  command_counterpart : (i : ℕ) (x : Event) → At run.events i x → is_command x ≡ true → Counterpart run'.events x
  command_counterpart i x ax cx =
      let r : ℕ = rank_of x in
      let there = slice_get_mapped (λ e. e.item.transition) (select (command_of r) run'.events) x.place
      (rw (same r) at (transition_at f i x ax cx)) in
      let y : Event = there.0 in
      let s : Selected (command_of r) run'.events x.place y = select_from (command_of r) run'.events x.place there.1 in
      let passes = and-true (is_command y) (eqb (rank_of y) r) s.passes in
      let rank : rank_of y ≡ r = eqb-true (rank_of y) r passes.1 in
      record {
        j = s.i;
        y = y;
        at = s.at;
        same =
            record {
              rank = sym rank;
              place =
                  sym
                  (f'.place_of s.i y s.at passes.0 ∙
                  ap (λ q. count_of q (take s.i run'.events)) rank ∙
                  s.before);
              part = command_part (part_of x.item.kind) cx ∙ sym (command_part (part_of y.item.kind) passes.0);
            };
      }

  pop_counterpart : (i : ℕ) (x : Event) {k : Kind} → Issued run.events k i x →
      ((e : Event) → Completed run'.events e → (n : ℕ) × (p : Event) × At run'.events n p × PopOf k e p) →
      Counterpart run'.events x
  pop_counterpart i x {k} w pops =
      let ce : is_command w.e ≡ true = transfer_command w.e.item.kind w.is_transfer_lem in
      let c = command_counterpart w.j w.e w.at ce in
      let kind : w.e.item.kind ≡ c.y.item.kind = same_kinds f f' same (twins w.j w.e w.at c) ce in
      let t : is_transfer c.y.item.kind ≡ true = ap is_transfer (sym kind) ∙ w.is_transfer_lem in
      let p = pops c.y (completed f' c.j c.y c.at t) in
      record {
        j = p.0;
        y = p.1;
        at = p.2;
        same =
            record {
              rank = w.pop.rank ∙ c.same.rank ∙ sym p.3.rank;
              place = w.pop.place ∙ c.same.place ∙ sym p.3.place;
              part = ap part_of (w.pop.kind_is ∙ sym p.3.kind_is);
            };
      }

  -- Each event has its counterpart.
  pub counterpart : (i : ℕ) (x : Event) → At run.events i x → Counterpart run'.events x
  counterpart i x ax = go (known f i x ax)
    where
      go : Known run.events i x → Counterpart run'.events x
      go (commanded c) = command_counterpart i x ax c
      go (fetching w) = pop_counterpart i x w (λ e c. (c.ia, c.a, c.fetch_at, c.fetch_of_lem))
      go (delivering w) = pop_counterpart i x w (λ e c. (c.ib, c.b, c.delivery_at_lem, c.delivery_of_lem))

  -- Bars of one row have counterparts of one row.
  bars_meet : (v w : Twins run.events run'.events) → v.x.item.kind ≡ Bar → w.x.item.kind ≡ Bar → v.x.group ≡ w.x.group →
      v.y.group ≡ w.y.group
  bars_meet v w bv bw group =
      let cv = kind_command v.x bv in
      let cw = kind_command w.x bw in
      f'.bar_group v.j v.y v.second (sym (same_kinds f f' same v cv) ∙ bv) ∙
      ap f'.row_group_lem
      (sym (same_bars f f' same v cv) ∙ f.bar_index v.i w.i v.x w.x v.first w.first bv bw group ∙ same_bars f f' same w cw) ∙
      sym (f'.bar_group w.j w.y w.second (sym (same_kinds f f' same w cw) ∙ bw))

  -- Commands of one group, the one earlier, are bars.
  commands_meet : (v w : Twins run.events run'.events) → is_command v.x ≡ true → is_command w.x ≡ true → v.i < w.i →
      v.x.group ≡ w.x.group → v.y.group ≡ w.y.group
  commands_meet v w cv cw less group = go (together f v.i w.i v.first w.first less group)
    where
      go : Together v.x w.x → v.y.group ≡ w.y.group
      go (fetched t p) = absurd (true≢false (sym cw ∙ kind_command w.x p.kind_is))
      go (delivered t p) = absurd (true≢false (sym cw ∙ kind_command w.x p.kind_is))
      go (passed_on e pa pb) = absurd (true≢false (sym cv ∙ kind_command v.x pa.kind_is))
      go (met bv bw rises) = bars_meet v w bv bw group

  -- Commands of one group are one, or bars of one row.
  command_groups : (v w : Twins run.events run'.events) → is_command v.x ≡ true → is_command w.x ≡ true → v.x.group ≡ w.x.group →
      v.y.group ≡ w.y.group
  command_groups v w cv cw group =
      compared v.i w.i
      (λ less. commands_meet v w cv cw less group)
      (λ more. sym (commands_meet w v cw cv more (sym group)))
      (λ here.
      let one : v.x ≡ w.x = at_unique f v.first w.first here in
      let there : v.j ≡ w.j =
      command_unique f' v.j w.j v.second w.second (twin_command v cv) (twin_command w cw)
      (sym v.same.rank ∙ ap rank_of one ∙ w.same.rank) (sym v.same.place ∙ ap (λ z. z.place) one ∙ w.same.place) in
      ap (λ z. z.group) (at_unique f' v.second w.second there))

  -- The commands of two events of one identity.
  abbrev commanders : (w : Twins run.events run'.events) → (c : Commander run.events w.x) → Commander run'.events w.y →
      Twins run.events run'.events
  commanders w c d =
      record {
        i = c.j;
        j = d.j;
        x = c.e;
        y = d.e;
        first = c.at;
        second = d.at;
        same =
            record {
              rank = c.rank ∙ w.same.rank ∙ sym d.rank;
              place = c.place ∙ w.same.place ∙ sym d.place;
              part = command_part (part_of c.e.item.kind) c.is_command_lem ∙ sym (command_part (part_of d.e.item.kind) d.is_command_lem);
            };
      }

  -- Events of one group have counterparts of one group.
  pub same_groups : (v w : Twins run.events run'.events) → v.x.group ≡ w.x.group → v.y.group ≡ w.y.group
  same_groups v w group =
      let c = commander f v.i v.x v.first in
      let d = commander f' v.j v.y v.second in
      let c' = commander f w.i w.x w.first in
      let d' = commander f' w.j w.y w.second in
      sym d.group ∙
      command_groups (commanders v c d) (commanders w c' d') c.is_command_lem c'.is_command_lem (c.group ∙ group ∙ sym c'.group) ∙
      d'.group
