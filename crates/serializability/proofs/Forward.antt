-- An order of the groups along the dependences is a serial run. Arranged in that order the record's events have the record's projections; so every
-- command stands at its turn, every read finds the write that it found in the record, and the simulation replays them. Trace, values and last
-- contents are then the record's.
use Rattle.std.specs.Prelude.{Some, slice_get}
use Prim.Native.Nat.{ℕ, suc, ◌<◌}
use mathlib.Core.Path.{◌≡◌, refl, sym, ◌∙◌, ap, subst, fun_ext}
use mathlib.Core.Bool.{Bool, true}
use mathlib.Core.List.{List, [], ◌∷◌, map}
use mathlib.Core.Logic.{◌↔◌}
use native.Mathlib.Omega.{arith}
use lib.Dec.{eqb}
use lib.ListN.{length}
use borrow.Author.Tests.{eq-eqb}
use Rattle.model.specs.declared.Item.{Item}
use Rattle.model.specs.Refusals.{Ok, ◌>>=◌}
use Rattle.model.specs.Choice.{numbers_from, select, Each, all, one}
use Rattle.model.specs.Programs.{Program}
use Rattle.model.specs.Machine.{State, Start, initial, address}
use Rattle.model.specs.Replay.{Event, Origin, Replayed, begin, every, quiet, at_end, replay}
use Rattle.model.specs.HappensBefore.{At, conflict}
use Rattle.model.specs.Traces.{transitions_of, Identified, cell_of, value_at, SameTrace, SameValues, InRecord, SerialRun}
use Rattle.model.specs.Checks.{order_items, arranged}
use Rattle.model.specs.Lists.{Precedes, ◌∈◌}
use Rattle.model.proofs.Lists.{position, at_position}
use Rattle.model.proofs.Laws.{slice_get_map, each_at}
use Rattle.record_facts.specs.Facts.{Facts, count_of, cells_after}
use Rattle.serializability.specs.Orders.{Forward}
use Rattle.serializability.specs.Claim.{Serialization}
use Rattle.serializability.proofs.Arrangement.{arranged_member}
use Rattle.serializability.proofs.Projections.{touches_own, Projected, projected_sym, arranged_projected, same_transitions, same_place, same_contents, same_end, same_order}
use Rattle.serializability.proofs.Identity.{identified_sym, identified_trans, identity_unique, at_unique}
use Rattle.serializability.proofs.Correspondence.{counterpart, counterpart_in}
use Rattle.serializability.proofs.Alike.{Alike, alike_at, alike_from, alike_transitions, alike_identity}
use Rattle.serializability.proofs.Standing.{no_requests, no_deliveries, standing, replay_equal}
use Rattle.serializability.proofs.Simulation.{Schedule, Grouped, no_group, one_group, Simulated, simulate}

-- Where nothing waits, the end is reached.
every_true : (test : ℕ → Bool) (ns : List ℕ) → ((n : ℕ) → test n ≡ true) → every test ns ≡ true
unfolding every
every_true test [] h = refl
every_true test (n ∷ ns) h = rw (h n, every) (every_true test ns h)

quiet_standing : (P : Program) (s : State Origin) → s.requests ≡ no_requests → s.deliveries ≡ no_deliveries → quiet P s ≡ true
unfolding quiet
quiet_standing P s requests deliveries =
    rw (requests, deliveries)
    (every_true _ (numbers_from 1 P.header.ranks) (λ r. every_true _ (numbers_from 0 P.header.queues) (λ q. refl)))

module _ {P : Program} {start : Start} {items : List Item} {run : Replayed} (f : Facts P start items run) {groups : List ℕ}
    (w : Forward run.events run.last.opened groups) where
  -- The record's events in the order's order: what each rank does, and what happens at each cell, is as in the record.
  abbrev serialized : List Event
  serialized = arranged groups run.events

  projected : Projected serialized run.events
  projected = arranged_projected run.events w f.group_bound

  from_record : (i : ℕ) (e : Event) → At serialized i e → (j : ℕ) × At run.events j e
  from_record = arranged_member groups run.events

  -- So each stands at its turn, group by group.
  schedule : Schedule P start f.local serialized
  schedule =
      record {
        agrees = λ i e at. let m = from_record i e at in f.agrees m.0 e m.1;
        steps = λ i e at c. let m = from_record i e at in f.local_step m.0 e m.1 c;
        places = λ i e at c. let m = same_place projected i e at c in f.place_of m.0 e m.1 c ∙ m.2;
        reads =
            λ i e a at is reads.
            let m = same_contents projected start a.address i e at (touches_own e a is) in
            f.reads m.0 e a m.1 is reads ∙ m.2;
      }

  grouped : (gs : List ℕ) → ((i g : ℕ) → slice_get gs i ≡ Some g → g < run.last.opened) → Grouped P f.local (arranged gs run.events)
  unfolding arranged
  grouped [] bounded = no_group
  grouped (g ∷ gs) bounded =
      one_group (f.shape g (bounded 0 g refl)) (grouped gs (λ i. bounded (suc i)))

  -- The replay begins where no event stands.
  begins : begin start ≡ standing start f.local [] 0 0 no_requests no_deliveries
  unfolding begin initial select cells_after
  begins =
      replay_equal
      (fun_ext (λ rank. ap (λ l. l.control) (sym (f.local_start rank))))
      (fun_ext (λ rank. ap (λ l. l.registers) (sym (f.local_start rank))))
      refl refl refl refl refl refl

  -- They are replayed from the start, and end as a record may.
  simulated : Simulated P start f.local serialized (begin start) 0 serialized
  simulated =
      subst (λ s. Simulated P start f.local serialized s 0 serialized) (sym begins)
      (simulate P start f.local serialized schedule (grouped groups w.bounded) [] 0 0 refl)

  -- The run of the order's items.
  pub serial_run : Replayed
  serial_run = simulated.run

  finished : (count : ℕ) → at_end P count serial_run ≡ Ok serial_run
  unfolding at_end serial_run
  finished count =
      let closed : eqb serial_run.last.row 0 ≡ true = eq-eqb serial_run.last.row 0 (ap (λ s. s.row) simulated.ends) in
      let requests : serial_run.last.machine.requests ≡ no_requests = ap (λ s. s.machine.requests) simulated.ends in
      let deliveries : serial_run.last.machine.deliveries ≡ no_deliveries = ap (λ s. s.machine.deliveries) simulated.ends in
      let silent : quiet P serial_run.last.machine ≡ true = quiet_standing P serial_run.last.machine requests deliveries in
      rw closed (rw silent refl)

  pub serial_replayed : replay P start (order_items groups run.events) ≡ Ok serial_run
  unfolding replay serial_run
  serial_replayed =
      ap (λ m. m >>= at_end P (length (order_items groups run.events)))
      simulated.takes ∙
      finished (length (order_items groups run.events))

  -- The order's items are the record's.
  all_in_record : Each (InRecord P.header) items → (events : List Event) → ((i : ℕ) (e : Event) → At events i e → (j : ℕ) × At run.events j e) →
      Each (InRecord P.header) (map (λ e. e.item) events)
  all_in_record each [] member = all
  all_in_record each (e ∷ events) member =
      let m = member 0 e refl in
      one (each_at items each m.0 (rw f.items_of at (slice_get_map (λ x. x.item) run.events m.0 m.1)))
      (all_in_record each events (λ i. member (suc i)))

  pub is_serial : Each (InRecord P.header) items → SerialRun P start (order_items groups run.events) serial_run
  unfolding serial_run
  is_serial each =
      record {
        in_record = all_in_record each serialized from_record;
        replayed = serial_replayed;
        together = simulated.together;
      }

  -- The event of the record that a serial event stands for, at the same place of the arrangement.
  record Original (n : ℕ) (x y : Event) : Type 0 where
    at : At serialized n x
    alike : Alike x y

  original : (x y : Event) (i n : ℕ) → At run.events i x → At serial_run.events n y → Identified x y → Original n x y
  unfolding serial_run
  original x y i n ax ay same =
      let z = alike_from simulated.alike n y ay in
      let m = from_record n z.0 z.1 in
      let id : Identified z.0 x = identified_trans (alike_identity z.2) (identified_sym same) in
      let one : z.0 ≡ x = at_unique f m.1 ax (identity_unique f m.0 i m.1 ax id) in
      record { at = subst (At serialized n) one z.1; alike = subst (λ e. Alike e y) one z.2 }

  original_in : (x y : Event) → x ∈ run.events → (my : y ∈ serial_run.events) → Identified x y → Original (position my).0 x y
  original_in x y mx my same = original x y (position mx).0 (position my).0 (position mx).1 (position my).1 same

  -- The trace: each rank's transitions, the cells, and the order of conflicts.
  serial_transitions : (rank : ℕ) → transitions_of rank run.events ≡ transitions_of rank serial_run.events
  unfolding serial_run
  serial_transitions rank = sym (same_transitions projected rank) ∙ alike_transitions simulated.alike rank

  -- A conflict keeps its order: the record's order is the arrangement's, and that, place by place, the serial run's.
  module _ (f' : Facts P start (order_items groups run.events) serial_run) where
    placed_at : (x y : Event) (n m : ℕ) → At serial_run.events n y → At serialized m x → Identified x y → m ≡ n
    unfolding serial_run
    placed_at x y n m ay ax same =
        let z = alike_at simulated.alike m x ax in
        identity_unique f' m n z.1 ay (identified_trans (identified_sym (alike_identity z.2)) same)

    conflicts_kept : (x x' y y' : Event) → x ∈ run.events → x' ∈ run.events → y ∈ serial_run.events → y' ∈ serial_run.events →
        Identified x y → Identified x' y' → conflict x.access x'.access ≡ true →
        (Precedes run.events x x' ↔ Precedes serial_run.events y y')
    conflicts_kept x x' y y' mx mx' my my' id id' c =
        let (i, ax) = position mx in
        let (i', ax') = position mx' in
        let (n, ay) = position my in
        let (n', ay') = position my' in (
          (λ p.
              let q = same_order (projected_sym projected) x x' c p in
              let at_n = placed_at x y n q.i ay q.first id in
              let at_n' = placed_at x' y' n' q.j ay' q.second id' in
              record { i = n; j = n'; first = ay; second = ay'; before = omega (arith, q.before, at_n, at_n') }),
          (λ p.
              let o = original x y i p.i ax p.first id in
              let o' = original x' y' i' p.j ax' p.second id' in
              same_order projected x x' c (record { i = p.i; j = p.j; first = o.at; second = o'.at; before = p.before })),
        )

    pub same_trace : SameTrace run.events serial_run.events
    same_trace =
        record {
          transitions = serial_transitions;
          cells = λ x y mx my same.
              let o = original_in x y mx my same in
              cell_alike x y o.alike.access;
          order = conflicts_kept;
        }
      where
        cell_alike : (x y : Event) → x.access ≡ y.access → cell_of x ≡ cell_of y
        cell_alike x y h = rw (h, cell_of)

  pub same_values : SameValues run.events serial_run.events
  same_values x y mx my same = let o = original_in x y mx my same in value_alike x y o.alike.access
    where
      value_alike : (u v : Event) → u.access ≡ v.access → value_at u ≡ value_at v
      value_alike u v h = rw (h, value_at)

  -- The last contents.
  pub same_cells : (rank cell : ℕ) → run.last.machine.cells rank cell ≡ serial_run.last.machine.cells rank cell
  unfolding serial_run
  same_cells rank cell =
      f.cells_end rank cell ∙ sym (same_end projected start (address rank cell)) ∙ ap (λ s. s.machine.cells rank cell) (sym simulated.ends)

  same_count : (rank : ℕ) → count_of rank run.events ≡ count_of rank serialized
  same_count rank = sym (ap length (projected.commands rank))

  pub same_registers : (rank index : ℕ) → run.last.machine.registers rank index ≡ serial_run.last.machine.registers rank index
  unfolding serial_run
  same_registers rank index =
      ap (λ r. r index) (f.registers_end rank) ∙
      ap (λ n. (f.local rank n).registers index) (same_count rank) ∙
      ap (λ s. s.machine.registers rank index) (sym simulated.ends)

  pub same_control : (rank : ℕ) → run.last.machine.control rank ≡ serial_run.last.machine.control rank
  unfolding serial_run
  same_control rank =
      f.control_end rank ∙ ap (λ n. (f.local rank n).control) (same_count rank) ∙ ap (λ s. s.machine.control rank) (sym simulated.ends)

  -- Each event has its counterpart, both ways.
  has_counterpart : Facts P start (order_items groups run.events) serial_run → (x : Event) → x ∈ run.events →
      (y : Event) × (y ∈ serial_run.events) × Identified x y
  has_counterpart f' x mx =
      let (i, ax) = position mx in
      let c = counterpart f f' serial_transitions i x ax in
      (c.y, counterpart_in c, c.same)

  has_original : (y : Event) → y ∈ serial_run.events → (x : Event) × (x ∈ run.events) × Identified x y
  unfolding serial_run
  has_original y my =
      let (n, ay) = position my in
      let z = alike_from simulated.alike n y ay in
      let m = from_record n z.0 z.1 in
      (z.0, at_position run.events m.0 m.1, alike_identity z.2)

  -- The order's items are a serialization of the record.
  pub forward : Each (InRecord P.header) items → Facts P start (order_items groups run.events) serial_run →
      Serialization P start run (order_items groups run.events) serial_run
  forward each f' =
      record {
        serial = is_serial each;
        trace = same_trace f';
        values = same_values;
        counterpart = has_counterpart f';
        original = has_original;
        cells = same_cells;
        registers = same_registers;
        control = same_control;
      }
