-- Events that come in blocks, each a group's, in which every command stands at its turn and every read finds what was last written, are what a
-- serial run makes of their items. The replay goes block by block: before each no row is open, all queues are empty, and the state is what the
-- events so far tell.
use Rattle.model.specs.declared.Action.TheVariants.{Issues}
use Rattle.std.specs.Prelude.{Some, slice_get}
use Prim.Native.Nat.{ℕ, zero, suc, ◌+◌}
use mathlib.Core.Path.{◌≡◌, refl, sym, ◌∙◌, ap, ap₂, subst, subst⁻¹}
use mathlib.Core.Bool.{true, false, ◌&&◌}
use mathlib.Core.List.{List, [], ◌∷◌, ◌++◌, map, head-eq_of_cons-eq, tail-eq_of_cons-eq, nil≢cons, cons≢nil, append-nil}
use native.Mathlib.Nat.{zero-add}
use native.Mathlib.Omega.{arith}
use lib.Dec.{eqb}
use lib.ListN.{length, take}
use lib.Seq.{append_snoc, take-append_seam}
use borrow.Author.Tests.{eq-eqb}
use Rattle.model.specs.declared.Address.{Address}
use Rattle.model.specs.declared.Item.{Item}
use Rattle.model.specs.declared.Kind.{Kind}
use Rattle.model.specs.declared.Kind.TheVariants.{Popa, Popb, Bar}
use Rattle.model.specs.Refusals.{Ok, ◌>>=◌}
use Rattle.model.specs.Choice.{when, numbers_from, Each, all, one}
use Rattle.model.specs.ItemKinds.{kind_number, same_kind, is_bar, is_transfer}
use Rattle.model.specs.Programs.{Program, Transition, kind_of}
use Rattle.model.specs.Machine.{Start, Access, action}
use Rattle.model.specs.Replay.{Event, Origin, Replay, Replayed, Taken, row_allows, row_after, group_of, opened_after, agrees_with, take_item, take_items}
use Rattle.model.specs.HappensBefore.{At, is_command, rank_of}
use Rattle.model.specs.Traces.{is_pop, followed_at_once, transfers_together}
use Rattle.model.proofs.Selections.{split_at}
use Rattle.model.proofs.ItemKinds.{transfer_no_bar, transfer_command}
use Rattle.model.proofs.Laws.{true_and, ok_injective}
use Rattle.model.proofs.Actions.{action_asks}
use Rattle.record_facts.specs.Facts.{Local, CommandStep, PopOf, TransferOf, Shape, single, transfer, row, count_of, cells_after}
use Rattle.serializability.proofs.Groups.{kind_command}
use Rattle.serializability.proofs.Alike.{Alike, AllAlike, none_alike, more_alike, TakenAs, taken_to}
use Rattle.serializability.proofs.Rows.{allowed_outside, stays_outside, row_with, row_none, row_open, row_full, row_allows_lem, row_enters}
use Rattle.serializability.proofs.Standing.{no_requests, no_deliveries, standing}
use Rattle.serializability.proofs.TakenCommand.{command_taken, requests_after, asks_nothing}
use Rattle.serializability.proofs.TakenPop.{only, fetch_taken, delivery_taken}

-- Each event in its turn.
pub record Schedule (P : Program) (start : Start) (local : ℕ → ℕ → Local) (events : List Event) : Type 0 where
  pub agrees : (i : ℕ) (e : Event) → At events i e → agrees_with e.item e.access ≡ true
  pub steps : (i : ℕ) (e : Event) → At events i e → is_command e ≡ true →
      CommandStep P (local (rank_of e) e.place) e (local (rank_of e) (suc e.place))
  pub places : (i : ℕ) (e : Event) → At events i e → is_command e ≡ true → e.place ≡ count_of (rank_of e) (take i events)
  pub reads : (i : ℕ) (e : Event) (a : Access) → At events i e → e.access ≡ Some a → a.writes ≡ false →
      a.value ≡ cells_after start (take i events) a.address.rank a.address.cell

-- Groups one behind another.
pub data Grouped (P : Program) (local : ℕ → ℕ → Local) : List Event → Type 0 where
  no_group : Grouped P local []
  one_group : {group rest : List Event} → Shape P local group → Grouped P local rest → Grouped P local (group ++ rest)

-- What a transfer's command asks for.
abbrev Issuing : Program → (ℕ → ℕ → Local) → Event → (remote : ℕ) → (source destination : Address) → Type 0
Issuing P local e remote source destination =
    (at : ℕ) (t : Transition) → slice_get P.transitions e.item.transition ≡ Some t →
    action P (rank_of e) (local (rank_of e) e.place).registers at t.command ≡ Ok (Issues e.queue remote source destination)

-- The items, and one item taken before others.
abbrev items_of : List Event → List Item
items_of = map (λ e. e.item)

take_cons : (P : Program) (s : Replay) (at : ℕ) (i : Item) (items : List Item) (t : Taken) (r : Replayed) → take_item P s at i ≡ Ok t →
    take_items P t.state (at + 1) items ≡ Ok r → take_items P s at (i ∷ items) ≡ Ok (record { last = r.last; events = t.event ∷ r.events })
unfolding take_items
take_cons P s at i items t r first later =
    ap
    (λ m. m >>= λ taken. take_items P taken.state (at + 1) items >>= λ rest. Ok
    (record { last = rest.last; events = taken.event ∷ rest.events }))
    first ∙
    ap (λ m. m >>= λ rest. Ok (record { last = rest.last; events = t.event ∷ rest.events })) later

-- The event of a pop is a pop of the event of its transfer.
pop_alike : (k : Kind) {e e' p p' : Event} → PopOf k e p → Alike e e' → Alike p p' → is_pop k e' p' ≡ true
pop_alike k {e} {e'} {p} {p'} pop ae ap' =
    true_and (same_kind p'.item.kind k && eqb (rank_of p') (rank_of e')) (eqb p'.queue e'.queue)
    (true_and (same_kind p'.item.kind k) (eqb (rank_of p') (rank_of e'))
    (eq-eqb (kind_number p'.item.kind) (kind_number k) (ap (λ i. kind_number i.kind) (sym ap'.item) ∙ ap kind_number pop.kind_is))
    (eq-eqb (rank_of p') (rank_of e') (ap (λ i. i.rank) (sym ap'.item) ∙ pop.rank ∙ ap (λ i. i.rank) ae.item)))
    (eq-eqb p'.queue e'.queue (sym ap'.queue ∙ pop.queue ∙ ae.queue))

module _ (P : Program) (start : Start) (local : ℕ → ℕ → Local) (whole : List Event) where
  -- The state after these events where no queue has an entry.
  abbrev pub idle : (done : List Event) (opened row : ℕ) → Replay
  idle done opened entered = standing start local done opened entered no_requests no_deliveries

  -- The rest of the events taken from a state, up to the state that all of them tell.
  pub record Simulated (s : Replay) (at : ℕ) (rest : List Event) : Type 0 where
    pub run : Replayed
    pub takes : take_items P s at (items_of rest) ≡ Ok run
    pub alike : AllAlike rest run.events
    pub together : transfers_together run.events ≡ true
    pub opened : ℕ
    pub ends : run.last ≡ idle whole opened 0

  -- The rest is taken wherever it is what is left.
  abbrev Continues : List Event → Type 0
  Continues rest = (done : List Event) (opened at : ℕ) → whole ≡ done ++ rest → Simulated (idle done opened 0) at rest

  -- One more event before the rest, if it is no transfer's.
  alone : {s t : Replay} {at : ℕ} (e : Event) (rest : List Event) → is_transfer e.item.kind ≡ false → TakenAs P s at e t →
      Simulated t (at + 1) rest → Simulated s at (e ∷ rest)
  unfolding transfers_together
  alone {s} {t} {at} e rest kind taken later =
      let kind' : is_transfer taken.event.item.kind ≡ false = ap (λ i. is_transfer i.kind) (sym taken.alike.item) ∙ kind in
      record {
        run = record { last = later.run.last; events = taken.event ∷ later.run.events };
        takes = take_cons P s at e.item (items_of rest) (record { state = t; event = taken.event }) later.run taken.takes later.takes;
        alike = more_alike taken.alike later.alike;
        together = rw (kind', when) later.together;
        opened = later.opened;
        ends = later.ends;
      }

  -- A transfer's three before the rest: it goes before what its pops go before.
  three : {s t u v : Replay} {at : ℕ} (e a b : Event) (rest : List Event) → is_transfer e.item.kind ≡ true → PopOf Popa e a → PopOf Popb e b →
      TakenAs P s at e t → TakenAs P t (at + 1) a u → TakenAs P u (at + 1 + 1) b v → Simulated v (at + 1 + 1 + 1) rest →
      Simulated s at (e ∷ a ∷ b ∷ rest)
  unfolding transfers_together followed_at_once alone
  three {s} {t} {u} {v} {at} e a b rest kind pa pb te ta tb later =
      let pops : Simulated t (at + 1) (a ∷ b ∷ rest) =
      alone a (b ∷ rest) (ap is_transfer pa.kind_is) ta (alone b rest (ap is_transfer pb.kind_is) tb later) in
      let kind' : is_transfer te.event.item.kind ≡ true = ap (λ i. is_transfer i.kind) (sym te.alike.item) ∙ kind in
      let own : (is_pop Popa te.event ta.event && is_pop Popb te.event tb.event) ≡ true =
      true_and (is_pop Popa te.event ta.event) (is_pop Popb te.event tb.event) (pop_alike Popa pa te.alike ta.alike)
      (pop_alike Popb pb te.alike tb.alike) in
      record {
        run = record { last = later.run.last; events = te.event ∷ pops.run.events };
        takes =
            take_cons P s at e.item (a.item ∷ b.item ∷ items_of rest) (record { state = t; event = te.event }) pops.run te.takes
            pops.takes;
        alike = more_alike te.alike pops.alike;
        together =
            rw (kind', when)
            (true_and (is_pop Popa te.event ta.event && is_pop Popb te.event tb.event) (transfers_together pops.run.events) own
            pops.together);
        opened = later.opened;
        ends = later.ends;
      }

  module _ (schedule : Schedule P start local whole) where
    -- The event that comes next, and its facts.
    module _ (done : List Event) (e : Event) (rest : List Event) (split : whole ≡ done ++ e ∷ rest) where
      here : At whole (length done) e
      here = ap (λ l. slice_get l (length done)) split ∙ split_at done e rest

      before : take (length done) whole ≡ done
      before = ap (take (length done)) split ∙ take-append_seam done (e ∷ rest)

      next : whole ≡ (done ++ e ∷ []) ++ rest
      next = split ∙ sym (append_snoc done e rest)

      agreed : agrees_with e.item e.access ≡ true
      agreed = schedule.agrees (length done) e here

      finds : (a : Access) → e.access ≡ Some a → a.writes ≡ false → a.value ≡ cells_after start done a.address.rank a.address.cell
      finds a is reads =
          schedule.reads (length done) e a here is reads ∙ ap (λ l. cells_after start l a.address.rank a.address.cell) before

      turn : is_command e ≡ true → e.place ≡ count_of (rank_of e) done
      turn c = schedule.places (length done) e here c ∙ ap (count_of (rank_of e)) before

      stepped : is_command e ≡ true → CommandStep P (local (rank_of e) e.place) e (local (rank_of e) (suc e.place))
      stepped c = schedule.steps (length done) e here c

      -- Who asks, where so many groups are open.
      abbrev asking : (opened : ℕ) → Origin
      asking opened = record { place = count_of (rank_of e) done; group = group_of opened e.item }

      command_next : (c : is_command e ≡ true) (opened entered at : ℕ) → row_allows entered e.item ≡ true →
          TakenAs P (idle done opened entered) at e
          (standing start local (done ++ e ∷ []) (opened_after opened e.item) (row_after P.header.ranks entered e.item)
          (requests_after (rank_of e) (asking opened) (stepped c).act no_requests) no_deliveries)
      command_next c opened entered at allowed =
          command_taken start local done opened entered no_requests no_deliveries e c (stepped c) (turn c) finds at allowed agreed

      -- A command that is no transfer leaves the queues empty.
      silent : is_command e ≡ true → is_transfer e.item.kind ≡ false → (opened entered after at : ℕ) → row_allows entered e.item ≡ true →
          row_after P.header.ranks entered e.item ≡ after →
          TakenAs P (idle done opened entered) at e (idle (done ++ e ∷ []) (opened_after opened e.item) after)
      silent c t opened entered after at allowed closes =
          let step = stepped c in
          let kind : kind_of step.transition.command ≡ e.item.kind = step.kind in
          taken_to (command_next c opened entered at allowed)
          (ap₂ (λ k q. standing start local (done ++ e ∷ []) (opened_after opened e.item) k q no_deliveries) closes
          (asks_nothing (ap is_transfer kind ∙ t)
          (action_asks P (rank_of e) (local (rank_of e) e.place).registers 0 step.transition.command (step.acts 0))
          (asking opened) no_requests))

      -- A transfer's command leaves its request, alone in the queues.
      issued : (remote : ℕ) (source destination : Address) → is_transfer e.item.kind ≡ true → Issuing P local e remote source destination →
          (opened at : ℕ) →
          TakenAs P (idle done opened 0) at e
          (standing start local (done ++ e ∷ []) (opened_after opened e.item) 0
          (only (rank_of e) e.queue (record { remote = remote; source = source; destination = destination; mark = asking opened })) no_deliveries)
      unfolding requests_after
      issued remote source destination t acts opened at =
          let c : is_command e ≡ true = transfer_command e.item.kind t in
          let no_bar : is_bar e.item.kind ≡ false = transfer_no_bar e.item.kind t in
          let step = stepped c in
          let asks : step.act ≡ Issues e.queue remote source destination =
          ok_injective (sym (step.acts 0) ∙ acts 0 step.transition step.taken) in
          taken_to (command_next c opened 0 at (allowed_outside e.item no_bar))
          (ap₂ (λ k act. standing start local (done ++ e ∷ []) (opened_after opened e.item) k (requests_after (rank_of e)
          (asking opened) act no_requests) no_deliveries)
          (stays_outside P.header.ranks e.item no_bar) asks)

    -- A transfer, its fetch and its delivery, and what comes after them.
    transferred : (done : List Event) (e a b : Event) (rest : List Event) → whole ≡ done ++ e ∷ a ∷ b ∷ rest →
        TransferOf P local e a b → (opened at : ℕ) → Continues rest → Simulated (idle done opened 0) at (e ∷ a ∷ b ∷ rest)
    transferred done e a b rest split x opened at after =
        let t = x.is_transfer_lem in
        let pa = x.fetch_of_lem in
        let pb = x.delivery_of_lem in
        let opened' : ℕ = opened_after opened e.item in
        let place : e.place ≡ count_of (rank_of e) done = turn done e (a ∷ b ∷ rest) split (transfer_command e.item.kind t) in
        let split_a : whole ≡ (done ++ e ∷ []) ++ a ∷ b ∷ rest = next done e (a ∷ b ∷ rest) split in
        let split_b : whole ≡ ((done ++ e ∷ []) ++ a ∷ []) ++ b ∷ rest = next (done ++ e ∷ []) a (b ∷ rest) split_a in
        let found = finds (done ++ e ∷ []) a (b ∷ rest) split_a (record { writes = false; address = x.source; value = x.value }) x.reads refl in
        three e a b rest t pa pb (issued done e (a ∷ b ∷ rest) split x.remote x.source x.destination t x.acts opened at)
        (fetch_taken P start local (done ++ e ∷ []) opened' (at + 1) e a x.remote x.destination x.value
        (asking done e (a ∷ b ∷ rest) split opened) x.fetch_for (pa.place ∙ place) (agreed (done ++ e ∷ []) a (b ∷ rest) split_a) pa
        x.source x.reads found)
        (delivery_taken P start local ((done ++ e ∷ []) ++ a ∷ []) opened' (at + 1 + 1) e b x.remote x.destination x.value
        (asking done e (a ∷ b ∷ rest) split opened) x.delivery_for_lem (pb.place ∙ place)
        (agreed ((done ++ e ∷ []) ++ a ∷ []) b rest split_b) pb x.writes)
        (after (((done ++ e ∷ []) ++ a ∷ []) ++ b ∷ []) opened' (at + 1 + 1 + 1) (next ((done ++ e ∷ []) ++ a ∷ []) b rest split_b))

    -- The bars that a row still lacks, and what comes after it.
    row_from : (bars : List Event) → Each (λ e. e.item.kind ≡ Bar) bars → (first m : ℕ) → map rank_of bars ≡ numbers_from first m →
        (entered : ℕ) → first ≡ suc entered → entered + m ≡ P.header.ranks → (rest : List Event) → Continues rest →
        (done : List Event) → whole ≡ done ++ (bars ++ rest) → (opened at : ℕ) →
        Simulated (idle done opened (row_with P.header.ranks entered)) at (bars ++ rest)
    unfolding numbers_from
    row_from bars all first zero ranks entered is adds rest after done split opened at =
        subst⁻¹ (λ k. Simulated (idle done opened k) at rest) (row_full P.header.ranks entered (omega (arith, adds))) (after done opened at split)
    row_from bars all first (suc m) ranks entered is adds rest after done split opened at = absurd (nil≢cons ranks)
    row_from bars (one kind kinds) first zero ranks entered is adds rest after done split opened at = absurd (cons≢nil ranks)
    row_from bars (one {a} {rest = others} kind kinds) first (suc m) ranks entered is adds rest after done split opened at =
        let rank : rank_of a ≡ suc entered = head-eq_of_cons-eq ranks ∙ is in
        let row' : ℕ = row_with P.header.ranks (suc entered) in
        subst⁻¹ (λ k. Simulated (idle done opened k) at (a ∷ (others ++ rest))) (row_open P.header.ranks entered (omega (arith, adds)))
        (alone a (others ++ rest) (ap is_transfer kind)
        (silent done a (others ++ rest) split (kind_command a kind) (ap is_transfer kind) opened entered row' at
        (row_allows_lem a.item entered kind rank) (row_enters P.header.ranks a.item entered entered kind rank))
        (row_from others kinds (first + 1) m (tail-eq_of_cons-eq ranks) (suc entered) (omega (arith, is)) (omega (arith, adds)) rest after
        (done ++ a ∷ []) (next done a (others ++ rest) split) (opened_after opened a.item) (at + 1)))

    -- Group after group.
    pub simulate : {rest : List Event} → Grouped P local rest → Continues rest
    unfolding take_items transfers_together
    simulate no_group done opened at split =
        record {
          run = record { last = idle done opened 0; events = [] };
          takes = refl;
          alike = none_alike;
          together = refl;
          opened = opened;
          ends = ap (λ l. idle l opened 0) (sym (split ∙ append-nil done));
        }
    simulate (one_group {rest = rest} (single e c t b) groups) done opened at split =
        alone e rest t
        (silent done e rest split c t opened 0 0 at (allowed_outside e.item b) (stays_outside P.header.ranks e.item b))
        (simulate groups (done ++ e ∷ []) (opened_after opened e.item) (at + 1) (next done e rest split))
    simulate (one_group {rest = rest} (transfer e a b whole_transfer) groups) done opened at split =
        transferred done e a b rest split whole_transfer opened at
        (λ done' opened' at' split'. simulate groups done' opened' at' split')
    simulate (one_group {rest = rest} (row bars kinds ranks) groups) done opened at split =
        subst (λ k. Simulated (idle done opened k) at (bars ++ rest)) (row_none P.header.ranks)
        (row_from bars kinds 1 P.header.ranks ranks 0 refl (zero-add P.header.ranks) rest
        (λ done' opened' at' split'. simulate groups done' opened' at' split') done split opened at)
