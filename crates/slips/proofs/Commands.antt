-- How many command items each rank of an accepted record has: the replay's count is the number of the rank's commands among the events, it is 0 for a
-- rank above N, and the trail tells it.
use Prim.Native.Nat.{ℕ, suc, ◌+◌, ◌≤◌, ◌<◌}
use mathlib.Core.Path.{◌≡◌, refl, sym, ap, ◌∙◌}
use mathlib.Core.Bool.{Bool, true, false, ◌&&◌}
use mathlib.Core.List.{List, [], ◌∷◌, map}
use native.Mathlib.Nat.{add-zero, zero-add, min-eq_left}
use native.Mathlib.Omega.{arith}
use lib.Dec.{eqb}
use lib.ListN.{length, get_or}
use borrow.Author.Tests.{eqb-true, eqb-false, eq-eqb, ne_eqb}
use Rattle.model.specs.declared.Item.{Item}
use Rattle.model.specs.Limits.{max_ranks, max_items}
use Rattle.model.specs.Refusals.{Ok, barrier_row, queues_left}
use Rattle.model.specs.Choice.{select, numbers_from}
use Rattle.model.specs.Programs.{Program}
use Rattle.model.specs.Machine.{Start, put}
use Rattle.model.specs.Replay.{Event, Replay, Taken, Replayed, begin, take_item, take_items, quiet, at_end, replay}
use Rattle.model.specs.HappensBefore.{is_command, rank_of}
use Rattle.model.specs.Traces.{command_of}
use Rattle.model.specs.Checks.{Accepted, accept}
use Rattle.model.proofs.Laws.{decided, bind_ok, required, ok_injective}
use Rattle.model.proofs.Accepted.{accepted_parts}
use Rattle.model.proofs.Selections.{select_none}
use Rattle.model.proofs.Replay.{ItemTaken, commands, fetches, delivers, item_taken}
use Rattle.record_facts.specs.Facts.{count_of}
use Rattle.record_facts.proofs.Bounds.{accepted_bounds}
use Rattle.memory.specs.Tables.{zeros}
use Rattle.memory.specs.Made.{by_rank}
use Rattle.memory.proofs.Filled.{list_of}
use Rattle.graph.proofs.Edges.{filled_at, read_each}
use Rattle.trails.specs.Trails.{command_rank, row_of_event, trail_of, trail_size}
use Rattle.marked.proofs.Numbers.{selected_few}
use Rattle.rank_counts.specs.Tallies.{rank_told, ranks_told, times_in, tallied}
use Rattle.rank_counts.proofs.Tallies.{tally_length, tally_at}

-- One item: a command counts for its rank, and a pop for none.
module _ (rank : ℕ) where
  abbrev one : Event → ℕ
  one e = count_of rank (e ∷ [])

  first_counted : (e : Event) (events : List Event) → count_of rank (e ∷ events) ≡ one e + count_of rank events
  unfolding select
  first_counted e events =
      decided (command_of rank e)
      (λ t. rw t (omega arith))
      (λ t. rw t (omega arith))

  item_counted : {P : Program} {s : Replay} {i : Item} {t : Taken} → ItemTaken P s i t → t.state.taken rank ≡ s.taken rank + one t.event
  unfolding select put
  item_counted {s = s} {i = i} (commands t a c) =
      decided (eqb rank i.rank)
      (λ u.
      let e : rank ≡ i.rank = eqb-true rank i.rank u in
      rw (u, c.part, eq-eqb i.rank rank (sym e)) (ap (λ r. s.taken r + 1) (sym e)))
      (λ u.
      let ne = eqb-false rank i.rank u in
      rw (u, c.part, ne_eqb i.rank rank (λ e. ne (sym e))) (sym (add-zero (s.taken rank))))
  item_counted {s = s} (fetches a rest c) = rw c.kind_is (sym (add-zero (s.taken rank)))
  item_counted {s = s} (delivers b rest c) = rw c.kind_is (sym (add-zero (s.taken rank)))

  items_counted : (P : Program) (s : Replay) (at : ℕ) (items : List Item) {run : Replayed} → take_items P s at items ≡ Ok run →
      run.last.taken rank ≡ s.taken rank + count_of rank run.events
  unfolding take_items select
  items_counted P s at [] h = rw (← (ok_injective h)) (sym (add-zero (s.taken rank)))
  items_counted P s at (i ∷ items) h =
      let (t, taken, h₁) = bind_ok (take_item P s at i) _ h in
      let (rest, others, h₂) = bind_ok (take_items P t.state (at + 1) items) _ h₁ in
      let now = item_counted (item_taken P s at i taken) in
      let later = items_counted P t.state (at + 1) items others in
      rw (← (ok_injective h₂)) (omega (arith, now, later, first_counted t.event rest.events))

  replay_counted : (P : Program) (start : Start) (items : List Item) {run : Replayed} → replay P start items ≡ Ok run →
      run.last.taken rank ≡ count_of rank run.events
  unfolding replay at_end begin
  replay_counted P start items h =
      let (r, taken, ended) = bind_ok (take_items P (begin start) 0 items) _ h in
      let row = required (eqb r.last.row 0) barrier_row (length items) _ ended in
      let queues = required (quiet P r.last.machine) queues_left (length items) _ row.1 in
      rw (← (ok_injective queues.1)) (omega (arith, items_counted P (begin start) 0 items taken))

  -- The trail tells a command's rank, and 0 of a pop.
  told_counted : 1 ≤ rank → (events : List Event) → times_in (map (λ e. command_rank e.item) events) rank ≡ count_of rank events
  unfolding select
  told_counted low [] = refl
  told_counted low (e ∷ events) =
      let rest = told_counted low events in
      decided (is_command e)
      (λ t. decided (eqb (rank_of e) rank) (λ u. rw (t, u) (ap suc rest)) (λ u. rw (t, u) rest))
      (λ t. rw (t, ne_eqb 0 rank (λ z. omega (arith, low, z))) rest)

and_no : (t : Bool) {u : Bool} → u ≡ false → (t && u) ≡ false
and_no true e = e
and_no false e = refl

-- An accepted record.
module _ (program start recorded : List ℕ) (a : Accepted) (accepted : accept program start recorded ≡ Ok a) where
  pub commands_counted : (rank : ℕ) → a.run.last.taken rank ≡ count_of rank a.run.events
  commands_counted rank =
      let p = accepted_parts program start recorded a accepted in
      replay_counted rank a.program a.readings p.items p.replayed

  pub commands_few : (rank : ℕ) → a.run.last.taken rank ≤ max_items
  commands_few rank =
      let few = (accepted_bounds program start recorded a accepted).few in
      omega (arith, few, commands_counted rank, selected_few (command_of rank) a.run.events)

  pub commands_none : (rank : ℕ) → a.program.header.ranks < rank → a.run.last.taken rank ≡ 0
  commands_none rank above =
      let bounds = (accepted_bounds program start recorded a accepted).bounds in
      commands_counted rank
      ∙ ap length
      (select_none (command_of rank) a.run.events
      (λ i e at.
      let high = (bounds.inside i e at).rank.high in
      and_no (is_command e) (ne_eqb (rank_of e) rank (λ s. omega (arith, s, above, high)))))

  -- What is told of its items, tallied.
  told_ranks : ranks_told (length a.run.events) (trail_of a.run.events) ≡ map (λ e. command_rank e.item) a.run.events
  unfolding ranks_told
  told_ranks =
      let events = a.run.events in
      let few = (accepted_bounds program start recorded a accepted).few in
      ap (λ n. map (rank_told (trail_of events)) (numbers_from 0 n)) (min-eq_left few)
      ∙ read_each (λ e. command_rank e.item) (rank_told (trail_of events)) 0 events
      (λ i e at.
      ap (rank_told (trail_of events)) (zero-add i) ∙ ap (λ row. get_or row 0 0) (filled_at row_of_event events (zeros trail_size) [] i at))

  pub commands_tallied : tallied (ranks_told (length a.run.events) (trail_of a.run.events)) ≡ by_rank a.run.last.taken
  commands_tallied =
      rw told_ranks
      (list_of a.run.last.taken 1 max_ranks 0 _ (tally_length told)
      (λ row below. tally_at told row below ∙ told_counted (1 + row) (omega arith) a.run.events ∙ sym (commands_counted (1 + row))))
    where
      told : List ℕ
      told = map (λ e. command_rank e.item) a.run.events
