-- The numbers and the shapes of groups. An event's group is numbered, since groups not yet numbered have no event; a command that opens a group has
-- a higher number than all before it; a bar that joins a row stands right behind another of the row. At the end the queues are quiet, so every
-- group has its last shape.
use Rattle.model.proofs.Options.{none-ne-some}
use Prim.Native.Nat.{ℕ, zero, suc, ◌+◌, ◌-◌, ◌<◌, ◌≤◌}
use native.Mathlib.Omega.{arith}
use mathlib.Core.Path.{◌≡◌, refl, sym, ◌∙◌, ap}
use mathlib.Core.Bool.{Bool, true, false, false≢true}
use mathlib.Core.List.{List, [], ◌∷◌, ◌++◌}
use mathlib.Core.Logic.{inl}
use lib.Dec.{leb, eqb}
use lib.ListN.{length, length-append}
use lib.Seq.{length-take-le}
use borrow.Author.Tests.{eq-eqb, leb-true, leb-false}
use Rattle.model.specs.Choice.{numbers_from, select}
use Rattle.model.specs.ItemKinds.{is_bar}
use Rattle.model.specs.Programs.{Program}
use Rattle.model.specs.Machine.{Start, State}
use Rattle.model.specs.Replay.{Origin, Event, Replay, begin, joins_row, every, is_empty, quiet}
use Rattle.model.specs.HappensBefore.{At, is_command}
use Rattle.model.specs.Checks.{group_events}
use Rattle.model.proofs.Laws.{and-true, decided, slice_get_bound, slice_get_take, slice_get_taken}
use Rattle.record_facts.specs.Facts.{Local, Shape}
use Rattle.record_facts.proofs.Moves.{Move, commands, fetches, delivers}
use Rattle.record_facts.proofs.Trajectory.{Run, begins, grows, move_at}
use Rattle.record_facts.proofs.Queues.{cons≢nil, entries_of}
use Rattle.record_facts.proofs.Status.{request_group, delivery_group, finished}
use Rattle.record_facts.proofs.Rows.{either, no_row, row_kept, not_joining, joining, group_joined, group_opened}
use Rattle.record_facts.proofs.Groups.{Groups, entering}
use Rattle.record_facts.proofs.GroupMoves.{groups}

-- The last of a list.
at_last : (done : List Event) (e : Event) → At (done ++ e ∷ []) (length done) e
at_last [] e = refl
at_last (x ∷ done) e = at_last done e

-- A group with an event is not empty.
group_member : (events : List Event) (i : ℕ) (e : Event) → At events i e → ¬ (group_events e.group events ≡ [])
unfolding select
group_member [] i e at empty = none-ne-some _ at
group_member (x ∷ events) zero e at empty =
    let same : x ≡ e = cc in
    cons≢nil (rw (eq-eqb x.group e.group (ap (λ e. e.group) same)) at empty)
group_member (x ∷ events) (suc i) e at empty =
    decided (eqb x.group e.group) (λ own. cons≢nil (rw own at empty)) (λ other. group_member events i e at (rw other at empty))

-- A command that joins no row has the next number.
move_opens : {P : Program} {s s' : Replay} {e : Event} → Move P s e s' → is_command e ≡ true → joins_row e.item ≡ false → e.group ≡ s.opened
move_opens {s = s} (commands i t a c) own opens = group_opened s.opened i opens
move_opens (fetches i a rest c) own opens = absurd (false≢true (rw c.kind_is at own))
move_opens (delivers i b rest c) own opens = absurd (false≢true (rw c.kind_is at own))

-- A bar that joins a row has the row's number.
move_joins : {P : Program} {s s' : Replay} {e : Event} → Move P s e s' → joins_row e.item ≡ true → (1 ≤ s.row) × (e.group ≡ s.opened - 1)
move_joins {s = s} (commands i t a c) joins = ((joining s.row i c.taken.allowed joins).1, group_joined s.opened i joins)
move_joins (fetches i a rest c) joins = absurd (false≢true (sym (not_joining i (rw c.kind_is refl)) ∙ joins))
move_joins (delivers i b rest c) joins = absurd (false≢true (sym (not_joining i (rw c.kind_is refl)) ∙ joins))

-- A step after which a row is open is of that row.
row_last : {P : Program} {local : ℕ → ℕ → Local} {done : List Event} {s s' : Replay} {e : Event} → Groups P local done s → Move P s e s' →
    1 ≤ s'.row → suc e.group ≡ s'.opened
row_last {P} {s = s} inv (commands i t a c) h =
    decided (is_bar i.kind)
    (λ bar. (entering inv i c.taken.allowed bar).last)
    (λ other. absurd (omega (arith, no_row s.row i c.taken.allowed other, row_kept P.header.ranks s.row i other)))
row_last {s = s} inv (fetches i a rest c) h = absurd (omega (arith, no_row s.row i c.allowed (rw c.kind_is refl)))
row_last {s = s} inv (delivers i b rest c) h = absurd (omega (arith, no_row s.row i c.allowed (rw c.kind_is refl)))

module _ {P : Program} {start : Start} {local : ℕ → ℕ → Local} where
  -- While a row is open, the last event is of that row.
  last_event : {done : List Event} {s : Replay} → Run P start local done s → 1 ≤ s.row →
      (j : ℕ) × (x : Event) × (suc j ≡ length done) × At done j x × (x.group ≡ s.opened - 1)
  unfolding begin
  last_event (begins h) positive = absurd (omega arith)
  last_event (grows {done = done} {e = e} run step h) positive =
      (length done, e, omega (arith, length-append done (e ∷ [])), at_last done e, omega (arith, row_last (groups run) step positive))

  module _ {events : List Event} {s : Replay} (run : Run P start local events s) where
    -- The group of an event is numbered.
    pub group_bound : (i : ℕ) (e : Event) → At events i e → e.group < s.opened
    group_bound i e at =
        decided (leb s.opened e.group)
        (λ beyond. absurd (group_member events i e at (ap (λ w. w.events) ((groups run).fresh e.group (leb-true s.opened e.group beyond)))))
        (λ known. leb-false s.opened e.group known)

  module _ {events : List Event} {s : Replay} (run : Run P start local events s) where
    -- A command that opens a group has a higher number than all events before it.
    pub opens : (i j : ℕ) (e x : Event) → At events i e → is_command e ≡ true → joins_row e.item ≡ false → j < i → At events j x →
        x.group < e.group
    opens i j e x at own first less earlier =
        let here = move_at run i e at in
        rw (move_opens here.step own first) (group_bound here.run j x (slice_get_take events i j less earlier))

    -- A bar that joins a row follows another of its group.
    pub joins : (i : ℕ) (e : Event) → At events i e → joins_row e.item ≡ true →
        (j : ℕ) × (x : Event) × (suc j ≡ i) × At events j x × (x.group ≡ e.group)
    joins i e at joined =
        let here = move_at run i e at in
        let (positive, group) = move_joins here.step joined in
        let (j, x, last, before, same) = last_event here.run positive in
        (j, x, last ∙ length-take-le i events (omega (arith, slice_get_bound events i at)), (slice_get_taken events i j before).0, same ∙ sym group)

-- A test that all numbers of a range pass.
every_at : (test : ℕ → Bool) (first count n : ℕ) → every test (numbers_from first count) ≡ true → first ≤ n → n < first + count → test n ≡ true
unfolding every numbers_from
every_at test first zero n h low high = absurd (omega arith)
every_at test first (suc count) n h low high =
    decided (test first)
    (λ passes.
    either first n
    (λ same. rw same at passes)
    (λ other. every_at test (first + 1) count n (rw passes at h) (omega arith) (omega arith)))
    (λ fails. absurd (false≢true (rw fails at h)))

is_empty_lem : {A : Type 0} (l : List A) → is_empty l ≡ true → l ≡ []
is_empty_lem [] h = refl
is_empty_lem (a ∷ l) h = absurd (false≢true h)

-- Quiet queues are empty.
quiet_at : (P : Program) (s : State Origin) → quiet P s ≡ true → (rank queue : ℕ) → 1 ≤ rank → rank ≤ P.header.ranks → queue < P.header.queues →
    (s.requests rank queue ≡ []) × (s.deliveries rank queue ≡ [])
unfolding quiet
quiet_at P s h rank queue low high below =
    let row = every_at _ 1 P.header.ranks rank h low (omega arith) in
    let both = every_at _ 0 P.header.queues queue row (omega arith) (omega arith) in
    let (requests, deliveries) = and-true (is_empty (s.requests rank queue)) (is_empty (s.deliveries rank queue)) both in
    (is_empty_lem (s.requests rank queue) requests, is_empty_lem (s.deliveries rank queue) deliveries)

-- Every group of an accepted run has one of the three shapes.
pub shape : {P : Program} {start : Start} {local : ℕ → ℕ → Local} {events : List Event} {s : Replay} → Run P start local events s → s.row ≡ 0 →
    quiet P s.machine ≡ true → (g : ℕ) → g < s.opened → Shape P local (group_events g events)
unfolding select
shape {P} {events = events} {s = s} run no_row all_quiet g h =
    finished ((groups run).settled g h (inl no_row))
    (λ rank queue low high below.
    let (requests, deliveries) = quiet_at P s.machine all_quiet rank queue low high below in
    (ap (entries_of request_group g) requests, ap (entries_of delivery_group g) deliveries))
