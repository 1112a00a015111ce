-- What the replay hands over tells as much of each event as its arrows depend on: the rank of a command, the group, the cell by a number of its own,
-- and whether it is written. So the arrows of the events that a trail tells of are the arrows of the run.
use Rattle.std.specs.Prelude.{Option, Some, None}
use Prim.Native.Nat.{ℕ, zero, suc, ◌+◌, ◌*◌, ◌/◌, ◌%◌, ◌≤◌, ◌<◌}
use mathlib.Core.Path.{◌≡◌, refl, sym, ap, ◌∙◌}
use mathlib.Core.Bool.{Bool, true, false, ◌&&◌, false≢true}
use mathlib.Core.List.{List, [], map}
use native.Mathlib.Nat.{min-eq_left, div-add-mod', mod-lt}
use native.Mathlib.Omega.{arith}
use lib.Dec.{eqb}
use lib.ListN.{length}
use borrow.Author.Tests.{eq-eqb, ne_eqb, lt-ltb}
use Rattle.model.specs.declared.Address.{Address}
use Rattle.model.specs.Limits.{max_ranks, max_items}
use Rattle.model.specs.Choice.{numbers_from}
use Rattle.model.specs.ItemKinds.{is_command_kind}
use Rattle.model.specs.Expressions.{truth}
use Rattle.model.specs.Machine.{Access, address}
use Rattle.model.specs.Replay.{Event, same_address}
use Rattle.model.specs.HappensBefore.{is_command, rank_of, same_sequence, overwrites, conflict, either_writes, edges_of}
use Rattle.model.specs.Checks.{fill}
use Rattle.model.proofs.Laws.{decided, when_true, when_false, true_and}
use Rattle.model.proofs.Replay.{same_address_true}
use Rattle.memory.specs.Tables.{Table, Rank, Place, zeros}
use Rattle.items.specs.Accesses.{address_number, access_number}
use Rattle.items.proofs.Accesses.{Placed}
use Rattle.trails.specs.Trails.{command_rank, row_of_event, trail_of, trail_size}
use Rattle.graph.proofs.Edges.{filled_at, read_each}
use Rattle.ordering.proofs.Retold.{Retells, Throughout, events_retold}
use Rattle.happens_before.specs.declared.rows.Touch.{Touch}
use Rattle.happens_before.specs.Told.{
  max_addresses,
  named,
  touch_in,
  told_in,
  told_at,
  kind_told,
  rank_told,
  access_told,
  event_told,
  events_told,
}

-- An event of which a row can tell: a command's rank, the group and the cell are ones that the arrays have.
pub record Tellable (e : Event) : Type 0 where
  pub rank : is_command e ≡ true → Rank (rank_of e)
  pub group : e.group < max_items
  pub access : Placed e.access

-- An access as it is told: the cell by its number.
abbrev numbered : Option Access → Option Touch
numbered None = None
numbered (Some a) = Some (record { cell = address_number a.address; writes = a.writes })

-- Half of an access's number is the cell's, and what is left says whether it is written.
record Halves (number cell : ℕ) (writes : Bool) : Type 0 where
  half : number / 2 ≡ cell
  left : eqb (number % 2) 1 ≡ writes

two : 0 < 2
two = omega arith

access_halves : (n : ℕ) (writes : Bool) → Halves (n * 2 + truth writes) n writes
access_halves n true =
    let whole = n * 2 + 1 in
    let odd : whole % 2 ≡ 1 = omega (arith, div-add-mod' whole 2, mod-lt whole two) in
    record { half = omega (arith, div-add-mod' whole 2, mod-lt whole two); left = eq-eqb (whole % 2) 1 odd }
access_halves n false =
    let whole = n * 2 + 0 in
    let even : whole % 2 ≡ 0 = omega (arith, div-add-mod' whole 2, mod-lt whole two) in
    record { half = omega (arith, div-add-mod' whole 2, mod-lt whole two); left = ne_eqb (whole % 2) 1 (omega arith) }

-- The cells' numbers are within what the code has entries for, so an access is told.
address_below : (a : Address) → Place a → address_number a < max_addresses
address_below a p = omega (arith, p.rank_held.first, p.rank_held.last, p.cell_held)

touch_told : (access : Option Access) → Placed access → touch_in (access_number access) ≡ numbered access
touch_told None p = refl
touch_told (Some a) p =
    let number = address_number a.address * 2 + truth a.writes in
    let one : access_number (Some a) ≡ suc number = omega arith in
    let halves = access_halves (address_number a.address) a.writes in
    let below : number < 2 * max_addresses = omega (arith, address_below a.address p, halves.half, div-add-mod' number 2, mod-lt number two) in
    ap touch_in one ∙ rw (lt-ltb number (2 * max_addresses) below, halves.half, halves.left)

-- No two cells have one number.
same_number : (a b : Address) → Place a → Place b →
    same_address (address 0 (suc (address_number a))) (address 0 (suc (address_number b))) ≡ same_address a b
same_number a b p q =
    decided (same_address a b)
    (λ same. let e = same_address_true a b same in eq-eqb (suc (address_number a)) (suc (address_number b)) (ap (λ c. suc (address_number c)) e) ∙ sym same)
    (λ other. ne_eqb (suc (address_number a)) (suc (address_number b)) (λ e. false≢true (sym other ∙ one_cell (omega arith))) ∙ sym other)
  where
    one_cell : address_number a ≡ address_number b → same_address a b ≡ true
    one_cell e =
        let pa = p.rank_held in
        let pb = q.rank_held in
        let ca = p.cell_held in
        let cb = q.cell_held in
        true_and _ _ (eq-eqb a.rank b.rank (omega arith)) (eq-eqb a.cell b.cell (omega arith))

-- A rank is told, and 0 tells none.
rank_again : (rank : ℕ) → rank ≤ max_ranks → rank_told (named max_ranks rank) ≡ rank
rank_again zero h = refl
rank_again (suc rank) h = rw (lt-ltb rank max_ranks (omega arith))

rank_command : (rank : ℕ) → 0 < rank → rank ≤ max_ranks → is_command_kind (kind_told (named max_ranks rank)) ≡ true
rank_command zero l h = absurd (omega arith)
rank_command (suc rank) l h = rw (lt-ltb rank max_ranks (omega arith))

-- A command's rank is told, and for a pop 0.
module _ (e : Event) (t : Tellable e) where
  rank_own : is_command e ≡ true → command_rank e.item ≡ rank_of e
  rank_own c = when_true _ _ c

  rank_none : is_command e ≡ false → command_rank e.item ≡ 0
  rank_none c = when_false _ _ c

  rank_fits : command_rank e.item ≤ max_ranks
  rank_fits = decided (is_command e) (λ c. rw (rank_own c) (t.rank c).last) (λ c. rw (rank_none c) (omega arith))

  command_told : is_command_kind (kind_told (named max_ranks (command_rank e.item))) ≡ is_command e
  command_told =
      decided (is_command e)
      (λ c. rw (rank_own c) (rank_command (rank_of e) (t.rank c).first (t.rank c).last ∙ sym c))
      (λ c. rw (rank_none c) (sym c))

  -- What a row tells of the event.
  told_row : told_in (row_of_event e) ≡ record { rank = named max_ranks (command_rank e.item); group = e.group; access = numbered e.access }
  unfolding told_in
  told_row = rw (lt-ltb e.group max_items t.group, touch_told e.access t.access)

-- The event that an event's row tells of, and its access.
retold : Event → Event
retold e = event_told (told_in (row_of_event e))

abbrev renumbered : Option Access → Option Access
renumbered access = access_told (numbered access)

-- What it keeps.
record Kept (e : Event) : Type 0 where
  command : is_command (retold e) ≡ is_command e
  rank : rank_of (retold e) ≡ command_rank e.item
  group : (retold e).group ≡ e.group
  access : (retold e).access ≡ renumbered e.access

kept : (e : Event) → Tellable e → Kept e
unfolding retold event_told
kept e t =
    let row = ap event_told (told_row e t) in
    record {
      command = ap is_command row ∙ command_told e t;
      rank = ap rank_of row ∙ rank_again (command_rank e.item) (rank_fits e t);
      group = ap (λ (e : Event). e.group) row;
      access = ap (λ (e : Event). e.access) row;
    }

-- Cells are told apart as before, so accesses conflict and overwrite as before.
conflict_kept : (x y : Option Access) → Placed x → Placed y → conflict (renumbered x) (renumbered y) ≡ conflict x y
unfolding conflict
conflict_kept None y p q = refl
conflict_kept (Some a) None p q = refl
conflict_kept (Some a) (Some b) p q = ap (λ same. same && either_writes a b) (same_number a.address b.address p q)

overwrites_kept : (x y : Option Access) → Placed x → Placed y → overwrites (renumbered x) (renumbered y) ≡ overwrites x y
unfolding overwrites
overwrites_kept None y p q = refl
overwrites_kept (Some a) None p q = refl
overwrites_kept (Some a) (Some b) p q = ap (λ same. same && a.writes) (same_number a.address b.address p q)

sequence_kept : (x y : Event) → Tellable x → Tellable y → same_sequence (retold x) (retold y) ≡ same_sequence x y
unfolding same_sequence
sequence_kept x y p q =
    decided (is_command x)
    (λ c. decided (is_command y)
    (λ d. rw ((kept x p).command, (kept y q).command, (kept x p).rank, (kept y q).rank, rank_own x p c, rank_own y q d))
    (λ d. rw ((kept x p).command, (kept y q).command, c, d)))
    (λ c. rw ((kept x p).command, c))

tells : Retells Tellable retold
tells =
    record {
      group = λ x p. (kept x p).group;
      sequence = sequence_kept;
      conflicts = λ x y p q. rw ((kept x p).access, (kept y q).access) (conflict_kept x.access y.access p.access q.access);
      overwriting = λ x y p q. rw ((kept x p).access, (kept y q).access) (overwrites_kept x.access y.access p.access q.access);
    }

-- The events that a trail tells of are the run's, told again; what the other rows hold does not matter.
events_again : (events : List Event) (old : Table) → length events ≤ max_items →
    events_told (length events) (fill (map row_of_event events) old) ≡ map retold events
unfolding events_told retold
events_again events old few =
    let read : ℕ → Event = λ item. event_told (told_at (fill (map row_of_event events) old) item) in
    ap (λ n. map read (numbers_from 0 n)) (min-eq_left few)
    ∙ read_each retold read 0 events
    (λ i e at. let z : 0 + i ≡ i = omega arith in
    ap read z ∙ ap (λ row. event_told (told_in row)) (filled_at row_of_event events old [] i at))

-- The arrows of a run from its trail.
pub told_again : (events : List Event) → Throughout Tellable events → length events ≤ max_items →
    edges_of (events_told (length events) (trail_of events)) ≡ edges_of events
told_again events tellable few = ap edges_of (events_again events (zeros trail_size) few) ∙ events_retold tells events tellable
