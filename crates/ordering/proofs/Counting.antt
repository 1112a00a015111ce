-- How many edges there are: at most three for each event. At most one by program order leads into an event. A read stays open until its cell is
-- written: a read gets at most one edge by conflict and opens one read; a write gets one from the nearest write and one from each open read of its
-- cell, which it closes. So two for each event pay for all edges by conflict.
use Rattle.std.specs.Prelude.{Option, Some, None}
use Prim.Native.Nat.{ℕ, ◌+◌, ◌*◌, ◌≤◌}
use mathlib.Core.Path.{◌≡◌, refl, sym, ap, ◌∙◌}
use mathlib.Core.Bool.{Bool, true, false, not, false≢true}
use mathlib.Core.List.{List, [], ◌∷◌, ◌++◌, append_assoc, reverse_aux}
use native.Mathlib.Omega.{arith}
use lib.Dec.{eqb}
use lib.ListN.{length, length-append}
use Rattle.model.specs.Choice.{when, select}
use Rattle.model.specs.Machine.{Access}
use Rattle.model.specs.Replay.{Event}
use Rattle.model.specs.HappensBefore.{same_sequence, same_cell, overwrites, conflict, edges, program_edges, conflict_edges, edges_from, edges_of}
use Rattle.model.proofs.Laws.{decided, when_true, when_false}
use Rattle.model.proofs.Selections.{select_yes, select_no}
use Rattle.ordering.proofs.Links.{cell_test, cell_sym}

-- At most one edge leads from an event to another, and at most one by program order into an event.
edges_one : (x y : Event) → length (edges x y) ≤ 1
edges_one x y = decided (eqb x.group y.group) (λ t. rw t (omega arith)) (λ t. rw t (omega arith))

pub program_one : (y : Event) (before : List Event) → length (program_edges y before) ≤ 1
unfolding program_edges
program_one y [] = omega arith
program_one y (x ∷ before) = decided (same_sequence x y) (λ t. rw t (edges_one x y)) (λ t. rw t (program_one y before))

-- Those that pass a test and those that fail it are all.
pub select_parts : {A : Type 0} (p : A → Bool) (l : List A) → length (select p l) + length (select (λ x. not (p x)) l) ≡ length l
unfolding select
select_parts p [] = refl
select_parts p (x ∷ l) =
    let rest = select_parts p l in
    decided (p x) (λ t. rw t (omega (arith, rest))) (λ t. rw t (omega (arith, rest)))

-- What passes the one test passes the other, so the other may go first.
pub select_through : {A : Type 0} (p q : A → Bool) → ((x : A) → p x ≡ true → q x ≡ true) → (l : List A) → select p (select q l) ≡ select p l
unfolding select
select_through p q h [] = refl
select_through {A} p q h (x ∷ l) =
    decided (p x)
    (λ t. rw (select_yes q x l (h x t), select_yes p x l t, select_yes p x (select q l) t) (ap {B = List A} (λ r. x ∷ r) (select_through p q h l)))
    (λ t. rw (select_no p x l t)
    (decided (q x)
    (λ u. rw (select_yes q x l u, select_no p x (select q l) t) (select_through p q h l))
    (λ u. rw (select_no q x l u) (select_through p q h l))))

-- The reads that no later event overwrites, after one more access and after all events; the events before, the nearest first.
open_after : Option Access → List Access → List Access
open_after None reads = reads
open_after (Some a) reads = when a.writes (λ _. select (λ r. not (same_cell r a)) reads) (λ _. a ∷ reads)

pub open_reads : List Event → List Access
open_reads [] = []
open_reads (x ∷ before) = open_after x.access (open_reads before)

-- The open reads of a cell; and so many edges by conflict an access may get.
abbrev open_at : Access → List Access → ℕ
open_at b reads = length (select (λ r. same_cell r b) reads)

due : Option Access → List Access → ℕ
due None reads = 0
due (Some b) reads = when b.writes (λ _. 1 + open_at b reads) (λ _. 1)

due_none : (reads : List Access) → due None reads ≡ 0
unfolding due
due_none reads = refl

module _ (a : Access) (reads : List Access) where
  open_write : a.writes ≡ true → open_after (Some a) reads ≡ select (λ r. not (same_cell r a)) reads
  unfolding open_after
  open_write h = when_true _ _ h

  open_read : a.writes ≡ false → open_after (Some a) reads ≡ a ∷ reads
  unfolding open_after
  open_read h = when_false _ _ h

  due_write : a.writes ≡ true → due (Some a) reads ≡ 1 + open_at a reads
  unfolding due
  due_write h = when_true _ _ h

  due_read : a.writes ≡ false → due (Some a) reads ≡ 1
  unfolding due
  due_read h = when_false _ _ h

  due_some : 1 ≤ due (Some a) reads
  due_some = decided a.writes (λ h. rw (due_write h) (omega arith)) (λ h. rw (due_read h) (omega arith))

  -- A write closes the reads that it has edges from, and a read opens one.
  due_paid : due (Some a) reads + length (open_after (Some a) reads) ≤ length reads + 2
  due_paid =
      decided a.writes
      (λ h. rw (due_write h, open_write h) (omega (arith, select_parts (λ r. same_cell r a) reads)))
      (λ h. rw (due_read h, open_read h) (omega arith))

module _ (a b : Access) (reads : List Access) where
  -- An access at another cell leaves the open reads of this one, and a read at the same cell is one more.
  open_elsewhere : same_cell a b ≡ false → open_at b (open_after (Some a) reads) ≡ open_at b reads
  open_elsewhere other =
      decided a.writes
      (λ w. rw (open_write a reads w) (ap length (select_through (λ r. same_cell r b) (λ r. not (same_cell r a)) passes reads)))
      (λ w. rw (open_read a reads w) (ap length (select_no (λ r. same_cell r b) a reads other)))
    where
      passes : (r : Access) → same_cell r b ≡ true → not (same_cell r a) ≡ true
      passes r h =
          decided (same_cell r a)
          (λ t. absurd (false≢true (sym other ∙ cell_test r b h a ∙ cell_sym r a t)))
          (λ t. ap not t)

  open_here : same_cell a b ≡ true → a.writes ≡ false → open_at b (open_after (Some a) reads) ≡ 1 + open_at b reads
  open_here same w =
      rw (open_read a reads w) (omega (arith, ap length (select_yes (λ r. same_cell r b) a reads same)))

  due_elsewhere : same_cell a b ≡ false → due (Some b) (open_after (Some a) reads) ≡ due (Some b) reads
  due_elsewhere other =
      decided b.writes
      (λ w. due_write b (open_after (Some a) reads) w ∙ ap (λ n. 1 + n) (open_elsewhere other) ∙ sym (due_write b reads w))
      (λ w. due_read b (open_after (Some a) reads) w ∙ sym (due_read b reads w))

-- The edge from one event, and those from behind it unless it ends the search.
spent : (conflicts ends : Bool) (edge rest : ℕ) → ℕ
spent conflicts ends edge rest = when conflicts (λ _. edge) (λ _. 0) + when ends (λ _. 0) (λ _. rest)

spent_lists : {A : Type 0} (conflicts ends : Bool) (edge rest : List A) →
    length (when conflicts (λ _. edge) (λ _. []) ++ when ends (λ _. []) (λ _. rest)) ≡ spent conflicts ends (length edge) (length rest)
unfolding spent
spent_lists true true edge rest = length-append edge []
spent_lists true false edge rest = length-append edge rest
spent_lists false true edge rest = refl
spent_lists false false edge rest = omega arith

-- One event further back the edges are within what is due.
module _ (a b : Access) (reads : List Access) (edge rest : ℕ) (p : edge ≤ 1) (q : rest ≤ due (Some b) reads) where
  abbrev Due : Bool → Bool → Type 0
  Due conflicts ends = spent conflicts ends edge rest ≤ due (Some b) (open_after (Some a) reads)

  due_if : (c o : Bool) → conflict (Some a) (Some b) ≡ c → overwrites (Some a) (Some b) ≡ o → Due c o →
      Due (conflict (Some a) (Some b)) (overwrites (Some a) (Some b))
  due_if c o e f h = rw (e, f) h

  back_some : Due (conflict (Some a) (Some b)) (overwrites (Some a) (Some b))
  unfolding conflict overwrites spent
  back_some =
      decided (same_cell a b)
      (λ same. decided a.writes
      (λ w. due_if true true (rw (same, w)) (rw (same, w)) (omega (arith, due_some b (open_after (Some a) reads))))
      (λ w. decided b.writes
      (λ v. due_if true false (rw (same, w, v)) (rw (same, w))
      (rw (due_write b (open_after (Some a) reads) v, open_here a b reads same w) (omega (arith, due_write b reads v))))
      (λ v. due_if false false (rw (same, w, v)) (rw (same, w)) (rw (due_read b (open_after (Some a) reads) v) (omega (arith, due_read b reads v))))))
      (λ other. due_if false false (rw other) (rw other) (rw (due_elsewhere a b reads other) (omega arith)))

back : (x y : Option Access) (reads : List Access) (edge rest : ℕ) → edge ≤ 1 → rest ≤ due y reads →
    spent (conflict x y) (overwrites x y) edge rest ≤ due y (open_after x reads)
unfolding conflict overwrites spent open_after due
back None y reads edge rest p q = omega arith
back (Some a) None reads edge rest p q = omega arith
back (Some a) (Some b) reads edge rest p q = back_some a b reads edge rest p q

-- So the edges by conflict into an event are within what is due.
conflict_due : (y : Event) (before : List Event) → length (conflict_edges y before) ≤ due y.access (open_reads before)
unfolding conflict_edges open_reads
conflict_due y [] = omega arith
conflict_due y (x ∷ before) =
    rw (spent_lists _ _ (edges x y) (conflict_edges y before))
    (back x.access y.access (open_reads before) (length (edges x y)) _ (edges_one x y) (conflict_due y before))

-- What is due and what stays open are within what was open and two more.
paid : (y : Option Access) (reads : List Access) → due y reads + length (open_after y reads) ≤ length reads + 2
unfolding open_after due
paid None reads = omega arith
paid (Some b) reads = due_paid b reads

-- All edges into the events from here on, with the reads that are open; and all edges of a run.
pub edges_from_count : (before rest : List Event) → length (edges_from before rest) ≤ length (open_reads before) + 3 * length rest
unfolding edges_from open_reads
edges_from_count before [] = omega arith
edges_from_count before (y ∷ rest) =
    simp length-append
    (omega (arith, program_one y before, conflict_due y before, paid y.access (open_reads before), edges_from_count (y ∷ before) rest))

pub edges_count : (events : List Event) → length (edges_of events) ≤ 3 * length events
unfolding edges_of open_reads
edges_count events = omega (arith, edges_from_count [] events)

-- The edges of a run in two parts: those into its first events, and those into the events from there on.
pub edges_parts : (before first rest : List Event) →
    edges_from before (first ++ rest) ≡ edges_from before first ++ edges_from (reverse_aux first before) rest
unfolding edges_from
edges_parts before [] rest = refl
edges_parts before (y ∷ first) rest = simp (append_assoc, edges_parts (y ∷ before) first rest)
