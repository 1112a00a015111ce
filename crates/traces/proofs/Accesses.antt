-- Whether an event's access writes is told by its kind: a store's and a delivery's does, a load's and a fetch's does not, and no other item has one.
use Rattle.std.specs.Prelude.{Option, Some, None}
use Rattle.model.proofs.Options.{some-injective, none-ne-some}
use Prim.Native.Nat.{ℕ}
use mathlib.Core.Path.{◌≡◌, refl, sym, ◌∙◌, ap, subst}
use mathlib.Core.Bool.{Bool, true}
use Rattle.model.specs.declared.Address.{Address}
use Rattle.model.specs.declared.Kind.{Kind}
use Rattle.model.specs.ItemKinds.{has_place}
use Rattle.model.specs.Programs.{Program, Command, kind_of}
use Rattle.model.specs.Machine.{Start, Access, Action}
use Rattle.model.specs.Replay.{Event, Replay, Replayed, access_of, same_address, agrees, agrees_with}
use Rattle.model.specs.HappensBefore.{At, overwrites, conflict}
use Rattle.model.proofs.Laws.{and-true}
use Rattle.model.proofs.Replay.{same_address_true}
use Rattle.model.proofs.Actions.{Asks, loading, storing, assigning, passing, reading, writing, meeting, action_asks}
use Rattle.record_facts.proofs.Moves.{Move, commands, fetches, delivers}
use Rattle.record_facts.proofs.Trajectory.{TakenRun, accepted, move_at}
use Rattle.record_facts.proofs.FactsHold.{facts}
use Rattle.serializability.proofs.Cells.{writes_to}
use Rattle.traces.specs.Claims.{RecordedRun, writes_kind}

-- The cell and the value of an access.
abbrev pub cell_in : Option Access → Option Address
cell_in x = elim x [ None ↦ None | Some a ↦ Some a.address ]

abbrev pub value_in : Option Access → Option ℕ
value_in x = elim x [ None ↦ None | Some a ↦ Some a.value ]

-- Whether an access writes, if there is one.
abbrev pub WritesAs : Bool → Option Access → Type 0
WritesAs w None = Unit {0}
WritesAs w (Some a) = a.writes ≡ w

pub writes_as : {w : Bool} (x : Option Access) {b : Access} → x ≡ Some b → WritesAs w x → b.writes ≡ w
writes_as None is h = absurd (none-ne-some _ is)
writes_as (Some c) is h = ap (λ (b : Access). b.writes) (sym (some-injective _ _ is)) ∙ h

action_writes : {P : Program} {r : ℕ} {registers : ℕ → ℕ} {c : Command} {a : Action} → Asks P r registers c a → (cells : ℕ → ℕ → ℕ) →
    WritesAs (writes_kind (kind_of c)) (access_of r a cells)
unfolding kind_of access_of
action_writes (loading here cell) cells = refl
action_writes (storing here stored cell) cells = refl
action_writes (assigning assigned) cells = tt
action_writes (passing assumed test) cells = tt
action_writes (reading operands) cells = tt
action_writes (writing operands) cells = tt
action_writes meeting cells = tt

move_writes : {P : Program} {s s' : Replay} {e : Event} → Move P s e s' → WritesAs (writes_kind e.item.kind) e.access
move_writes {P} {s} (commands i t a c) =
    rw (← c.taken.kind)
    (action_writes (action_asks P i.rank (s.machine.registers i.rank) 0 t.command (c.taken.acts 0)) s.machine.cells)
move_writes (fetches i a rest c) = rw c.kind_is refl
move_writes (delivers i b rest c) = rw c.kind_is refl

-- The run of an accepted record, step by step.
abbrev pub run_of : {P : Program} {start : Start} {run : Replayed} (a : RecordedRun P start run) → TakenRun P start a.items run
run_of {P} {start} {run} a = (accepted P start a.items run a.in_record a.replayed).taken

pub kind_writes : {P : Program} {start : Start} {run : Replayed} → RecordedRun P start run → (i : ℕ) (e : Event) → At run.events i e →
    WritesAs (writes_kind e.item.kind) e.access
kind_writes a i e at = move_writes (move_at (run_of a).whole i e at).step

-- An item whose event has an access is of a kind with a place, and has that place.
abbrev Placed : Kind → Option Access → Type 0
Placed k None = Unit {0}
Placed k (Some a) = has_place k ≡ true

action_placed : {P : Program} {r : ℕ} {registers : ℕ → ℕ} {c : Command} {a : Action} → Asks P r registers c a → (cells : ℕ → ℕ → ℕ) →
    Placed (kind_of c) (access_of r a cells)
unfolding kind_of access_of
action_placed (loading here cell) cells = refl
action_placed (storing here stored cell) cells = refl
action_placed (assigning assigned) cells = tt
action_placed (passing assumed test) cells = tt
action_placed (reading operands) cells = tt
action_placed (writing operands) cells = tt
action_placed meeting cells = tt

move_placed : {P : Program} {s s' : Replay} {e : Event} → Move P s e s' → Placed e.item.kind e.access
move_placed {P} {s} (commands i t a c) =
    rw (← c.taken.kind)
    (action_placed (action_asks P i.rank (s.machine.registers i.rank) 0 t.command (c.taken.acts 0)) s.machine.cells)
move_placed (fetches i a rest c) = rw c.kind_is refl
move_placed (delivers i b rest c) = rw c.kind_is refl

pub item_placed : {P : Program} {start : Start} {run : Replayed} → RecordedRun P start run → (i : ℕ) (e : Event) → At run.events i e → {a : Access} →
    e.access ≡ Some a → (has_place e.item.kind ≡ true) × (e.item.place ≡ a.address)
unfolding agrees_with
item_placed {P} {start} {run} r i e at {a} is =
    let agreed : agrees_with e.item (Some a) ≡ true =
    ap (agrees_with e.item) (sym is) ∙ (facts P start r.items run r.in_record r.replayed).agrees i e at in (
      subst (Placed e.item.kind) is (move_placed (move_at (run_of r).whole i e at).step),
      same_address_true e.item.place a.address (and-true (same_address e.item.place a.address) (agrees e.item.given a.value) agreed).0,
    )

-- Accesses of one cell that write alike are alike, as far as conflicts go.
pub data WriteAlike : Option Access → Option Access → Type 0 where
  neither : WriteAlike None None
  both : (a b : Access) → a.address ≡ b.address → a.writes ≡ b.writes → WriteAlike (Some a) (Some b)

pub write_alike : (w : Bool) (x y : Option Access) → WritesAs w x → WritesAs w y → cell_in x ≡ cell_in y → WriteAlike x y
write_alike w None None wx wy e = neither
write_alike w None (Some b) wx wy e = absurd (none-ne-some _ e)
write_alike w (Some a) None wx wy e = absurd (none-ne-some _ (sym e))
write_alike w (Some a) (Some b) wx wy e = both a b (some-injective _ _ e) (wx ∙ sym wy)

pub conflict_same : {x x' y y' : Option Access} → WriteAlike x x' → WriteAlike y y' → conflict x y ≡ conflict x' y'
unfolding conflict
conflict_same neither alike = refl
conflict_same (both a b cell writes) neither = refl
conflict_same (both a b cell writes) (both c d cell' writes') = rw (cell, writes, cell', writes')

pub overwrites_same : {x x' y y' : Option Access} → WriteAlike x x' → WriteAlike y y' → overwrites x y ≡ overwrites x' y'
unfolding overwrites
overwrites_same neither alike = refl
overwrites_same (both a b cell writes) neither = refl
overwrites_same (both a b cell writes) (both c d cell' writes') = rw (cell, writes, cell')

pub writes_same : (p : Address) {x y : Option Access} → WriteAlike x y → writes_to p x ≡ writes_to p y
unfolding writes_to
writes_same p neither = refl
writes_same p (both a b cell writes) = rw (cell, writes)
