-- A rank's local state: a step changes it only if it is a command of that rank, and then as the command's action says, by the local state and by
-- what a load reads.
use Rattle.model.specs.declared.Action.TheVariants.{Loads, Stores, Assigns, Passes, Issues, Meets}
use Prim.Native.Nat.{ℕ, suc, ◌+◌}
use native.Mathlib.Numerals.{add-one}
use mathlib.Core.Path.{◌≡◌, refl, sym, ◌∙◌, ap, ap₂, subst}
use mathlib.Core.Bool.{true, false, ◌&&◌, false≢true}
use mathlib.Core.List.{List}
use lib.Dec.{eqb}
use borrow.Author.Tests.{eqb-true, eqb-false}
use Rattle.model.specs.declared.Item.{Item}
use Rattle.model.specs.ItemKinds.{is_command_part}
use Rattle.model.specs.Programs.{Program}
use Rattle.model.specs.Machine.{State, Request, Delivery, move_to, set_cell, set_requests, set_deliveries, Action}
use Rattle.model.specs.Replay.{Origin, Event, Replay, access_of, perform, origin_of, after_fetch, after_delivery}
use Rattle.model.specs.HappensBefore.{is_command, rank_of}
use Rattle.model.specs.Traces.{command_of}
use Rattle.model.proofs.Laws.{and-true, put_same, put_other, put₂_row, put₂_other_row}
use Rattle.record_facts.specs.Facts.{Local, registers_after, CommandStep}
use Rattle.record_facts.proofs.Moves.{Move, commands, fetches, delivers}

-- What a rank has of its own in a state.
abbrev pub local_of : Replay → (rank : ℕ) → Local
local_of s rank = record { control = s.machine.control rank; registers = s.machine.registers rank }

-- What the action of a command does to the local states: it keeps the control states and the registers of all other ranks, and changes its own
-- rank's registers as its action says; `value` is what it loads, if it does.
module _ (own : ℕ) (origin : Origin) where
  pub registers_kept : (a : Action) (s : State Origin) (rank : ℕ) → ¬ (rank ≡ own) → (perform own origin a s).registers rank ≡ s.registers rank
  unfolding perform
  registers_kept (Loads x c) s rank other = put₂_other_row s.registers own x (s.cells own c) rank other
  registers_kept (Stores c v) s rank other = refl
  registers_kept (Assigns x v) s rank other = put₂_other_row s.registers own x v rank other
  registers_kept Passes s rank other = refl
  registers_kept (Issues q remote source destination) s rank other = refl
  registers_kept Meets s rank other = refl

  pub control_kept : (a : Action) (s : State Origin) → (perform own origin a s).control ≡ s.control
  unfolding perform
  control_kept (Loads x c) s = refl
  control_kept (Stores c v) s = refl
  control_kept (Assigns x v) s = refl
  control_kept Passes s = refl
  control_kept (Issues q remote source destination) s = refl
  control_kept Meets s = refl

  registers_moved : (a : Action) (s : State Origin) →
      (value : ℕ) × (access_of own a s.cells ≡ access_of own a (λ rank cell. value)) ×
      ((perform own origin a s).registers own ≡ registers_after a value (s.registers own))
  unfolding perform access_of registers_after
  registers_moved (Loads x c) s = (s.cells own c, refl, put₂_row s.registers own x (s.cells own c))
  registers_moved (Stores c v) s = (0, refl, refl)
  registers_moved (Assigns x v) s = (0, refl, put₂_row s.registers own x v)
  registers_moved Passes s = (0, refl, refl)
  registers_moved (Issues q remote source destination) s = (0, refl, refl)
  registers_moved Meets s = (0, refl, refl)

-- A rank keeps its local state and its count through every step that is no command of its own.
pub record Kept (s : Replay) (rank : ℕ) (s' : Replay) : Type 0 where
  pub count : s'.taken rank ≡ s.taken rank
  pub same : local_of s' rank ≡ local_of s rank

fetch_kept : (s : Replay) (i : Item) (a : Request Origin) (rest : List (Request Origin)) (rank : ℕ) → Kept s rank (after_fetch s i a rest).state
unfolding set_requests set_deliveries
fetch_kept s i a rest rank = record { count = refl; same = refl }

delivery_kept : (s : Replay) (i : Item) (b : Delivery Origin) (rest : List (Delivery Origin)) (rank : ℕ) → Kept s rank (after_delivery s i b rest).state
unfolding set_deliveries set_cell
delivery_kept s i b rest rank = record { count = refl; same = refl }

pub local_kept : {P : Program} {s s' : Replay} {e : Event} → Move P s e s' → (rank : ℕ) → command_of rank e ≡ false → Kept s rank s'
unfolding move_to
local_kept {s = s} (commands i t a c) rank h =
    let other : ¬ (rank ≡ i.rank) = λ same. eqb-false i.rank rank (subst (λ p. (is_command_part p && eqb i.rank rank) ≡ false)
    c.taken.part h) (sym same) in
    record {
      count = put_other s.taken i.rank (s.taken i.rank + 1) rank other;
      same =
          ap₂ (λ control registers. record { control = control; registers = registers })
          (put_other (perform i.rank (origin_of s i) a s.machine).control i.rank t.target rank other ∙
          ap (λ control. control rank) (control_kept i.rank (origin_of s i) a s.machine))
          (registers_kept i.rank (origin_of s i) a s.machine rank other);
    }
local_kept {s = s} (fetches i a rest c) rank h = fetch_kept s i a rest rank
local_kept {s = s} (delivers i b rest c) rank h = delivery_kept s i b rest rank

-- A command takes its rank one step on.
pub record Advanced (P : Program) (s : Replay) (e : Event) (s' : Replay) : Type 0 where
  pub place : e.place ≡ s.taken (rank_of e)
  pub count : s'.taken (rank_of e) ≡ suc (s.taken (rank_of e))
  pub moves : CommandStep P (local_of s (rank_of e)) e (local_of s' (rank_of e))

pub local_stepped : {P : Program} {s s' : Replay} {e : Event} → Move P s e s' → is_command e ≡ true → Advanced P s e s'
unfolding move_to
local_stepped {s = s} (commands i t a c) h =
    let (value, access, registers) = registers_moved i.rank (origin_of s i) a s.machine in
    record {
      place = refl;
      count = put_same s.taken i.rank (s.taken i.rank + 1) ∙ add-one (s.taken i.rank);
      moves =
          record {
            transition = t;
            act = a;
            value = value;
            taken = c.taken.found;
            from = c.taken.source;
            kind = c.taken.kind;
            acts = c.taken.acts;
            access = access;
            queue = refl;
            control = put_same (perform i.rank (origin_of s i) a s.machine).control i.rank t.target;
            registers = registers;
          };
    }
local_stepped (fetches i a rest c) h = absurd (false≢true (rw c.kind_is at h))
local_stepped (delivers i b rest c) h = absurd (false≢true (rw c.kind_is at h))

-- Its count goes up by one.
pub count_up_lem : {P : Program} {s s' : Replay} {e : Event} → Move P s e s' → (rank : ℕ) → command_of rank e ≡ true → s'.taken rank ≡ suc (s.taken rank)
count_up_lem {e = e} step rank own =
    let (p, q) = and-true (is_command e) (eqb (rank_of e) rank) own in
    rw (eqb-true (rank_of e) rank q) at (local_stepped step p).count
