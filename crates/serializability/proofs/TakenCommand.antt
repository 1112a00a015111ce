-- One command, taken where its rank stands. What a command does depends on its rank's local state and on what it loads; so from a state that the
-- events so far tell, a command at its turn is taken, with the record's access, into the state that the events with it tell.
use Rattle.model.specs.declared.Action.TheVariants.{Loads, Stores, Assigns, Passes, Issues, Meets}
use Rattle.std.specs.Prelude.{Option, Some}
use Prim.Native.Nat.{ℕ, suc}
use mathlib.Core.Path.{◌≡◌, refl, sym, ◌∙◌, ap, fun_ext}
use mathlib.Core.Bool.{true, false, true≢false}
use mathlib.Core.List.{List, [], ◌∷◌, ◌++◌}
use native.Mathlib.Numerals.{add-one}
use lib.Dec.{eqb}
use borrow.Author.Tests.{eqb-true}
use Rattle.model.specs.ItemKinds.{is_transfer, part_of}
use Rattle.model.specs.Programs.{Program, kind_of, Command}
use Rattle.model.specs.Machine.{State, Start, Access, read_of, address, put, put₂, move_to, set_register, set_cell, set_requests, Action, action}
use Rattle.model.specs.Replay.{Event, Origin, Replay, row_allows, row_after, group_of, opened_after, agrees_with, access_of, perform, agreed, after_command}
use Rattle.model.specs.HappensBefore.{is_command, rank_of}
use Rattle.model.proofs.ItemKinds.{command_part}
use Rattle.model.proofs.Replay.{commands}
use Rattle.model.proofs.Laws.{decided}
use Rattle.model.proofs.Actions.{Asks, loading, storing, assigning, passing, reading, writing, meeting}
use Rattle.record_facts.specs.Facts.{Local, CommandStep, count_of, written, cells_after, registers_after}
use Rattle.serializability.proofs.Alike.{TakenAs, taken_to, taken_as}
use Rattle.serializability.proofs.Standing.{Requests, Deliveries, standing, replay_equal, after_command_lem, after_access}

-- What an action reads; 0 if nothing.
value_read : (rank : ℕ) → Action → (ℕ → ℕ → ℕ) → ℕ
value_read rank (Loads x a) cells = cells rank a
value_read rank (Stores a v) cells = 0
value_read rank (Assigns x v) cells = 0
value_read rank Passes cells = 0
value_read rank (Issues q remote source destination) cells = 0
value_read rank Meets cells = 0

-- A register of one rank changed: that rank's registers with it changed.
put₂_put : {A : Type 0} (f : ℕ → ℕ → A) (rank index : ℕ) (v : A) → put₂ f rank index v ≡ put f rank (put (f rank) index v)
unfolding put put₂
put₂_put f rank index v =
    fun_ext
    (λ r. fun_ext
    (λ x. decided (eqb r rank)
    (λ t. rw t (decided (eqb x index) (λ u. rw u) (λ u. rw u (ap (λ q. f q x) (eqb-true r rank t)))))
    (λ t. rw t)))

-- A function with a value put where it was.
put_own : {A : Type 0} (f : ℕ → A) (i : ℕ) → f ≡ put f i (f i)
unfolding put
put_own f i = fun_ext (λ j. decided (eqb j i) (λ t. rw t (ap f (eqb-true j i t))) (λ t. rw t))

-- The requests after an action.
unfoldable pub requests_after : (rank : ℕ) → Origin → Action → Requests → Requests
requests_after rank origin (Loads x a) requests = requests
requests_after rank origin (Stores a v) requests = requests
requests_after rank origin (Assigns x v) requests = requests
requests_after rank origin Passes requests = requests
requests_after rank origin (Issues q remote source destination) requests =
    put₂ requests rank q
    (requests rank q ++ record { remote = remote; source = source; destination = destination; mark = origin } ∷ [])
requests_after rank origin Meets requests = requests

-- What an action does to the parts of the machine: its rank's registers, the cell that it writes, the queue that it asks in.
record Performed (rank : ℕ) (origin : Origin) (a : Action) (s : State Origin) : Type 0 where
  control : (perform rank origin a s).control ≡ s.control
  registers : (perform rank origin a s).registers ≡ put s.registers rank (registers_after a (value_read rank a s.cells) (s.registers rank))
  cells : (perform rank origin a s).cells ≡ written s.cells (access_of rank a s.cells)
  requests : (perform rank origin a s).requests ≡ requests_after rank origin a s.requests
  deliveries : (perform rank origin a s).deliveries ≡ s.deliveries

performed : (rank : ℕ) (origin : Origin) (a : Action) (s : State Origin) → Performed rank origin a s
unfolding perform set_register set_cell set_requests registers_after value_read written access_of requests_after
performed rank origin (Loads x a) s =
    record {
      control = refl;
      registers = put₂_put s.registers rank x (s.cells rank a);
      cells = refl;
      requests = refl;
      deliveries = refl;
    }
performed rank origin (Stores a v) s =
    record { control = refl; registers = put_own s.registers rank; cells = refl; requests = refl; deliveries = refl }
performed rank origin (Assigns x v) s =
    record { control = refl; registers = put₂_put s.registers rank x v; cells = refl; requests = refl; deliveries = refl }
performed rank origin Passes s =
    record { control = refl; registers = put_own s.registers rank; cells = refl; requests = refl; deliveries = refl }
performed rank origin (Issues q remote source destination) s =
    record { control = refl; registers = put_own s.registers rank; cells = refl; requests = refl; deliveries = refl }
performed rank origin Meets s =
    record { control = refl; registers = put_own s.registers rank; cells = refl; requests = refl; deliveries = refl }

-- A load that read what the cell holds reads it again.
record Reread (rank : ℕ) (act : Action) (value : ℕ) (cells : ℕ → ℕ → ℕ) (access : Option Access) : Type 0 where
  same_access_lem : access_of rank act cells ≡ access
  same_registers : (registers : ℕ → ℕ) → registers_after act (value_read rank act cells) registers ≡ registers_after act value registers

reread : (rank : ℕ) (act : Action) (value : ℕ) (cells : ℕ → ℕ → ℕ) (access : Option Access) → access ≡ access_of rank act (λ r c. value) →
    ((a : Access) → access ≡ Some a → a.writes ≡ false → a.value ≡ cells a.address.rank a.address.cell) →
    Reread rank act value cells access
unfolding access_of registers_after value_read
reread rank (Loads x a) value cells access is finds =
    let found : value ≡ cells rank a = finds (record { writes = false; address = address rank a; value = value }) is refl in
    record {
      same_access_lem = ap (λ v. read_of (address rank a) v) (sym found) ∙ sym is;
      same_registers = λ registers. ap (put registers x) (sym found);
    }
reread rank (Stores a v) value cells access is finds = record { same_access_lem = sym is; same_registers = λ registers. refl }
reread rank (Assigns x v) value cells access is finds = record { same_access_lem = sym is; same_registers = λ registers. refl }
reread rank Passes value cells access is finds = record { same_access_lem = sym is; same_registers = λ registers. refl }
reread rank (Issues q remote source destination) value cells access is finds = record { same_access_lem = sym is; same_registers = λ registers. refl }
reread rank Meets value cells access is finds = record { same_access_lem = sym is; same_registers = λ registers. refl }

-- A command taken where the events so far stand.
module _ {P : Program} (start : Start) (local : ℕ → ℕ → Local) (done : List Event) (opened row : ℕ) (requests : Requests) (deliveries : Deliveries)
    (e : Event) (c : is_command e ≡ true) (step : CommandStep P (local (rank_of e) e.place) e (local (rank_of e) (suc e.place)))
    (place : e.place ≡ count_of (rank_of e) done)
    (finds : (a : Access) → e.access ≡ Some a → a.writes ≡ false → a.value ≡ cells_after start done a.address.rank a.address.cell) where
  -- Who asks, if the command asks for anything.
  abbrev origin : Origin
  origin = record { place = count_of (rank_of e) done; group = group_of opened e.item }

  abbrev stands_after : Replay
  stands_after =
      standing start local (done ++ e ∷ []) (opened_after opened e.item) (row_after P.header.ranks row e.item)
      (requests_after (rank_of e) origin step.act requests) deliveries

  again : Reread (rank_of e) step.act step.value (cells_after start done) e.access
  again = reread (rank_of e) step.act step.value (cells_after start done) e.access step.access finds

  command_moves : (after_command P (standing start local done opened row requests deliveries) e.item step.transition.target
      step.act).state ≡ stands_after
  unfolding move_to
  command_moves =
      let rank : ℕ = rank_of e in
      let parts = performed rank origin step.act (standing start local done opened row requests deliveries).machine in
      replay_equal
      (ap (λ control. put control rank step.transition.target) parts.control ∙
      after_command_lem (λ r n. (local r n).control) done e c step.transition.target
      (sym step.control ∙ ap (λ n. (local rank (suc n)).control) place))
      (parts.registers ∙
      after_command_lem (λ r n. (local r n).registers) done e c _
      (again.same_registers (local rank (count_of rank done)).registers ∙
      ap (λ n. registers_after step.act step.value (local rank n).registers) (sym place) ∙
      sym step.registers ∙
      ap (λ n. (local rank (suc n)).registers) place))
      (parts.cells ∙ ap (written (cells_after start done)) again.same_access_lem ∙ after_access start done e)
      parts.requests
      parts.deliveries
      (ap (put (λ r. count_of r done) rank) (add-one (count_of rank done)) ∙ after_command_lem (λ r n. n) done e c (suc (count_of rank done)) refl)
      refl
      refl

  pub command_taken : (at : ℕ) → row_allows row e.item ≡ true → agrees_with e.item e.access ≡ true →
      TakenAs P (standing start local done opened row requests deliveries) at e stands_after
  command_taken at allowed agreed =
      let rank : ℕ = rank_of e in
      taken_to
      (taken_as
      (commands step.transition step.act
      (record {
        allowed = allowed;
        part = command_part (part_of e.item.kind) c;
        found = step.taken;
        source = step.from ∙ ap (λ n. (local rank n).control) place;
        kind = step.kind;
        acts = λ n. ap (λ m. action P rank (local rank m).registers n step.transition.command) (sym place) ∙ step.acts n;
        agreed = ap (agrees_with e.item) again.same_access_lem ∙ agreed;
      }))
      (record { item = refl; place = place; queue = step.queue; access = sym again.same_access_lem }))
      command_moves

-- A command that is no transfer asks for nothing.
pub asks_nothing : {P : Program} {rank : ℕ} {registers : ℕ → ℕ} {c : Command} {a : Action} → is_transfer (kind_of c) ≡ false →
    Asks P rank registers c a → (origin : Origin) (requests : Requests) → requests_after rank origin a requests ≡ requests
unfolding kind_of requests_after
asks_nothing h (loading here cell) origin requests = refl
asks_nothing h (storing here stored cell) origin requests = refl
asks_nothing h (assigning assigned) origin requests = refl
asks_nothing h (passing assumed test) origin requests = refl
asks_nothing h (reading operands) origin requests = absurd (true≢false h)
asks_nothing h (writing operands) origin requests = absurd (true≢false h)
asks_nothing h meeting origin requests = refl
