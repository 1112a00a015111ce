-- The replay's cells are the start's with each write in turn; so a read finds what was last written.
use Rattle.model.specs.declared.Action.TheVariants.{Loads, Stores, Assigns, Passes, Issues, Meets}
use Rattle.std.specs.Prelude.{Option, Some, None}
use Rattle.model.proofs.Options.{none-ne-some}
use Prim.Native.Nat.{ℕ}
use mathlib.Core.Path.{◌≡◌, refl, sym, ◌∙◌, ap}
use mathlib.Core.Bool.{false, true≢false}
use mathlib.Core.List.{List}
use lib.ListN.{take}
use Rattle.model.specs.declared.Address.{Address}
use Rattle.model.specs.declared.Item.{Item}
use Rattle.model.specs.Programs.{Program}
use Rattle.model.specs.Machine.{State, Start, Request, Delivery, Access, address, read_of, write_of, initial, move_to, set_cell, set_requests, set_deliveries, Action}
use Rattle.model.specs.Replay.{Origin, Event, Replay, begin, access_of, perform, origin_of, after_fetch, after_delivery}
use Rattle.model.specs.HappensBefore.{At}
use Rattle.record_facts.specs.Facts.{Local, written, cells_after}
use Rattle.record_facts.proofs.Moves.{Move, commands, fetches, delivers}
use Rattle.record_facts.proofs.Trajectory.{Run, begins, grows, move_at}
use Rattle.record_facts.proofs.Appended.{cells_snoc}

-- An action writes its access.
pub performed_cells : (rank : ℕ) (origin : Origin) (a : Action) (s : State Origin) →
    (perform rank origin a s).cells ≡ written s.cells (access_of rank a s.cells)
unfolding perform access_of written
performed_cells rank origin (Loads x c) s = refl
performed_cells rank origin (Stores c v) s = refl
performed_cells rank origin (Assigns x v) s = refl
performed_cells rank origin Passes s = refl
performed_cells rank origin (Issues q remote source destination) s = refl
performed_cells rank origin Meets s = refl

-- A fetch and a delivery write the access of their event.
fetched_cells : (s : Replay) (i : Item) (a : Request Origin) (rest : List (Request Origin)) →
    let after = after_fetch s i a rest in
    after.state.machine.cells ≡ written s.machine.cells after.event.access
unfolding set_requests set_deliveries written
fetched_cells s i a rest = refl

delivered_cells : (s : Replay) (i : Item) (b : Delivery Origin) (rest : List (Delivery Origin)) →
    let after = after_delivery s i b rest in
    after.state.machine.cells ≡ written s.machine.cells after.event.access
unfolding set_deliveries set_cell written
delivered_cells s i b rest = refl

-- A step writes its event's access.
move_cells : {P : Program} {s s' : Replay} {e : Event} → Move P s e s' → s'.machine.cells ≡ written s.machine.cells e.access
unfolding move_to
move_cells {s = s} (commands i t a c) = performed_cells i.rank (origin_of s i) a s.machine
move_cells {s = s} (fetches i a rest c) = fetched_cells s i a rest
move_cells {s = s} (delivers i b rest c) = delivered_cells s i b rest

some-injective : {a b : Access} → Some a ≡ Some b → a ≡ b
some-injective h = cc

-- An access that reads has the value of its cell.
ReadsFrom : Start → Option Access → Type 0
ReadsFrom cells access = (a : Access) → access ≡ Some a → a.writes ≡ false → a.value ≡ cells a.address.rank a.address.cell

-- No access, a read of what the cell holds, and a write.
reads_none : (cells : Start) → ReadsFrom cells None
unfolding ReadsFrom
reads_none cells a h read = absurd (none-ne-some _ h)

reads_cell : (cells : Start) (p : Address) → ReadsFrom cells (read_of p (cells p.rank p.cell))
unfolding ReadsFrom
reads_cell cells p a h read = rw (← (some-injective h))

writes_cell : (cells : Start) (p : Address) (v : ℕ) → ReadsFrom cells (write_of p v)
unfolding ReadsFrom
writes_cell cells p v a h read = absurd (true≢false (ap (λ a. a.writes) (some-injective h) ∙ read))

-- Every access of an action or a step is so.
action_reads : (rank : ℕ) (a : Action) (cells : Start) → ReadsFrom cells (access_of rank a cells)
unfolding access_of
action_reads rank (Loads x c) cells = reads_cell cells (address rank c)
action_reads rank (Stores c v) cells = writes_cell cells (address rank c) v
action_reads rank (Assigns x v) cells = reads_none cells
action_reads rank Passes cells = reads_none cells
action_reads rank (Issues q remote source destination) cells = reads_none cells
action_reads rank Meets cells = reads_none cells

move_reads : {P : Program} {s s' : Replay} {e : Event} → Move P s e s' → ReadsFrom s.machine.cells e.access
move_reads {s = s} (commands i t a c) = action_reads i.rank a s.machine.cells
move_reads {s = s} (fetches i a rest c) = reads_cell s.machine.cells a.source
move_reads {s = s} (delivers i b rest c) = writes_cell s.machine.cells b.destination b.value

module _ {P : Program} {start : Start} {local : ℕ → ℕ → Local} where
  -- The cells at each point of a run.
  pub cells_after_lem : {done : List Event} {s : Replay} → Run P start local done s → s.machine.cells ≡ cells_after start done
  unfolding begin initial cells_after
  cells_after_lem (begins h) = refl
  cells_after_lem (grows {done = done} {e = e} run step h) =
      move_cells step ∙ (ap (λ cells. written cells e.access) (cells_after_lem run) ∙ sym (cells_snoc start done e))

  -- A read finds what was last written before it.
  pub reads : {events : List Event} {s : Replay} → Run P start local events s → (i : ℕ) (e : Event) (a : Access) → At events i e →
      e.access ≡ Some a → a.writes ≡ false → a.value ≡ cells_after start (take i events) a.address.rank a.address.cell
  unfolding ReadsFrom
  reads run i e a at access read =
      let here = move_at run i e at in
      move_reads here.step a access read ∙ ap (λ cells. cells a.address.rank a.address.cell) (cells_after_lem here.run)
