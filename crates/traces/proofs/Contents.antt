-- Two accepted records with one trace, from one start: every access has the same value in both, and so the last cells, registers and control states are
-- the same. By induction along the first record: a read finds the write that its counterpart finds, since conflicting accesses come in the same order; a
-- rank that has loaded the same stands at the same place with the same registers, so its stores are the same; a delivery has its fetch's value. No plain
-- run has a part in this, so it holds of records with a ring too.
use Rattle.std.specs.Prelude.{Option, Some, None}
use Rattle.model.proofs.Options.{none-ne-some, some-injective}
use Prim.Native.Nat.{ℕ, zero, suc, ◌<◌}
use mathlib.Core.Path.{◌≡◌, refl, sym, ◌∙◌, ap, ap₂, subst}
use mathlib.Core.Bool.{true, false, true≢false, false≢true}
use mathlib.Core.Logic.{◌↔◌}
use native.Mathlib.Nat.{not-suc-le-zero}
use native.Mathlib.Omega.{arith}
use lib.ListN.{length, take, length-map}
use lib.Seq.{take-length}
use Rattle.model.specs.declared.Address.{Address}
use Rattle.model.specs.declared.Kind.TheVariants.{Popb}
use Rattle.model.specs.Choice.{select}
use Rattle.model.specs.ItemKinds.{Part, command, fetch, delivery, part_of, is_command_part}
use Rattle.model.specs.Programs.{Program}
use Rattle.model.specs.Machine.{Start, Access, address}
use Rattle.model.specs.Replay.{Event, Replayed, same_address, access_of}
use Rattle.model.specs.HappensBefore.{At, is_command, rank_of, conflict}
use Rattle.model.specs.Traces.{cell_of, value_at, SameTrace, SameValues, command_of}
use Rattle.model.proofs.Lists.{position}
use Rattle.model.proofs.Laws.{decided, and-true, slice_get_bound}
use Rattle.model.proofs.Replay.{same_address_true, true_same_address}
use Rattle.record_facts.specs.Facts.{Facts, Local, count_of, cells_after}
use Rattle.record_facts.proofs.Counts.{counted}
use Rattle.serializability.proofs.Cells.{writes_to}
use Rattle.model.proofs.ItemKinds.{fetch_kind, delivery_kind}
use Rattle.serializability.proofs.Identity.{compared, identity_unique, at_unique}
use Rattle.serializability.proofs.CommandKinds.{twin_command, same_transition}
use Rattle.traces.specs.Claims.{RecordedRun, writes_kind}
use Rattle.traces.proofs.Accesses.{run_of, cell_in, value_in, writes_as, kind_writes, writes_same, WriteAlike, neither, both}
use Rattle.traces.proofs.Pairs.{facts_of, Pair, pair, paired, paired', pair_kind, pair_alike, pair_order}
use Rattle.traces.proofs.LastWrites.{Last, untouched, by, last}
use Rattle.traces.proofs.Steps.{same_act, same_step, write_value, CommandAt, command_at_lem, previous, fetch_of_lem}

-- Accesses of one cell, the first of which writes, conflict.
writes_conflict : (p : Address) (x y : Option Access) → writes_to p x ≡ true → cell_in y ≡ Some p →
    conflict x y ≡ true
unfolding writes_to conflict
writes_conflict p None y w h = absurd (false≢true w)
writes_conflict p (Some b) None w h = absurd (none-ne-some _ h)
writes_conflict p (Some b) (Some c) w h =
    let (here, writes) = and-true (same_address p b.address) b.writes w in
    let same : b.address ≡ c.address = sym (same_address_true p b.address here) ∙ sym (some-injective _ _ h) in
    rw (writes, true_same_address b.address c.address same) refl

both_write : (p : Address) (x y : Option Access) → writes_to p x ≡ true → writes_to p y ≡ true → conflict x y ≡ true
unfolding writes_to
both_write p x None wx wy = absurd (false≢true wy)
both_write p x (Some b) wx wy =
    writes_conflict p x (Some b) wx (ap Some (sym (same_address_true p b.address (and-true (same_address p b.address) b.writes wy).0)))

-- Two records with one trace.
module _ {P : Program} {start : Start} {run run' : Replayed} (a : RecordedRun P start run) (a' : RecordedRun P start run')
    (trace : SameTrace run.events run'.events) where
  abbrev Both : Type 0
  Both = Pair a a' trace

  abbrev f : Facts P start a.items run
  f = facts_of a

  abbrev f' : Facts P start a'.items run'
  f' = facts_of a'

  -- An access has the same value in both, and so have all before a place.
  abbrev SameValue : Both → Type 0
  SameValue w = value_at w.x ≡ value_at w.y

  abbrev SameBefore : ℕ → Type 0
  SameBefore n = (w : Both) → w.i < n → SameValue w

  -- Fronts of the two records with the same writes to a cell.
  abbrev Cut : Address → (i j : ℕ) → Type 0
  Cut p i j = (w : Both) → writes_to p w.x.access ≡ true → (w.i < i) ↔ (w.j < j)

  -- Each of these with the same value, they leave the same in it.
  same_cell_lem : (p : Address) (i j : ℕ) → Cut p i j → SameBefore i →
      cells_after start (take i run.events) p.rank p.cell ≡ cells_after start (take j run'.events) p.rank p.cell
  same_cell_lem p i j cut values = go (last start run.events i p) (last start run'.events j p)
    where
      wrote : (w : Both) → writes_to p w.x.access ≡ true → writes_to p w.y.access ≡ true
      wrote w h = sym (writes_same p (pair_alike a a' trace w)) ∙ h

      wrote' : (w : Both) → writes_to p w.y.access ≡ true → writes_to p w.x.access ≡ true
      wrote' w h = writes_same p (pair_alike a a' trace w) ∙ h

      go : Last start run.events i p → Last start run'.events j p →
          cells_after start (take i run.events) p.rank p.cell ≡ cells_after start (take j run'.events) p.rank p.cell
      go (untouched none_wrote is) (untouched none_wrote' is') = is ∙ sym is'
      go (untouched none_wrote is) (by k' z' less at writes between value) =
          let w : Both = paired' a a' trace k' z' at in
          absurd (true≢false (sym (wrote' w writes) ∙ none_wrote w.i w.x ((cut w (wrote' w writes)).1 less) w.first))
      go (by k z less at writes between value) (untouched none_wrote' is') =
          let w : Both = paired a a' trace k z at in
          absurd (true≢false (sym (wrote w writes) ∙ none_wrote' w.j w.y ((cut w writes).0 less) w.second))
      go (by k z less at writes between value) (by m' u' less' at' writes' between' value') =
          let w : Both = paired a a' trace k z at in
          let v : Both = paired' a a' trace m' u' at' in
          compared w.j m'
          (λ earlier'.
          let c : conflict w.x.access v.x.access ≡ true = both_write p w.x.access v.x.access writes (wrote' v writes') in
          absurd (true≢false (sym (wrote' v writes') ∙
          between v.i v.x ((pair_order a a' trace w v c).1 earlier') ((cut v (wrote' v writes')).1 less') v.first)))
          (λ later'. absurd (true≢false (sym (wrote w writes) ∙ between' w.j w.y later' ((cut w writes).0 less) w.second)))
          (λ here. some-injective _ _ (sym value ∙ values w less ∙ ap value_at (at_unique f' w.second at' here) ∙ value'))

  -- What an access finds is the same in both.
  cut_at : (p : Address) (w : Both) → cell_of w.x ≡ Some p → Cut p w.i w.j
  cut_at p w is v writes = pair_order a a' trace v w (writes_conflict p v.x.access w.x.access writes is)

  same_read : (w : Both) (b b' : Access) → b.address ≡ b'.address → w.x.access ≡ Some b → w.y.access ≡ Some b' → b.writes ≡ false →
      b'.writes ≡ false → SameBefore w.i → b.value ≡ b'.value
  same_read w b b' same is is' reads reads' values =
      f.reads w.i w.x b w.first is reads ∙
      same_cell_lem b.address w.i w.j (cut_at b.address w (ap cell_in is)) values ∙
      ap (λ (q : Address). cells_after start (take w.j run'.events) q.rank q.cell) same ∙
      sym (f'.reads w.j w.y b' w.second is' reads')

  -- A rank stands at the same place with the same registers, if it has loaded the same: after a command, and before one.
  abbrev SameLocal : (rank count : ℕ) → Type 0
  SameLocal rank count = f.local rank count ≡ f'.local rank count

  local_after : {rank k : ℕ} (d : CommandAt run.events rank k) → SameLocal rank k → SameValue (paired a a' trace d.i d.e d.at) →
      SameLocal rank (suc k)
  local_after {rank} {k} d before value =
      let w : Both = paired a a' trace d.i d.e d.at in
      let own' : rank_of w.y ≡ rank = sym w.same.rank ∙ d.own in
      let here' : w.y.place ≡ k = sym w.same.place ∙ d.here in
      ap₂ f.local (sym d.own) (ap suc (sym d.here)) ∙
      same_step (f.local_step d.i d.e d.at d.command) (f'.local_step w.j w.y w.second (twin_command w d.command))
      (ap₂ f.local d.own d.here ∙ before ∙ ap₂ f'.local (sym own') (sym here'))
      w.same.rank (same_transition f f' trace.transitions w d.command) value ∙
      ap₂ f'.local own' (ap suc here')

  same_local : (k i : ℕ) (e : Event) → At run.events i e → is_command e ≡ true → e.place ≡ k → SameBefore i → SameLocal (rank_of e) k
  same_local zero i e at c is values = f.local_start (rank_of e) ∙ sym (f'.local_start (rank_of e))
  same_local (suc k) i e at c is values =
      let (d, before) = previous f i e at c k is in
      local_after d
      (subst (λ rank. SameLocal rank k) d.own
      (same_local k d.i d.e d.at d.command d.here (λ v less. values v (omega (arith, less, before)))))
      (values (paired a a' trace d.i d.e d.at) before)

  -- A store's value goes by its rank's local state, and a delivery's is its fetch's.
  same_store : (w : Both) → is_command w.x ≡ true → {b : Access} → w.x.access ≡ Some b → b.writes ≡ true → SameBefore w.i → SameValue w
  same_store w c has writes values =
      let step = f.local_step w.i w.x w.first c in
      let step' = f'.local_step w.j w.y w.second (twin_command w c) in
      let local : f.local (rank_of w.x) w.x.place ≡ f'.local (rank_of w.y) w.y.place =
      same_local w.x.place w.i w.x w.first c refl values ∙ ap₂ f'.local w.same.rank w.same.place in
      let act = (same_act step step' local w.same.rank (same_transition f f' trace.transitions w c)).1 in
      ap value_in step.access ∙
      write_value step.act (rank_of w.x) (rank_of w.y) step.value step'.value (sym step.access ∙ has) writes ∙
      ap (λ x. value_in (access_of (rank_of w.y) x (λ _ _. step'.value))) act ∙ ap value_in (sym step'.access)

  same_delivery_lem : (w : Both) → w.x.item.kind ≡ Popb → SameBefore w.i → SameValue w
  same_delivery_lem w kind values =
      let d = fetch_of_lem f w.i w.x w.first kind in
      let d' = fetch_of_lem f' w.j w.y w.second (sym (pair_kind a a' trace w) ∙ kind) in
      let v : Both = paired a a' trace d.j d.fetched d.at in
      let one : v.j ≡ d'.j =
      identity_unique f' v.j d'.j v.second d'.at
      (record {
        rank = sym v.same.rank ∙ d.rank ∙ w.same.rank ∙ sym d'.rank;
        place = sym v.same.place ∙ d.place ∙ w.same.place ∙ sym d'.place;
        part = sym v.same.part ∙ ap part_of (d.kind ∙ sym d'.kind);
      }) in
      sym d.value ∙ values v d.before ∙ ap value_at (at_unique f' v.second d'.at one) ∙ d'.value

  same_write : (w : Both) → {b : Access} → w.x.access ≡ Some b → b.writes ≡ true → SameBefore w.i → SameValue w
  same_write w {b} has writes values = go (part_of w.x.item.kind) refl
    where
      go : (p : Part) → part_of w.x.item.kind ≡ p → SameValue w
      go command is = same_store w (ap is_command_part is) has writes values
      go fetch is =
          let kind = fetch_kind w.x.item.kind is in
          absurd (true≢false (sym writes ∙ writes_as w.x.access has (kind_writes a w.i w.x w.first) ∙ ap writes_kind kind))
      go delivery is = same_delivery_lem w (delivery_kind w.x.item.kind is) values

  -- Every access has the same value: by induction on its place in the first record.
  same_value : (w : Both) → SameBefore w.i → SameValue w
  same_value w values = go (pair_alike a a' trace w) refl refl
    where
      go : {o o' : Option Access} → WriteAlike o o' → w.x.access ≡ o → w.y.access ≡ o' → SameValue w
      go neither is is' = ap value_in is ∙ ap value_in (sym is')
      go (both b b' cell alike) is is' =
          decided b.writes
          (λ writes. same_write w is writes values)
          (λ reads. ap value_in is ∙ ap Some (same_read w b b' cell is is' reads (sym alike ∙ reads) values) ∙ ap value_in (sym is'))

  values_before : (n : ℕ) → SameBefore n
  values_before zero w less = absurd (not-suc-le-zero less)
  values_before (suc n) w less = same_value w (λ v before. values_before n v (omega (arith, before, less)))

  pub same_values : SameValues run.events run'.events
  same_values x y mx my same = values_before (suc (position mx).0) (pair a a' trace mx my same) (omega arith)

  -- The last cells.
  pub same_cells : (rank cell : ℕ) → run.last.machine.cells rank cell ≡ run'.last.machine.cells rank cell
  same_cells rank cell =
      f.cells_end rank cell ∙
      ap (λ l. cells_after start l rank cell) (sym (take-length run.events)) ∙
      same_cell_lem (address rank cell) (length run.events) (length run'.events)
      (λ w writes. ((λ less. slice_get_bound run'.events w.j w.second), (λ less. slice_get_bound run.events w.i w.first)))
      (values_before (length run.events)) ∙
      ap (λ l. cells_after start l rank cell) (take-length run'.events) ∙
      sym (f'.cells_end rank cell)

  -- The counts of each rank's commands; its last registers and control state are those after the last.
  same_count : (rank : ℕ) → count_of rank run.events ≡ count_of rank run'.events
  same_count rank =
      sym (length-map (select (command_of rank) run.events) (λ e. e.item.transition)) ∙ ap length (trace.transitions rank) ∙
      length-map (select (command_of rank) run'.events) (λ e. e.item.transition)

  pub same_taken : (rank : ℕ) → run.last.taken rank ≡ run'.last.taken rank
  same_taken rank = counted (run_of a).whole rank ∙ same_count rank ∙ sym (counted (run_of a').whole rank)

  local_end : (rank n : ℕ) → count_of rank run.events ≡ n → SameLocal rank n
  local_end rank zero is = f.local_start rank ∙ sym (f'.local_start rank)
  local_end rank (suc k) is =
      let d : CommandAt run.events rank k = command_at_lem f rank k (omega (arith, is)) in
      local_after d
      (subst (λ r. SameLocal r k) d.own (same_local k d.i d.e d.at d.command d.here (values_before d.i)))
      (values_before (suc d.i) (paired a a' trace d.i d.e d.at) (omega arith))

  same_last : (rank : ℕ) → f.local rank (count_of rank run.events) ≡ f'.local rank (count_of rank run'.events)
  same_last rank = local_end rank (count_of rank run.events) refl ∙ ap (f'.local rank) (same_count rank)

  pub same_registers : (rank : ℕ) → run.last.machine.registers rank ≡ run'.last.machine.registers rank
  same_registers rank = f.registers_end rank ∙ ap (λ (l : Local). l.registers) (same_last rank) ∙ sym (f'.registers_end rank)

  pub same_control : (rank : ℕ) → run.last.machine.control rank ≡ run'.last.machine.control rank
  same_control rank = f.control_end rank ∙ ap (λ (l : Local). l.control) (same_last rank) ∙ sym (f'.control_end rank)
