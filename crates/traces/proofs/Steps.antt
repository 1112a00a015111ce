-- What a rank does alike in two runs. A command takes the same local state to the same, if it loads the same; what it writes does not depend on what it
-- loads; and a delivery has the value of its fetch, which stands before it.
use Rattle.model.specs.declared.Action.TheVariants.{Loads, Stores, Assigns, Passes, Issues, Meets}
use Rattle.std.specs.Prelude.{Option, Some, slice_get}
use Rattle.model.proofs.Options.{none-ne-some, some-injective}
use Prim.Native.Nat.{ℕ, zero, suc, ◌<◌}
use mathlib.Core.Path.{◌≡◌, refl, sym, ◌∙◌, ap, ap₂}
use mathlib.Core.Bool.{true, true≢false, false≢true}
use mathlib.Core.List.{List}
use native.Mathlib.Omega.{arith}
use lib.Dec.{eqb}
use lib.ListN.{length, take}
use borrow.Author.Tests.{eq-eqb, eqb-true}
use Rattle.model.specs.declared.Item.{Item}
use Rattle.model.specs.declared.Kind.TheVariants.{Popa, Popb}
use Rattle.model.specs.Choice.{select}
use Rattle.model.specs.ItemKinds.{is_transfer, part_of}
use Rattle.model.specs.Programs.{Program, Transition}
use Rattle.model.specs.Machine.{Start, Access, put, Action, action}
use Rattle.model.specs.Replay.{Event, Replayed, access_of}
use Rattle.model.specs.HappensBefore.{At, is_command, rank_of}
use Rattle.model.specs.Traces.{value_at, command_of}
use Rattle.model.specs.Checks.{in_group}
use Rattle.model.proofs.Laws.{and-true, ok_injective, slice_get_bound, slice_get_below, each_at}
use Rattle.model.proofs.Selections.{select_at, select_from, Selected, selected_rises}
use Rattle.record_facts.specs.Facts.{Facts, Local, CommandStep, Shape, single, transfer, row, count_of, registers_after}
use Rattle.serializability.proofs.Projections.{command_of_true}
use Rattle.serializability.proofs.Groups.{kind_command}
use Rattle.model.proofs.ItemKinds.{command≢delivery, fetch≢delivery}
use Rattle.serializability.proofs.Identity.{place_order}
use Rattle.traces.proofs.Accesses.{value_in}

-- A load of the same value leaves the same registers; nothing else is loaded.
registers_same : (a : Action) (v v' r r' : ℕ) {x x' : Option Access} → x ≡ access_of r a (λ _ _. v) → x' ≡ access_of r' a (λ _ _. v') →
    value_in x ≡ value_in x' → (registers : ℕ → ℕ) → registers_after a v registers ≡ registers_after a v' registers
unfolding registers_after access_of
registers_same (Loads y c) v v' r r' p p' same registers =
    ap (put registers y) (some-injective v v' (ap value_in (sym p) ∙ same ∙ ap value_in p'))
registers_same (Stores c w) v v' r r' p p' same registers = refl
registers_same (Assigns y w) v v' r r' p p' same registers = refl
registers_same Passes v v' r r' p p' same registers = refl
registers_same (Issues q remote source destination) v v' r r' p p' same registers = refl
registers_same Meets v v' r r' p p' same registers = refl

-- The same transition asks for the same, from the same local state.
pub same_act : {P : Program} {l l' m m' : Local} {e e' : Event} (s : CommandStep P l e m) (s' : CommandStep P l' e' m') → l ≡ l' → rank_of e ≡ rank_of e' →
    e.item.transition ≡ e'.item.transition → (s.transition ≡ s'.transition) × (s.act ≡ s'.act)
same_act {P} {l} {l'} {e = e} {e'} s s' local rank number =
    let one : s.transition ≡ s'.transition =
    some-injective _ _ (sym s.taken ∙ ap (slice_get P.transitions) number ∙ s'.taken) in (
      one,
      ok_injective (sym (s.acts 0) ∙ ap₂ (λ r (k : Local). action P r k.registers 0 s.transition.command) rank local ∙
          ap (λ (t : Transition). action P (rank_of e') l'.registers 0 t.command) one ∙ s'.acts 0),
    )

-- So with the same value loaded it goes to the same local state.
pub same_step : {P : Program} {l l' m m' : Local} {e e' : Event} → CommandStep P l e m → CommandStep P l' e' m' → l ≡ l' → rank_of e ≡ rank_of e' →
    e.item.transition ≡ e'.item.transition → value_at e ≡ value_at e' → m ≡ m'
same_step {P} {l} {l'} {e = e} {e'} s s' local rank number value =
    let (one, act) = same_act s s' local rank number in
    ap₂ (λ control registers. record { control = control; registers = registers })
    (s.control ∙ ap (λ (t : Transition). t.target) one ∙ sym s'.control)
    (s.registers ∙
    registers_same s.act s.value s'.value (rank_of e) (rank_of e') s.access
    (s'.access ∙ ap (λ a. access_of (rank_of e') a (λ _ _. s'.value)) (sym act)) value l.registers ∙
    ap₂ (λ a (k : Local). registers_after a s'.value k.registers) act local ∙ sym s'.registers)

-- A write's value is its action's, whatever was loaded.
pub write_value : (a : Action) (r r' v v' : ℕ) {b : Access} → access_of r a (λ _ _. v) ≡ Some b → b.writes ≡ true →
    value_in (access_of r a (λ _ _. v)) ≡ value_in (access_of r' a (λ _ _. v'))
unfolding access_of
write_value (Loads x c) r r' v v' is writes = absurd (false≢true (ap (λ (b : Access). b.writes) (some-injective _ _ is) ∙ writes))
write_value (Stores c w) r r' v v' is writes = refl
write_value (Assigns x w) r r' v v' is writes = refl
write_value Passes r r' v v' is writes = refl
write_value (Issues q remote source destination) r r' v v' is writes = refl
write_value Meets r r' v v' is writes = refl

-- The command with this place in a rank's sequence.
pub record CommandAt (events : List Event) (rank place : ℕ) : Type 0 where
  pub i : ℕ
  pub e : Event
  pub at : At events i e
  pub command : is_command e ≡ true
  pub own : rank_of e ≡ rank
  pub here : e.place ≡ place

-- A delivery stands behind its fetch in its group, which has the same value.
record InShape (l : List Event) (k : ℕ) (b : Event) : Type 0 where
  a : Event
  there : At l 1 a
  last : k ≡ 2
  kind_is : a.item.kind ≡ Popa
  rank : rank_of a ≡ rank_of b
  place : a.place ≡ b.place
  value : value_at a ≡ value_at b

shape_fetched : {P : Program} {local : ℕ → ℕ → Local} {l : List Event} → Shape P local l → (k : ℕ) (b : Event) → At l k b → b.item.kind ≡ Popb →
    InShape l k b
shape_fetched (single e c t no_bar) zero b at kind =
    absurd (true≢false (sym c ∙ ap is_command (some-injective e b at) ∙ kind_command b kind))
shape_fetched (single e c t no_bar) (suc k) b at kind = absurd (none-ne-some _ at)
shape_fetched (transfer e a d x) zero b at kind =
    absurd (true≢false (sym x.is_transfer_lem ∙ ap (λ (z : Event). is_transfer z.item.kind) (some-injective e b at) ∙ ap is_transfer kind))
shape_fetched (transfer e a d x) (suc zero) b at kind =
    absurd
    (fetch≢delivery
    (sym (ap part_of x.fetch_of_lem.kind_is) ∙ ap (λ (z : Event). part_of z.item.kind) (some-injective a b at) ∙ ap part_of kind))
shape_fetched (transfer e a d x) (suc (suc zero)) b at kind =
    let same : d ≡ b = some-injective d b at in
    record {
      a = a;
      there = refl;
      last = refl;
      kind_is = x.fetch_of_lem.kind_is;
      rank = x.fetch_of_lem.rank ∙ sym x.delivery_of_lem.rank ∙ ap rank_of same;
      place = x.fetch_of_lem.place ∙ sym x.delivery_of_lem.place ∙ ap (λ (z : Event). z.place) same;
      value = ap value_in x.reads ∙ ap value_in (sym x.writes) ∙ ap value_at same;
    }
shape_fetched (transfer e a d x) (suc (suc (suc k))) b at kind = absurd (none-ne-some _ at)
shape_fetched (row bars kinds ranks) k b at kind = absurd (command≢delivery (sym (ap part_of (each_at bars kinds k at)) ∙ ap part_of kind))

module _ {P : Program} {start : Start} {items : List Item} {run : Replayed} (f : Facts P start items run) where
  pub command_at_lem : (rank place : ℕ) → place < count_of rank run.events → CommandAt run.events rank place
  command_at_lem rank place few =
      let (e, there) = slice_get_below (select (command_of rank) run.events) place few in
      let s : Selected (command_of rank) run.events place e = select_from (command_of rank) run.events place there in
      let (command, same) = and-true (is_command e) (eqb (rank_of e) rank) s.passes in
      let own : rank_of e ≡ rank = eqb-true (rank_of e) rank same in
      record {
        i = s.i;
        e = e;
        at = s.at;
        command = command;
        own = own;
        here = f.place_of s.i e s.at command ∙ ap (λ q. count_of q (take s.i run.events)) own ∙ s.before;
      }

  -- A command's predecessor in its rank, which stands before it.
  pub previous : (i : ℕ) (e : Event) → At run.events i e → is_command e ≡ true → (k : ℕ) → e.place ≡ suc k →
      (d : CommandAt run.events (rank_of e) k) × (d.i < i)
  previous i e at c k is =
      let own = select_at (command_of (rank_of e)) run.events i at (command_of_true e c) in
      let few = slice_get_bound (select (command_of (rank_of e)) run.events) (count_of (rank_of e) (take i run.events)) own in
      let d : CommandAt run.events (rank_of e) k = command_at_lem (rank_of e) k (omega (arith, is, f.place_of i e at c, few)) in
      (d, place_order f d.i i d.at at d.command c d.own (omega (arith, is, d.here)))

  -- The fetch of a delivery: earlier, and with the same value.
  pub record Fetch (i : ℕ) (b : Event) : Type 0 where
    pub j : ℕ
    pub fetched : Event
    pub at : At run.events j fetched
    pub before : j < i
    pub kind : fetched.item.kind ≡ Popa
    pub rank : rank_of fetched ≡ rank_of b
    pub place : fetched.place ≡ b.place
    pub value : value_at fetched ≡ value_at b

  pub fetch_of_lem : (i : ℕ) (b : Event) → At run.events i b → b.item.kind ≡ Popb → Fetch i b
  fetch_of_lem i b at kind =
      let g : ℕ = b.group in
      let own : Selected (in_group g) run.events (length (select (in_group g) (take i run.events))) b =
      record { i = i; at = at; passes = eq-eqb g g refl; before = refl } in
      let x = shape_fetched (f.shape g (f.group_bound i b at)) _ b (select_at (in_group g) run.events i at (eq-eqb g g refl)) kind in
      let s : Selected (in_group g) run.events 1 x.a = select_from (in_group g) run.events 1 x.there in
      record {
        j = s.i;
        fetched = x.a;
        at = s.at;
        before = selected_rises s own (omega (arith, x.last));
        kind = x.kind_is;
        rank = x.rank;
        place = x.place;
        value = x.value;
      }
