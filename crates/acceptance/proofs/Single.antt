-- An item other than a bar is a step of Table 1 exactly if the replay takes it.
use Rattle.std.specs.Prelude.{Option, Some}
use Prim.Native.Nat.{ℕ, ◌≤◌}
use mathlib.Core.Path.{◌≡◌, refl, sym, ap, ap₂, subst, subst₂, ◌∙◌}
use mathlib.Core.Bool.{Bool, true, false, true≢false}
use mathlib.Core.List.{List, [], ◌∷◌, map}
use mathlib.Core.Logic.Iff
use mathlib.Core.Logic.{◌↔◌}
use Rattle.model.specs.declared.Kind.{Kind}
use Rattle.model.specs.declared.Kind.TheVariants.{Popa, Popb}
use Rattle.model.specs.declared.Item.{Item}
use Rattle.model.specs.ItemKinds.{is_bar, part_of}
use Rattle.model.specs.Programs.{Program, Command, kind_of, Transition}
use Rattle.model.specs.Machine.{Request, Delivery, Access, Action, read_of, write_of, cell_at}
use Rattle.model.specs.Rules.{Bare, Label, command, pop, Rank, Enabled, Step, Recorded, ChosenAs, PlacedAs, Queue}
use Rattle.model.specs.Replay.{Replay, Taken, access_of, row_allows, after_command, is_for, after_fetch, after_delivery}
use Rattle.model.proofs.ItemKinds.{part_of_command}
use Rattle.model.proofs.Replay.{CommandTaken, PopTaken, ItemTaken, commands, fetches, delivers}
use Rattle.model.proofs.Erasing.{erased_taken, taken_marked}
use Rattle.model.proofs.Actions.{Asks, loading, storing, assigning, passing, reading, writing, meeting, action_asks, asks_action}
use Rattle.acceptance.specs.Bare.{bare, bare_request, bare_delivery}
use Rattle.acceptance.specs.Ranges.{PopIn, NamedIn, InRange}
use Rattle.acceptance.proofs.ItemKinds.{chosen_transition}
use Rattle.acceptance.proofs.Marks.{successor, bare_perform, fetch_successor, delivery_successor, bare_fetched, bare_delivered}
use Rattle.acceptance.proofs.Choosing.{Chosen, head, for_rank, rule_takes, replay_takes}
use Rattle.acceptance.proofs.Agreement.{agrees_placed, placed_agrees}

-- An enabled command that asks for an action is a step, unless it is a bar.
pub asks_step : (P : Program) {s : Bare} {r t q₂ : ℕ} {c : Command} {a : Action} → Enabled P s r t c q₂ → Asks P r (s.registers r) c a →
    is_bar (kind_of c) ≡ false → Step P s (command (kind_of c) r t (access_of r a s.cells) ∷ []) (successor P s r a q₂)
unfolding kind_of access_of successor
asks_step P e (loading here cell) h = Step.load e here cell
asks_step P e (storing here stored cell) h = Step.store e here stored cell
asks_step P e (assigning assigned) h = Step.assign e assigned
asks_step P e (passing assumed test) h = Step.assume e assumed test
asks_step P e (reading operands) h = Step.read e operands
asks_step P e (writing operands) h = Step.write e operands
asks_step P e meeting h = absurd (true≢false h)

-- The transition of a command item that is taken is enabled.
pub command_enabled : (P : Program) (s : Replay) (i : Item) {t : Transition} {a : Action} → Rank P i.rank → CommandTaken P s i t a →
    Enabled P (bare s.machine) i.rank i.transition t.command t.target
unfolding bare
command_enabled P s i {t} rank c =
    record { rank = rank; transition = c.found ∙ ap (λ n. Some (record { source = n; target = t.target; command = t.command })) c.source }

-- An item as a step: its event, and the state after it.
pub record Stepped (P : Program) (s : Bare) (i : Item) (last : Bare) : Type 0 where
  pub label : Label
  pub recorded : Recorded label i
  pub step : Step P s (label ∷ []) last

-- The replay takes an item, and leaves this state.
pub record Takes (P : Program) (s : Replay) (i : Item) (last : Bare) : Type 0 where
  pub taken : Taken
  pub item : ItemTaken P s i taken
  pub state : bare taken.state.machine ≡ last

-- What both pops have in common: `queues` with the marks, the remote rank and the access of an entry without its mark, and the states that the two
-- sides leave.
module _ (P : Program) (s : Replay) (i : Item) (kind : Kind) {Entry Erased : Type 0} (erase : Entry → Erased) (queues : ℕ → ℕ → List Entry)
    (remote : Erased → ℕ) (access : Erased → Option Access) (leaves : Entry → List Entry → Taken) (after : (r q : ℕ) → Erased → List Erased → Bare)
    (unmarked : (a : Entry) (rest : List Entry) → bare (leaves a rest).state.machine ≡ after i.rank i.queue (erase a) (map erase rest))
    (choice : (l : Label) → ChosenAs l (part_of kind) i ↔ ((i.queue ≡ l.queue) × (i.remote ≡ l.remote))) where
  -- The entries that it chooses among, without their marks.
  abbrev among : Erased → Bool
  among x = is_for i.remote (remote x)

  -- The item takes this entry out of its queue.
  abbrev Popped : Entry → List Entry → Type 0
  Popped a rest = PopTaken s i kind (λ x. among (erase x)) (queues i.rank i.queue) a rest (access (erase a))

  -- A pop that is taken is a step, by its rule.
  pop_step : {a : Entry} {rest : List Entry} →
      ((x : Erased) (α : List Erased) → Chosen P remote (map erase (queues i.rank i.queue)) x α i.remote →
      Step P (bare s.machine) (pop kind i.rank i.queue i.remote (access x) ∷ []) (after i.rank i.queue x α)) →
      i.remote ≤ P.header.ranks → Popped a rest → Stepped P (bare s.machine) i (bare (leaves a rest).state.machine)
  pop_step {a} {rest} rule high t =
      let l : Label = pop kind i.rank i.queue i.remote (access (erase a)) in
      record {
        label = l;
        recorded = record { kind = t.kind_is; rank = refl; choice = (choice l).1 (refl, refl); access = agrees_placed i (access (erase a)) t.agreed };
        step =
            subst (Step P (bare s.machine) (l ∷ [])) (sym (unmarked a rest))
            (rule (erase a) (map erase rest) (rule_takes P remote i.remote high (erased_taken erase among (queues i.rank i.queue) t.chosen)));
      }

  -- A pop whose rule has an entry to take is taken.
  pop_takes : row_allows s.row i ≡ true → {r q n : ℕ} {a : Erased} {α : List Erased} → Chosen P remote (map erase (queues r q)) a α n →
      Recorded (pop kind r q n (access a)) i → ((a : Entry) (rest : List Entry) → Popped a rest → ItemTaken P s i (leaves a rest)) →
      Takes P s i (after r q a α)
  pop_takes allowed {r} {q} {n} {a} {α} chosen recorded item =
      let Goal : ℕ → ℕ → ℕ → Type 0 = λ k l m. Chosen P remote (map erase (queues k l)) a α m → Takes P s i (after k l a α) in
      let (same_queue, same_remote) = (choice (pop kind r q n (access a))).0 recorded.choice in
      subst (λ k. Goal k q n) recorded.rank
      (subst₂ (Goal i.rank) same_queue same_remote λ h.
      let found = taken_marked erase among (queues i.rank i.queue) (replay_takes P remote h) in
      let entry : Entry = found.entry in
      let rest : List Entry = found.rest in
      let here : erase entry ≡ a = found.here in
      let placed : PlacedAs (access (erase entry)) i = subst (λ x. PlacedAs (access x) i) (sym here) recorded.access in
      record {
        taken = leaves entry rest;
        item =
            item entry rest
            (record {
              allowed = allowed;
              kind_is = recorded.kind;
              chosen = found.chosen;
              agreed = placed_agrees i (access (erase entry)) placed;
            });
        state = unmarked entry rest ∙ ap₂ (after i.rank i.queue) here found.others;
      })
      chosen

-- What a popa reads, and what a popb writes.
abbrev pub fetch_access : {Mark : Type 0} → (cells : ℕ → ℕ → ℕ) → Request Mark → Option Access
fetch_access cells a = read_of a.source (cell_at cells a.source)

abbrev pub delivery_access : {Mark : Type 0} → Delivery Mark → Option Access
delivery_access b = write_of b.destination b.value

-- The two rules for a popa, and those for a popb.
module _ (P : Program) {s : Bare} {r q : ℕ} (rank : Rank P r) (queue : Queue P q) where
  fetch_rule : {n : ℕ} {a : Request (Unit {0})} {α : List (Request (Unit {0}))} → Chosen P (λ x. x.remote) (s.requests r q) a α n →
      Step P s (pop Popa r q n (fetch_access s.cells a) ∷ []) (fetch_successor P s r q a α)
  fetch_rule (head h) = Step.popa rank queue h
  fetch_rule (for_rank named o) = Step.popa_for rank queue named o

  delivery_rule : {n : ℕ} {b : Delivery (Unit {0})} {β : List (Delivery (Unit {0}))} → Chosen P (λ x. x.remote) (s.deliveries r q) b β n →
      Step P s (pop Popb r q n (delivery_access b) ∷ []) (delivery_successor s r q b β)
  delivery_rule (head h) = Step.popb rank queue h
  delivery_rule (for_rank named o) = Step.popb_for rank queue named o

module _ (P : Program) (s : Replay) (i : Item) where
  -- A command item that is taken is a step, unless it is a bar.
  command_step : {t : Transition} {a : Action} → Rank P i.rank → is_bar i.kind ≡ false → CommandTaken P s i t a →
      Stepped P (bare s.machine) i (bare (after_command P s i t.target a).state.machine)
  unfolding bare
  command_step {t} {a} rank single c =
      let cmd : Command = t.command in
      let l : Label = command (kind_of cmd) i.rank i.transition (access_of i.rank a s.machine.cells) in
      record {
        label = l;
        recorded =
            record {
              kind = sym c.kind;
              rank = refl;
              choice = (chosen_transition cmd l i).1 refl;
              access = agrees_placed i (access_of i.rank a s.machine.cells) c.agreed;
            };
        step =
            subst (Step P (bare s.machine) (l ∷ [])) (sym (bare_perform P s.machine i.rank _ a t.target))
            (asks_step P (command_enabled P s i rank c) (action_asks P i.rank (s.machine.registers i.rank) 0 cmd (c.acts 0))
            (ap is_bar c.kind ∙ single));
      }

  -- An item that the replay takes is a step, unless it is a bar.
  pub taken_step : {taken : Taken} → InRange P i → is_bar i.kind ≡ false → ItemTaken P s i taken →
      Stepped P (bare s.machine) i (bare taken.state.machine)
  unfolding bare
  taken_step range single (commands t a c) = command_step range.rank single c
  taken_step range single (fetches a rest f) =
      let named : PopIn P i = subst (λ k. NamedIn P (part_of k) i) f.kind_is range.named in
      pop_step P s i Popa bare_request s.machine.requests (λ x. x.remote) (fetch_access s.machine.cells) (after_fetch s i) (fetch_successor P (bare s.machine))
      (bare_fetched P s i) (λ l. Iff.rfl) (λ x α. fetch_rule P range.rank named.queue) named.remote f
  taken_step range single (delivers b rest d) =
      let named : PopIn P i = subst (λ k. NamedIn P (part_of k) i) d.kind_is range.named in
      pop_step P s i Popb bare_delivery s.machine.deliveries (λ x. x.remote) delivery_access (after_delivery s i) (delivery_successor (bare s.machine))
      (bare_delivered s i) (λ l. Iff.rfl) (λ x β. delivery_rule P range.rank named.queue) named.remote d

module _ (P : Program) (s : Replay) (i : Item) (allowed : row_allows s.row i ≡ true) where
  -- The item's own transition is enabled.
  enabled_takes : {q₂ : ℕ} {c : Command} {a : Action} → i.kind ≡ kind_of c → Enabled P (bare s.machine) i.rank i.transition c q₂ →
      Asks P i.rank (s.machine.registers i.rank) c a → PlacedAs (access_of i.rank a s.machine.cells) i →
      Takes P s i (successor P (bare s.machine) i.rank a q₂)
  unfolding bare
  enabled_takes {q₂} {c} {a} kind enabled asks placed =
      record {
        taken = after_command P s i q₂ a;
        item =
            commands (record { source = s.machine.control i.rank; target = q₂; command = c }) a
            (record {
              allowed = allowed;
              part = ap part_of kind ∙ part_of_command c;
              found = enabled.transition;
              source = refl;
              kind = sym kind;
              acts = λ at. asks_action P i.rank (s.machine.registers i.rank) at asks;
              agreed = placed_agrees i (access_of i.rank a s.machine.cells) placed;
            });
        state = bare_perform P s.machine i.rank _ a q₂;
      }

  -- A command that is enabled and asks for an action is taken.
  pub asks_takes : {r t q₂ : ℕ} {c : Command} {a : Action} → Enabled P (bare s.machine) r t c q₂ → Asks P r (s.machine.registers r) c a →
      Recorded (command (kind_of c) r t (access_of r a s.machine.cells)) i → Takes P s i (successor P (bare s.machine) r a q₂)
  asks_takes {r} {t} {q₂} {c} {a} enabled asks recorded =
      let m : Bare = bare s.machine in
      let here : r ≡ i.rank = sym recorded.rank in
      let named = (chosen_transition c (command (kind_of c) r t (access_of r a s.machine.cells)) i).0 recorded.choice in
      subst (λ n. Takes P s i (successor P m n a q₂)) recorded.rank
      (enabled_takes recorded.kind
      (subst₂ (λ n k. Enabled P m n k c q₂) here (sym named) enabled)
      (subst (λ n. Asks P n (s.machine.registers n) c a) here asks)
      (subst (λ n. PlacedAs (access_of n a s.machine.cells) i) here recorded.access))

  -- The same of a popa, and of a popb.
  pub fetch_takes : {r q n : ℕ} {a : Request (Unit {0})} {α : List (Request (Unit {0}))} →
      Chosen P (λ x. x.remote) ((bare s.machine).requests r q) a α n → Recorded (pop Popa r q n (fetch_access s.machine.cells a)) i → Takes P s i (fetch_successor P (bare s.machine) r q a α)
  unfolding bare
  fetch_takes chosen recorded =
      pop_takes P s i Popa bare_request s.machine.requests (λ x. x.remote) (fetch_access s.machine.cells) (after_fetch s i) (fetch_successor P (bare
      s.machine))
      (bare_fetched P s i) (λ l. Iff.rfl) allowed chosen recorded fetches

  pub delivery_takes : {r q n : ℕ} {b : Delivery (Unit {0})} {β : List (Delivery (Unit {0}))} →
      Chosen P (λ x. x.remote) ((bare s.machine).deliveries r q) b β n → Recorded (pop Popb r q n (delivery_access b)) i → Takes P s i (delivery_successor (bare s.machine) r q b β)
  unfolding bare
  delivery_takes chosen recorded =
      pop_takes P s i Popb bare_delivery s.machine.deliveries (λ x. x.remote) delivery_access (after_delivery s i) (delivery_successor (bare s.machine))
      (bare_delivered s i) (λ l. Iff.rfl) allowed chosen recorded delivers
