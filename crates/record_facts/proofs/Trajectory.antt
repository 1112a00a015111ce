-- An accepted list of items, seen as a run that grows at its end: the events so far and the state that they lead to. A fact is proved of every run
-- by induction, from the start and over one step; and each event of a run was a step from a run with the events before it.
--
-- A rank's local state after so many commands of its own is the one of the first state in which it has taken that many. It is computed along the
-- steps still to come (`Path`), and the growing run keeps that the state at hand is the local state that was foretold.
use Rattle.model.proofs.Options.{none-ne-some}
use Prim.Native.Nat.{ℕ, zero, suc, ◌+◌, ◌≤◌}
use native.Mathlib.Nat.{le_refl, le_trans}
use native.Mathlib.Omega.{arith}
use mathlib.Core.Path.{◌≡◌, refl, sym, ◌∙◌, ap, ap₂}
use mathlib.Core.Bool.{true}
use mathlib.Core.List.{List, [], ◌∷◌, ◌++◌, map, map-append, append-nil, append_assoc}
use mathlib.Core.Logic.{◌⊎◌, inl, inr}
use lib.Dec.{leb}
use lib.ListN.{length, take}
use borrow.Author.Tests.{leb-true, le-leb}
use Rattle.model.specs.declared.Item.{Item}
use Rattle.model.specs.Refusals.{Ok}
use Rattle.model.specs.Choice.{when, Each, all, one}
use Rattle.model.specs.Programs.{Program}
use Rattle.model.specs.Machine.{Start}
use Rattle.model.specs.Replay.{Event, Replay, Replayed, begin, take_item, take_items, quiet, replay}
use Rattle.model.specs.HappensBefore.{At}
use Rattle.model.specs.Traces.{InRecord, command_of}
use Rattle.model.proofs.Laws.{ok_injective, bind_ok, decided}
use Rattle.model.proofs.TakenItems.{onward_taken, take_items_append, replay_taken}
use Rattle.record_facts.specs.Facts.{Local, initial_local}
use Rattle.record_facts.proofs.Moves.{Move, item_taken, move_takes}
use Rattle.record_facts.proofs.Locals.{local_of, Kept, local_kept, count_up_lem}

-- The steps from a state to a state.
pub data Path (P : Program) : Replay → List Event → Replay → Type 0 where
  here : {s : Replay} → Path P s [] s
  next : {s s₁ s₂ : Replay} {e : Event} {rest : List Event} → Move P s e s₁ → Path P s₁ rest s₂ → Path P s (e ∷ rest) s₂

-- An accepted list makes a path, by events of its items.
pub path : (P : Program) (s : Replay) (at : ℕ) (items : List Item) (run : Replayed) → Each (InRecord P.header) items →
    take_items P s at items ≡ Ok run → Path P s run.events run.last × (map (λ e. e.item) run.events ≡ items)
unfolding take_items
path P s at [] run all h = rw (← (ok_injective h)) (here, refl)
path P s at (i ∷ items) run (one within rest) h =
    let (taken, p, q) = bind_ok (take_item P s at i) _ h in
    let (after, p', q') = bind_ok (take_items P taken.state (at + 1) items) _ q in
    let (step, item) = item_taken P s at i within p in
    let (steps, others) = path P taken.state (at + 1) items after rest p' in
    rw (← (ok_injective q')) (next step steps, ap₂ ◌∷◌ item others)

-- A rank's local state when it has taken so many commands, along the steps to come.
foretold : {P : Program} {s s₂ : Replay} {events : List Event} → Path P s events s₂ → (rank count : ℕ) → Local
foretold (here {s = s}) rank count = local_of s rank
foretold (next {s = s} step rest) rank count = when (leb count (s.taken rank)) (λ _. local_of s rank) (λ _. foretold rest rank count)

-- What is foretold for the counts of the state at hand is that state.
foretold_now : {P : Program} {s s₂ : Replay} {events : List Event} (p : Path P s events s₂) (rank : ℕ) →
    foretold p rank (s.taken rank) ≡ local_of s rank
unfolding foretold
foretold_now here rank = refl
foretold_now (next {s = s} step rest) rank = rw (le-leb (s.taken rank) (s.taken rank) (le_refl (s.taken rank)))

-- What is foretold does not change along the path: a count that is reached after a step and was reached before it is of a rank that the step leaves
-- alone.
foretold_kept : {P : Program} {s s₁ s₂ : Replay} {events : List Event} (rest : Path P s₁ events s₂) (rank count : ℕ) →
    s₁.taken rank ≤ count → count ≤ s.taken rank → Kept s rank s₁ → local_of s rank ≡ foretold rest rank count
foretold_kept {s₁ = s₁} rest rank count reached within kept =
    let now : s₁.taken rank ≡ count = omega (arith, kept.count) in
    sym kept.same ∙ (sym (foretold_now rest rank) ∙ ap (foretold rest rank) now)

foretold_next : {P : Program} {s s₁ s₂ : Replay} {e : Event} {events : List Event} (step : Move P s e s₁) (rest : Path P s₁ events s₂)
    (rank count : ℕ) → s₁.taken rank ≤ count → foretold (next step rest) rank count ≡ foretold rest rank count
unfolding foretold
foretold_next {s = s} {e = e} step rest rank count reached =
    decided (leb count (s.taken rank))
    (λ within.
    decided (command_of rank e)
    (λ own. absurd (omega (arith, count_up_lem step rank own, leb-true count (s.taken rank) within)))
    (λ other. rw within (foretold_kept rest rank count reached (leb-true count (s.taken rank) within) (local_kept step rank other))))
    (λ beyond. rw beyond)

-- A run that grows at its end, whose states are the foretold ones.
pub data Run (P : Program) (start : Start) (local : ℕ → ℕ → Local) : List Event → Replay → Type 0 where
  begins : ((rank : ℕ) → local rank 0 ≡ initial_local) → Run P start local [] (begin start)
  grows : {done : List Event} {s s' : Replay} {e : Event} → Run P start local done s → Move P s e s' →
      ((rank : ℕ) → local rank (s'.taken rank) ≡ local_of s' rank) → Run P start local (done ++ e ∷ []) s'

-- The state at hand has the local states that were foretold.
pub local_now : {P : Program} {start : Start} {local : ℕ → ℕ → Local} {done : List Event} {s : Replay} → Run P start local done s →
    (rank : ℕ) → local rank (s.taken rank) ≡ local_of s rank
unfolding begin
local_now (begins h) rank = h rank
local_now (grows run step h) rank = h rank

-- A run's items are taken, to its state and by its events.
pub run_taken : {P : Program} {start : Start} {local : ℕ → ℕ → Local} {done : List Event} {s : Replay} → Run P start local done s →
    take_items P (begin start) 0 (map (λ e. e.item) done) ≡ Ok (record { last = s; events = done })
unfolding take_items
run_taken (begins h) = refl
run_taken {P} {start} (grows {done = done} {s = s} {e = e} run step h) =
    let items : List Item = map (λ e. e.item) done in
    let last = onward_taken P s (0 + length items) e.item [] (move_takes step (0 + length items)) refl in
    rw (map-append (λ e. e.item) done (e ∷ [])) (take_items_append P items (e.item ∷ []) (begin start) 0 ∙ rw (run_taken run, last))

-- No rank's count falls.
taken_rises : {P : Program} {s s' : Replay} {e : Event} → Move P s e s' → (rank : ℕ) → s.taken rank ≤ s'.taken rank
taken_rises {e = e} step rank =
    decided (command_of rank e) (λ own. omega (arith, count_up_lem step rank own)) (λ other. omega (arith, (local_kept step rank other).count))

-- A run goes on along a path whose local states were foretold.
follow : {P : Program} {start : Start} {local : ℕ → ℕ → Local} {done rest : List Event} {s s₂ : Replay} →
    Run P start local done s → (p : Path P s rest s₂) → ((rank count : ℕ) → s.taken rank ≤ count → local rank count ≡ foretold p rank count) →
    Run P start local (done ++ rest) s₂
follow {done = done} run here agree = rw (append-nil done) run
follow {done = done} run (next {s₁ = s₁} {e = e} {rest = rest} step p) agree =
    let later : (rank count : ℕ) → s₁.taken rank ≤ count → _ =
    λ rank count h. agree rank count (le_trans (taken_rises step rank) h) ∙ foretold_next step p rank count h in
    let grown = grows run step (λ rank. later rank (s₁.taken rank) (le_refl (s₁.taken rank)) ∙ foretold_now p rank) in
    rw append_assoc at (follow grown p later)

-- A list that the replay takes is a run, by events of its items.
pub record TakenRun (P : Program) (start : Start) (items : List Item) (run : Replayed) : Type 0 where
  pub local : ℕ → ℕ → Local
  pub whole : Run P start local run.events run.last
  pub items_of : map (λ e. e.item) run.events ≡ items

pub taken_run : (P : Program) (start : Start) (items : List Item) (run : Replayed) → Each (InRecord P.header) items →
    take_items P (begin start) 0 items ≡ Ok run → TakenRun P start items run
unfolding begin
taken_run P start items run within taken =
    let (p, items_of) = path P (begin start) 0 items run within taken in
    record { local = foretold p; whole = follow (begins (foretold_now p)) p (λ rank count h. refl); items_of = items_of }

-- An accepted list ends with no open row and with quiet queues.
pub record AcceptedRun (P : Program) (start : Start) (items : List Item) (run : Replayed) : Type 0 where
  pub taken : TakenRun P start items run
  pub no_row : run.last.row ≡ 0
  pub all_quiet : quiet P run.last.machine ≡ true

pub accepted : (P : Program) (start : Start) (items : List Item) (run : Replayed) → Each (InRecord P.header) items →
    replay P start items ≡ Ok run → AcceptedRun P start items run
accepted P start items run within h =
    let (taken, ended) = replay_taken P start items h in
    record { taken = taken_run P start items run within taken; no_row = ended.no_row; all_quiet = ended.all_quiet }

-- A numbered member of a list with one more at its end is an old one or the new one.
abbrev pub SnocAt : (done : List Event) (x : Event) (i : ℕ) (e : Event) → Type 0
SnocAt done x i e =
    (At done i e × (take i (done ++ x ∷ []) ≡ take i done)) ⊎ ((x ≡ e) × (take i (done ++ x ∷ []) ≡ done))

snoc_cons : (y : Event) (done : List Event) (x : Event) (i : ℕ) (e : Event) → SnocAt done x i e → SnocAt (y ∷ done) x (suc i) e
snoc_cons y done x i e (inl (at, same)) = inl (at, ap (y ∷◌) same)
snoc_cons y done x i e (inr (new, same)) = inr (new, ap (y ∷◌) same)

pub snoc_at : (done : List Event) (x : Event) (i : ℕ) (e : Event) → At (done ++ x ∷ []) i e → SnocAt done x i e
snoc_at [] x zero e h = inr (cc, refl)
snoc_at [] x (suc i) e h = absurd (none-ne-some _ h)
snoc_at (y ∷ done) x zero e h = inl (h, refl)
snoc_at (y ∷ done) x (suc i) e h = snoc_cons y done x i e (snoc_at done x i e h)

-- An event of a run was a step, from the run with the events before it.
pub record StepAt (P : Program) (start : Start) (local : ℕ → ℕ → Local) (done : List Event) (e : Event) : Type 0 where
  pub before : Replay
  pub after : Replay
  pub run : Run P start local done before
  pub step : Move P before e after
  pub stepped : Run P start local (done ++ e ∷ []) after

module _ {P : Program} {start : Start} {local : ℕ → ℕ → Local} where
  -- The last event was the last step; for an earlier one, ask the run before.
  last_step : {done : List Event} {x : Event} (i : ℕ) (e : Event) → StepAt P start local done x →
      (At done i e → StepAt P start local (take i done) e) → SnocAt done x i e → StepAt P start local (take i (done ++ x ∷ [])) e
  last_step i e last earlier (inl (old, same)) = rw same (earlier old)
  last_step i e last earlier (inr (new, same)) = rw (same, ← new) last

  pub move_at : {events : List Event} {s : Replay} → Run P start local events s →
      (i : ℕ) (e : Event) → At events i e → StepAt P start local (take i events) e
  move_at (begins h) i e at = absurd (none-ne-some _ at)
  move_at (grows {done = done} {e = x} run step h) i e at =
      let last : StepAt P start local done x = record { before = _; after = _; run = run; step = step; stepped = grows run step h } in
      last_step i e last (λ old. move_at run i e old) (snoc_at done x i e at)
