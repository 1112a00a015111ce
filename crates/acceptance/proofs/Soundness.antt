-- What the replay accepts is a run of Table 1. The items are walked once; on the way the ranks of an open row are remembered with the state in which
-- it opened, and the bar of rank N turns them into one step.
use Rattle.std.specs.Prelude.{None}
use Prim.Native.Nat.{ℕ, ◌+◌}
use mathlib.Core.Path.{◌≡◌, refl, sym, ap, subst, subst₂, ◌∙◌}
use mathlib.Core.Bool.{true, false}
use mathlib.Core.List.{List, [], ◌∷◌, ◌++◌}
use lib.Dec.{eqb}
use lib.Seq.{append_snoc}
use borrow.Author.Tests.{eqb-true}
use Rattle.model.specs.declared.Kind.TheVariants.{Bar}
use Rattle.model.specs.declared.Item.{Item}
use Rattle.model.specs.Refusals.{Ok}
use Rattle.model.specs.Choice.{numbers_from, Each}
use Rattle.model.specs.ItemKinds.{is_bar}
use Rattle.model.specs.Programs.{Program, Command}
use Rattle.model.specs.Machine.{Start, move_to}
use Rattle.model.specs.Rules.{Bare, Label, command, Enabled, Step, Run, stop, ◌then◌, Recorded, AllRecorded, all, one, IsRun}
use Rattle.model.specs.Replay.{Replay, Taken, Replayed, begin, take_item, take_items, replay}
use Rattle.model.proofs.Replay.{ItemTaken, item_taken}
use Rattle.model.proofs.TakenItems.{replay_taken}
use Rattle.model.proofs.Laws.{bind_ok, ok_injective, decided, when_true, when_false}
use Rattle.acceptance.specs.Bare.{bare}
use Rattle.acceptance.specs.Ranges.{InRange}
use Rattle.acceptance.proofs.Quiet.{quiet_final}
use Rattle.acceptance.proofs.Single.{Stepped, taken_step}
use Rattle.acceptance.proofs.Rows.{moved, moved_none, row_labels, Entered, nobody, Grown, enter, row_step}
use Rattle.acceptance.proofs.Bars.{BarTaken, bar_taken, single_row}

-- A run from s, whose first events are given and whose others these items record.
pub record Continues (P : Program) (s : Bare) (before : List Label) (items : List Item) (last : Bare) : Type 0 where
  pub events : List Label
  pub recorded : AllRecorded events items
  pub run : Run P s (before ++ events) last

-- The first item's event comes last of those before the others.
continues_from : (P : Program) {s last : Bare} {before : List Label} {l : Label} {i : Item} {items : List Item} → Recorded l i →
    Continues P s (before ++ l ∷ []) items last → Continues P s before (i ∷ items) last
continues_from P {s} {last} {before} {l} recorded c =
    record {
      events = l ∷ c.events;
      recorded = one recorded c.recorded;
      run = subst (λ (ls : List Label). Run P s ls last) (append_snoc before l c.events) c.run;
    }

-- A step, and what comes after it.
step_continues : (P : Program) {s s' last : Bare} {a : List Label} {items : List Item} → Step P s a s' → Continues P s' [] items last →
    Continues P s a items last
step_continues P step c = record { events = c.events; recorded = c.recorded; run = ◌then◌ step c.run }

-- With no row open, nobody has entered one.
closed : (P : Program) {s₀ s : Bare} {k : ℕ} (e : Entered P s₀ k s) → k ≡ 0 → (row_labels e.transition k ≡ []) × (s₀ ≡ s)
unfolding numbers_from
closed P {s₀} {s} {k} e none' =
    (ap (row_labels e.transition) none', sym (e.state ∙ ap (λ n. moved s₀ n e.target) none' ∙ moved_none s₀ e.target))

module _ (P : Program) where
  -- What is shown of a list of items: from any state, in a row or not.
  abbrev Walked : List Item → Type 0
  Walked items = (s : Replay) (at : ℕ) (s₀ : Bare) (e : Entered P s₀ s.row (bare s.machine)) (r : Replayed) →
      take_items P s at items ≡ Ok r → r.last.row ≡ 0 →
      Continues P s₀ (row_labels e.transition s.row) items (bare r.last.machine)

  -- From a state with no open row.
  fresh : {items : List Item} → Walked items → (s : Replay) (at : ℕ) (r : Replayed) → s.row ≡ 0 → take_items P s at items ≡ Ok r →
      r.last.row ≡ 0 → Continues P (bare s.machine) [] items (bare r.last.machine)
  fresh {items} walked s at r row h end =
      let s₀ : Bare = bare s.machine in
      let e : Entered P s₀ s.row s₀ = subst (λ k. Entered P s₀ k s₀) (sym row) (nobody P s₀) in
      subst (λ (ls : List Label). Continues P s₀ ls items (bare r.last.machine)) (closed P e row).0 (walked s at s₀ e r h end)

  -- The walk past an item i that is taken, if the items after it can be walked.
  module _ (s : Replay) (at : ℕ) (s₀ : Bare) (e : Entered P s₀ s.row (bare s.machine)) (r : Replayed) (i : Item) (items : List Item)
      (walked : Walked items) (range : InRange P i) (taken : Taken) (item : ItemTaken P s i taken)
      (rest : take_items P taken.state (at + 1) items ≡ Ok r) (end : r.last.row ≡ 0) where
    -- An item that is no bar comes first.
    single_walked : is_bar i.kind ≡ false → Continues P s₀ (row_labels e.transition s.row) (i ∷ items) (bare r.last.machine)
    single_walked single =
        let (before, after) = single_row P s i single item in
        let (labels, same) = closed P e before in
        let stepped : Stepped P (bare s.machine) i (bare taken.state.machine) = taken_step P s i range single item in
        subst₂ (λ (ls : List Label) (x : Bare). Continues P x ls (i ∷ items) (bare r.last.machine)) (sym labels) (sym same)
        (continues_from P stepped.recorded
        (step_continues P stepped.step (fresh walked taken.state (at + 1) r after rest end)))

    -- The row with this bar.
    abbrev Next : ℕ → Type 0
    Next k = Grown P e (command Bar i.rank i.transition None) k (bare taken.state.machine)

    next : BarTaken P s i taken → Next i.rank
    next b =
        let m : Bare = bare s.machine in
        let enters : (k : ℕ) → Type 0 = λ k. Grown P e (command Bar k i.transition None) k (move_to m k b.target) in
        subst (Grown P e (command Bar i.rank i.transition None) i.rank) (sym b.state)
        (subst (λ k. Enabled P m k i.transition Command.bar b.target → enters k) (sym b.next) (enter P e) b.enabled)

    -- A bar comes first: it closes its row, or the row goes on.
    bar_walked : is_bar i.kind ≡ true → Continues P s₀ (row_labels e.transition s.row) (i ∷ items) (bare r.last.machine)
    bar_walked isbar =
        let b : BarTaken P s i taken = bar_taken P s i range.rank isbar item in
        continues_from P b.recorded
        (decided (eqb i.rank P.header.ranks)
        (λ t.
        let (e', labels) = subst Next (eqb-true i.rank P.header.ranks t) (next b) in
        let row : taken.state.row ≡ 0 = b.row ∙ when_true (λ _. 0) (λ _. i.rank) t in
        subst (λ (ls : List Label). Continues P s₀ ls items (bare r.last.machine)) labels
        (step_continues P (row_step P s₀ (bare taken.state.machine) e') (fresh walked taken.state (at + 1) r row rest end)))
        (λ f.
        let (e', labels) = subst Next (sym (b.row ∙ when_false (λ _. 0) (λ _. i.rank) f)) (next b) in
        subst (λ (ls : List Label). Continues P s₀ ls items (bare r.last.machine)) labels
        (walked taken.state (at + 1) s₀ e' r rest end)))

  -- From any state, in a row or not, items that are taken up to the end of a row go on with the run.
  pub items_walked : (items : List Item) → Each (InRange P) items → Walked items
  unfolding take_items
  items_walked [] _ s at s₀ e r h end =
      let last : s ≡ r.last = ap (λ (x : Replayed). x.last) (ok_injective h) in
      let (labels, same) = closed P e (ap (λ (x : Replay). x.row) last ∙ end) in
      record {
        events = [];
        recorded = all;
        run =
            subst₂ (λ (ls : List Label) (x : Bare). Run P s₀ (ls ++ []) x) (sym labels) (same ∙ ap (λ (x : Replay). bare x.machine) last) stop;
      }
  items_walked (i ∷ items) (Each.one range ranges) s at s₀ e r h end =
      let (taken, first, more) = bind_ok (take_item P s at i) _ h in
      let (others, rest, whole) = bind_ok (take_items P taken.state (at + 1) items) _ more in
      let last : others.last ≡ r.last = ap (λ (x : Replayed). x.last) (ok_injective whole) in
      let item : ItemTaken P s i taken = item_taken P s at i first in
      let walked : Walked items = items_walked items ranges in
      let end' : others.last.row ≡ 0 = ap (λ (x : Replay). x.row) last ∙ end in
      subst (λ (x : Replay). Continues P s₀ (row_labels e.transition s.row) (i ∷ items) (bare x.machine)) last
      (decided (is_bar i.kind)
      (bar_walked s at s₀ e others i items walked range taken item rest end')
      (single_walked s at s₀ e others i items walked range taken item rest end'))

-- An accepted list of items is a run.
pub accepted_run : (P : Program) (start : Start) (items : List Item) (r : Replayed) → Each (InRange P) items → replay P start items ≡ Ok r →
    IsRun P start items (bare r.last.machine)
unfolding begin bare
accepted_run P start items r ranges h =
    let (taken, ended) = replay_taken P start items h in
    let c = fresh P (items_walked P items ranges) (begin start) 0 r refl taken ended.no_row in
    record { events = c.events; recorded = c.recorded; run = c.run; final = quiet_final P r.last.machine ended.all_quiet }
