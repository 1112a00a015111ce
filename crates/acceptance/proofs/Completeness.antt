-- The replay accepts every run of Table 1. Each step's items are taken in turn: one item, or the N bars of a row, rank by rank.
use Rattle.std.specs.Prelude.{None}
use Prim.Native.Nat.{ℕ, zero, suc, ◌+◌, ◌<◌}
use mathlib.Core.Path.{◌≡◌, refl, sym, ap, subst, ◌∙◌}
use mathlib.Core.Bool.{true, false}
use mathlib.Core.List.{List, [], ◌∷◌, ◌++◌, map}
use native.Mathlib.Omega.{arith}
use lib.Dec.{eqb}
use lib.ListN.{length}
use borrow.Author.Tests.{eq-eqb, ne_eqb}
use Rattle.model.specs.declared.Kind.TheVariants.{Bar}
use Rattle.model.specs.declared.Item.{Item}
use Rattle.model.specs.Refusals.{Ok}
use Rattle.model.specs.Choice.{numbers_from}
use Rattle.model.specs.ItemKinds.{is_bar}
use Rattle.model.specs.Programs.{Program, Command, kind_of}
use Rattle.model.specs.Machine.{Start, move_to}
use Rattle.model.specs.Rules.{Bare, Label, command, Rank, Enabled, Step, Run, stop, ◌then◌, Recorded, AllRecorded, all, one, Final, IsRun}
use Rattle.model.specs.Replay.{Replay, Replayed, Taken, access_of, begin, row_allows, take_items, replay}
use Rattle.model.proofs.Replay.{ItemTaken, takes_item}
use Rattle.model.proofs.TakenItems.{joined, take_items_append, taken_replay}
use Rattle.model.proofs.Laws.{decided, when_true, when_false}
use Rattle.model.proofs.Actions.{loading, storing, assigning, passing, reading, writing, meeting}
use Rattle.acceptance.specs.Bare.{bare}
use Rattle.acceptance.proofs.Quiet.{final_quiet}
use Rattle.acceptance.proofs.Marks.{successor}
use Rattle.acceptance.proofs.Choosing.{Chosen}
use Rattle.acceptance.proofs.Single.{Takes, asks_takes, fetch_takes, delivery_takes}
use Rattle.acceptance.proofs.Rows.{moved, moved_none, moved_next, moved_next_control, enabled_elsewhere}
use Rattle.acceptance.proofs.Bars.{row_past, BarTaken, bar_taken, single_row}

-- The replay takes these items, whatever their numbers, leaves this state, and then no row is open.
pub record TakesAll (P : Program) (s : Replay) (items : List Item) (last : Bare) : Type 0 where
  pub replayed : Replayed
  pub takes : (at : ℕ) → take_items P s at items ≡ Ok replayed
  pub state : bare replayed.last.machine ≡ last
  pub row : replayed.last.row ≡ 0

module _ (P : Program) where
  -- No items.
  takes_none : (s : Replay) {last : Bare} → bare s.machine ≡ last → s.row ≡ 0 → TakesAll P s [] last
  unfolding take_items
  takes_none s state row = record { replayed = record { last = s; events = [] }; takes = λ at. refl; state = state; row = row }

  -- An item, and those after it.
  takes_one : (s : Replay) {i : Item} {items : List Item} {taken : Taken} {last : Bare} → ItemTaken P s i taken →
      TakesAll P taken.state items last → TakesAll P s (i ∷ items) last
  unfolding take_items
  takes_one s {i} {taken = taken} item rest =
      record {
        replayed = record { last = rest.replayed.last; events = taken.event ∷ rest.replayed.events };
        takes = λ at. rw (takes_item P s at i item, rest.takes (at + 1));
        state = rest.state;
        row = rest.row;
      }

  -- Two lists of items, one after the other.
  takes_both : (items more : List Item) (s : Replay) {mid last : Bare} (first : TakesAll P s items mid) →
      TakesAll P first.replayed.last more last → TakesAll P s (items ++ more) last
  takes_both items more s first rest =
      record {
        replayed = joined first.replayed rest.replayed;
        takes = λ at. rw (take_items_append P items more s at, first.takes at, rest.takes (at + length items));
        state = rest.state;
        row = rest.row;
      }

  -- An item that is no bar may come where no row is open.
  single_allowed : (s : Replay) (i : Item) → s.row ≡ 0 → is_bar i.kind ≡ false → row_allows s.row i ≡ true
  unfolding row_allows
  single_allowed s i row single = rw single (eq-eqb s.row 0 row)

  -- A list of one item that is no bar.
  single_taken : (s : Replay) {i : Item} {last : Bare} → s.row ≡ 0 → is_bar i.kind ≡ false → (row_allows s.row i ≡ true → Takes P s i last) →
      TakesAll P s (i ∷ []) last
  single_taken s {i} row single takes =
      let t = takes (single_allowed s i row single) in
      takes_one s t.item (takes_none t.taken.state t.state (single_row P s i single t.item).1)

  -- Before any bar the row's number is 0.
  row_past_zero : 0 ≡ row_past P 0
  row_past_zero = decided (eqb 0 P.header.ranks) (λ t. rw t) (λ f. rw f)

  module _ (s₀ : Bare) (t st' : ℕ → ℕ) (enabled : (r : ℕ) → Rank P r → Enabled P s₀ r (t r) Command.bar (st' r)) where
    -- The bar of the next rank of a row is taken.
    next_taken : (k : ℕ) → k < P.header.ranks → (s : Replay) → s.row ≡ row_past P k → bare s.machine ≡ moved s₀ k st' → (i : Item) →
        Recorded (command Bar (k + 1) (t (k + 1)) None) i →
        (taken : Taken) × ItemTaken P s i taken × (taken.state.row ≡ row_past P (k + 1)) × (bare taken.state.machine ≡ moved s₀ (k + 1) st')
    unfolding row_allows kind_of access_of successor
    next_taken k below s row state i recorded =
        let rank : Rank P (k + 1) = record { low = omega arith; high = omega arith } in
        let opened : s.row ≡ k = row ∙ when_false (λ _. 0) (λ _. k) (ne_eqb k P.header.ranks (λ full. omega arith)) in
        let isbar : is_bar i.kind ≡ true = ap is_bar recorded.kind in
        let allowed : row_allows s.row i ≡ true = rw isbar (eq-eqb i.rank (s.row + 1) (recorded.rank ∙ ap (λ n. n + 1) (sym opened))) in
        let stays = sym (ap (λ (x : Bare). x.control (k + 1)) state ∙ moved_next_control s₀ k st') in
        let here = enabled_elsewhere P s₀ (bare s.machine) stays (enabled (k + 1) rank) in
        let takes : Takes P s i (move_to (bare s.machine) (k + 1) (st' (k + 1))) = asks_takes P s i allowed here meeting recorded in
        let b : BarTaken P s i takes.taken = bar_taken P s i (subst (Rank P) (sym recorded.rank) rank) isbar takes.item in (
          takes.taken,
          takes.item,
          b.row ∙ ap (row_past P) recorded.rank,
          takes.state ∙ ap (λ (x : Bare). move_to x (k + 1) (st' (k + 1))) state ∙
              moved_next s₀ k (st' (k + 1)) st' st' refl (λ r low high. refl),
        )

    -- The bars of the ranks after k are taken, and then all have moved.
    row_taken : (left k : ℕ) → k + left ≡ P.header.ranks → (s : Replay) → s.row ≡ row_past P k → bare s.machine ≡ moved s₀ k st' →
        {items : List Item} → AllRecorded (map (λ r. command Bar r (t r) None) (numbers_from (k + 1) left)) items →
        TakesAll P s items (moved s₀ P.header.ranks st')
    unfolding numbers_from
    row_taken zero k size s row state all =
        let full : k ≡ P.header.ranks = omega arith in
        takes_none s (state ∙ ap (λ n. moved s₀ n st') full) (row ∙ when_true (λ _. 0) (λ _. k) (eq-eqb k P.header.ranks full))
    row_taken (suc left) k size s row state (one {i = i} recorded rest) =
        let (taken, item, row', state') = next_taken k (omega arith) s row state i recorded in
        takes_one s item (row_taken left (k + 1) (omega arith) taken.state row' state' rest)

  -- The items of a step are taken.
  pub step_taken : (s : Replay) {events : List Label} {last : Bare} {items : List Item} → s.row ≡ 0 → Step P (bare s.machine) events last →
      AllRecorded events items → TakesAll P s items last
  unfolding bare kind_of access_of successor
  step_taken s row (Step.load enabled here cell) (one {i = i} recorded all) =
      single_taken s row (ap is_bar recorded.kind) (λ allowed. asks_takes P s i allowed enabled (loading here cell) recorded)
  step_taken s row (Step.store enabled here stored cell) (one {i = i} recorded all) =
      single_taken s row (ap is_bar recorded.kind) (λ allowed. asks_takes P s i allowed enabled (storing here stored cell) recorded)
  step_taken s row (Step.assign enabled assigned) (one {i = i} recorded all) =
      single_taken s row (ap is_bar recorded.kind) (λ allowed. asks_takes P s i allowed enabled (assigning assigned) recorded)
  step_taken s row (Step.assume enabled assumed test) (one {i = i} recorded all) =
      single_taken s row (ap is_bar recorded.kind) (λ allowed. asks_takes P s i allowed enabled (passing assumed test) recorded)
  step_taken s row (Step.read enabled operands) (one {i = i} recorded all) =
      single_taken s row (ap is_bar recorded.kind) (λ allowed. asks_takes P s i allowed enabled (reading operands) recorded)
  step_taken s row (Step.write enabled operands) (one {i = i} recorded all) =
      single_taken s row (ap is_bar recorded.kind) (λ allowed. asks_takes P s i allowed enabled (writing operands) recorded)
  step_taken s row (Step.popa rank queue first) (one {i = i} recorded all) =
      single_taken s row (ap is_bar recorded.kind) (λ allowed. fetch_takes P s i allowed (Chosen.head first) recorded)
  step_taken s row (Step.popa_for rank queue named first) (one {i = i} recorded all) =
      single_taken s row (ap is_bar recorded.kind) (λ allowed. fetch_takes P s i allowed (Chosen.for_rank named first) recorded)
  step_taken s row (Step.popb rank queue first) (one {i = i} recorded all) =
      single_taken s row (ap is_bar recorded.kind) (λ allowed. delivery_takes P s i allowed (Chosen.head first) recorded)
  step_taken s row (Step.popb_for rank queue named first) (one {i = i} recorded all) =
      single_taken s row (ap is_bar recorded.kind) (λ allowed. delivery_takes P s i allowed (Chosen.for_rank named first) recorded)
  step_taken s row (Step.bar t st' enabled) recorded =
      let s₀ : Bare = bare s.machine in
      row_taken s₀ t st' enabled P.header.ranks 0 (omega arith) s (row ∙ row_past_zero) (sym (moved_none s₀ st')) recorded

-- Items that record two lists of events record the one and then the other.
recorded_split : (a : List Label) {b : List Label} {items : List Item} → AllRecorded (a ++ b) items →
    (first : List Item) × (rest : List Item) × (first ++ rest ≡ items) × AllRecorded a first × AllRecorded b rest
recorded_split [] {items = items} h = ([], items, refl, all, h)
recorded_split (l ∷ a) (one {i = i} recorded h) =
    let (first, rest, whole, left, right) = recorded_split a h in
    (i ∷ first, rest, ap (λ (l : List Item). i ∷ l) whole, one recorded left, right)

module _ (P : Program) where
  -- The items of a run are taken.
  pub run_taken : {from last : Bare} {events : List Label} → Run P from events last → (s : Replay) → bare s.machine ≡ from → s.row ≡ 0 →
      {items : List Item} → AllRecorded events items → TakesAll P s items last
  run_taken stop s state row all = takes_none P s state row
  run_taken {last = last} (◌then◌ {s' = s'} {a = a} step run) s state row recorded =
      let (items, more, whole, left, right) = recorded_split a recorded in
      let first : TakesAll P s items s' = step_taken P s row (subst (λ (x : Bare). Step P x a s') (sym state) step) left in
      subst (λ (l : List Item). TakesAll P s l last) whole
      (takes_both P items more s first (run_taken run first.replayed.last first.state first.row right))

-- A run from a start is accepted, and leaves the run's last state.
pub run_accepted : (P : Program) (start : Start) (items : List Item) (last : Bare) → IsRun P start items last →
    (r : Replayed) × (replay P start items ≡ Ok r) × (bare r.last.machine ≡ last)
unfolding begin bare
run_accepted P start items last h =
    let t : TakesAll P (begin start) items last = run_taken P h.run (begin start) refl refl h.recorded in
    let silent = final_quiet P t.replayed.last.machine (subst (Final P) (sym t.state) h.final) in
    (t.replayed, taken_replay P start items (t.takes 0) (record { no_row = t.row; all_quiet = silent }), t.state)
