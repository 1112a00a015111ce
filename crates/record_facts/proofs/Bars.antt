-- The bars of the ranks: while a row is open, the ranks that have entered it have one bar more than the others; with no row open all ranks have as
-- many. So the j-th bars of all ranks are of the j-th row.
use Rattle.model.proofs.Options.{none-ne-some}
use Prim.Native.Nat.{ℕ, zero, suc, ◌-◌, ◌<◌, ◌≤◌}
use native.Mathlib.Omega.{arith}
use mathlib.Core.Path.{◌≡◌, refl, sym, ◌∙◌, ap, subst}
use mathlib.Core.Bool.{true, false, false≢true, and-false}
use mathlib.Core.List.{List, [], ◌∷◌, ◌++◌}
use mathlib.Core.Logic.{◌⊎◌, inl, inr}
use lib.Dec.{eqb}
use lib.ListN.{take}
use borrow.Author.Tests.{eqb-true, ne_eqb}
use Rattle.model.specs.declared.Item.{Item}
use Rattle.model.specs.declared.Kind.TheVariants.{Bar}
use Rattle.model.specs.Choice.{select}
use Rattle.model.specs.ItemKinds.{is_bar}
use Rattle.model.specs.Programs.{Program, Transition}
use Rattle.model.specs.Machine.{Start, Action}
use Rattle.model.specs.Replay.{Event, Replay, begin, joins_row, row_after, after_command}
use Rattle.model.specs.HappensBefore.{At, rank_of}
use Rattle.model.proofs.Selections.{count_own, count_other, count_append}
use Rattle.model.proofs.Laws.{decided, eqb_refl}
use Rattle.record_facts.specs.Facts.{Local, bars_of, bar_of}
use Rattle.record_facts.proofs.Moves.{Commands, Move, commands, fetches, delivers}
use Rattle.record_facts.proofs.Trajectory.{Run, begins, grows, move_at}
use Rattle.record_facts.proofs.Rows.{either, no_row, row_kept, not_joining, next_rank, row_closes, row_grows, joining, opening, group_joined, group_opened, count_joined, count_opened}
use Rattle.record_facts.proofs.RowGroups.{row_group, row_old, row_new, Rising, rising_kept, rising_more, one_row}

-- The bars of a run at a point.
record Bars (ranks : ℕ) (done : List Event) (s : Replay) : Type 0 where
  -- ranks that are even with rank 1, and ranks that have yet to enter the open row
  even : (rank : ℕ) → 1 ≤ rank → rank ≤ ranks → (s.row ≡ 0) ⊎ (rank ≤ s.row) → bars_of rank done ≡ bars_of 1 done
  behind : (rank : ℕ) → 1 ≤ s.row → s.row < rank → rank ≤ ranks → suc (bars_of rank done) ≡ bars_of 1 done
  -- the open row is the last group, and rows rise
  current : (b : ℕ) → 1 ≤ s.row → suc b ≡ bars_of 1 done → row_group done b ≡ s.opened - 1
  rising : Rising s.opened done

-- An event that is no bar leaves the bars as they are.
other_bars : {ranks : ℕ} {done : List Event} {s s' : Replay} (e : Event) → Bars ranks done s → is_bar e.item.kind ≡ false →
    s.row ≡ 0 → s'.row ≡ 0 → s.opened ≤ s'.opened → Bars ranks (done ++ e ∷ []) s'
other_bars {done = done} e inv other row row' opened =
    let same : (rank : ℕ) → bars_of rank (done ++ e ∷ []) ≡ bars_of rank done = λ rank. count_other (bar_of rank) done e (rw other refl) in
    record {
      even = λ rank low high reason. same rank ∙ (inv.even rank low high (inl row) ∙ sym (same 1));
      behind = λ rank positive. absurd (omega arith);
      current = λ b positive. absurd (omega arith);
      rising = rising_kept e inv.rising (same 1) opened;
    }

-- The row after a bar of a rank: closed if it is the last rank, and else entered by this rank.
abbrev After : (ranks rank row : ℕ) → Type 0
After ranks rank row = ((row ≡ 0) × (rank ≡ ranks)) ⊎ (row ≡ rank)

row_after_lem : (ranks row : ℕ) (i : Item) → is_bar i.kind ≡ true → After ranks i.rank (row_after ranks row i)
row_after_lem ranks row i bar =
    decided (eqb i.rank ranks)
    (λ last. inl (row_closes ranks row i bar last, eqb-true i.rank ranks last))
    (λ more. inr (row_grows ranks row i bar more))

-- A rank that is even after a bar has entered the row.
even_entered : {ranks row : ℕ} (own rank : ℕ) → After ranks own row → rank ≤ ranks → (row ≡ 0) ⊎ (rank ≤ row) → 1 ≤ own → rank ≤ own
even_entered own rank (inl (none_open, last)) high reason positive = omega arith
even_entered own rank (inr entered') high (inl closed) positive = absurd (omega arith)
even_entered own rank (inr entered') high (inr entered) positive = omega arith

-- A row that is open after a bar was entered by it.
after_open : {ranks row : ℕ} (own : ℕ) → After ranks own row → 1 ≤ row → row ≡ own
after_open own (inl (none_open, last)) positive = absurd (omega arith)
after_open own (inr entered) positive = entered

-- A bar of another rank.
not_own : (e : Event) (rank : ℕ) → ¬ (rank_of e ≡ rank) → bar_of rank e ≡ false
not_own e rank other = rw (ne_eqb (rank_of e) rank other) (and-false (is_bar e.item.kind))

-- The bar of rank 1 opens a row: rank 1 is one ahead of the others.
first_bar : {ranks : ℕ} {done : List Event} {s s' : Replay} (e : Event) → Bars ranks done s → is_bar e.item.kind ≡ true → rank_of e ≡ 1 →
    s.row ≡ 0 → After ranks 1 s'.row → s'.opened ≡ suc s.opened → e.group ≡ s.opened → Bars ranks (done ++ e ∷ []) s'
first_bar {done = done} {s = s} {s' = s'} e inv bar rank row after opened group =
    let own : bar_of 1 e ≡ true = rw (bar, rank) refl in
    let more : bars_of 1 (done ++ e ∷ []) ≡ suc (bars_of 1 done) = count_own (bar_of 1) done e own in
    record {
      even =
          λ r low high reason.
          let only : r ≡ 1 = omega (arith, even_entered 1 r after high reason (omega arith)) in
          ap (λ n. bars_of n (done ++ e ∷ [])) only;
      behind =
          λ r positive beyond high.
          let less : 1 < r = omega (arith, after_open 1 after positive) in
          let same = count_other (bar_of r) done e (not_own e r (λ is. omega arith)) in
          omega (arith, inv.even r (omega arith) high (inl row));
      current =
          λ b positive last.
          let now : b ≡ bars_of 1 done = omega arith in
          ap (row_group (done ++ e ∷ [])) now ∙ (row_new done e own ∙ omega arith);
      rising = subst (λ n. Rising n (done ++ e ∷ [])) (sym opened) (rising_more e inv.rising own group);
    }

-- The bar of the next rank joins the row: it is even with rank 1 again.
next_bar : {ranks : ℕ} {done : List Event} {s s' : Replay} (e : Event) → Bars ranks done s → is_bar e.item.kind ≡ true →
    rank_of e ≡ suc s.row → 1 ≤ s.row → rank_of e ≤ ranks → After ranks (rank_of e) s'.row → s'.opened ≡ s.opened →
    Bars ranks (done ++ e ∷ []) s'
next_bar {done = done} {s = s} {s' = s'} e inv bar rank row within after opened =
    let own : bar_of (rank_of e) e ≡ true = rw (bar, eqb_refl (rank_of e)) refl in
    let more = count_own (bar_of (rank_of e)) done e own in
    let others : (r : ℕ) → ¬ (rank_of e ≡ r) → bars_of r (done ++ e ∷ []) ≡ bars_of r done = λ r other. count_other (bar_of r) done e
    (not_own e r other) in
    let first : bars_of 1 (done ++ e ∷ []) ≡ bars_of 1 done = others 1 (λ is. omega arith) in
    let caught_up : bars_of (rank_of e) (done ++ e ∷ []) ≡ bars_of 1 (done ++ e ∷ []) =
    more ∙ (inv.behind (rank_of e) row (omega arith) within ∙ sym first) in
    record {
      even =
          λ r low high reason.
          let entered = even_entered (rank_of e) r after high reason (omega arith) in
          either (rank_of e) r
          (λ is. sym (ap (λ n. bars_of n (done ++ e ∷ [])) is) ∙ caught_up)
          (λ other. others r other ∙ (inv.even r low high (inr (omega arith)) ∙ sym first));
      behind =
          λ r positive beyond high.
          let entered = after_open (rank_of e) after positive in
          omega (arith, others r (λ is. omega arith), inv.behind r row (omega arith) high);
      current = λ b positive last. row_old done (e ∷ []) b (omega arith) ∙ (inv.current b row (omega arith) ∙ omega arith);
      rising = rising_kept e inv.rising first (omega arith);
    }

module _ {P : Program} {done : List Event} {s : Replay} (inv : Bars P.header.ranks done s) where
  -- A bar opens its row or joins it.
  move_bar : {i : Item} {t : Transition} {a : Action} → Commands P s i t a → is_bar i.kind ≡ true →
      Bars P.header.ranks (done ++ (after_command P s i t.target a).event ∷ []) (after_command P s i t.target a).state
  move_bar {i} c bar =
      let rank = next_rank s.row i c.taken.allowed bar in
      let after = row_after_lem P.header.ranks s.row i bar in
      decided (joins_row i)
      (λ joins. next_bar _ inv bar rank (joining s.row i c.taken.allowed joins).1 c.in_record.high after (count_joined
      s.opened i joins))
      (λ opens.
      let row = opening s.row i c.taken.allowed bar opens in
      let first : i.rank ≡ 1 = omega arith in
      first_bar _ inv bar first row (subst (λ n. After P.header.ranks n (row_after P.header.ranks s.row i)) first after)
      (count_opened s.opened i opens) (group_opened s.opened i opens))

  -- Each step keeps the bars.
  move_bars : {s' : Replay} {e : Event} → Move P s e s' → Bars P.header.ranks (done ++ e ∷ []) s'
  move_bars (commands i t a c) =
      decided (is_bar i.kind) (move_bar c)
      (λ other.
      let row = no_row s.row i c.taken.allowed other in
      let count = count_opened s.opened i (not_joining i other) in
      other_bars _ inv other row (row_kept P.header.ranks s.row i other ∙ row) (omega arith))
  move_bars (fetches i a rest c) =
      let row = no_row s.row i c.allowed (rw c.kind_is refl) in
      other_bars _ inv (rw c.kind_is refl) row row (omega arith)
  move_bars (delivers i b rest c) =
      let row = no_row s.row i c.allowed (rw c.kind_is refl) in
      other_bars _ inv (rw c.kind_is refl) row row (omega arith)

-- The bars at each point of a run.
bars : {P : Program} {start : Start} {local : ℕ → ℕ → Local} {done : List Event} {s : Replay} → Run P start local done s →
    Bars P.header.ranks done s
unfolding begin select
bars (begins h) =
    record {
      even = λ rank low high reason. refl;
      behind = λ rank positive. absurd (omega arith);
      current = λ b positive. absurd (omega arith);
      rising = record { bounded = λ k h. absurd (omega arith); rises = λ j k less h. absurd (omega arith) };
    }
bars (grows run step h) = move_bars (bars run) step

-- A bar is of the row that its rank's count of bars says.
record OfRow (events : List Event) (index : ℕ) (e : Event) : Type 0 where
  known : index < bars_of 1 events
  group : e.group ≡ row_group events index

-- The bar that opens a row, and each later one.
first_of_row : (done : List Event) (e : Event) → is_bar e.item.kind ≡ true → rank_of e ≡ 1 → OfRow (done ++ e ∷ []) (bars_of (rank_of e) done) e
first_of_row done e bar rank =
    let own : bar_of 1 e ≡ true = rw (bar, rank) refl in
    let index : bars_of (rank_of e) done ≡ bars_of 1 done = ap (λ n. bars_of n done) rank in
    record {
      known = omega (arith, count_own (bar_of 1) done e own);
      group = sym (row_new done e own) ∙ ap (row_group (done ++ e ∷ [])) (sym index);
    }

next_of_row : {ranks : ℕ} {done : List Event} {s : Replay} (e : Event) → Bars ranks done s → rank_of e ≡ suc s.row → 1 ≤ s.row →
    rank_of e ≤ ranks → e.group ≡ s.opened - 1 → OfRow (done ++ e ∷ []) (bars_of (rank_of e) done) e
next_of_row {done = done} e inv rank row within group =
    let index = bars_of (rank_of e) done in
    let is : suc (bars_of (rank_of e) done) ≡ bars_of 1 done = inv.behind (rank_of e) row (omega arith) within in
    record {
      known = omega (arith, count_other (bar_of 1) done e (not_own e 1 (λ is. omega arith)));
      group = group ∙ (sym (inv.current index row is) ∙ sym (row_old done (e ∷ []) index (omega arith)));
    }

-- Each bar, when it is taken.
move_row : {P : Program} {done : List Event} {s s' : Replay} {e : Event} → Bars P.header.ranks done s → Move P s e s' → e.item.kind ≡ Bar →
    OfRow (done ++ e ∷ []) (bars_of (rank_of e) done) e
move_row {done = done} {s = s} inv (commands i t a c) kind =
    let bar : is_bar i.kind ≡ true = ap is_bar kind in
    let rank = next_rank s.row i c.taken.allowed bar in
    decided (joins_row i)
    (λ joins. next_of_row _ inv rank (joining s.row i c.taken.allowed joins).1 c.in_record.high (group_joined s.opened i joins))
    (λ opens. first_of_row done _ bar (omega (arith, opening s.row i c.taken.allowed bar opens)))
move_row inv (fetches i a rest c) kind = absurd (false≢true (ap is_bar (sym c.kind_is ∙ kind)))
move_row inv (delivers i b rest c) kind = absurd (false≢true (ap is_bar (sym c.kind_is ∙ kind)))

-- A list around one of its members.
split_at : (events : List Event) (i : ℕ) {e : Event} → At events i e → (rest : List Event) × ((take i events ++ e ∷ []) ++ rest ≡ events)
split_at [] i at = absurd (none-ne-some _ at)
split_at (x ∷ events) zero at = (events, ap (◌∷ events) (sym (cc)))
split_at (x ∷ events) (suc i) at = let (rest, same) = split_at events i at in (rest, ap (x ∷◌) same)

-- A row stays as it is in a longer run.
of_row_append : {done : List Event} {index : ℕ} {e : Event} (rest : List Event) → OfRow done index e → OfRow (done ++ rest) index e
of_row_append {done} {index} rest r =
    record {
      known = omega (arith, r.known, count_append (bar_of 1) done rest);
      group = r.group ∙ sym (row_old done rest index r.known);
    }

module _ {P : Program} {start : Start} {local : ℕ → ℕ → Local} {events : List Event} {s : Replay} (run : Run P start local events s) where
  -- Each bar of a run.
  of_row : (i : ℕ) (e : Event) → At events i e → e.item.kind ≡ Bar → OfRow events (bars_of (rank_of e) (take i events)) e
  of_row i e at kind =
      let here = move_at run i e at in
      let (rest, same) = split_at events i at in
      subst (λ l. OfRow l (bars_of (rank_of e) (take i events)) e) same (of_row_append rest (move_row (bars here.run) here.step kind))

  -- The j-th bars of all ranks are of the j-th row, and bars of one row are the j-th of their ranks for one j.
  pub bar_group : (i : ℕ) (e : Event) → At events i e → e.item.kind ≡ Bar → e.group ≡ row_group events (bars_of (rank_of e) (take i events))
  bar_group i e at kind = (of_row i e at kind).group

  pub bar_index : (i j : ℕ) (e x : Event) → At events i e → At events j x → e.item.kind ≡ Bar → x.item.kind ≡ Bar → e.group ≡ x.group →
      bars_of (rank_of e) (take i events) ≡ bars_of (rank_of x) (take j events)
  bar_index i j e x at at' kind kind' same =
      let r = of_row i e at kind in
      let r' = of_row j x at' kind' in
      one_row (bars run).rising _ _ r.known r'.known (sym r.group ∙ (same ∙ r'.group))
