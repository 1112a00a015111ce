-- The groups of the barrier rows: the group of a row is that of rank 1's bar in it, and later rows have higher groups.
use Prim.Native.Nat.{ℕ, suc, ◌<◌, ◌≤◌}
use native.Mathlib.Omega.{arith}
use mathlib.Core.Path.{◌≡◌, sym, ◌∙◌, ap}
use mathlib.Core.Bool.{true}
use mathlib.Core.List.{List, [], ◌∷◌, ◌++◌, map, map-append}
use lib.Dec.{ltb}
use lib.ListN.{length, get_or, get_or-append, length-map}
use lib.Seq.{get_or_at}
use borrow.Author.Tests.{ltb-true, ltb-false}
use Rattle.model.specs.Choice.{select}
use Rattle.model.specs.Replay.{Event}
use Rattle.model.proofs.Selections.{select_yes, select_append, count_own}
use Rattle.model.proofs.Laws.{decided}
use Rattle.record_facts.specs.Facts.{bars_of, bar_of}
use Rattle.record_facts.proofs.Rows.{either}

-- The groups of rank 1's bars, in their order.
abbrev pub row_groups : List Event → List ℕ
row_groups events = map (λ e. e.group) (select (bar_of 1) events)

abbrev pub row_group : List Event → (row : ℕ) → ℕ
row_group events k = get_or (row_groups events) k 0

rows_append : (a b : List Event) → row_groups (a ++ b) ≡ row_groups a ++ row_groups b
rows_append a b = ap (map (λ e. e.group)) (select_append (bar_of 1) a b) ∙ map-append (λ e. e.group) (select (bar_of 1) a) (select (bar_of 1) b)

-- There are as many rows as rank 1 has bars.
rows_length : (events : List Event) → length (row_groups events) ≡ bars_of 1 events
rows_length events = length-map (select (bar_of 1) events) (λ e. e.group)

-- Events that follow leave the rows that are there, and a bar of rank 1 makes the next one.
pub row_old : (a b : List Event) (k : ℕ) → k < bars_of 1 a → row_group (a ++ b) k ≡ row_group a k
row_old a b k h =
    ap (λ l. get_or l k 0) (rows_append a b) ∙ get_or-append (row_groups a) (row_groups b) 0 k (omega (arith, rows_length a))

pub row_new : (done : List Event) (e : Event) → bar_of 1 e ≡ true → row_group (done ++ e ∷ []) (bars_of 1 done) ≡ e.group
unfolding select
row_new done e first =
    ap (λ l. get_or l (bars_of 1 done) 0) (rows_append done (e ∷ [])) ∙
    ap (λ l. get_or (row_groups done ++ map (λ x. x.group) l) (bars_of 1 done) 0) (select_yes (bar_of 1) e [] first) ∙
    get_or_at (row_groups done) e.group [] 0 (bars_of 1 done) (rows_length done)

-- The rows rise, up to the number of groups.
pub record Rising (opened : ℕ) (events : List Event) : Type 0 where
  pub bounded : (k : ℕ) → k < bars_of 1 events → row_group events k < opened
  pub rises : (j k : ℕ) → j < k → k < bars_of 1 events → row_group events j < row_group events k

-- An event that opens no row.
pub rising_kept : {opened opened' : ℕ} {done : List Event} (e : Event) → Rising opened done → bars_of 1 (done ++ e ∷ []) ≡ bars_of 1 done →
    opened ≤ opened' →
    Rising opened' (done ++ e ∷ [])
rising_kept {done = done} e inv same more =
    let old : (k : ℕ) → k < bars_of 1 done → row_group (done ++ e ∷ []) k ≡ row_group done k = row_old done (e ∷ []) in
    record {
      bounded = λ k h. omega (arith, old k (omega arith), inv.bounded k (omega arith));
      rises = λ j k less h. omega (arith, old j (omega arith), old k (omega arith), inv.rises j k less (omega arith));
    }

-- An event that opens one has the next number.
pub rising_more : {opened : ℕ} {done : List Event} (e : Event) → Rising opened done → bar_of 1 e ≡ true → e.group ≡ opened →
    Rising (suc opened) (done ++ e ∷ [])
rising_more {opened} {done} e inv own group =
    let more : bars_of 1 (done ++ e ∷ []) ≡ suc (bars_of 1 done) = count_own (bar_of 1) done e own in
    let old : (k : ℕ) → k < bars_of 1 done → row_group (done ++ e ∷ []) k ≡ row_group done k = row_old done (e ∷ []) in
    let new : (k : ℕ) → k ≡ bars_of 1 done → row_group (done ++ e ∷ []) k ≡ opened =
    λ k last. ap (row_group (done ++ e ∷ [])) last ∙ (row_new done e own ∙ group) in
    record {
      bounded =
          λ k h.
          either k (bars_of 1 done)
          (λ last. omega (arith, new k last))
          (λ earlier. omega (arith, old k (omega arith), inv.bounded k (omega arith)));
      rises =
          λ j k less h.
          either k (bars_of 1 done)
          (λ last. omega (arith, new k last, old j (omega arith), inv.bounded j (omega arith)))
          (λ earlier. omega (arith, old j (omega arith), old k (omega arith), inv.rises j k less (omega arith)));
    }

-- Rows with one group are one row.
not_before : {opened : ℕ} {events : List Event} → Rising opened events → (j k : ℕ) → k < bars_of 1 events → row_group events j ≡ row_group events k →
    k ≤ j
not_before inv j k below same =
    decided (ltb j k) (λ less. absurd (omega (arith, inv.rises j k (ltb-true j k less) below))) (λ not_less. ltb-false j k not_less)

pub one_row : {opened : ℕ} {events : List Event} → Rising opened events → (j k : ℕ) → j < bars_of 1 events → k < bars_of 1 events →
    row_group events j ≡ row_group events k → j ≡ k
one_row inv j k below below' same = omega (arith, not_before inv j k below' same, not_before inv k j below (sym same))
