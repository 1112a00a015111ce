-- Barrier rows, item by item: what the row allows, what it becomes, and which group an item belongs to.
use Prim.Native.Nat.{ℕ, zero, suc, ◌+◌, ◌-◌, ◌≤◌}
use native.Mathlib.Numerals.{add-one}
use native.Mathlib.Omega.{arith}
use mathlib.Core.Path.{◌≡◌, ◌∙◌, ap, sym}
use mathlib.Core.Bool.{true, false, false≢true}
use mathlib.Core.List.{List, [], ◌∷◌, ◌++◌}
use lib.Dec.{ltb, eqb}
use borrow.Author.Tests.{eqb-true, eqb-false, ltb-true, ltb-false, lt-ltb, le-ltb}
use Rattle.model.specs.declared.Item.{Item}
use Rattle.model.specs.Choice.{numbers_from, Each, all, one}
use Rattle.model.specs.ItemKinds.{is_bar}
use Rattle.model.specs.Replay.{row_allows, row_after, joins_row, group_of, opened_after}
use Rattle.model.proofs.Laws.{decided}

-- One number or another.
pub either : {Q : Type 0} (a b : ℕ) → (a ≡ b → Q) → (¬ (a ≡ b) → Q) → Q
either a b same other = decided (eqb a b) (λ t. same (eqb-true a b t)) (λ t. other (eqb-false a b t))

-- Outside a row no row is open, and none is opened.
pub no_row : (row : ℕ) (i : Item) → row_allows row i ≡ true → is_bar i.kind ≡ false → row ≡ 0
unfolding row_allows
no_row row i h other = eqb-true row 0 (rw other at h)

pub row_kept : (ranks row : ℕ) (i : Item) → is_bar i.kind ≡ false → row_after ranks row i ≡ row
unfolding row_after
row_kept ranks row i other = rw other

pub not_joining : (i : Item) → is_bar i.kind ≡ false → joins_row i ≡ false
unfolding joins_row
not_joining i other = rw other

-- A bar is the next of its row; the last rank's closes it.
pub next_rank : (row : ℕ) (i : Item) → row_allows row i ≡ true → is_bar i.kind ≡ true → i.rank ≡ suc row
unfolding row_allows
next_rank row i h bar = eqb-true i.rank (row + 1) (rw bar at h) ∙ add-one row

pub row_closes : (ranks row : ℕ) (i : Item) → is_bar i.kind ≡ true → eqb i.rank ranks ≡ true → row_after ranks row i ≡ 0
unfolding row_after
row_closes ranks row i bar last = rw (bar, last)

pub row_grows : (ranks row : ℕ) (i : Item) → is_bar i.kind ≡ true → eqb i.rank ranks ≡ false → row_after ranks row i ≡ i.rank
unfolding row_after
row_grows ranks row i bar more = rw (bar, more)

-- A bar joins a row exactly if one is open.
joins_open : (row : ℕ) (i : Item) → row_allows row i ≡ true → is_bar i.kind ≡ true → joins_row i ≡ ltb 0 row
unfolding joins_row
joins_open row i h bar =
    let rank = next_rank row i h bar in
    decided (ltb 0 row)
    (λ t. rw (bar, t) (lt-ltb 1 i.rank (omega (arith, rank, ltb-true 0 row t))))
    (λ f. rw (bar, f) (le-ltb 1 i.rank (omega (arith, rank, ltb-false 0 row f))))

pub joining : (row : ℕ) (i : Item) → row_allows row i ≡ true → joins_row i ≡ true → (is_bar i.kind ≡ true) × (1 ≤ row)
joining row i h joins =
    decided (is_bar i.kind)
    (λ bar. (bar, ltb-true 0 row (sym (joins_open row i h bar) ∙ joins)))
    (λ other. absurd (false≢true (sym (not_joining i other) ∙ joins)))

pub opening : (row : ℕ) (i : Item) → row_allows row i ≡ true → is_bar i.kind ≡ true → joins_row i ≡ false → row ≡ 0
opening row i h bar opens = omega (arith, ltb-false 0 row (sym (joins_open row i h bar) ∙ opens))

-- The group of an item, and how many there are after it.
pub group_joined : (opened : ℕ) (i : Item) → joins_row i ≡ true → group_of opened i ≡ opened - 1
unfolding group_of
group_joined opened i h = rw h

pub group_opened : (opened : ℕ) (i : Item) → joins_row i ≡ false → group_of opened i ≡ opened
unfolding group_of
group_opened opened i h = rw h

pub count_joined : (opened : ℕ) (i : Item) → joins_row i ≡ true → opened_after opened i ≡ opened
unfolding opened_after
count_joined opened i h = rw h

pub count_opened : (opened : ℕ) (i : Item) → joins_row i ≡ false → opened_after opened i ≡ suc opened
unfolding opened_after
count_opened opened i h = rw (h, add-one opened)

-- One number, or one member, more at the end.
pub numbers_snoc : (first count : ℕ) → numbers_from first count ++ (first + count) ∷ [] ≡ numbers_from first (suc count)
unfolding numbers_from
numbers_snoc first zero = ap (◌∷ []) (omega arith)
numbers_snoc first (suc count) =
    let shift : first + suc count ≡ first + 1 + count = omega arith in
    ap (first ∷◌) (ap (λ n. numbers_from (first + 1) count ++ n ∷ []) shift ∙ numbers_snoc (first + 1) count)

pub each_snoc : {A : Type 0} {Holds : A → Type 0} {l : List A} {a : A} → Each Holds l → Holds a → Each Holds (l ++ a ∷ [])
each_snoc all h = one h all
each_snoc (one p rest) h = one p (each_snoc rest h)
