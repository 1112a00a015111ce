-- Barrier rows as the replay keeps them: outside a row any item but a bar may come, and a row is done once all ranks are in it.
use Prim.Native.Nat.{ℕ, suc, ◌+◌, ◌<◌}
use mathlib.Core.Path.{◌≡◌, refl}
use mathlib.Core.Bool.{true, false}
use native.Mathlib.Nat.{ne_of_lt}
use native.Mathlib.Omega.{arith}
use lib.Dec.{eqb}
use borrow.Author.Tests.{eq-eqb, ne_eqb}
use Rattle.model.specs.declared.Item.{Item}
use Rattle.model.specs.declared.Kind.TheVariants.{Bar}
use Rattle.model.specs.Choice.{when}
use Rattle.model.specs.ItemKinds.{is_bar}
use Rattle.model.specs.Replay.{row_allows, row_after}
use Rattle.model.proofs.Laws.{decided}

-- Outside a row any item but a bar may come, and leaves none open.
pub allowed_outside : (i : Item) → is_bar i.kind ≡ false → row_allows 0 i ≡ true
unfolding row_allows
allowed_outside i h = rw (h, when)

pub stays_outside : (ranks : ℕ) (i : Item) → is_bar i.kind ≡ false → row_after ranks 0 i ≡ 0
unfolding row_after
stays_outside ranks i h = rw (h, when)

-- How many ranks are in the row once so many have entered it: none once all have.
pub row_with : (ranks entered : ℕ) → ℕ
row_with ranks entered = when (eqb entered ranks) (λ _. 0) (λ _. entered)

pub row_none : (ranks : ℕ) → row_with ranks 0 ≡ 0
unfolding row_with
row_none ranks = decided (eqb 0 ranks) (λ t. rw (t, when)) (λ t. rw (t, when))

pub row_open : (ranks entered : ℕ) → entered < ranks → row_with ranks entered ≡ entered
unfolding row_with
row_open ranks entered less = rw (ne_eqb entered ranks (ne_of_lt less), when)

pub row_full : (ranks entered : ℕ) → entered ≡ ranks → row_with ranks entered ≡ 0
unfolding row_with
row_full ranks entered same = rw (eq-eqb entered ranks same, when)

-- The next rank's bar may come, and enters.
pub row_allows_lem : (i : Item) (entered : ℕ) → i.kind ≡ Bar → i.rank ≡ suc entered → row_allows entered i ≡ true
unfolding row_allows
row_allows_lem i entered kind rank = rw kind (eq-eqb i.rank (entered + 1) (omega (arith, rank)))

pub row_enters : (ranks : ℕ) (i : Item) (before entered : ℕ) → i.kind ≡ Bar → i.rank ≡ suc entered →
    row_after ranks before i ≡ row_with ranks (suc entered)
unfolding row_after row_with
row_enters ranks i before entered kind rank = rw kind (rw rank refl)
