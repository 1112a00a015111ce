-- The tests of the drawing, on events that rows tell of: they compare the numbers of rank and cell.
use Rattle.std.specs.Prelude.{Option, Some, None, IfSome}
use Prim.Native.Nat.{ℕ, zero, suc, ◌*◌, ◌<◌, ◌/◌}
use mathlib.Core.Path.{◌≡◌, refl, sym, ap, subst}
use mathlib.Core.Bool.{Bool, false, ◌&&◌, ◌||◌}
use mathlib.Core.List.{[]}
use native.Mathlib.Nat.{div-add-mod'}
use native.Mathlib.Omega.{arith}
use lib.Dec.{ltb, eqb, eqb-suc-suc}
use lib.ListN.{get_or}
use borrow.Author.Tests.{ltb-true}
use Rattle.model.specs.Limits.{max_ranks, max_items}
use Rattle.model.specs.ItemKinds.{is_command_kind}
use Rattle.model.specs.HappensBefore.{same_sequence, overwrites, conflict}
use Rattle.model.proofs.Laws.{decided}
use Rattle.model.proofs.Options.{none-ne-some, some-injective}
use Rattle.memory.specs.Tables.{Table}
use Rattle.happens_before.specs.declared.rows.Told.{Told}
use Rattle.happens_before.specs.declared.rows.Touch.{Touch}
use Rattle.happens_before.specs.Told.{max_addresses, named, touch, touch_in, told_in, told_at, kind_told, rank_told, access_told, event_told}
use Rattle.happens_before.specs.Drawing.{Inside}

-- What is told is something or nothing.
pub told_or_not : {A P : Type 0} (o : Option A) → ((a : A) → o ≡ Some a → P) → (o ≡ None → P) → P
told_or_not (Some a) yes' no' = yes' a refl
told_or_not None yes' no' = no' refl

-- Whether an item is a command of a rank, accesses a cell, and writes there.
abbrev pub is_rank : Option ℕ → (rank : ℕ) → Bool
is_rank None rank = false
is_rank (Some own) rank = eqb own rank

abbrev pub at_cell : Option Touch → (cell : ℕ) → Bool
at_cell None cell = false
at_cell (Some t) cell = eqb t.cell cell

abbrev pub is_write : Option Touch → Bool
is_write None = false
is_write (Some t) = t.writes

ranks_same : (o : Option ℕ) (rank : ℕ) →
    (is_command_kind (kind_told o) && is_command_kind (kind_told (Some rank)) && eqb (rank_told o) (rank_told (Some rank))) ≡ is_rank o rank
ranks_same None rank = refl
ranks_same (Some own) rank = eqb-suc-suc own rank

ranks_none : (o : Option ℕ) → (is_command_kind (kind_told o) && is_command_kind (kind_told None) && eqb (rank_told o) (rank_told None)) ≡ false
ranks_none None = refl
ranks_none (Some own) = refl

cells_conflict : (o : Option Touch) (t : Touch) → conflict (access_told o) (access_told (Some t)) ≡ (at_cell o t.cell && (is_write o || t.writes))
unfolding conflict
cells_conflict None t = refl
cells_conflict (Some own) t = rw (eqb-suc-suc own.cell t.cell)

cells_overwrite : (o : Option Touch) (t : Touch) → overwrites (access_told o) (access_told (Some t)) ≡ (at_cell o t.cell && is_write o)
unfolding overwrites
cells_overwrite None t = refl
cells_overwrite (Some own) t = rw (eqb-suc-suc own.cell t.cell)

no_conflict : (o : Option Touch) → conflict (access_told o) None ≡ false
unfolding conflict
no_conflict None = refl
no_conflict (Some own) = refl

no_overwrite : (o : Option Touch) → overwrites (access_told o) None ≡ false
unfolding overwrites
no_overwrite None = refl
no_overwrite (Some own) = refl

-- Both of one rank, where the second is a command; none where it is not. Accesses, the second of a cell, and of none.
module _ (s t : Told) where
  pub rank_same : (rank : ℕ) → t.rank ≡ Some rank → same_sequence (event_told s) (event_told t) ≡ is_rank s.rank rank
  unfolding same_sequence event_told
  rank_same rank command = rw command (ranks_same s.rank rank)

  pub rank_none : t.rank ≡ None → same_sequence (event_told s) (event_told t) ≡ false
  unfolding same_sequence event_told
  rank_none pop = rw pop (ranks_none s.rank)

  pub touch_conflict : (own : Touch) → t.access ≡ Some own →
      conflict (event_told s).access (event_told t).access ≡ (at_cell s.access own.cell && (is_write s.access || own.writes))
  unfolding event_told
  touch_conflict own touched = rw touched (cells_conflict s.access own)

  pub touch_overwrite : (own : Touch) → t.access ≡ Some own →
      overwrites (event_told s).access (event_told t).access ≡ (at_cell s.access own.cell && is_write s.access)
  unfolding event_told
  touch_overwrite own touched = rw touched (cells_overwrite s.access own)

  pub untouched_conflict : t.access ≡ None → conflict (event_told s).access (event_told t).access ≡ false
  unfolding event_told
  untouched_conflict untouched = rw untouched (no_conflict s.access)

  pub untouched_overwrite : t.access ≡ None → overwrites (event_told s).access (event_told t).access ≡ false
  unfolding event_told
  untouched_overwrite untouched = rw untouched (no_overwrite s.access)

-- What is told is in its range.
named_below : (limit number told : ℕ) → named limit number ≡ Some told → told < limit
named_below limit zero told h = absurd (none-ne-some told h)
named_below limit (suc n) told h =
    decided (ltb n limit)
    (λ t. let e : n ≡ told = some-injective n told (rw t at h) in omega (arith, ltb-true n limit t))
    (λ t. absurd (none-ne-some told (rw t at h)))

touch_below : (access : ℕ) (t : Touch) → touch_in access ≡ Some t → t.cell < max_addresses
touch_below access t h =
    told_or_not (named (2 * max_addresses) access)
    (λ number e.
    let below = named_below (2 * max_addresses) access number e in
    let is : number / 2 ≡ t.cell = ap (λ (u : Touch). u.cell) (some-injective (touch number) t (rw e at h)) in
    omega (arith, below, is, div-add-mod' number 2))
    (λ e. absurd (none-ne-some t (rw e at h)))

module _ (trail : Table) (item : ℕ) where
  pub rank_within : (rank : ℕ) → (told_at trail item).rank ≡ Some rank → rank < max_ranks
  unfolding told_in
  rank_within rank h =
      decided (ltb (get_or (get_or trail item []) 1 0) max_items)
      (λ t. named_below max_ranks (get_or (get_or trail item []) 0 0) rank (rw t at h))
      (λ t. absurd (none-ne-some rank (rw t at h)))

  pub cell_within : (t : Touch) → (told_at trail item).access ≡ Some t → t.cell < max_addresses
  unfolding told_in
  cell_within own h =
      decided (ltb (get_or (get_or trail item []) 1 0) max_items)
      (λ t. touch_below (get_or (get_or trail item []) 2 0) own (rw t at h))
      (λ t. absurd (none-ne-some own (rw t at h)))

-- The cell that an item accesses, where no item accesses others.
pub inside_cell : {cells : ℕ} {o : Option Touch} → IfSome o (λ t. t.cell < cells) → (own : Touch) → o ≡ Some own → own.cell < cells
inside_cell {cells} within own e = subst (λ o. IfSome o (λ t. t.cell < cells)) e within

pub inside_any : (trail : Table) (last : ℕ) → Inside max_addresses trail last
inside_any trail last item below =
    told_or_not (told_at trail item).access
    (λ t e. subst (λ o. IfSome o (λ t. t.cell < max_addresses)) (sym e) (cell_within trail item t e))
    (λ e. subst (λ o. IfSome o (λ t. t.cell < max_addresses)) (sym e) tt)
