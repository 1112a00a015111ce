-- Tables: the definitions by cases, as the code meets them, and what a store changes. Every table uses these laws, whatever its size.
use Prim.Native.Nat.{ℕ, ◌-◌, ◌≤◌, ◌<◌}
use mathlib.Core.Path.{◌≡◌}
use mathlib.Core.List.{List, []}
use native.Mathlib.Omega.{arith}
use lib.Dec.{ltb, eqb}
use lib.ListN.{get_or, set}
use borrow.Author.Tests.{lt-ltb, le-ltb, ne_eqb, eqb-true, eqb-false}
use Rattle.model.specs.Limits.{max_ranks}
use Rattle.model.proofs.Laws.{decided}
use Rattle.memory.specs.Tables.{Table, Size, Row, row_of, row_at, number_at, stored, control_at, control_stored}

-- The row of a number, and whether there is one.
module _ (rows number : ℕ) where
  pub row_of_held : Row rows number → row_of rows number ≡ number - 1
  row_of_held r = rw (ne_eqb number 0 (λ e. omega (arith, e, r.first)))

  pub row_below : Row rows number → row_of rows number < rows
  row_below r = rw (row_of_held r) (omega (arith, r.first, r.last))

  pub row_held : row_of rows number < rows → Row rows number
  row_held h =
      decided (eqb number 0)
      (λ t. let h' : rows < rows = rw t at h in absurd (omega (arith, h')))
      (λ t.
      let h' : number - 1 < rows = rw t at h in
      let n = eqb-false number 0 t in
      record { first = positive n; last = omega (arith, h') })
    where
      positive : (number ≡ 0 → ⊥) → 1 ≤ number
      positive n = decided (eqb number 0) (λ t. absurd (n (eqb-true number 0 t))) (λ t. omega (arith, n))

-- The row that the code found.
module _ (size : Size) (table : Table) (number row : ℕ) (found : row ≡ row_of size.rows number) where
  pub row_inside : row < size.rows → get_or table row [] ≡ row_at size table number
  unfolding row_at
  row_inside h = let h' : row_of size.rows number < size.rows = rw found at h in rw (found, lt-ltb _ _ h')

  pub number_inside : (index : ℕ) → row < size.rows → index < size.width → get_or (get_or table row []) index 0 ≡ number_at size table number index
  unfolding number_at
  number_inside index h b =
      let h' : row_of size.rows number < size.rows = rw found at h in
      rw (found, lt-ltb _ _ h', lt-ltb _ _ b)

  pub number_beyond : (index : ℕ) → size.width ≤ index → 0 ≡ number_at size table number index
  unfolding number_at
  number_beyond index b =
      decided (ltb (row_of size.rows number) size.rows) (λ t. rw (t, le-ltb _ _ b)) (λ t. rw t)

  pub number_outside : (index : ℕ) → size.rows ≤ row → 0 ≡ number_at size table number index
  unfolding number_at
  number_outside index h = let h' : size.rows ≤ row_of size.rows number = rw found at h in rw (le-ltb _ _ h')

  pub stored_inside : (index value : ℕ) → row < size.rows → index < size.width →
      set table row (set (get_or table row []) index value) ≡ stored size table number index value
  unfolding stored
  stored_inside index value h b =
      let h' : row_of size.rows number < size.rows = rw found at h in
      rw (found, lt-ltb _ _ h', lt-ltb _ _ b)

  pub stored_beyond : (index value : ℕ) → size.width ≤ index → table ≡ stored size table number index value
  unfolding stored
  stored_beyond index value b =
      decided (ltb (row_of size.rows number) size.rows) (λ t. rw (t, le-ltb _ _ b)) (λ t. rw t)

  pub stored_outside : (index value : ℕ) → size.rows ≤ row → table ≡ stored size table number index value
  unfolding stored
  stored_outside index value h = let h' : size.rows ≤ row_of size.rows number = rw found at h in rw (le-ltb _ _ h')

module _ (control : List ℕ) (rank row : ℕ) (found : row ≡ row_of max_ranks rank) where
  pub control_inside : row < max_ranks → get_or control row 0 ≡ control_at control rank
  unfolding control_at
  control_inside h = let h' : row_of max_ranks rank < max_ranks = rw found at h in rw (found, lt-ltb _ _ h')

  pub control_stored_inside : (state : ℕ) → row < max_ranks → set control row state ≡ control_stored control rank state
  unfolding control_stored
  control_stored_inside state h = let h' : row_of max_ranks rank < max_ranks = rw found at h in rw (found, lt-ltb _ _ h')
