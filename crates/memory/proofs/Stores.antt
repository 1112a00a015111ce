-- What a store into a table changes: one number of one row. The table's function afterwards is the function with one value put.
use Prim.Native.Nat.{ℕ, ◌-◌, ◌<◌}
use mathlib.Core.Path.{◌≡◌, refl, ap, sym, ◌∙◌, subst}
use mathlib.Core.Bool.{true, false, ◌&&◌, false≢true}
use mathlib.Core.List.{[]}
use native.Mathlib.Omega.{arith}
use lib.Dec.{ltb, eqb}
use lib.ListN.{length, get_or, set, replicate, length-set, length-replicate, get_or-replicate}
use lib.Seq.{get_or-set_same, get_or-set_other, set_out}
use borrow.Author.Tests.{ltb-true, ltb-false, eq-eqb, eqb-true, eqb-false}
use Rattle.model.specs.Machine.{put₂}
use Rattle.model.proofs.Laws.{decided, and-true, true_and, put₂_same, put₂_other}
use Rattle.memory.specs.Tables.{Table, Size, Row, row_of, number_at, stored, Shaped, zeros}
use Rattle.memory.proofs.Tables.{row_of_held, row_below, row_held, number_inside, number_beyond}
use Rattle.memory.proofs.Tables.{number_outside, stored_inside, stored_beyond, stored_outside}

-- A number of a row, and the table with it changed, by rows that count from 0.
abbrev at : Table → (row index : ℕ) → ℕ
at table row index = get_or (get_or table row []) index 0

abbrev changed : Table → (row index value : ℕ) → Table
changed table row index value = set table row (set (get_or table row []) index value)

at_changed : (table : Table) (row index value other place : ℕ) → ¬ ((other ≡ row) × (place ≡ index)) →
    at (changed table row index value) other place ≡ at table other place
at_changed table row index value other place differ =
    decided (eqb other row)
    (λ t. let e = eqb-true other row t in
    decided (ltb row (length table))
    (λ u.
    rw (e, get_or-set_same table row (set (get_or table row []) index value) [] (ltb-true row (length table) u))
    (get_or-set_other (get_or table row []) index place value 0 (λ p. differ (e, p))))
    (λ u. rw (set_out table row (set (get_or table row []) index value) (ltb-false row (length table) u))))
    (λ t. rw (get_or-set_other table row other (set (get_or table row []) index value) [] (eqb-false other row t)))

changed_shape : (size : Size) (table : Table) (row index value : ℕ) → Shaped size table → Shaped size (changed table row index value)
changed_shape size table row index value shape =
    record {
      tall = length-set table row (set (get_or table row []) index value) ∙ shape.tall;
      wide = λ other b. decided (eqb other row)
          (λ t. let e = eqb-true other row t in
          rw (e, get_or-set_same table row (set (get_or table row []) index value) [] (rw e at (rw (← shape.tall) at b)), length-set)
          (shape.wide row (rw e at b)))
          (λ t. rw (get_or-set_other table row other (set (get_or table row []) index value) [] (eqb-false other row t)) (shape.wide other b));
    }

-- The test of `put₂`.
pub same_place : (a b c d : ℕ) → (eqb a b && eqb c d) ≡ true → (a ≡ b) × (c ≡ d)
same_place a b c d t = let (p, q) = and-true (eqb a b) (eqb c d) t in (eqb-true a b p, eqb-true c d q)

pub other_place : (a b c d : ℕ) → (eqb a b && eqb c d) ≡ false → ¬ ((a ≡ b) × (c ≡ d))
other_place a b c d t (p, q) = false≢true (sym t ∙ true_and (eqb a b) (eqb c d) (eq-eqb a b p) (eq-eqb c d q))

module _ (size : Size) (table : Table) (number index value : ℕ) where
  -- A store changes nothing, or one number inside the table.
  stored_cases : (P : Table → Type 0) → P table → (Row size.rows number → P (changed table (row_of size.rows number) index value)) →
      P (stored size table number index value)
  stored_cases P out inside =
      decided (ltb (row_of size.rows number) size.rows)
      (λ t. let h = ltb-true (row_of size.rows number) size.rows t in
      decided (ltb index size.width)
      (λ u. subst P (stored_inside size table number _ refl index value h (ltb-true index size.width u)) (inside (row_held size.rows number h)))
      (λ u. subst P (stored_beyond size table number _ refl index value (ltb-false index size.width u)) out))
      (λ t. subst P (stored_outside size table number _ refl index value (ltb-false (row_of size.rows number) size.rows t)) out)

  pub shaped : Shaped size table → Shaped size (stored size table number index value)
  shaped shape = stored_cases (Shaped size) shape (λ r. changed_shape size table _ index value shape)

  pub number_same : Shaped size table → Row size.rows number → index < size.width →
      number_at size (stored size table number index value) number index ≡ value
  number_same shape r b =
      let h = row_below size.rows number r in
      let row : ℕ = row_of size.rows number in
      let tall : row < length table = rw shape.tall h in
      let wide : index < length (get_or table row []) = rw (shape.wide row h) b in
      ap (λ t. number_at size t number index) (sym (stored_inside size table number row refl index value h b))
      ∙ sym (number_inside size (changed table row index value) number row refl index h b)
      ∙ rw (get_or-set_same table row (set (get_or table row []) index value) [] tall) (get_or-set_same (get_or table row []) index value 0 wide)

  -- Every other number stays, whatever the table's shape.
  pub number_other : (other place : ℕ) → ¬ ((other ≡ number) × (place ≡ index)) →
      number_at size (stored size table number index value) other place ≡ number_at size table other place
  number_other other place differ =
      stored_cases (λ t. number_at size t other place ≡ number_at size table other place) refl
      (λ r.
      let row : ℕ = row_of size.rows number in
      decided (ltb (row_of size.rows other) size.rows)
      (λ t. let h = ltb-true (row_of size.rows other) size.rows t in
      decided (ltb place size.width)
      (λ u. let b = ltb-true place size.width u in
      sym (number_inside size (changed table row index value) other _ refl place h b)
      ∙ at_changed table row index value (row_of size.rows other) place (λ (e, p). differ (same_number r (row_held size.rows other h) e, p))
      ∙ number_inside size table other _ refl place h b)
      (λ u. let b = ltb-false place size.width u in
      sym (number_beyond size (changed table row index value) other _ refl place b) ∙ number_beyond size table other _ refl place b))
      (λ t. let h = ltb-false (row_of size.rows other) size.rows t in
      sym (number_outside size (changed table row index value) other _ refl place h) ∙ number_outside size table other _ refl place h))
    where
      same_number : Row size.rows number → Row size.rows other → row_of size.rows other ≡ row_of size.rows number → other ≡ number
      same_number r o e =
          let e' : other - 1 ≡ number - 1 = sym (row_of_held size.rows other o) ∙ e ∙ row_of_held size.rows number r in
          omega (arith, e', r.first, o.first)

  -- The function of a table after a store.
  pub number_put : Shaped size table → Row size.rows number → index < size.width →
      (f : ℕ → ℕ → ℕ) (other place : ℕ) → f other place ≡ number_at size table other place →
      put₂ f number index value other place ≡ number_at size (stored size table number index value) other place
  number_put shape r b f other place e =
      decided (eqb other number && eqb place index)
      (λ t. let (p, q) = same_place other number place index t in
      rw (p, q) (put₂_same f number index value ∙ sym (number_same shape r b)))
      (λ t. let n = other_place other number place index t in
      put₂_other f number index value other place n ∙ e ∙ sym (number_other other place n))

-- A table of zeros has its shape, and is 0 everywhere.
module _ (size : Size) where
  pub zeros_shape : Shaped size (zeros size)
  zeros_shape =
      record {
        tall = length-replicate size.rows (replicate {A = ℕ} size.width 0);
        wide = λ row b. rw (get_or-replicate size.rows row (replicate {A = ℕ} size.width 0) [] b) (length-replicate {A = ℕ} size.width 0);
      }

  pub zeros_number : (number index : ℕ) → number_at size (zeros size) number index ≡ 0
  zeros_number number index =
      decided (ltb (row_of size.rows number) size.rows)
      (λ t. let h = ltb-true (row_of size.rows number) size.rows t in
      decided (ltb index size.width)
      (λ u. let b = ltb-true index size.width u in
      sym (number_inside size (zeros size) number _ refl index h b)
      ∙ rw (get_or-replicate size.rows (row_of size.rows number) (replicate {A = ℕ} size.width 0) [] h)
      (get_or-replicate size.width index 0 0 b))
      (λ u. sym (number_beyond size (zeros size) number _ refl index (ltb-false index size.width u))))
      (λ t. sym (number_outside size (zeros size) number _ refl index (ltb-false (row_of size.rows number) size.rows t)))
