-- Lists that are filled from the front, one entry at a time, and tables that a function of rows and indices fills.
use Prim.Native.Nat.{ℕ, zero, suc, ◌+◌, ◌-◌, ◌≤◌, ◌<◌}
use mathlib.Core.Path.{◌≡◌, refl, sym, ap, ◌∙◌}
use mathlib.Core.List.{List, [], ◌∷◌, ◌++◌, map, map-append, append-nil}
use native.Mathlib.Nat.{not-suc-le-zero, add-zero}
use native.Mathlib.Omega.{arith}
use lib.ListN.{length, get_or, set, length-map}
use lib.Seq.{drop-length, ext_get_or}
use Rattle.model.specs.Limits.{max_ranks}
use Rattle.model.specs.Choice.{numbers_from}
use Rattle.model.specs.Checks.{fill}
use Rattle.memory.specs.Tables.{Table, Size, Row, row_of}
use Rattle.memory.specs.Made.{by_rank, table_of}
use Rattle.memory.specs.Tied.{Controls, Below}
use Rattle.memory.proofs.Tables.{row_of_held, row_below, number_inside, control_inside}

pub numbers_length : (first count : ℕ) → length (numbers_from first count) ≡ count
unfolding numbers_from
numbers_length first zero = refl
numbers_length first (suc count) = ap suc (numbers_length (first + 1) count)

-- One number more.
numbers_more : (first count : ℕ) → numbers_from first (count + 1) ≡ numbers_from first count ++ (first + count) ∷ []
unfolding numbers_from
numbers_more first zero = let z : first + 0 ≡ first = omega arith in rw z
numbers_more first (suc count) =
    let e : first + suc count ≡ first + 1 + count = omega arith in
    let s : suc count + 1 ≡ suc (count + 1) = omega arith in
    rw (e, s) (ap {B = List ℕ} (λ l. first ∷ l) (numbers_more (first + 1) count))

-- The entry of a list that a function of numbers fills.
pub numbers_at : {A : Type 0} (f : ℕ → A) (first count i : ℕ) (d : A) → i < count → get_or (map f (numbers_from first count)) i d ≡ f (first + i)
unfolding numbers_from
numbers_at f first zero i d h = absurd (not-suc-le-zero h)
numbers_at f first (suc count) zero d h = ap f (sym (add-zero first))
numbers_at f first (suc count) (suc i) d h =
    let e : first + 1 + i ≡ first + suc i = omega arith in
    numbers_at f (first + 1) count i d (omega arith) ∙ ap f e

-- A list filled one entry further.
pub fill_more : {A : Type 0} (new old : List A) (x : A) → length new < length old → set (fill new old) (length new) x ≡ fill (new ++ x ∷ []) old
unfolding fill
fill_more [] [] x h = absurd (not-suc-le-zero h)
fill_more [] (y ∷ old) x h = refl
fill_more (z ∷ new) [] x h = absurd (not-suc-le-zero h)
fill_more {A} (z ∷ new) (y ∷ old) x h = ap {B = List A} (λ l. z ∷ l) (fill_more new old x (omega arith))

-- A list that a loop fills by a function of numbers, up to a number of entries: its first entries are made, and the others are as they were.
pub record Filling {A : Type 0} (f : ℕ → A) (first limit : ℕ) (old now : List A) (done : ℕ) : Type 0 where
  pub room : length old ≡ limit
  pub within : done ≤ limit
  pub made : now ≡ fill (map f (numbers_from first done)) old

module _ {A : Type 0} (f : ℕ → A) (first limit : ℕ) (old : List A) where
  pub filling_none : length old ≡ limit → Filling f first limit old old 0
  unfolding fill numbers_from
  filling_none room = record { room = room; within = omega arith; made = refl }

  pub filling_more : {now : List A} {done : ℕ} (x : A) → Filling f first limit old now done → done < limit → x ≡ f (first + done) →
      Filling f first limit old (set now done x) (done + 1)
  filling_more {now} {done} x so_far h e =
      record {
        room = so_far.room;
        within = omega arith;
        made =
            let l : length (map f (numbers_from first done)) ≡ done = length-map (numbers_from first done) f ∙ numbers_length first done in
            ap (λ l. set l done x) so_far.made
            ∙ ap (λ n. set (fill (map f (numbers_from first done)) old) n x) (sym l)
            ∙ fill_more (map f (numbers_from first done)) old x (rw (l, so_far.room) h)
            ∙ ap (λ y. fill (map f (numbers_from first done) ++ y ∷ []) old) e
            ∙ ap (λ new. fill new old) (sym (ap (map f) (numbers_more first done) ∙ map-append f (numbers_from first done) ((first + done) ∷ [])));
      }

  pub filling_all : {now : List A} {done : ℕ} → Filling f first limit old now done → limit ≤ done → now ≡ map f (numbers_from first limit)
  unfolding fill
  filling_all {now} {done} so_far h =
      let e : done ≡ limit = omega (arith, so_far.within) in
      let l : length (map f (numbers_from first limit)) ≡ length old =
      length-map (numbers_from first limit) f ∙ numbers_length first limit ∙ sym so_far.room in
      so_far.made ∙ rw (e, l, drop-length) (append-nil (map f (numbers_from first limit)))

-- A list is what a function of numbers makes of it, where it has the function's values.
pub list_of : {A : Type 0} (f : ℕ → A) (first count : ℕ) (d : A) (l : List A) → length l ≡ count →
    ((i : ℕ) → i < count → get_or l i d ≡ f (first + i)) → l ≡ map f (numbers_from first count)
list_of f first count d l e same =
    ext_get_or d l (map f (numbers_from first count)) (e ∙ sym (length-map (numbers_from first count) f ∙ numbers_length first count))
    (λ i b.
    let c : i < count = rw e at b in
    same i c ∙ sym (numbers_at f first count i d c))

-- The number of the row i.
module _ (rows i : ℕ) (b : i < rows) where
  pub row_number : Row rows (1 + i)
  row_number = record { first = omega arith; last = omega arith }

  pub number_row_lem : row_of rows (1 + i) ≡ i
  number_row_lem = let e : 1 + i - 1 ≡ i = omega arith in row_of_held rows (1 + i) row_number ∙ e

-- A list with a number for each rank, and a table that holds a function, are what the function makes of them.
pub by_rank_lem : (f : ℕ → ℕ) (control : List ℕ) → Controls control f → control ≡ by_rank f
by_rank_lem f control held =
    list_of f 1 max_ranks 0 control held.long
    (λ i b.
    let e = number_row_lem max_ranks i b in
    ap (λ n. get_or control n 0) (sym e)
    ∙ control_inside control (1 + i) _ refl (row_below max_ranks (1 + i) (row_number max_ranks i b))
    ∙ sym (held.same (1 + i) (row_number max_ranks i b)))

module _ (size : Size) (f : ℕ → ℕ → ℕ) where
  pub table_is : (table : Table) → Below size table f → table ≡ table_of size f
  table_is table held =
      list_of (λ number. map (f number) (numbers_from 0 size.width)) 1 size.rows [] table held.shape.tall
      (λ i b.
      list_of (f (1 + i)) 0 size.width 0 (get_or table i []) (held.shape.wide i b)
      (λ j w.
      let r = row_number size.rows i b in
      let z : 0 + j ≡ j = omega arith in
      ap (λ n. get_or (get_or table n []) j 0) (sym (number_row_lem size.rows i b))
      ∙ number_inside size table (1 + i) _ refl j (row_below size.rows (1 + i) r) w
      ∙ sym (held.same (1 + i) j r w)
      ∙ ap (f (1 + i)) (sym z)))

  -- A table that a function makes holds it.
  pub made_holds : Below size (table_of size f) f
  made_holds =
      record {
        shape =
            record {
              tall = length-map (numbers_from 1 size.rows) row ∙ numbers_length 1 size.rows;
              wide = λ i b.
                  rw (numbers_at row 1 size.rows i [] b) (length-map (numbers_from 0 size.width) (f (1 + i)) ∙ numbers_length 0 size.width);
            };
        same = λ number index r b.
            let h = row_below size.rows number r in
            let e : 1 + row_of size.rows number ≡ number = rw (row_of_held size.rows number r) (omega (arith, r.first)) in
            let z : 0 + index ≡ index = omega arith in
            sym
            (sym (number_inside size (table_of size f) number _ refl index h b)
            ∙ ap (λ l. get_or l index 0) (numbers_at row 1 size.rows (row_of size.rows number) [] h ∙ ap row e)
            ∙ numbers_at (f number) 0 size.width index 0 b
            ∙ ap (f number) z);
      }
    where
      row : ℕ → List ℕ
      row number = map (f number) (numbers_from 0 size.width)
