-- The laws of what the arrays hold: a read gives the function's value, a store holds the function with one value put, zeros hold the zero function.
-- Proofs above this crate cite these, and never look into a table.
use Prim.Native.Nat.{ℕ, ◌-◌, ◌<◌}
use mathlib.Core.Path.{◌≡◌, refl, ap, sym, ◌∙◌}
use mathlib.Core.List.{List}
use native.Mathlib.Omega.{arith}
use lib.Dec.{eqb}
use lib.ListN.{get_or, set, replicate, length-set, length-replicate, get_or-replicate}
use lib.Seq.{get_or-set_same, get_or-set_other}
use borrow.Author.Tests.{eqb-true, eqb-false}
use Rattle.model.specs.Limits.{max_ranks}
use Rattle.model.specs.Machine.{put, put₂}
use Rattle.model.proofs.Laws.{decided, put_same, put_other}
use Rattle.memory.specs.Tables.{Table, Size, Row, Rank, row_of, row_at, number_at, stored, control_stored, zeros}
use Rattle.memory.specs.Tied.{Controls, Holds}
use Rattle.memory.proofs.Tables.{row_of_held, row_below, row_inside, number_inside, control_inside, control_stored_inside}
use Rattle.memory.proofs.Stores.{shaped, number_put, zeros_shape, zeros_number}

module _ {Known : ℕ → Type 0} {size : Size} {table : Table} {f : ℕ → ℕ → ℕ} (held : Holds Known size table f) where
  pub holds_number : (number index : ℕ) → Row size.rows number → Known index → number_at size table number index ≡ f number index
  holds_number number index r k = sym (held.same number index r k)

  -- The copied row of a number has its values.
  pub holds_row : (number index : ℕ) → Row size.rows number → index < size.width → Known index →
      get_or (row_at size table number) index 0 ≡ f number index
  holds_row number index r b k =
      let h = row_below size.rows number r in
      ap (λ l. get_or l index 0) (sym (row_inside size table number _ refl h))
      ∙ number_inside size table number _ refl index h b
      ∙ holds_number number index r k

  pub holds_stored : (number index value : ℕ) → Row size.rows number → index < size.width →
      Holds Known size (stored size table number index value) (put₂ f number index value)
  holds_stored number index value r b =
      record {
        shape = shaped size table number index value held.shape;
        same = λ other place o k. number_put size table number index value held.shape r b f other place (held.same other place o k);
      }

pub holds_zeros : {Known : ℕ → Type 0} (size : Size) → Holds Known size (zeros size) (λ number index. 0)
holds_zeros size = record { shape = zeros_shape size; same = λ number index r k. sym (zeros_number size number index) }

module _ {control : List ℕ} {f : ℕ → ℕ} (held : Controls control f) where
  pub controls_stored : (rank state : ℕ) → Rank rank → Controls (control_stored control rank state) (put f rank state)
  controls_stored rank state r =
      let row : ℕ = row_of max_ranks rank in
      let h = row_below max_ranks rank r in
      rw (← control_stored_inside control rank row refl state h)
      (record {
        long = length-set control row state ∙ held.long;
        same = λ other o.
            let g = row_below max_ranks other o in
            rw (← control_inside (set control row state) other _ refl g)
            (decided (eqb other rank)
            (λ t. let p = eqb-true other rank t in
            rw p (put_same f rank state ∙ sym (get_or-set_same control row state 0 (rw held.long h))))
            (λ t. let n = eqb-false other rank t in
            put_other f rank state other n
            ∙ held.same other o
            ∙ sym (control_inside control other _ refl g)
            ∙ sym (get_or-set_other control row (row_of max_ranks other) state 0 (λ e. n (same_rank other o e)))));
      })
    where
      same_rank : (other : ℕ) → Rank other → row_of max_ranks other ≡ row_of max_ranks rank → other ≡ rank
      same_rank other o e =
          let e' : other - 1 ≡ rank - 1 = sym (row_of_held max_ranks other o) ∙ e ∙ row_of_held max_ranks rank r in
          omega (arith, e', r.first, o.first)

pub controls_zeros : Controls (replicate max_ranks 0) (λ rank. 0)
controls_zeros =
    record {
      long = length-replicate {A = ℕ} max_ranks 0;
      same = λ rank r.
          let h = row_below max_ranks rank r in
          sym (sym (control_inside (replicate max_ranks 0) rank _ refl h) ∙ get_or-replicate max_ranks (row_of max_ranks rank) 0 0 h);
    }
