-- The registers of a rank, copied out of the arrays, are the state's.
use Prim.Native.Nat.{ℕ, ◌≤◌}
use mathlib.Core.Path.{◌≡◌, refl, sym, ap, fun_ext, ◌∙◌}
use mathlib.Core.List.{[]}
use native.Mathlib.Omega.{arith}
use lib.Dec.{ltb}
use lib.ListN.{get_or, get_or-eq_default}
use borrow.Author.Tests.{ltb-true, ltb-false}
use Rattle.model.specs.Limits.{max_ranks, max_registers}
use Rattle.model.proofs.Laws.{decided}
use Rattle.memory.specs.Tables.{Table, Rank, registers_size, row_of, row_at}
use Rattle.memory.specs.Tied.{Whole}
use Rattle.memory.proofs.Tables.{row_below, row_inside, number_beyond}
use Rattle.memory.proofs.Tied.{holds_row}

-- Both are 0 beyond the arrays.
module _ {table : Table} {f : ℕ → ℕ → ℕ} (held : Whole registers_size table f) (rank : ℕ) (r : Rank rank) where
  beyond : (x : ℕ) → max_registers ≤ x → f rank x ≡ get_or (row_at registers_size table rank) x 0
  beyond x b =
      let inside = row_below max_ranks rank r in
      let wide = held.shape.wide (row_of max_ranks rank) inside in
      held.same rank x r tt
      ∙ sym (number_beyond registers_size table rank _ refl x b)
      ∙ sym (get_or-eq_default (get_or table (row_of max_ranks rank) []) 0 (omega (arith, wide, b)))
      ∙ ap (λ row. get_or row x 0) (row_inside registers_size table rank _ refl inside)

  pub own_registers : f rank ≡ (λ x. get_or (row_at registers_size table rank) x 0)
  own_registers =
      fun_ext λ x.
      decided (ltb x max_registers)
      (λ t. sym (holds_row held rank x r (ltb-true x max_registers t) tt))
      (λ t. beyond x (ltb-false x max_registers t))
