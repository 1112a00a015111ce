-- Tables and lists made from functions.
use Rattle.std.specs.Prelude.{ℕ, List, map}
use Rattle.model.specs.Limits.{max_ranks}
use Rattle.model.specs.Choice.{numbers_from}
use Rattle.memory.specs.Tables.{Table, Size}

-- A function of ranks as a list, and one of ranks and numbers below a width as a table: "rank 1 first".
abbrev pub by_rank : (ℕ → ℕ) → List ℕ
by_rank f = map f (numbers_from 1 max_ranks)

abbrev pub table_of : Size → (ℕ → ℕ → ℕ) → Table
table_of size f = map (λ number. map (f number) (numbers_from 0 size.width)) (numbers_from 1 size.rows)
