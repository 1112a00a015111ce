-- What the readers of a start answer and leave, by what the definitions find.
use Rattle.model.specs.declared.Found.{Found}
use Rattle.std.specs.Prelude.{ℕ, ◌≡◌}
use Rattle.model.specs.Refusals.{Result, Ok, Err, ◌>>=◌}
use Rattle.memory.specs.Tables.{Table}

-- Where the rows end, or the refusal; and the table, where they were all read.
pub record RowsRead (m : Result (Found Table)) (after : Table) (r : Result ℕ) : Type 0 where
  pub answers : r ≡ (m >>= λ f. Ok f.next)
  pub leaves : (f : Found Table) → m ≡ Ok f → after ≡ f.value

-- The whole start: on a refusal the cells stay as they were.
abbrev pub cells_after : Result Table → (before : Table) → Table
cells_after (Ok table) before = table
cells_after (Err r) before = before

pub record ReadsInto (m : Result Table) (before after : Table) (r : Result (Unit {0})) : Type 0 where
  pub answers : r ≡ (m >>= λ table. Ok tt)
  pub leaves : after ≡ cells_after m before
