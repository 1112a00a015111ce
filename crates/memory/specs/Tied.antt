-- What the arrays hold: the relations between them and the functions of the machine's state.
use Rattle.std.specs.Prelude.{ℕ, ◌<◌, ◌≡◌, List, length}
use Rattle.model.specs.Limits.{max_ranks}
use Rattle.memory.specs.Tables.{Table, Size, Row, Rank, Shaped, number_at, control_at}

-- A list with the control state of each rank.
pub record Controls (control : List ℕ) (f : ℕ → ℕ) : Type 0 where
  pub long : length control ≡ max_ranks
  pub same : (rank : ℕ) → Rank rank → f rank ≡ control_at control rank

-- A table that holds a function of its rows' numbers and of those indices that `Known` says.
pub record Holds (Known : ℕ → Type 0) (size : Size) (table : Table) (f : ℕ → ℕ → ℕ) : Type 0 where
  pub shape : Shaped size table
  pub same : (number index : ℕ) → Row size.rows number → Known index → f number index ≡ number_at size table number index

-- Of the indices below its width, and of all indices: there the function is 0 beyond the width.
abbrev pub Below : Size → Table → (ℕ → ℕ → ℕ) → Type 0
Below size = Holds (λ index. index < size.width) size

abbrev pub Whole : Size → Table → (ℕ → ℕ → ℕ) → Type 0
Whole size = Holds (λ index. Unit {0}) size
