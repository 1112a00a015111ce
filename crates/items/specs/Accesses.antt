-- Accesses as the code has them.
use Rattle.std.specs.Prelude.{ℕ, ◌+◌, ◌-◌, ◌*◌, Bool, ◌&&◌, ltb, Option, Some, None}
use Rattle.model.specs.declared.Address.{Address}
use Rattle.model.specs.Limits.{max_ranks, max_cells}
use Rattle.model.specs.Choice.{when, between}
use Rattle.model.specs.Expressions.{truth}
use Rattle.model.specs.Machine.{Access}

-- An address as one number: "rank 1 first".
abbrev pub address_number : Address → ℕ
address_number a = (a.rank - 1) * max_cells + a.cell

-- What the drawing of arrows needs of an access: 0 for none, and else which cell and whether it writes.
abbrev pub access_number : Option Access → ℕ
access_number None = 0
access_number (Some a) = 1 + address_number a.address * 2 + truth a.writes

-- The arrays have a cell for an address.
abbrev pub held : Address → Bool
held a = between 1 max_ranks a.rank && ltb a.cell max_cells

-- The number that the code tells: a cell that no rank has is none.
unfoldable pub access_told : Option Access → ℕ
access_told None = 0
access_told (Some a) = when (held a.address) (λ _. access_number (Some a)) (λ _. 0)
