-- Accesses: what the code tells of a cell that the arrays have is the access's number.
use Rattle.std.specs.Prelude.{Option, Some, None}
use mathlib.Core.Path.{◌≡◌, refl}
use mathlib.Core.Bool.{true}
use lib.Dec.{leb, ltb}
use borrow.Author.Tests.{ltb-true, leb-true, lt-ltb, le-leb}
use Rattle.model.specs.declared.Address.{Address}
use Rattle.model.specs.Limits.{max_ranks, max_cells}
use Rattle.model.specs.Choice.{between}
use Rattle.model.specs.Machine.{Access}
use Rattle.model.proofs.Laws.{and-true}
use Rattle.memory.specs.Tables.{Place}
use Rattle.items.specs.Accesses.{held, access_number, access_told}

pub held_place : (a : Address) → held a ≡ true → Place a
held_place a h =
    let (ranks, cell) = and-true (between 1 max_ranks a.rank) (ltb a.cell max_cells) h in
    let (low, high) = and-true (leb 1 a.rank) (leb a.rank max_ranks) ranks in
    record {
      rank_held = record { first = leb-true 1 a.rank low; last = leb-true a.rank max_ranks high };
      cell_held = ltb-true a.cell max_cells cell;
    }

-- The cell of an access, if there is one, is one that the arrays have.
abbrev pub Placed : Option Access → Type 0
Placed None = Unit {0}
Placed (Some a) = Place a.address

pub told_number : (access : Option Access) → Placed access → access_number access ≡ access_told access
unfolding access_told
told_number None p = refl
told_number (Some a) p =
    rw (
      le-leb 1 a.address.rank p.rank_held.first,
      le-leb a.address.rank max_ranks p.rank_held.last,
      lt-ltb a.address.cell max_cells p.cell_held,
    )
