-- The ranges that Table 1 asks of an event and that the replay leaves to the record's reader: r ∈ RNK, and for a pop q ∈ QUE, and n ∈ RNK for the
-- remote rank n that it names, if it does.
use Rattle.std.specs.Prelude.{◌≤◌}
use Rattle.model.specs.declared.Item.{Item}
use Rattle.model.specs.ItemKinds.{Part, command, fetch, delivery, part_of}
use Rattle.model.specs.Programs.{Program}
use Rattle.model.specs.Rules.{Rank, Queue}

pub record PopIn (P : Program) (i : Item) : Type 0 where
  pub queue : Queue P i.queue
  pub remote : i.remote ≤ P.header.ranks

-- Only a pop names a queue and a remote rank.
abbrev pub NamedIn : Program → Part → Item → Type 0
NamedIn P command i = Unit {0}
NamedIn P fetch i = PopIn P i
NamedIn P delivery i = PopIn P i

-- An item whose rank, and whose queue and remote rank if it is a pop, the machine has.
pub record InRange (P : Program) (i : Item) : Type 0 where
  pub rank : Rank P i.rank
  pub named : NamedIn P (part_of i.kind) i
