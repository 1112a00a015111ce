-- The definitions of `Drawing` by cases: what is told of an item is something or nothing.
use Rattle.std.specs.Prelude.{Option, Some, None}
use Prim.Native.Nat.{ℕ, ◌+◌}
use mathlib.Core.Path.{◌≡◌}
use mathlib.Core.Bool.{true, false}
use mathlib.Core.List.{List, []}
use lib.ListN.{get_or, set}
use Rattle.memory.specs.Tables.{Table}
use Rattle.chains.specs.Chains.{heads_after, links_after, members}
use Rattle.happens_before.specs.declared.kept.Accesses.{Accesses}
use Rattle.happens_before.specs.declared.rows.Told.{Told}
use Rattle.happens_before.specs.declared.rows.Touch.{Touch}
use Rattle.happens_before.specs.Drawing.{
  accessed,
  from_item,
  from_each,
  program_into,
  conflicts_into,
  commands_with,
  if_writes,
  accessed_with,
}

module _ (trail : Table) (t : Told) where
  -- By program order.
  module _ (commands : List (Option ℕ)) where
    pub program_none : t.rank ≡ None → program_into trail commands t ≡ []
    unfolding program_into
    program_none e = rw e

    pub program_some : (rank : ℕ) → t.rank ≡ Some rank → program_into trail commands t ≡ from_item trail (get_or commands rank None) t.group
    unfolding program_into
    program_some rank e = rw e

  -- By conflict.
  module _ {cells : ℕ} (a : Accesses cells) where
    pub conflicts_none : t.access ≡ None → conflicts_into trail a t ≡ []
    unfolding conflicts_into
    conflicts_none e = rw e

    module _ (own : Touch) (touched : t.access ≡ Some own) where
      pub conflicts_write : own.writes ≡ true →
          conflicts_into trail a t ≡ from_each trail (members a.links (get_or a.newest own.cell 0)) t.group
      unfolding conflicts_into
      conflicts_write w = rw (touched, w)

      pub conflicts_read : own.writes ≡ false → conflicts_into trail a t ≡ from_item trail (get_or a.writes own.cell None) t.group
      unfolding conflicts_into
      conflicts_read w = rw (touched, w)

-- What is kept.
module _ (t : Told) (item : ℕ) where
  pub commands_none : (commands : List (Option ℕ)) → t.rank ≡ None → commands_with commands t item ≡ commands
  unfolding commands_with
  commands_none commands e = rw e

  pub commands_some : (commands : List (Option ℕ)) (rank : ℕ) → t.rank ≡ Some rank → commands_with commands t item ≡ set commands rank (Some item)
  unfolding commands_with
  commands_some commands rank e = rw e

  module _ {cells : ℕ} (a : Accesses cells) where
    pub accessed_none : t.access ≡ None → accessed_with a t item ≡ a
    unfolding accessed_with
    accessed_none e = rw e

    pub accessed_some : (own : Touch) → t.access ≡ Some own →
        accessed_with a t item
        ≡ accessed (if_writes a.writes own (Some item))
        (heads_after (if_writes a.newest own 0) a.links own.cell (item + 1))
        (links_after (if_writes a.newest own 0) a.links own.cell (item + 1))
    unfolding accessed_with
    accessed_some own e = rw e
