-- The loops over arrows and groups, turn by turn.
use Prim.Native.Nat.{ℕ, suc, ◌+◌, ◌-◌, ◌≤◌, ◌<◌}
use mathlib.Core.Path.{◌≡◌}
use mathlib.Core.List.{List, [], ◌∷◌}
use native.Mathlib.Omega.{arith}
use Rattle.model.specs.Choice.{numbers_from}
use Rattle.memory.specs.Tables.{Table}
use Rattle.indexing.specs.declared.Index.{Index}
use Rattle.indexing.specs.Indexes.{indexed_edge, indexed_edges, readied, readied_all}

-- The numbers from one on, up to another: one is the first of them, or there are none.
module _ (i last : ℕ) where
  numbers_first : i < last → numbers_from i (last - i) ≡ i ∷ numbers_from (i + 1) (last - (i + 1))
  unfolding numbers_from
  numbers_first h = let e : last - i ≡ suc (last - (i + 1)) = omega arith in rw e

  numbers_none : last ≤ i → numbers_from i (last - i) ≡ []
  unfolding numbers_from
  numbers_none h = let e : last - i ≡ 0 = omega arith in rw e

-- A turn of each loop, and its end.
module _ (groups : ℕ) (table : Table) (edge last : ℕ) (i : Index) where
  pub edges_turn : edge < last → indexed_edges groups table (numbers_from edge (last - edge)) i ≡
      indexed_edges groups table (numbers_from (edge + 1) (last - (edge + 1))) (indexed_edge groups table edge i)
  unfolding indexed_edges
  edges_turn h = rw (numbers_first edge last h)

  pub edges_done : last ≤ edge → indexed_edges groups table (numbers_from edge (last - edge)) i ≡ i
  unfolding indexed_edges
  edges_done h = rw (numbers_none edge last h)

module _ (waiting : List ℕ) (group groups : ℕ) (ready : List ℕ) where
  pub ready_turn : group < groups → readied_all waiting (numbers_from group (groups - group)) ready ≡
      readied_all waiting (numbers_from (group + 1) (groups - (group + 1))) (readied waiting group ready)
  unfolding readied_all
  ready_turn h = rw (numbers_first group groups h)

  pub ready_done : groups ≤ group → readied_all waiting (numbers_from group (groups - group)) ready ≡ ready
  unfolding readied_all
  ready_done h = rw (numbers_none group groups h)
