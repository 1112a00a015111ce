-- The arrows of a placed group are gone, one by one, in whatever order: what is left in the counts are the other arrows.
use Prim.Native.Nat.{ℕ, suc, ◌+◌, ◌<◌}
use mathlib.Core.Path.{◌≡◌, refl, sym}
use mathlib.Core.Bool.{Bool}
use mathlib.Core.List.{List, [], ◌∷◌}
use native.Mathlib.Omega.{arith}
use borrow.Author.Tests.{eq-eqb, ne_eqb}
use Rattle.model.specs.Limits.{max_items}
use Rattle.model.specs.Choice.{select}
use Rattle.model.specs.Lists.{◌∈◌}
use Rattle.memory.specs.Tables.{Table}
use Rattle.graph.specs.Edges.{target_at}
use Rattle.model.proofs.Lists.{here, there}
use Rattle.indexing.specs.Indexed.{count_into}
use Rattle.placing.specs.declared.counts.Counts.{Counts}
use Rattle.placing.specs.Releases.{released_edges}
use Rattle.placing.specs.Standing.{Stands}
use Rattle.placing.proofs.Stands.{stands_same, stands_released}

-- The first arrow of a list counts for the group that it leads to.
module _ (table : Table) (edge : ℕ) (edges : List ℕ) where
  into_own : count_into table (edge ∷ edges) (target_at table edge) ≡ suc (count_into table edges (target_at table edge))
  unfolding count_into select
  into_own = rw (eq-eqb (target_at table edge) (target_at table edge) refl)

  into_other : (g : ℕ) → ¬ (g ≡ target_at table edge) → count_into table (edge ∷ edges) g ≡ count_into table edges g
  unfolding count_into select
  into_other g ne = rw (ne_eqb (target_at table edge) g (λ e. ne (sym e)))

pub stands_released_edges : (table : Table) {left : ℕ → Bool} (rest : ℕ → ℕ) (edges : List ℕ) {c : Counts} →
    ((edge : ℕ) → edge ∈ edges → target_at table edge < max_items) → Stands left (λ g. rest g + count_into table edges g) c →
    Stands left rest (released_edges table edges c)
unfolding released_edges count_into select
stands_released_edges table rest [] below s = stands_same (λ g. omega arith) s
stands_released_edges table rest (edge ∷ edges) below s =
    stands_released_edges table rest edges (λ e m. below e (there m))
    (stands_released s (target_at table edge) (below edge (here refl))
    (omega (arith, into_own table edge edges))
    (λ g ne. omega (arith, into_other table edge edges g ne)))
