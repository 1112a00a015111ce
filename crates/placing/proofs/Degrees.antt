-- How many edges lead into a group: none exactly if no edge is found, and the edges of one group taken out leave the others.
use Prim.Native.Nat.{ℕ, suc, ◌+◌}
use mathlib.Core.Path.{◌≡◌, refl, ap, ◌∙◌}
use mathlib.Core.Bool.{Bool, true, false, not, ◌&&◌}
use mathlib.Core.List.{List, [], ◌∷◌}
use native.Mathlib.Omega.{arith}
use lib.Dec.{eqb}
use lib.ListN.{length}
use borrow.Author.Tests.{ne_eqb, eqb-true}
use Rattle.model.specs.Choice.{select}
use Rattle.model.specs.HappensBefore.{Edge}
use Rattle.model.specs.Orders.{has_edge_into, not_from}
use Rattle.model.specs.Lists.{◌∈◌}
use Rattle.model.proofs.Laws.{decided}
use Rattle.model.proofs.Lists.{here, there}
use Rattle.indexing.specs.Degrees.{in_degree}
use Rattle.placing.proofs.Selecting.{select_same, select_both, count_parts}

-- An edge leads into a group exactly if the count is not 0.
pub into_counted : (g : ℕ) (edges : List Edge) → has_edge_into g edges ≡ not (eqb (in_degree edges g) 0)
unfolding has_edge_into in_degree select
into_counted g [] = refl
into_counted g (e ∷ edges) =
    decided (eqb e.to g)
    (λ t. rw (t, ne_eqb (suc (length (select (λ d. eqb d.to g) edges))) 0 (λ z. omega (arith, z))))
    (λ t. rw t (into_counted g edges))

-- No edge leads into a group that is the end of none.
pub into_none : (g : ℕ) (edges : List Edge) → ((e : Edge) → e ∈ edges → ¬ (e.to ≡ g)) → in_degree edges g ≡ 0
unfolding in_degree select
into_none g [] h = refl
into_none g (e ∷ edges) h = rw (ne_eqb e.to g (h e (here refl))) (into_none g edges (λ d m. h d (there m)))

-- The edges into h are those that come from g and the others.
pub degree_parts : (g h : ℕ) (edges : List Edge) →
    in_degree edges h ≡ in_degree (not_from g edges) h + in_degree (select (λ e. eqb e.from g) edges) h
unfolding in_degree
degree_parts g h edges = count_parts (λ e. eqb e.to h) (λ e. eqb e.from g) edges

-- The edges that come from the groups of a set; with one group fewer; and those of one group of the set.
abbrev pub edges_out : (left : ℕ → Bool) → List Edge → List Edge
edges_out left = select (λ e. left e.from)

abbrev pub but : (ℕ → Bool) → ℕ → ℕ → Bool
but left g h = left h && not (eqb h g)

pub edges_but : (left : ℕ → Bool) (g : ℕ) (edges : List Edge) → not_from g (edges_out left edges) ≡ edges_out (but left g) edges
edges_but left g edges = select_both (λ e. not (eqb e.from g)) (λ e. left e.from) edges

pub edges_of_one : (left : ℕ → Bool) (g : ℕ) (edges : List Edge) → left g ≡ true →
    select (λ e. eqb e.from g) (edges_out left edges) ≡ select (λ e. eqb e.from g) edges
edges_of_one left g edges h =
    select_both (λ e. eqb e.from g) (λ e. left e.from) edges
    ∙ select_same (λ e. left e.from && eqb e.from g) (λ e. eqb e.from g) edges
    (λ e m. decided (eqb e.from g)
    (λ t. let same : left e.from ≡ true = ap left (eqb-true e.from g t) ∙ h in rw (same, t))
    (λ t. rw t (and-false (left e.from))))
  where
    and-false : (t : Bool) → (t && false) ≡ false
    and-false true = refl
    and-false false = refl
