-- The verdict on the edges of a run, in the words of the relation: in an order each edge and each chain goes forward, a cycle goes along edges, and
-- where some number rises along every edge the verdict is an order.
use Prim.Native.Nat.{ℕ, ◌<◌, ◌≤◌}
use mathlib.Core.Path.{◌≡◌, refl}
use mathlib.Core.Bool.{Bool}
use mathlib.Core.List.{List}
use mathlib.Core.Logic.{◌⊎◌, inl, inr}
use native.Mathlib.Omega.{arith}
use lib.ListN.{length}
use Rattle.model.specs.Replay.{Event}
use Rattle.model.specs.HappensBefore.{At, Follows, ProgramOrder, Conflict, HappensBefore, edges_of, ◌⟶◌}
use Rattle.model.specs.Orders.{Verdict, ordered, cyclic, verdict}
use Rattle.model.specs.Checks.{listed}
use Rattle.model.specs.Lists.{◌∈◌, Precedes}
use Rattle.ordering.proofs.Edges.{edges_agree}
use Rattle.ordering.proofs.Chains.{Reaches, reaches_relates}
use Rattle.model.proofs.Lists.{precedes_trans}
use Rattle.ordering.specs.Orders.{Proper, TopologicalOrder, Cycle, ShortestRing}
use Rattle.ordering.proofs.Orders.{cycle_length}
use Rattle.ordering.proofs.Verdicts.{verdict_order, verdict_shortest_ring, rising_ordered}

-- By either reason, the one event stands before the other in the run, and nothing between them passes some test.
pub reason_follows : {events : List Event} {x y : Event} → ProgramOrder events x y ⊎ Conflict events x y →
    (test : Event → Bool) × Follows events test x y
reason_follows (inl r) = (_, r.next)
reason_follows (inr r) = (_, r.nearest)

-- The groups that a verdict on so many lists: no more than there are, and of those.
pub record Listed (groups : ℕ) (v : Verdict) : Type 0 where
  pub few : length (listed v) ≤ groups
  pub low : (g : ℕ) → g ∈ listed v → g < groups

-- A run whose groups are below a number.
module _ (groups : ℕ) (events : List Event) (below : (i : ℕ) (e : Event) → At events i e → e.group < groups) where
  happens_below : (g h : ℕ) → HappensBefore events g h → (g < groups) × (h < groups)
  happens_below g h b =
      let (test, f) = reason_follows b.reason in
      (rw b.from at (below f.i b.x f.first), rw b.to at (below f.j b.y f.second))

  -- Its edges are between those groups, and each between two.
  pub run_proper : Proper groups (edges_of events)
  run_proper =
      record {
        below = λ e m. happens_below e.from e.to ((edges_agree events e.from e.to).0 m);
        different = λ e m. ((edges_agree events e.from e.to).0 m).different;
      }

  -- In an order each edge goes forward, and so each chain.
  module _ (l : List ℕ) (order : verdict groups (edges_of events) ≡ ordered l) where
    pub run_order : TopologicalOrder groups (edges_of events) l
    run_order = verdict_order groups (edges_of events) run_proper l order

    pub edge_forward : (g h : ℕ) → HappensBefore events g h → Precedes l g h
    edge_forward g h b = run_order.forward (g ⟶ h) ((edges_agree events g h).1 b)

    pub chain_forward : {g h : ℕ} → Reaches events g h → (g ≡ h) ⊎ Precedes l g h
    chain_forward = reaches_relates events (Precedes l) (λ g k h. precedes_trans l run_order.once) edge_forward

  -- A cycle is the shortest ring, and goes along edges.
  module _ (l : List ℕ) (cycle : verdict groups (edges_of events) ≡ cyclic l) where
    pub run_ring : ShortestRing groups (edges_of events) l
    run_ring = verdict_shortest_ring groups (edges_of events) run_proper l cycle

    pub run_cycle : Cycle groups (edges_of events) l
    run_cycle = run_ring.cycle

  -- Where some number rises along every edge, the verdict is an order.
  pub rising_run : (φ : ℕ → ℕ) → ((g h : ℕ) → HappensBefore events g h → φ g < φ h) → (l : List ℕ) × (verdict groups (edges_of events) ≡ ordered l)
  rising_run φ rises =
      rising_ordered groups (edges_of events) run_proper φ (λ e m. rises e.from e.to ((edges_agree events e.from e.to).0 m))

  -- What a verdict lists, be it an order or a cycle.
  listed_by : (v : Verdict) → verdict groups (edges_of events) ≡ v → Listed groups v
  listed_by (ordered l) is = record { few = omega (arith, (run_order l is).count); low = (run_order l is).below }
  listed_by (cyclic l) is = record { few = cycle_length groups (edges_of events) l (run_cycle l is); low = (run_cycle l is).below }

  pub run_lists : Listed groups (verdict groups (edges_of events))
  run_lists = listed_by (verdict groups (edges_of events)) refl
