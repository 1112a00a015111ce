-- Two accepted records of one program with the same trace get verdicts of one kind, with as many groups: arrows close a walk in both or in neither, the
-- shortest are as long, and there are as many groups.
use Prim.Native.Nat.{ℕ, ◌≤◌}
use mathlib.Core.Path.{◌≡◌, refl}
use mathlib.Core.List.{List}
use native.Mathlib.Omega.{arith}
use Rattle.model.specs.Programs.{Program}
use Rattle.model.specs.Machine.{Start}
use Rattle.model.specs.Replay.{Replayed}
use Rattle.model.specs.HappensBefore.{edges_of}
use Rattle.model.specs.Orders.{Verdict, ordered, cyclic}
use Rattle.model.specs.Traces.{SameTrace}
use Rattle.model.specs.Checks.{verdict_on}
use Rattle.ordering.specs.Orders.{TopologicalOrder, ShortestRing}
use Rattle.ordering.proofs.Orders.{order_acyclic, cycle_closed}
use Rattle.ordering.proofs.Runs.{run_order, run_ring}
use Rattle.traces.specs.Claims.{RecordedRun, SameKind, orders, rings}
use Rattle.traces.proofs.Pairs.{facts_of}
use Rattle.traces.proofs.Equivalence.{same_trace_sym}
use Rattle.traces.proofs.Arrows.{closed_too, ring_no_longer, groups_no_fewer}

-- What the verdict on an accepted record tells.
module _ {P : Program} {start : Start} {run : Replayed} (a : RecordedRun P start run) (l : List ℕ) where
  order_of : verdict_on run ≡ ordered l → TopologicalOrder run.last.opened (edges_of run.events) l
  unfolding verdict_on
  order_of = run_order run.last.opened run.events (facts_of a).group_bound l

  ring_of : verdict_on run ≡ cyclic l → ShortestRing run.last.opened (edges_of run.events) l
  unfolding verdict_on
  ring_of = run_ring run.last.opened run.events (facts_of a).group_bound l

module _ {P : Program} {start start' : Start} {run run' : Replayed} (a : RecordedRun P start run) (a' : RecordedRun P start' run')
    (trace : SameTrace run.events run'.events) where
  -- Where there is an order, no walk closes in the other record.
  not_both : (l m : List ℕ) → verdict_on run ≡ ordered l → ¬ (verdict_on run' ≡ cyclic m)
  not_both l m order ring =
      let (k, long, closed) =
      closed_too a' a (same_trace_sym a a' trace) m (cycle_closed run'.last.opened (edges_of run'.events) m (ring_of a' m ring).cycle) in
      order_acyclic run.last.opened (edges_of run.events) l (order_of a l order) k closed

module _ {P : Program} {start start' : Start} {run run' : Replayed} (a : RecordedRun P start run) (a' : RecordedRun P start' run')
    (trace : SameTrace run.events run'.events) where
  pub same_group_count : 1 ≤ P.header.ranks → run.last.opened ≡ run'.last.opened
  same_group_count some_rank = omega (arith, groups_no_fewer a a' trace some_rank, groups_no_fewer a' a (same_trace_sym a a' trace) some_rank)

  by_verdicts : 1 ≤ P.header.ranks → (v v' : Verdict) → verdict_on run ≡ v → verdict_on run' ≡ v' → SameKind v v'
  by_verdicts some_rank (ordered l) (ordered m) is is' =
      orders l m (omega (arith, (order_of a l is).count, (order_of a' m is').count, same_group_count some_rank))
  by_verdicts some_rank (ordered l) (cyclic m) is is' = absurd (not_both a a' trace l m is is')
  by_verdicts some_rank (cyclic l) (ordered m) is is' = absurd (not_both a' a (same_trace_sym a a' trace) m l is' is)
  by_verdicts some_rank (cyclic l) (cyclic m) is is' =
      let ring = ring_of a l is in
      let ring' = ring_of a' m is' in
      rings l m (omega (arith, ring_no_longer a a' trace l m ring ring', ring_no_longer a' a (same_trace_sym a a' trace) m l ring' ring))

  -- The same kind of answer.
  pub same_kind : 1 ≤ P.header.ranks → SameKind (verdict_on run) (verdict_on run')
  same_kind some_rank = by_verdicts some_rank (verdict_on run) (verdict_on run') refl refl
