-- Serializability: the verdict on an accepted record is an order exactly when some serial run has its trace, and then the order's own items are
-- such a run.
--
-- Forward: the record's events, arranged in an order along the dependences, are replayed group by group with the same accesses and values
-- (Forward.antt).
-- Backward: a serial run with the record's trace numbers the record's groups so that every edge goes up (Backward.antt); round a cycle that cannot
-- be.
use Prim.Native.Nat.{ℕ, ◌<◌}
use mathlib.Core.Path.{◌≡◌, refl}
use mathlib.Core.List.{List}
use mathlib.Core.Logic.{⊎_elim}
use native.Mathlib.Omega.{arith}
use Rattle.model.specs.declared.Item.{Item}
use Rattle.model.specs.Refusals.{Ok}
use Rattle.model.specs.Choice.{Each}
use Rattle.model.specs.Programs.{Program}
use Rattle.model.specs.Machine.{Start}
use Rattle.model.specs.Replay.{Replayed, replay}
use Rattle.model.specs.HappensBefore.{HappensBefore}
use Rattle.model.specs.Orders.{Verdict, ordered, cyclic}
use Rattle.model.specs.Traces.{SameTrace, InRecord, SerialRun}
use Rattle.model.specs.Checks.{verdict_on, order_items}
use Rattle.model.proofs.Lists.{position, at_position, one_place}
use Rattle.ordering.proofs.Chains.{conflict_reaches, program_reaches}
use Rattle.ordering.proofs.Runs.{run_order, chain_forward, rising_run}
use Rattle.record_facts.specs.Facts.{Facts}
use Rattle.record_facts.proofs.FactsHold.{facts}
use Rattle.serializability.specs.Orders.{Forward}
use Rattle.serializability.specs.Claim.{Serialization, Serializable}
use Rattle.serializability.proofs.Forward.{serial_run, is_serial, forward}
use Rattle.serializability.proofs.Backward.{placement, backward}

-- An order that the verdict gives goes along the dependences.
verdict_forward : {P : Program} {start : Start} {items : List Item} {run : Replayed} → Facts P start items run →
    (groups : List ℕ) → verdict_on run ≡ ordered groups → Forward run.events run.last.opened groups
unfolding verdict_on
verdict_forward {run = run} f groups is =
    let order = run_order run.last.opened run.events f.group_bound groups is in
    record {
      bounded = λ i g p. order.below g (at_position groups i p);
      placed = λ g p. position (order.each g p);
      once = λ i j g p q. one_place groups order.once i j p q;
      along = λ i j x y p q before. ⊎_elim
          (λ c. chain_forward run.last.opened run.events f.group_bound groups is (conflict_reaches run.events i j x y p q before c))
          (λ c. chain_forward run.last.opened run.events f.group_bound groups is (program_reaches run.events i j x y p q before c));
    }

-- A cycle leaves no numbering that goes up along all edges.
verdict_no_numbering : {P : Program} {start : Start} {items : List Item} {run : Replayed} → Facts P start items run →
    (cycle : List ℕ) → verdict_on run ≡ cyclic cycle → (number : ℕ → ℕ) → ¬ ((g h : ℕ) → HappensBefore run.events g h → number g < number h)
unfolding verdict_on
verdict_no_numbering {run = run} f cycle is number rises =
    let (groups, other) = rising_run run.last.opened run.events f.group_bound number rises in
    let absurdity : ◌≡◌ {A = ℕ} 0 1 = cc in
    omega arith

-- An accepted record: its items as a record has them, taken by the replay.
module _ {P : Program} {start : Start} {items : List Item} {run : Replayed} (in_record : Each (InRecord P.header) items)
    (accepted : replay P start items ≡ Ok run) where
  -- The order half.
  order_serializes : (groups : List ℕ) → verdict_on run ≡ ordered groups →
      (run' : Replayed) × Serialization P start run (order_items groups run.events) run'
  order_serializes groups is =
      let f = facts P start items run in_record accepted in
      let w = verdict_forward f groups is in
      let serial = is_serial f w in_record in (
        serial_run f w,
        forward f w in_record (facts P start (order_items groups run.events) (serial_run f w) serial.in_record serial.replayed),
      )

  -- The ring half.
  cycle_excludes : (cycle : List ℕ) → verdict_on run ≡ cyclic cycle → (items' : List Item) (run' : Replayed) → SerialRun P start items' run' →
      ¬ (SameTrace run.events run'.events)
  cycle_excludes cycle is items' run' serial trace =
      verdict_no_numbering (facts P start items run in_record accepted) cycle is (placement run.events run'.events)
      (backward (facts P start items run in_record accepted) (facts P start items' run' serial.in_record serial.replayed) trace
      serial.together)

  -- Demand 3: one claim about a whole record and all serial runs.
  pub serializable : Serializable P start run
  serializable =
      record {
        order = order_serializes;
        ring = ((λ (cycle, is). cycle_excludes cycle is), (λ none_has. decide none_has (verdict_on run) refl));
      }
    where
      decide : ((items' : List Item) (run' : Replayed) → SerialRun P start items' run' → ¬ (SameTrace run.events run'.events)) →
          (v : Verdict) → verdict_on run ≡ v → (cycle : List ℕ) × (verdict_on run ≡ cyclic cycle)
      decide none_has (ordered groups) is =
          let s = order_serializes groups is in
          absurd (none_has (order_items groups run.events) s.0 s.1.serial s.1.trace)
      decide none_has (cyclic cycle) is = (cycle, is)
