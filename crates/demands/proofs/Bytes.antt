-- Demands 2 and 3 for all program, start and record bytes. The proofs stand in the crates below.
use Prim.Native.Nat.{ℕ, ◌<◌}
use mathlib.Core.Path.{◌≡◌, sym, ◌∙◌, subst}
use mathlib.Core.List.{List}
use mathlib.Core.Logic.{◌↔◌}
use Rattle.model.specs.declared.Item.{Item}
use Rattle.model.specs.Refusals.{Ok}
use Rattle.model.specs.Choice.{Each}
use Rattle.model.specs.Bytes.{AreBytes}
use Rattle.model.specs.Programs.{Program}
use Rattle.model.specs.Records.{read_record}
use Rattle.model.specs.Machine.{Start}
use Rattle.model.specs.Rules.{Bare}
use Rattle.model.specs.Replay.{Event}
use Rattle.model.specs.HappensBefore.{At, HappensBefore, edges_of, ◌⟶◌}
use Rattle.model.specs.Traces.{InRecord}
use Rattle.model.specs.Orders.{ordered, cyclic}
use Rattle.model.specs.Checks.{accept_in, accept, verdict_on, Accepted}
use Rattle.model.specs.Lists.{◌∈◌}
use Rattle.model.proofs.Laws.{ok_injective}
use Rattle.model.proofs.TakenItems.{replay_taken}
use Rattle.model.proofs.Ranges.{read_in_record}
use Rattle.model.proofs.Accepted.{AcceptedParts, accepted_parts}
use Rattle.acceptance.proofs.Acceptance.{record_accepted_iff_run}
use Rattle.ordering.proofs.Edges.{edges_agree}
use Rattle.ordering.specs.Orders.{TopologicalOrder, ShortestRing}
use Rattle.ordering.proofs.Runs.{run_order, run_ring}
use Rattle.record_facts.specs.Transfers.{MarksAgree}
use Rattle.record_facts.proofs.FactsHold.{facts}
use Rattle.record_facts.proofs.Marks.{marks_agree}
use Rattle.serializability.specs.Claim.{Serializable}
use Rattle.serializability.proofs.Serializability.{serializable}
use Rattle.demands.specs.Demands.{AcceptedTo, AreRun}

-- The items of an accepted record are items as a record has them.
in_record : (program start recorded : List ℕ) {a : Accepted} → AreBytes recorded → (p : AcceptedParts program start recorded a) →
    Each (InRecord a.program.header) p.items
in_record program start recorded {a} bytes p = read_in_record a.program.header recorded bytes p.record_read_lem

-- Demand 2. "A record is accepted exactly if it is a run of the program under Table 1 of the source, ending with empty queues": with the same last
-- state.
pub accepted_iff_run : (program start recorded : List ℕ) (P : Program) (readings : Start) (last : Bare) → AreBytes recorded →
    AcceptedTo program start recorded P readings last ↔ AreRun program start recorded P readings last
unfolding accept_in
accepted_iff_run program start recorded P readings last bytes = (sound, complete)
  where
    sound : AcceptedTo program start recorded P readings last → AreRun program start recorded P readings last
    sound h =
        let p = accepted_parts program start recorded (record { program = P; readings = readings; run = h.run }) h.accepted in
        record {
          items = p.items;
          program_read_lem = p.program_read_lem;
          start_read_lem = p.start_read_lem;
          record_read_lem = p.record_read_lem;
          is_run =
              (record_accepted_iff_run P readings p.items last (in_record program start recorded bytes p)).0 (h.run, p.replayed, h.state);
        }

    complete : AreRun program start recorded P readings last → AcceptedTo program start recorded P readings last
    complete h =
        let (run, replayed, state) =
        (record_accepted_iff_run P readings h.items last (read_in_record P.header recorded bytes h.record_read_lem)).1 h.is_run in
        record { run = run; accepted = rw (h.program_read_lem, h.start_read_lem, h.record_read_lem, replayed); state = state }

-- ".. and the arrows drawn are its happens-before relation between groups."
pub arrows_are_happens_before : (events : List Event) (g h : ℕ) → (g ⟶ h ∈ edges_of events) ↔ HappensBefore events g h
arrows_are_happens_before = edges_agree

-- "A group is a read or write with its popa and popb": those of its transfer, first in, first out.
pub pops_with_their_transfers : (program start recorded : List ℕ) (a : Accepted) → AreBytes recorded → accept program start recorded ≡ Ok a →
    (items : List Item) → read_record a.program.header recorded ≡ Ok items → MarksAgree a.program a.readings items a.run
pops_with_their_transfers program start recorded a bytes accepted items read =
    let p = accepted_parts program start recorded a accepted in
    let same : p.items ≡ items = ok_injective (sym p.record_read_lem ∙ read) in
    subst (λ l. MarksAgree a.program a.readings l a.run) same
    (marks_agree a.program a.readings p.items a.run (in_record program start recorded bytes p)
    (replay_taken a.program a.readings p.items p.replayed).0)

-- An accepted record of a readable program.
module _ (program start recorded : List ℕ) (a : Accepted) (bytes : AreBytes recorded) (accepted : accept program start recorded ≡ Ok a) where
  parts : AcceptedParts program start recorded a
  parts = accepted_parts program start recorded a accepted

  below : (i : ℕ) (e : Event) → At a.run.events i e → e.group < a.run.last.opened
  below =
      (facts a.program a.readings parts.items a.run (in_record program start recorded bytes parts) parts.replayed).group_bound

  -- The order is a permutation of all groups in which every arrow goes forward.
  pub order_forward : (groups : List ℕ) → verdict_on a.run ≡ ordered groups →
      TopologicalOrder a.run.last.opened (edges_of a.run.events) groups
  unfolding verdict_on
  order_forward = run_order a.run.last.opened a.run.events below

  -- The ring is the shortest: two or more groups along arrows, from its lowest number.
  pub ring_shortest : (ring : List ℕ) → verdict_on a.run ≡ cyclic ring → ShortestRing a.run.last.opened (edges_of a.run.events) ring
  unfolding verdict_on
  ring_shortest = run_ring a.run.last.opened a.run.events below

  -- Demand 3. "For every readable program and every accepted record: a ring is returned exactly when no plain run of the program from the same start
  -- has the record's trace; otherwise the returned order is a plain run with that trace, the record's value at each access, and the same last cells
  -- and registers."
  pub accepted_serializable : Serializable a.program a.readings a.run
  accepted_serializable = serializable (in_record program start recorded bytes parts) parts.replayed
