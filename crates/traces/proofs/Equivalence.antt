-- On accepted records of a program "same trace" is an equivalence: each has its own, what conflicts in one conflicts in the other, and every event has
-- its counterpart.
use mathlib.Core.Path.{◌≡◌, refl, sym, ◌∙◌, ap, subst₂}
use Rattle.model.specs.Programs.{Program}
use Rattle.model.specs.Machine.{Start}
use Rattle.model.specs.Replay.{Event, Replayed}
use Rattle.model.specs.Traces.{Identified, cell_of, SameTrace}
use Rattle.model.specs.Lists.{Precedes, ◌∈◌}
use Rattle.model.proofs.Lists.{position}
use Rattle.serializability.proofs.Identity.{identified_sym, identified_trans, identity_unique, at_unique}
use Rattle.serializability.proofs.Correspondence.{Counterpart, counterpart, counterpart_in}
use Rattle.traces.specs.Claims.{RecordedRun}
use Rattle.traces.proofs.Accesses.{conflict_same}
use Rattle.traces.proofs.Pairs.{facts_of, pair, pair_alike}

pub same_trace_refl : {P : Program} {start : Start} {run : Replayed} → RecordedRun P start run → SameTrace run.events run.events
same_trace_refl {run = run} a =
    record {
      transitions = λ rank. refl;
      cells = λ x y mx my same. ap cell_of (one mx my same);
      order = λ x x' y y' mx mx' my my' same same' conflicts.
          let is = one mx my same in
          let is' = one mx' my' same' in
          (subst₂ (Precedes run.events) is is', subst₂ (Precedes run.events) (sym is) (sym is'));
    }
  where
    one : {x y : Event} → x ∈ run.events → y ∈ run.events → Identified x y → x ≡ y
    one mx my same =
        let (i, ax) = position mx in
        let (j, ay) = position my in
        at_unique (facts_of a) ax ay (identity_unique (facts_of a) i j ax ay same)

pub same_trace_sym : {P : Program} {start start' : Start} {run run' : Replayed} → RecordedRun P start run → RecordedRun P start' run' →
    SameTrace run.events run'.events → SameTrace run'.events run.events
same_trace_sym a a' trace =
    record {
      transitions = λ rank. sym (trace.transitions rank);
      cells = λ y x my mx same. sym (trace.cells x y mx my (identified_sym same));
      order = λ y y' x x' my my' mx mx' same same' conflicts.
          let back = identified_sym same in
          let back' = identified_sym same' in
          let o = trace.order x x' y y' mx mx' my my' back back'
          (conflict_same (pair_alike a a' trace (pair a a' trace mx my back)) (pair_alike a a' trace (pair a a' trace mx' my' back')) ∙ conflicts) in
          (o.1, o.0);
    }

-- From one to the next, through a record whose events are the counterparts of the first's.
pub same_trace_trans : {P : Program} {start start' start'' : Start} {run run' run'' : Replayed} → RecordedRun P start run → RecordedRun P start' run' →
    RecordedRun P start'' run'' → SameTrace run.events run'.events → SameTrace run'.events run''.events →
    SameTrace run.events run''.events
same_trace_trans {run = run} {run' = run'} a a' a'' t t' =
    record {
      transitions = λ rank. t.transitions rank ∙ t'.transitions rank;
      cells = λ x z mx mz same.
          let c = through x mx in
          t.cells x c.y mx (counterpart_in c) c.same ∙
          t'.cells c.y z (counterpart_in c) mz (identified_trans (identified_sym c.same) same);
      order = λ x x' z z' mx mx' mz mz' same same' conflicts.
          let c = through x mx in
          let c' = through x' mx' in
          let first = t.order x x' c.y c'.y mx mx' (counterpart_in c) (counterpart_in c') c.same c'.same conflicts in
          let second = t'.order c.y c'.y z z' (counterpart_in c) (counterpart_in c') mz mz'
          (identified_trans (identified_sym c.same) same) (identified_trans (identified_sym c'.same) same')
          (sym (conflict_same (pair_alike a a' t (pair a a' t mx (counterpart_in c) c.same)) (pair_alike a a' t (pair a a' t mx' (counterpart_in c') c'.same))) ∙
          conflicts) in
          ((λ p. second.0 (first.0 p)), (λ p. first.1 (second.1 p)));
    }
  where
    through : (x : Event) → x ∈ run.events → Counterpart run'.events x
    through x mx = let (i, ax) = position mx in counterpart (facts_of a) (facts_of a') t.transitions i x ax
