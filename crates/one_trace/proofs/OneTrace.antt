-- The claims hold of every accepted record. Its bytes are read as items, and the theorems of items are said of what is written of them; what the
-- check answers goes by the run alone.
use Rattle.model.specs.declared.Verdict.TheVariants.{Order, Ring}
use Rattle.std.specs.Prelude.{Some}
use Prim.Native.Nat.{ℕ, suc, ◌≤◌}
use mathlib.Core.Path.{◌≡◌, refl, sym, ap, ap₂, subst, ◌∙◌, fun_ext}
use mathlib.Core.List.{List, [], ◌∷◌, ◌++◌, append_assoc}
use lib.ListN.{length}
use Rattle.model.specs.declared.Item.{Item}
use Rattle.model.specs.Refusals.{Ok}
use Rattle.model.specs.Choice.{Each, numbers_from}
use Rattle.model.specs.Marked.{marked_map, marked_bytes}
use Rattle.model.specs.Bytes.{AreBytes, word_bytes}
use Rattle.model.specs.Programs.{Program}
use Rattle.model.specs.Records.{read_record}
use Rattle.model.specs.Machine.{Start}
use Rattle.model.specs.StartBytes.{read_start}
use Rattle.model.specs.Replay.{Replayed, replay}
use Rattle.model.specs.HappensBefore.{edges_of}
use Rattle.model.specs.Orders.{Verdict, verdict}
use Rattle.model.specs.Traces.{InRecord, SameTrace}
use Rattle.model.specs.Checks.{Accepted, accept_in, verdict_on, rank_by_rank, last_cells, listed, answered}
use Rattle.model.specs.Slips.{map_bytes, slip_of}
use Rattle.model.proofs.Laws.{ok_injective, each_weaker}
use Rattle.model.proofs.Accepted.{AcceptedParts, accepted_parts}
use Rattle.model.proofs.Ranges.{header_fits, read_in_record}
use Rattle.record_bytes.specs.RecordBytes.{item_bytes, items_bytes, record_bytes, Writable}
use Rattle.record_bytes.specs.Claims.{WritableRecord, RecordForms}
use Rattle.record_bytes.proofs.Records.{record_forms, accept_written}
use Rattle.traces.specs.Claims.{RecordedRun, Exchangeable, Accesses, DifferOffAccesses, SameLogs}
use Rattle.traces.specs.Claims as Verdicts
use Rattle.traces.proofs.Pairs.{facts_of}
use Rattle.traces.proofs.LastWrites.{never_accessed}
use Rattle.traces.proofs.Contents.{same_cells, same_registers, same_taken}
use Rattle.traces.proofs.Verdicts.{same_kind}
use Rattle.traces.proofs.Starts as Starts
use Rattle.traces.proofs.Exchange as Items
use Rattle.traces.proofs.Merging.{Merged, merged}
use Rattle.demands.specs.Demands.{IsAccepted}
use Rattle.one_trace.specs.OneTrace.{outcome_of, SameKind, orders, rings, SameEnd, another, AcceptedToo, neighbours, Exchanged, FromOther, OneTraceOnePage}
use Rattle.one_trace.proofs.Answers.{answer_is, groups_are, cells_are, entry_is}

-- Verdicts of one kind are answered alike.
answered_alike : {v w : Verdict} → Verdicts.SameKind v w → SameKind (answered v) (answered w)
answered_alike (Verdicts.orders l m long) = subst (λ n. SameKind (Ok (Order (length l))) (Ok (Order n))) long (orders (length l))
answered_alike (Verdicts.rings l m long) = subst (λ n. SameKind (Ok (Ring (length l))) (Ok (Ring n))) long (rings (length l))

-- A slip goes by the counts of commands.
same_slip : (a : Accepted) (readings : Start) (run : Replayed) → ((rank : ℕ) → a.run.last.taken rank ≡ run.last.taken rank) →
    slip_of a ≡ slip_of (another a readings run)
unfolding slip_of
same_slip a readings run same =
    ap
    (λ (counts : ℕ → ℕ).
    map_bytes a.program.header.ranks (marked_map 1 counts (numbers_from 1 a.program.header.ranks)) ++
    marked_bytes counts (numbers_from 1 a.program.header.ranks))
    (fun_ext same)

-- An accepted record's bytes are read as an accepted list of items.
recorded_run : (program start recorded : List ℕ) (a : Accepted) → AreBytes recorded → IsAccepted program start recorded a →
    RecordedRun a.program a.readings a.run
recorded_run program start recorded a bound accepted =
    let p : AcceptedParts program start recorded a = accepted_parts program start recorded a accepted in
    record { items = p.items; in_record = read_in_record a.program.header recorded bound p.record_read_lem; replayed = p.replayed }

-- Two such lists, of one program from the same readings, with one trace.
module _ (program start recorded other : List ℕ) (a : Accepted) (run : Replayed) (some_rank : 1 ≤ a.program.header.ranks)
    (x : RecordedRun a.program a.readings a.run) (y : RecordedRun a.program a.readings run)
    (trace : SameTrace a.run.events run.events) where
  same_end : SameEnd program start recorded other a (another a a.readings run)
  unfolding last_cells
  same_end =
      record {
        kind = λ k m.
            subst (λ n. SameKind (outcome_of k).answer n) (sym (answer_is m))
            (subst (λ n. SameKind n (answered (verdict_on run))) (sym (answer_is k)) (answered_alike (same_kind x y trace some_rank)));
        listed_cells = λ k m.
            cells_are k ∙
            ap (rank_by_rank a.program.header.ranks a.program.header.cells) (fun_ext λ r. fun_ext λ c. same_cells x y trace r c) ∙
            sym (cells_are m);
        cells = same_cells x y trace;
        registers = same_registers x y trace;
        slip = same_slip a a.readings run (same_taken x y trace);
      }

-- A record's bytes, told apart.
items_append : (before after : List Item) → items_bytes (before ++ after) ≡ items_bytes before ++ items_bytes after
unfolding items_bytes
items_append [] after = refl
items_append (i ∷ before) after =
    ap (λ l. item_bytes i ++ l) (items_append before after) ∙ sym (append_assoc (item_bytes i) (items_bytes before) (items_bytes after))

told_apart : (before : List Item) (x y : Item) (after : List Item) →
    record_bytes (before ++ x ∷ y ∷ after) ≡ neighbours (length (before ++ x ∷ y ∷ after)) before x y after
unfolding items_bytes
told_apart before x y after = ap (λ l. word_bytes (length (before ++ x ∷ y ∷ after)) ++ l) (items_append before (x ∷ y ∷ after))

-- As many items, in either order.
as_many : (before : List Item) (x y : Item) (after : List Item) → length (before ++ y ∷ x ∷ after) ≡ length (before ++ x ∷ y ∷ after)
as_many [] x y after = refl
as_many (b ∷ before) x y after = ap suc (as_many before x y after)

module _ (program start recorded : List ℕ) (a : Accepted) (bound : AreBytes recorded) (accepted : IsAccepted program start recorded a) where
  parts : AcceptedParts program start recorded a
  parts = accepted_parts program start recorded a accepted

  some_rank : 1 ≤ a.program.header.ranks
  some_rank = (header_fits program parts.program_read_lem).ranks_low

  -- Another record of the same program bytes and start bytes is of the same program, from the same readings.
  same_program : (other : List ℕ) (b : Accepted) → IsAccepted program start other b → another a a.readings b.run ≡ b
  same_program other b accepted' =
      let p = accepted_parts program start other b accepted' in
      let is : a.program ≡ b.program = ok_injective (sym parts.program_read_lem ∙ p.program_read_lem) in
      let so : a.readings ≡ b.readings =
      ok_injective (sym parts.start_read_lem ∙ ap (λ (P : Program). read_start P.header start) is ∙ p.start_read_lem) in
      ap₂ (λ (P : Program) (readings : Start). record { program = P; readings = readings; run = b.run }) is so

  one_trace : (other : List ℕ) (b : Accepted) → AreBytes other → IsAccepted program start other b →
      SameTrace a.run.events b.run.events → SameEnd program start recorded other a b
  one_trace other b bound' accepted' trace =
      let is = same_program other b accepted' in
      subst (SameEnd program start recorded other a) is
      (same_end program start recorded other a b.run some_rank (recorded_run program start recorded a bound accepted)
      (recorded_run program start other (another a a.readings b.run) bound' (subst (IsAccepted program start other) (sym is) accepted'))
      trace)

  -- The record's items, as they are read, are what is replayed.
  replayed_as : (items : List Item) → read_record a.program.header recorded ≡ Ok items → replay a.program a.readings items ≡ Ok a.run
  replayed_as items read =
      subst (λ l. replay a.program a.readings l ≡ Ok a.run) (ok_injective (sym parts.record_read_lem ∙ read)) parts.replayed

  module _ (before : List Item) (x y : Item) (after : List Item) (read : read_record a.program.header recorded ≡ Ok (before ++ x ∷ y ∷ after))
      (may : Exchangeable a.run.events (length before) x y) where
    forms : RecordForms a.program.header
    forms = record_forms a.program.header (header_fits program parts.program_read_lem)

    writable : WritableRecord a.program.header (before ++ x ∷ y ∷ after)
    writable = (forms.written_so recorded (before ++ x ∷ y ∷ after) bound read).1

    writable' : WritableRecord a.program.header (before ++ y ∷ x ∷ after)
    writable' =
        record { few = rw (as_many before x y after) writable.few; each = Items.each_exchanged before x y after writable.each }

    replayed : replay a.program a.readings (before ++ x ∷ y ∷ after) ≡ Ok a.run
    replayed = replayed_as (before ++ x ∷ y ∷ after) read

    in_record : {items : List Item} → Each (Writable a.program.header) items → Each (InRecord a.program.header) items
    in_record = each_weaker (λ i w. w.in_record)

    -- What is written of the items in the other order is the record with the two byte strings exchanged.
    written : record_bytes (before ++ y ∷ x ∷ after) ≡ neighbours (length (before ++ x ∷ y ∷ after)) before y x after
    written = told_apart before y x after ∙ ap (λ n. neighbours n before y x after) (as_many before x y after)

    exchange : Exchanged program start recorded a before x y after
    exchange =
        let (run, taken, trace) = Items.exchange a.program a.readings before x y after a.run (in_record writable.each) replayed may in
        record {
          count = length (before ++ x ∷ y ∷ after);
          stands = (forms.written_so recorded (before ++ x ∷ y ∷ after) bound read).0 ∙ told_apart before x y after;
          are_bytes = subst AreBytes written (forms.records.are_bytes (before ++ y ∷ x ∷ after) writable');
          read =
              subst (λ l. read_record a.program.header l ≡ Ok (before ++ y ∷ x ∷ after)) written
              (forms.read_back (before ++ y ∷ x ∷ after) writable');
          too =
              record {
                run = run;
                accepted =
                    subst (λ l. IsAccepted program start l (another a a.readings run)) written
                    (accept_written program start parts.program_read_lem parts.start_read_lem writable' taken);
                trace = trace;
                same =
                    same_end program start recorded _ a run some_rank
                    (record { items = before ++ x ∷ y ∷ after; in_record = in_record writable.each; replayed = replayed })
                    (record { items = before ++ y ∷ x ∷ after; in_record = in_record writable'.each; replayed = taken }) trace;
              };
        }

  any_merge : (items others : List Item) → read_record a.program.header recorded ≡ Ok items → (other : List ℕ) → AreBytes other →
      read_record a.program.header other ≡ Ok others → SameLogs items others → AcceptedToo program start recorded other a
  unfolding accept_in
  any_merge items others read other bound' read' logs =
      let each = read_in_record a.program.header recorded bound read in
      let h = replayed_as items read in
      let m : Merged a.program a.readings others a.run = merged items others a.run each h logs in
      record {
        run = m.too;
        accepted = rw (parts.program_read_lem, parts.start_read_lem, read', m.replayed);
        trace = m.trace;
        same =
            same_end program start recorded other a m.too some_rank (record { items = items; in_record = each; replayed = h })
            (record { items = others; in_record = m.in_record; replayed = m.replayed }) m.trace;
      }

  other_start : (other : List ℕ) (readings : Start) → read_start a.program.header other ≡ Ok readings →
      DifferOffAccesses a.readings readings a.run.events → FromOther program start other recorded a readings
  unfolding accept_in verdict_on
  other_start other readings read differ =
      let f = Starts.from_other a.program a.readings readings parts.items a.run parts.replayed differ in
      let same : verdict_on a.run ≡ verdict_on f.too = ap₂ verdict f.opened (ap edges_of f.events) in
      let too : IsAccepted program other recorded (another a readings f.too) = rw (parts.program_read_lem, read, parts.record_read_lem, f.replayed) in
      record {
        run = f.too;
        accepted = too;
        answer = λ k m. answer_is k ∙ ap answered same ∙ sym (answer_is m);
        groups = λ k m. groups_are k ∙ ap listed same ∙ sym (groups_are m);
        listed_cells = λ k m rank cell r c agree. entry_is k rank cell r c ∙ ap Some (f.cells rank cell agree) ∙ sym (entry_is m rank cell r c);
        own_cells = λ m rank cell r c differs.
            entry_is m rank cell r c ∙
            ap Some
            ((facts_of (recorded_run program other recorded (another a readings f.too) bound too)).cells_end rank cell ∙
            never_accessed readings f.too.events rank cell (subst (λ events. ¬ (Accesses events rank cell)) f.events (differ rank cell differs)));
        registers = f.registers;
        slip = same_slip a readings f.too f.taken;
      }

-- The page.
pub one_trace_one_page : (program start recorded : List ℕ) (a : Accepted) → AreBytes recorded → IsAccepted program start recorded a →
    OneTraceOnePage program start recorded a
one_trace_one_page program start recorded a bound accepted =
    record {
      one_trace = one_trace program start recorded a bound accepted;
      exchange = exchange program start recorded a bound accepted;
      other_start = other_start program start recorded a bound accepted;
      any_merge = any_merge program start recorded a bound accepted;
    }
