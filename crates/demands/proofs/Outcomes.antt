-- From the result of the check to its outcome. Where the record is accepted and both lists are long enough, the first entries of the lists are the
-- verdict's groups and the last cells; anywhere else the result is a refusal, and the lists are as they were. Either way the demands are met.
use Rattle.model.specs.declared.Verdict.TheVariants.{Order, Ring}
use Rattle.std.specs.Prelude.{Some, slice_get}
use Prim.Native.Nat.{ℕ, ◌-◌, ◌+◌, ◌*◌, ◌≤◌}
use mathlib.Core.Path.{◌≡◌, refl, sym, ap, subst, ◌∙◌}
use mathlib.Core.List.{List}
use native.Mathlib.Omega.{arith}
use lib.Dec.{leb}
use lib.ListN.{length}
use borrow.Author.Tests.{leb-true, le-leb}
use Rattle.model.specs.declared.Refusal.{Refusal}
use Rattle.model.specs.Refusals.{Result, Ok, Err, order_too_short, memory_too_short}
use Rattle.model.specs.Bytes.{AreBytes}
use Rattle.model.specs.Rules.{Rank, Cell}
use Rattle.model.specs.Orders.{Verdict, ordered, cyclic}
use Rattle.model.specs.Checks.{Answer, accept, verdict_on, last_cells, Accepted, fill, Outcome, listed, answered, Verdicts, check_result_in, check_result}
use Rattle.model.proofs.Laws.{bind_ok, required, ok_injective, refused≢ok, slice_get_front}
use Rattle.ordering.specs.Orders.{TopologicalOrder, ShortestRing}
use Rattle.ordering.proofs.Orders.{cycle_length}
use Rattle.serializability.specs.Claim.{Serializable}
use Rattle.demands.specs.Entries.{Form, entries, first_entries}
use Rattle.demands.specs.Demands.{groups_of, arrows_of, cells_of, Answerable, IsVerdict, count_in, Untouched, RefusedAs, IsRing, IsOrder}
use Rattle.demands.specs.Demands.{Demand1, Demand2, Demand3, MeetsDemands}
use Rattle.demands.proofs.Bytes.{accepted_iff_run, arrows_are_happens_before, pops_with_their_transfers, order_forward, ring_shortest, accepted_serializable}
use Rattle.demands.proofs.Entries.{written, capacity, entries_length, filled_entries, filled_reads, filled_untouched}
use Rattle.demands.proofs.LastCells.{last_cells_length, last_cell_at}
use Rattle.demands.proofs.Refusals.{check_tabled}

-- The result for lists of either form, and the outcome.
abbrev pub result_in : Form → (program start recorded order cells : List ℕ) → Result Verdicts
result_in form program start recorded order cells = check_result program start recorded (capacity form order) (capacity form cells)

abbrev pub outcome_in : Form → (order cells : List ℕ) → Result Verdicts → Outcome
outcome_in form order cells (Err r) = record { answer = Err r; order = order; cells = cells }
outcome_in form order cells (Ok v) =
    record {
      answer = answered v.verdict;
      order = fill (written form (listed v.verdict)) order;
      cells = fill (written form v.cells) cells;
    }

-- A verdict's answer tells which verdict it is, and how many groups it lists.
answered_ring : {n : ℕ} (v : Verdict) → answered v ≡ Ok (Ring n) → (groups : List ℕ) × (v ≡ cyclic groups) × (length groups ≡ n)
answered_ring (ordered groups) h = let z : ◌≡◌ {A = ℕ} 0 1 = cc in absurd (omega arith)
answered_ring (cyclic groups) h = (groups, refl, cc)

answered_order : {n : ℕ} (v : Verdict) → answered v ≡ Ok (Order n) → (groups : List ℕ) × (v ≡ ordered groups) × (length groups ≡ n)
answered_order (ordered groups) h = (groups, refl, cc)
answered_order (cyclic groups) h = let z : ◌≡◌ {A = ℕ} 0 1 = cc in absurd (omega arith)

answered_not_refused : (v : Verdict) {r : Refusal} → ¬ (answered v ≡ Err r)
answered_not_refused (ordered groups) h = let z : ◌≡◌ {A = ℕ} 0 1 = cc in omega arith
answered_not_refused (cyclic groups) h = let z : ◌≡◌ {A = ℕ} 0 1 = cc in omega arith

is_verdict : (v : Verdict) → IsVerdict (answered v)
is_verdict (ordered groups) = tt
is_verdict (cyclic groups) = tt

pub count_listed : (v : Verdict) → count_in (answered v) ≡ length (listed v)
count_listed (ordered groups) = refl
count_listed (cyclic groups) = refl

-- Where each cell's value stands in a list that is filled with the last cells.
pub cell_read : (form : Form) (cells : List ℕ) (a : Accepted) (rank cell : ℕ) → Rank a.program rank → Cell a.program cell →
    slice_get (entries form (fill (written form (last_cells a)) cells)) ((rank - 1) * a.program.header.cells + cell) ≡
    Some (a.run.last.machine.cells rank cell)
cell_read form cells a rank cell r c =
    rw (filled_entries form (last_cells a) cells)
    (slice_get_front (last_cells a) _ ((rank - 1) * a.program.header.cells + cell) (last_cell_at a rank cell r c))

-- What is to be written of an accepted record.
abbrev pub verdicts_of : Accepted → Verdicts
verdicts_of a = record { verdict = verdict_on a.run; cells = last_cells a }

module _ (form : Form) (program start recorded order cells : List ℕ) where
  abbrev result : Result Verdicts
  result = result_in form program start recorded order cells

  abbrev Given : Accepted → Type 0
  Given = Answerable form program start recorded order cells

  -- The result is a verdict exactly if the record is accepted and both lists are long enough.
  pub given_result : (a : Accepted) → Given a → result ≡ Ok (verdicts_of a)
  unfolding check_result_in
  given_result a given =
      let o : groups_of a ≤ capacity form order = rw (entries_length form order) at given.order_fits_lem in
      let c : cells_of a ≤ capacity form cells = rw (entries_length form cells) at given.cells_fit in
      rw (given.accepted, le-leb (groups_of a) (capacity form order) o, le-leb (cells_of a) (capacity form cells) c)

  result_given : (v : Verdicts) → result ≡ Ok v → (a : Accepted) × Given a × (verdicts_of a ≡ v)
  unfolding check_result_in
  result_given v h =
      let (a, accepted, h₁) = bind_ok (accept program start recorded) _ h in
      let (o, h₂) = required (leb (groups_of a) (capacity form order)) order_too_short (groups_of a) _ h₁ in
      let (c, h₃) = required (leb (cells_of a) (capacity form cells)) memory_too_short (cells_of a) _ h₂ in
      let given : Given a =
      record {
        accepted = accepted;
        order_fits_lem = rw (entries_length form order) (leb-true (groups_of a) (capacity form order) o);
        cells_fit = rw (entries_length form cells) (leb-true (cells_of a) (capacity form cells) c);
      } in
      (a, given, ok_injective h₃)

  module _ (bytes : AreBytes recorded) where
    second : Demand2 program start recorded
    second =
        record {
          accepted_exactly_if_run = λ P readings last. accepted_iff_run program start recorded P readings last bytes;
          arrows_are_happens_before = λ a accepted. arrows_are_happens_before a.run.events;
          pops_with_their_transfers = λ a. pops_with_their_transfers program start recorded a bytes;
        }

    -- A refusal: its number is in the table, and nothing was to be written.
    module _ (r : Refusal) (is : result ≡ Err r) where
      none_given : (a : Accepted) → ¬ Given a
      none_given a given = refused≢ok (sym is ∙ given_result a given)

      refused_as : (s : Refusal) → ◌≡◌ {A = Answer} (Err r) (Err s) → RefusedAs order cells (outcome_in form order cells (Err r)) s
      refused_as s h =
          let same : r ≡ s = cc in
          let tabled = (check_tabled program start recorded (capacity form order) (capacity form cells)).row r is in
          rw (← same) (record { tabled = tabled; same_order = refl; same_cells = refl })

      refusal_meets : MeetsDemands form program start recorded order cells (outcome_in form order cells (Err r))
      refusal_meets =
          record {
            demand1 =
                record {
                  verdict_exactly_if = ((λ v. absurd v), (λ (a, given). none_given a given));
                  last_cells_lem = λ a given. absurd (none_given a given);
                  cells_beyond = λ a given. absurd (none_given a given);
                  order_beyond = record { size = refl; beyond = refl };
                  other_input = refused_as;
                };
            demand2 = second;
            demand3 = λ a given. absurd (none_given a given);
          }

    -- An accepted record, and both lists long enough.
    module _ (a : Accepted) (given : Given a) where
      abbrev filled : Outcome
      filled = outcome_in form order cells (Ok (verdicts_of a))

      -- What is known of its verdict.
      forward : (groups : List ℕ) → verdict_on a.run ≡ ordered groups → TopologicalOrder (groups_of a) (arrows_of a) groups
      forward = order_forward program start recorded a bytes given.accepted

      shortest : (ring : List ℕ) → verdict_on a.run ≡ cyclic ring → ShortestRing (groups_of a) (arrows_of a) ring
      shortest = ring_shortest program start recorded a bytes given.accepted

      serial : Serializable a.program a.readings a.run
      serial = accepted_serializable program start recorded a bytes given.accepted

      -- Behind the last cells the cell list is what it was.
      cells_kept : Untouched form (cells_of a) cells filled.cells
      cells_kept =
          let room : length (last_cells a) ≤ capacity form cells = omega (arith, last_cells_length a, given.cells_fit, entries_length form cells) in
          subst (λ count. Untouched form count cells filled.cells) (last_cells_length a) (filled_untouched form (last_cells a) cells room)

      -- The order list: the verdict's groups, which are no more than there are, and behind them what it was.
      few_listed : (v : Verdict) → verdict_on a.run ≡ v → length (listed v) ≤ groups_of a
      few_listed (ordered groups) is = omega (arith, (forward groups is).count)
      few_listed (cyclic cycle) is = cycle_length (groups_of a) (arrows_of a) cycle (shortest cycle is).cycle

      order_kept : (v : Verdict) → verdict_on a.run ≡ v → Untouched form (count_in (answered v)) order (fill (written form (listed v)) order)
      order_kept v is =
          let room : length (listed v) ≤ capacity form order = omega (arith, few_listed v is, given.order_fits_lem, entries_length form order) in
          rw (count_listed v) (filled_untouched form (listed v) order room)

      groups_read : (v : Verdict) {n : ℕ} → verdict_on a.run ≡ v → length (listed v) ≡ n → first_entries form n filled.order ≡ listed v
      groups_read v is count = rw (is, ← count) (filled_reads form (listed v) order)

      ring_read : (n : ℕ) → filled.answer ≡ Ok (Ring n) → IsRing a (first_entries form n filled.order) n
      ring_read n h =
          let (cycle, is, count) = answered_ring (verdict_on a.run) h in
          rw (groups_read (cyclic cycle) is count) (record { count = count; shortest = shortest cycle is })

      order_read : (n : ℕ) → filled.answer ≡ Ok (Order n) → IsOrder a (first_entries form n filled.order) n
      order_read n h =
          let (groups, is, count) = answered_order (verdict_on a.run) h in
          let (run, serialization) = serial.order groups is in
          rw (groups_read (ordered groups) is count)
          (record { count = sym count ∙ (forward groups is).count; forward = forward groups is; run = run; serial = serialization })

      -- No other record is accepted, so all this is said of the one that is.
      only : (b : Accepted) → Given b → a ≡ b
      only b also = ok_injective (sym given.accepted ∙ also.accepted)

      first : Demand1 form program start recorded order cells filled
      first =
          record {
            verdict_exactly_if = ((λ v. (a, given)), (λ h. is_verdict (verdict_on a.run)));
            last_cells_lem = λ b also. rw (← (only b also)) (cell_read form cells a);
            cells_beyond = λ b also. rw (← (only b also)) cells_kept;
            order_beyond = order_kept (verdict_on a.run) refl;
            other_input = λ r h. absurd (answered_not_refused (verdict_on a.run) h);
          }

      third : Demand3 form a filled
      third =
          record {
            ring_exactly_if = (
              (λ (n, h). let (cycle, is, count) = answered_ring (verdict_on a.run) h in serial.ring.0 (cycle, is)),
              (λ none. let (cycle, is) = serial.ring.1 none in (length cycle, ap answered is)),
            );
            ring_listed = ring_read;
            order_listed = order_read;
          }

      verdict_meets : MeetsDemands form program start recorded order cells filled
      verdict_meets = record { demand1 = first; demand2 = second; demand3 = λ b also. rw (← (only b also)) third }

    -- Either way.
    pub outcome_meets : MeetsDemands form program start recorded order cells (outcome_in form order cells result)
    outcome_meets = by_result result refl
      where
        by_result : (m : Result Verdicts) → result ≡ m → MeetsDemands form program start recorded order cells (outcome_in form order cells m)
        by_result (Err r) is = refusal_meets r is
        by_result (Ok v) is =
            let (a, given, same) = result_given v is in
            subst (λ v. MeetsDemands form program start recorded order cells (outcome_in form order cells (Ok v))) same (verdict_meets a given)
