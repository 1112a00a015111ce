-- What is concluded is the definition's result. A refusal lists nothing. The verdict on what the trail of an accepted record tells is the verdict on
-- its run, it lists no more groups than there are, and the table of cells holds the run's last cells.
use Prim.Native.Nat.{ℕ}
use mathlib.Core.Path.{◌≡◌, refl}
use mathlib.Core.Bool.{Bool, true, false}
use mathlib.Core.List.{List}
use native.Mathlib.Omega.{arith}
use lib.Dec.{leb}
use lib.ListN.{length}
use borrow.Author.Tests.{leb-true}
use Rattle.model.specs.declared.Header.{Header}
use Rattle.model.specs.declared.Refusal.{Refusal}
use Rattle.model.specs.Refusals.{Result, Ok, Err, order_too_short, memory_too_short}
use Rattle.model.specs.Orders.{Verdict, ordered, cyclic}
use Rattle.model.specs.Checks.{Accepted, accept, verdict_on, last_cells, Verdicts, check_result_in, check_result, Answer}
use Rattle.model.proofs.Laws.{decided}
use Rattle.record_facts.proofs.Bounds.{accepted_bounds}
use Rattle.memory.specs.Tables.{Table, cells_size, number_at}
use Rattle.memory.specs.Made.{table_of}
use Rattle.memory.proofs.Filled.{made_holds}
use Rattle.lists.proofs.Ranks.{rank_none}
use Rattle.lists.proofs.Results.{cells_listed_lem}
use Rattle.trails.specs.Trails.{trail_of}
use Rattle.happens_before.proofs.Accepted.{accepted_tellable}
use Rattle.verdicts.specs.declared.Judged.{Judged}
use Rattle.verdicts.specs.Judged as verdicts
use Rattle.verdicts.specs.Judged.{count_of}
use Rattle.judging.specs.Told.{verdict_told}
use Rattle.judging.proofs.Accepted.{verdict_told_lem, verdict_lists}
use Rattle.demands.specs.Demands.{groups_of, cells_of}
use Rattle.checker.specs.declared.conclusion.Room.{Room}
use Rattle.checker.specs.declared.conclusion.Concluded.{Concluded}
use Rattle.checker.specs.Concluded.{refused_with, judged_as, accepted_with, Concludes}

-- A conclusion from what was judged, before it is known what its groups are.
abbrev with_groups : (ranks width : ℕ) → (list : List ℕ) → (count : ℕ) → Answer → Concluded
with_groups ranks width list count answer = record { answer = answer; count = count; groups = list; ranks = ranks; width = width }

pub concludes_verdict : (v : Verdict) (ranks width : ℕ) {judged : Judged} {answer : Answer} {count : ℕ} → judged ≡ verdicts.judged_as v →
    answer ≡ Ok judged.verdict → count ≡ count_of judged.verdict →
    with_groups ranks width judged.groups count answer ≡ judged_as v ranks width
concludes_verdict (ordered groups) ranks width judged_is answers counts = rw (answers, counts, judged_is)
concludes_verdict (cyclic groups) ranks width judged_is answers counts = rw (answers, counts, judged_is)

module _ (program start recorded : List ℕ) (room : Room) where
  abbrev result : Result Verdicts
  result = check_result program start recorded room.groups room.cells

  -- A refusal.
  pub concludes_refused : (cells : Table) {r : Refusal} → result ≡ Err r → Concludes result room cells (refused_with r)
  concludes_refused cells is =
      rw is
      (record {
        answers = refl;
        counts = refl;
        lists = refl;
        fills = rank_none 0 (number_at cells_size cells);
        list_fits = omega arith;
        cells_fit = record { few_ranks = omega arith; few_cells = omega arith; room = omega arith };
      })

  pub replay_refused : {r : Refusal} → accept program start recorded ≡ Err r → result ≡ Err r
  unfolding check_result_in
  replay_refused h = rw h

  -- An accepted record.
  module _ (a : Accepted) (accepted : accept program start recorded ≡ Ok a) where
    abbrev header : Header
    header = a.program.header

    abbrev order_fits : Bool
    order_fits = leb (groups_of a) room.groups

    abbrev cells_fit : Bool
    cells_fit = leb (cells_of a) room.cells

    order_short : order_fits ≡ false → result ≡ Err (record { number = order_too_short; place = groups_of a })
    unfolding check_result_in
    order_short t = rw (accepted, t)

    cells_short : order_fits ≡ true → cells_fit ≡ false → result ≡ Err (record { number = memory_too_short; place = cells_of a })
    unfolding check_result_in
    cells_short t u = rw (accepted, t, u)

    answerable : order_fits ≡ true → cells_fit ≡ true → result ≡ Ok (record { verdict = verdict_on a.run; cells = last_cells a })
    unfolding check_result_in
    answerable t u = rw (accepted, t, u)

    abbrev last : Table
    last = table_of cells_size a.run.last.machine.cells

    abbrev told : Verdict
    told = verdict_told (groups_of a) (length a.run.events) (trail_of a.run.events)

    concludes_judged : order_fits ≡ true → cells_fit ≡ true → Concludes result room last (judged_as told header.ranks header.cells)
    unfolding last_cells
    concludes_judged t u =
        let tellable = accepted_tellable program start recorded a accepted in
        let fits = (accepted_bounds program start recorded a accepted).header in
        let cells = a.run.last.machine.cells in
        rw (verdict_told_lem a.run tellable, answerable t u)
        (record {
          answers = refl;
          counts = refl;
          lists = refl;
          fills = cells_listed_lem _ cells (made_holds cells_size cells) header.ranks header.cells fits.ranks_fit fits.cells_fit;
          list_fits = omega (arith, (verdict_lists a.run tellable).few, leb-true (groups_of a) room.groups t);
          cells_fit =
              record { few_ranks = fits.ranks_fit; few_cells = fits.cells_fit; room = leb-true (cells_of a) room.cells u };
        })

    pub concludes_accepted : Concludes result room last (accepted_with room header (groups_of a) told)
    unfolding accepted_with
    concludes_accepted =
        decided order_fits
        (λ t. decided cells_fit
        (λ u. rw (t, u) (concludes_judged t u))
        (λ u. rw (t, u) (concludes_refused last (cells_short t u))))
        (λ t. rw t (concludes_refused last (order_short t)))
