-- The listing of an accepted record: its trail tells the run's verdict, whose groups all have a first item, and the cells are the run's last ones.
use Prim.Native.Nat.{ℕ}
use mathlib.Core.Path.{◌≡◌, ap, ap₂, ◌∙◌}
use mathlib.Core.List.{List, ◌++◌}
use native.Mathlib.Omega.{arith}
use lib.ListN.{length}
use Rattle.model.specs.declared.Header.{Header}
use Rattle.model.specs.Refusals.{Ok}
use Rattle.model.specs.Checks.{Accepted, accept, verdict_on, listed, answered}
use Rattle.model.specs.Listings.{join, listing_of, printed, printed_of}
use Rattle.model.proofs.Lists.{at_position}
use Rattle.ordering.proofs.Runs.{Listed}
use Rattle.record_facts.proofs.Bounds.{accepted_bounds}
use Rattle.memory.specs.Tables.{Table, cells_size}
use Rattle.memory.specs.Made.{table_of}
use Rattle.graph.specs.Edges.{group_list}
use Rattle.trails.specs.Trails.{trail_of}
use Rattle.happens_before.proofs.Accepted.{TellableRun, accepted_tellable}
use Rattle.judging.specs.Told.{verdict_told}
use Rattle.judging.proofs.Accepted.{verdict_told_lem, verdict_lists}
use Rattle.first_items.specs.Firsts.{first_items}
use Rattle.first_items.proofs.Accepted.{accepted_firsts}
use Rattle.layout.specs.Lines.{bytes_of, group_lines_on, cell_lines_on, text_lines}
use Rattle.listing.specs.Told.{text_of, printed_verdict}
use Rattle.listing.proofs.Lines.{verdict_line, groups_counted, join_append, groups_lines, cells_lines}

module _ (program start recorded : List ℕ) (a : Accepted) (accepted : accept program start recorded ≡ Ok a) where
  abbrev header : Header
  header = a.program.header

  abbrev trail : Table
  trail = trail_of a.run.events

  abbrev items : ℕ
  items = length a.run.events

  abbrev cells : Table
  cells = table_of cells_size a.run.last.machine.cells

  t : TellableRun a.run
  t = accepted_tellable program start recorded a accepted

  lists : Listed a.run.last.opened (verdict_on a.run)
  lists = verdict_lists a.run t

  -- The text on arrays is the definition's.
  text_is : text_of (verdict_on a.run) recorded header trail items cells ≡ listing_of a (verdict_on a.run)
  unfolding text_of text_lines join bytes_of listing_of
  text_is =
      let v = verdict_on a.run in
      let fits = (accepted_bounds program start recorded a accepted).header in
      let firsts = first_items header recorded trail items in
      ap₂ ◌++◌
      (verdict_line v)
      (ap (λ count. join (group_lines_on (group_list (listed v)) count header recorded firsts ++ cell_lines_on cells header.ranks header.cells))
      (groups_counted v)
      ∙ join_append (group_lines_on (group_list (listed v)) (length (listed v)) header recorded firsts)
      (cell_lines_on cells header.ranks header.cells)
      ∙ ap₂ ◌++◌
      (groups_lines (listed v) header recorded firsts a.run.events (omega (arith, lists.few, t.opened, t.few))
      (λ i g at.
      let low = lists.low g (at_position (listed v) i at) in
      accepted_firsts program start recorded a accepted g (omega (arith, low, t.opened, t.few))))
      (ap join (cells_lines a.run.last.machine.cells header.ranks header.cells fits.ranks_fit fits.cells_fit)))

  -- So what is printed is.
  pub accepted_printed : (memory : List ℕ) →
      printed_verdict memory (verdict_told a.run.last.opened items trail) recorded header trail items cells ≡ printed_of memory (Ok a)
  unfolding printed_verdict printed_of
  accepted_printed memory =
      ap (λ v. printed memory (answered v) (text_of v recorded header trail items cells)) (verdict_told_lem a.run t)
      ∙ ap (printed memory (answered (verdict_on a.run))) text_is
