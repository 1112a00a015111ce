-- `lists::write_cells` meets its contract. The invariant: the cells of so many ranks are written.
use Rattle.std.proofs.Common.{sym, ◌∙◌, rules}
use Rattle.lists.proofs.Room.{cells_fit_true}
use Rattle.lists.proofs.Forms.{no_cells, all_cells, listing_none, listing_more}
use Rattle.lists.proofs.write_cells.Goals as goal

pub shared_ref_as_front-numbers-items : goal.shared_ref_as_front-numbers-items
shared_ref_as_front-numbers-items g c =
    let fit = cells_fit_true _ _ _ (sym c.cells_fit.ensures ∙ c.if-cells_fit.true) in
    fit.few_ranks

pub loop-row-init : goal.loop-row-init
loop-row-init g c =
    let e = g.T.Element in
    let fit = cells_fit_true _ _ _ (sym c.cells_fit.ensures ∙ c.if-cells_fit.true) in
    listing_none e.WIDTH e.shown g.met.T.Element.wide _ _ _ _ (rw c.WIDTH.ensures at fit)

pub loop-row-preserved : goal.loop-row-preserved
loop-row-preserved g c =
    let e = g.T.Element in
    listing_more e.WIDTH e.shown g.met.T.Element.wide _ _ _ _ c.loop-row.invariant c.loop-row-test.true (search rules) _ c.write.ensures

pub returns-after-loop-row : goal.returns-after-loop-row
returns-after-loop-row g c =
    all_cells c.WIDTH.ensures _ _ _ _ _ (sym c.cells_fit.ensures ∙ c.if-cells_fit.true) c.loop-row.invariant c.told-cells c.loop-row-test.false

pub returns-else-cells_fit : goal.returns-else-cells_fit
returns-else-cells_fit g c = no_cells c.WIDTH.ensures _ _ _ _ _ (sym c.cells_fit.ensures ∙ c.if-cells_fit.false)
