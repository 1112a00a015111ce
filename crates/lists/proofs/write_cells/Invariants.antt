use Rattle.lists.proofs.Forms.{Listing}
use Rattle.lists.proofs.write_cells.Given as goal

abbrev pub invariant-loop-row : goal.invariant-loop-row
invariant-loop-row g l =
    let e = g.T.Element in
    Listing e.WIDTH e.shown l.initial.list l.cells l.ranks l.width l.row l.list
