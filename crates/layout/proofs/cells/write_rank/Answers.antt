-- `write_rank`: the lines that are left, from where the loop stands, are what all of them are from the start.
use mathlib.Core.Path.{ap, refl, ◌∙◌}
use native.Mathlib.Omega.{arith}
use Rattle.layout.specs.Lines.{bytes_of}
use Rattle.layout.proofs.Laid.{going_none, going_all, no_lines, line_more}
use Rattle.layout.proofs.Lines.{rank_start}
use Rattle.layout.proofs.cells.write_rank.Goals as goal

pub put-requires : goal.put-requires
put-requires c =
    let so_far = c.loop-cell.invariant.1 in
    omega (arith, so_far.laying.near, so_far.within, c.ranges.width.fits)

pub loop-cell-preserved : goal.loop-cell-preserved
loop-cell-preserved c = (
  c.put.ensures.same ∙ c.loop-cell.invariant.0,
  line_more _ _ c.loop-cell.invariant.1 c.loop-cell-test.true (ap bytes_of c.cell_line-line.ensures) c.put.ensures.laid,
)

pub returns-clause-laid : goal.returns-clause-laid
returns-clause-laid c =
    going_all c.loop-cell.invariant.1 c.loop-cell-test.false (no_lines _ _ _ c.loop-cell-test.false) (omega (arith, c.ranges.width.fits))

pub loop-cell-init : goal.loop-cell-init
loop-cell-init c = (refl, going_none (rank_start _ _ _))
