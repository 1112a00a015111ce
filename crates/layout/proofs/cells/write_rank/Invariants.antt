use Rattle.std.proofs.Common.{◌≡◌}
use Rattle.layout.specs.Laid.{laid}
use Rattle.layout.specs.Lines.{longest, rank_lines_on}
use Rattle.layout.proofs.Laid.{Going, lines_left}
use Rattle.layout.proofs.Lines.{cell_bytes}
use Rattle.layout.proofs.cells.write_rank.Given as goal

abbrev pub invariant-loop-cell : goal.invariant-loop-cell
invariant-loop-cell l =
    (l.page.text.ghost_name ≡ l.initial.page.text.ghost_name)
    × Going (lines_left (cell_bytes l.cells l.rank) l.width) l.width longest (rank_lines_on l.cells l.rank l.width) l.cell
    (laid l.initial.page.text.now l.initial.page.at) (laid l.page.text.now l.page.at)
