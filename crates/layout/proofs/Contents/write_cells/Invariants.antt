use Rattle.std.proofs.Common.{◌≡◌}
use Rattle.layout.specs.Laid.{laid}
use Rattle.layout.specs.Lines.{rank_long, cell_lines_on}
use Rattle.layout.proofs.Laid.{Going, ranks_left}
use Rattle.layout.proofs.Lines.{cell_bytes}
use Rattle.layout.proofs.Contents.write_cells.Given as goal

abbrev pub invariant-loop-done : goal.invariant-loop-done
invariant-loop-done l =
    (l.page.text.ghost_name ≡ l.initial.page.text.ghost_name)
    × Going (ranks_left l.self.header.cells (cell_bytes l.self.cells.now) l.self.header.ranks) l.self.header.ranks rank_long
    (cell_lines_on l.self.cells.now l.self.header.ranks l.self.header.cells) l.done
    (laid l.initial.page.text.now l.initial.page.at) (laid l.page.text.now l.page.at)
