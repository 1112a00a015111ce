-- `lines::write_cell` meets its contract: a line of a word and three numbers.
use Rattle.lines.specs.Lines.{cell_entry}
use Rattle.lines.proofs.write_cell.Goals as goal

pub returns : goal.returns
unfolding cell_entry
returns c = c.write_line.ensures
