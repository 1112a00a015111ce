-- `lines::cell_length` meets its contract: a line of a word and three numbers.
use native.Mathlib.Omega.{arith}
use Rattle.lines.specs.Lines.{cell_entry}
use Rattle.lines.proofs.Spaced.{told_exactly}
use Rattle.lines.proofs.cell_length.Goals as goal

pub returns : goal.returns
unfolding cell_entry
returns c = told_exactly c.line_length.ensures (omega arith)
