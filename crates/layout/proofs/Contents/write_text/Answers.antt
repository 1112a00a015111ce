-- `write_text`: the verdict's line, and behind it those of the groups and those of the cells.
use mathlib.Core.Path.{◌∙◌}
use native.Mathlib.Omega.{arith}
use borrow.Author.Rules.{rules}
use Rattle.layout.proofs.Lines.{text_laid}
use Rattle.layout.proofs.Contents.write_text.Goals as goal

pub write_groups-requires : goal.write_groups-requires
write_groups-requires c = omega (arith, c.put.ensures.laid.near)

pub write_cells-requires : goal.write_cells-requires
write_cells-requires c =
    omega (arith, c.put.ensures.laid.near, c.write_groups.ensures.laid.near)

pub returns : goal.returns
returns c =
    let laid_out = text_laid _ _ _ _ _ _ c.put.ensures.laid c.write_groups.ensures.laid c.write_cells.ensures.laid in
    let same = c.write_cells.ensures.same ∙ c.write_groups.ensures.same ∙ c.put.ensures.same in
    search (laid_out, same, rules)
