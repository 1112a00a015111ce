-- `length_of`: by the line's shape.
use borrow.Author.Rules.{rules}
use Rattle.layout.proofs.Lengths.{verdict_measured, group_measured, cell_measured, none_measured}
use Rattle.layout.proofs.line.length_of.Goals as goal

pub returns-in-Verdict : goal.returns-in-Verdict
returns-in-Verdict c =
    verdict_measured c.in-Verdict.is (search rules) c.answer_length.ensures

pub returns-in-Group : goal.returns-in-Group
returns-in-Group c =
    group_measured c.in-Group.is (search rules) (search rules) (search rules) c.group_length.ensures

pub returns-in-Cell : goal.returns-in-Cell
returns-in-Cell c =
    cell_measured c.in-Cell.is (search rules) (search rules) (search rules) c.cell_length.ensures

pub returns-in-Nothing : goal.returns-in-Nothing
returns-in-Nothing c = none_measured c.in-Nothing.is
