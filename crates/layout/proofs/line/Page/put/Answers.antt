-- `put`: the line stands in the rest of the text, if the rest has room for it.
use Rattle.layout.proofs.Laid.{put_inside, put_outside}
use Rattle.layout.proofs.line.Page.put.Goals as goal

pub returns-then-at-self-clause-laid : goal.returns-then-at-self-clause-laid
returns-then-at-self-clause-laid c =
    let measures = c.length_of.ensures in
    put_inside _ _ _ measures.is measures.few c.if-at-self.true c.write_line.ensures

pub returns-else-at-self-clause-laid : goal.returns-else-at-self-clause-laid
returns-else-at-self-clause-laid c =
    let measures = c.length_of.ensures in
    put_outside _ _ _ measures.is measures.few c.if-at-self.false
