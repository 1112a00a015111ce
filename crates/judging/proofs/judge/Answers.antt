-- `judge`: the verdict on the table that was drawn.
use mathlib.Core.Path.{ap, ◌∙◌}
use Rattle.verdicts.specs.Judged.{judged_as}
use Rattle.happens_before.proofs.Together.{table_drawn}
use Rattle.judging.specs.Told.{verdict_drawn, verdict_told}
use Rattle.judging.proofs.judge.Goals as goal

pub returns : goal.returns
unfolding verdict_told
returns c =
    let given = c.args in
    c.verdict.ensures
    ∙ ap (λ drawn. judged_as (verdict_drawn given.groups drawn)) (rw c.none-drawn.ensures at c.edges_of.ensures ∙ table_drawn given.trail.now given.items)
