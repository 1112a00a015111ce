-- `draw_item` meets its contract: the steps are the definition's.
use mathlib.Core.Path.{ap, ◌∙◌}
use Rattle.happens_before.specs.declared.kept.Kept.{Kept}
use Rattle.happens_before.specs.Drawing.{accessed_with}
use Rattle.happens_before.proofs.Adding.{item_drawn}
use Rattle.happens_before.proofs.draw_item.Goals as goal

pub returns : goal.returns
returns g c =
    item_drawn _ _ _ _ _ c.told_at-told.ensures c.draw_program.ensures c.draw_conflicts.ensures
    (ap (λ (k : Kept _). k.commands) c.keep_command.ensures)
    (c.keep.ensures ∙ ap (λ (k : Kept _). accessed_with k.accesses c.told_at-told.result c.args.item) c.keep_command.ensures)
