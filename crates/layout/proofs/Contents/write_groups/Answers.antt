-- `write_groups`: the lines that are left, from where the loop stands, are what all of them are from the start.
use Prim.Native.Nat.{◌<◌, ◌≤◌, min}
use mathlib.Core.Path.{refl, ap, ◌∙◌}
use native.Mathlib.Omega.{arith}
use native.Mathlib.Nat.{min-le_right}
use Rattle.model.specs.Limits.{max_items}
use Rattle.layout.specs.Lines.{bytes_of, groups_told, group_line_on}
use Rattle.layout.proofs.Laid.{going_none, going_all, no_lines, line_more}
use Rattle.layout.proofs.Lines.{groups_start, next_group}
use Rattle.layout.proofs.Contents.write_groups.Goals as goal

pub loop-group-init : goal.loop-group-init
loop-group-init c = (refl, going_none (groups_start _ _ _ _ _ refl))

pub loop-group-preserved : goal.loop-group-preserved
loop-group-preserved c =
    let contents = c.args.self.now in
    let last = min (groups_told contents.verdict) max_items in
    let more : c.loop-group.group-index < last = omega (arith, c.counted-groups.ensures.all, c.loop-group-test.true) in (
      c.put.ensures.same ∙ c.loop-group.invariant.0,
      line_more _ _ c.loop-group.invariant.1 more
          (ap bytes_of
          (c.group_line-line.ensures
          ∙ ap (group_line_on contents.header contents.recorded.now contents.firsts.now) (next_group _ last c.counted-groups.ensures.first more)))
          c.put.ensures.laid,
    )

pub returns-clause-laid : goal.returns-clause-laid
returns-clause-laid c =
    let count = groups_told c.args.self.now.verdict in
    let done : min count max_items ≤ c.loop-group.group-index = omega (arith, c.counted-groups.ensures.all, c.loop-group-test.false) in
    going_all c.loop-group.invariant.1 done (no_lines _ _ _ done) (omega (arith, min-le_right count max_items))
