-- `draw_each`: the arrows from here on, added to those so far, are all of them added to those from before.
use mathlib.Core.Path.{sym, ◌∙◌}
use native.Mathlib.Omega.{arith}
use Rattle.chains.proofs.Chains.{older_lower}
use Rattle.happens_before.proofs.Adding.{each_done, each_turn}
use Rattle.happens_before.proofs.arrows.draw_each.Goals as goal

pub loop-member-smaller : goal.loop-member-smaller
loop-member-smaller c =
    let some = c.loop-member-test.true in
    let lower = older_lower c.args.links.now c.loop-member.member (omega (arith, some)) in
    omega (arith, lower, c.older-member.ensures)

pub loop-member-preserved : goal.loop-member-preserved
loop-member-preserved c =
    let drawn = rw (c.group_at.ensures, c.from.ensures) at c.draw.ensures in
    c.loop-member.invariant ∙ each_turn _ _ _ _ c.loop-member-test.true _ c.older-member.ensures drawn

pub returns : goal.returns
returns c = sym (c.loop-member.invariant ∙ each_done _ _ _ _ c.loop-member-test.false _)
