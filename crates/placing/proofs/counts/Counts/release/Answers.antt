-- `Counts::release`: the arrows from here on are what is left of the group's.
use mathlib.Core.Path.{sym, ◌∙◌}
use Rattle.chains.proofs.Chains.{older_lower}
use Rattle.placing.proofs.Cases.{release_turn, release_done}
use Rattle.placing.proofs.counts.Counts.release.Goals as goal

pub loop-member-init : goal.loop-member-init
loop-member-init c = rw (c.entry-member.ensures, c.from.ensures)

pub loop-member-smaller : goal.loop-member-smaller
loop-member-smaller c =
    rw c.older-member.ensures (older_lower _ _ c.loop-member-test.true)

pub loop-member-preserved : goal.loop-member-preserved
loop-member-preserved c =
    rw (c.older-member.ensures, c.release_group.ensures, c.target-to.ensures, c.from-in-loop-member.ensures)
    (c.loop-member.invariant ∙ release_turn _ _ _ _ c.loop-member-test.true)

pub returns : goal.returns
returns c = sym (c.loop-member.invariant ∙ release_done _ _ _ _ c.loop-member-test.false)
