-- `counts` meets its contract: its tests are the definition's.
use borrow.Author.Tests.{lt-ltb, le-ltb}
use Rattle.rings.specs.Found.{counts}
use Rattle.rings.proofs.arrows.counts.Goals as goal
use Rattle.rings.proofs.arrows.counts.Goals.{else-group-groups-via-then-group-groups+else-to-groups, else-group-groups-via-else-group-groups}

pub returns-then-to-groups : goal.returns-then-to-groups
unfolding counts
returns-then-to-groups c = rw (lt-ltb _ _ c.if-group-groups.true, lt-ltb _ _ c.if-to-groups.true)

pub returns : goal.returns
unfolding counts
returns c =
    elim c.else-group-groups.branch [
      | else-group-groups-via-then-group-groups+else-to-groups w ↦ rw (lt-ltb _ _ w.if-group-groups.true, le-ltb _ _ w.if-to-groups.false)
      | else-group-groups-via-else-group-groups w ↦ rw (le-ltb _ _ w.if-group-groups.false)
    ]
