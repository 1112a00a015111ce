-- `chains::push` meets its contract: the tests are the definition's.
use Rattle.chains.proofs.Cases.{pushed_at, pushed_none, pushed_no_key, pushed_no_slot}
use Rattle.chains.proofs.push.Goals as goal
use Rattle.chains.proofs.push.Goals.{else-key-heads-via-then-key-heads+else-slot-links, else-key-heads-via-else-key-heads}

pub returns-in_default : goal.returns-in_default
returns-in_default c = pushed_none _ _ _ _ c.in_default.ensures

pub returns-then-slot-links : goal.returns-then-slot-links
returns-then-slot-links c = pushed_at _ _ _ _ c.in-Some.ensures c.if-key-heads.true c.if-slot-links.true

pub returns-else-key-heads : goal.returns-else-key-heads
returns-else-key-heads c =
    elim c.else-key-heads.branch [
      | else-key-heads-via-then-key-heads+else-slot-links w ↦
          pushed_no_slot _ _ _ _ c.in-Some.ensures w.if-key-heads.true w.if-slot-links.false
      | else-key-heads-via-else-key-heads w ↦ pushed_no_key _ _ _ _ w.if-key-heads.false
    ]
