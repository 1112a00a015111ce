-- `lowest_nexts`: the array has the lowest next groups along the arrows that were gone through. Each turn is a law of `Gathering`.
use Rattle.rings.proofs.Gathering.{gathered_none, gathered_no, gathered_far, gathered_inside, gathered_yes, gathered_all}
use Rattle.rings.proofs.nexts.lowest_nexts.Goals as goal
use Rattle.rings.proofs.nexts.lowest_nexts.Goals.{then-counts+then-nearer, then-counts+else-nearer, else-counts}

pub loop-edge-init : goal.loop-edge-init
loop-edge-init c = search gathered_none

pub lower_entry-requires : goal.lower_entry-requires
lower_entry-requires c = search gathered_inside

pub loop-edge-preserved : goal.loop-edge-preserved
loop-edge-preserved c =
    elim c.if-counts.branch [
      | then-counts+then-nearer w ↦ rw w.next-is (search gathered_yes)
      | then-counts+else-nearer w ↦ rw w.next-is (search gathered_far)
      | else-counts w ↦ rw w.next-is (search gathered_no)
    ]

pub returns : goal.returns
returns c = search gathered_all
