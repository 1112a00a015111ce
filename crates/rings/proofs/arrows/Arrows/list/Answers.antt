-- `list`: the arrows up to a place are in the lists. Each turn is a law of `Noting`.
use Rattle.rings.proofs.Noting.{noting_none, noting_no, noting_yes, noting_all}
use Rattle.rings.proofs.arrows.Arrows.list.Goals as goal
use Rattle.rings.proofs.arrows.Arrows.list.Goals.{then-counts, else-counts}

pub loop-edge-init : goal.loop-edge-init
loop-edge-init c = search noting_none

pub loop-edge-preserved : goal.loop-edge-preserved
loop-edge-preserved c =
    elim c.if-counts.branch [
      | then-counts w ↦ rw w.self-is (search noting_yes)
      | else-counts w ↦ rw w.self-is (search noting_no)
    ]

pub returns : goal.returns
returns c =
    let same = c.loop-edge.invariant.0 in
    record { same = same; indexed = let noted = rw same at c.loop-edge.invariant.1 in search noting_all }
