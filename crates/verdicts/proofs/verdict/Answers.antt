-- `verdict`: the groups in the order in which they were placed, or the ring among those that were not.
use Rattle.verdicts.proofs.Composed.{judged_order, judged_ring}
use Rattle.verdicts.proofs.verdict.Goals as goal

pub returns-then-placed-groups_in : goal.returns-then-placed-groups_in
returns-then-placed-groups_in c =
    judged_ring _ _ c.place-placed.ensures c.groups_in.ensures c.if-placed-groups_in.true c.ring-found.ensures

pub returns-else-placed-groups_in : goal.returns-else-placed-groups_in
returns-else-placed-groups_in c =
    judged_order _ _ c.place-placed.ensures c.groups_in.ensures c.if-placed-groups_in.false
