-- `visit`: the group is taken out, or it is met.
use Rattle.rings.proofs.GoingBack.{visit_passed, visit_met}
use Rattle.rings.proofs.searches.Search.visit.Goals as goal

pub returns-else-entry-ne0 : goal.returns-else-entry-ne0
returns-else-entry-ne0 c = search visit_passed

pub returns-then-entry-ne0 : goal.returns-then-entry-ne0
returns-then-entry-ne0 c = search visit_met
