-- `search`: what was measured, and the best of the arrows from the root.
use Rattle.rings.proofs.Ending.{searched}
use Rattle.rings.proofs.searches.Search.search.Goals as goal

pub returns : goal.returns
returns c = search searched
