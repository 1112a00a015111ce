-- `run`: what is printed lies in the lent bytes.
use Rattle.std.proofs.Common.{sym}
use lib.Seq.{length-take-le}
use Rattle.list_run.proofs.Running.{listing_fits}
use Rattle.list_run.proofs.run.Goals as goal

pub slice_bounds-say-end : goal.slice_bounds-say-end
slice_bounds-say-end g c = listing_fits _ _ _ _ c.list-listed.ensures

pub slice_bounds-say-end-2 : goal.slice_bounds-say-end-2
slice_bounds-say-end-2 g c = sym (length-take-le _ _ (slice_bounds-say-end g c))
