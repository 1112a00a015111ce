-- The trail of an accepted record tells the run's verdict, and the groups that it lists are the run's.
use mathlib.Core.Path.{◌≡◌, ap₂}
use native.Mathlib.Omega.{arith}
use lib.ListN.{length}
use Rattle.model.specs.Replay.{Replayed}
use Rattle.model.specs.Orders.{verdict}
use Rattle.model.specs.Checks.{verdict_on}
use Rattle.ordering.proofs.Runs.{Listed, run_lists}
use Rattle.graph.proofs.Edges.{groups_in_lem}
use Rattle.trails.specs.Trails.{trail_of}
use Rattle.happens_before.proofs.Accepted.{TellableRun, run_drawn}
use Rattle.judging.specs.Told.{verdict_told}

module _ (run : Replayed) (t : TellableRun run) where
  pub verdict_told_lem : verdict_told run.last.opened (length run.events) (trail_of run.events) ≡ verdict_on run
  unfolding verdict_told verdict_on
  verdict_told_lem = ap₂ verdict (groups_in_lem run.last.opened (omega (arith, t.opened, t.few))) (run_drawn t)

  pub verdict_lists : Listed run.last.opened (verdict_on run)
  unfolding verdict_on
  verdict_lists = run_lists run.last.opened run.events t.groups
