-- `checker::check` meets its contract: what is concluded is written.
use native.Mathlib.Omega.{arith}
use Rattle.demands.specs.Entries.{numbers}
use Rattle.demands.proofs.Entries.{capacity}
use Rattle.checker.proofs.Checking.{checks}
use Rattle.checker.proofs.check.Goals as goal

pub returns : goal.returns
unfolding capacity
returns c =
    checks numbers _ _ _ _ _ (λ i. omega (arith, c.shared_slice_known-3-1.given i)) c.conclude-concluded.ensures
    c.write_lists.ensures.groups c.write_lists.ensures.cells
