-- `refused`: no group is listed, so the array is as it was made.
use mathlib.Core.Path.{refl}
use Rattle.model.specs.Checks.{fill}
use Rattle.checker.proofs.conclusion.refused.Goals as goal

pub returns : goal.returns
unfolding fill
returns c = refl
