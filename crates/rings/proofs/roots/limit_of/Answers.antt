-- `limit_of` meets its contract: its cases are the definition's.
use native.Mathlib.Omega.{arith}
use mathlib.Core.Path.{refl}
use Rattle.rings.proofs.Looking.{limit_none, limit_best}
use Rattle.rings.proofs.roots.limit_of.Goals as goal

pub returns-in-Some : goal.returns-in-Some
returns-in-Some c = rw c.in-Some.is (limit_best _ _ (λ z. omega (arith, z, c.in-Some.best.some_lead)))

pub returns-in-None : goal.returns-in-None
returns-in-None c = rw c.in-None.is (limit_none _ _ refl)
