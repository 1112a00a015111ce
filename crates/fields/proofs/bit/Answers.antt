-- `bit`: a shift is a division; a bit beyond the sixteen of a number does not stand. Assumes nothing.
use Prim.Native.Nat.{ℕ, ◌<◌, ◌≤◌, ◌/◌, ◌^◌}
use mathlib.Core.Path.{◌≡◌}
use native.Mathlib.Nat.{div-eq_of_lt, pow-le-pow_right}
use native.Mathlib.Omega.{arith}
use Rattle.fields.proofs.bit.Goals as goal

beyond : (map index : ℕ) → map < 2 ^ 16 → 16 ≤ index → map / 2 ^ index ≡ 0
beyond map index small h = let wide : 2 ^ 16 ≤ 2 ^ index = pow-le-pow_right (omega arith) h in div-eq_of_lt (omega arith)

pub returns-else-index-lt16 : goal.returns-else-index-lt16
returns-else-index-lt16 c = rw (beyond c.args.map c.args.index (omega arith) c.if-index-lt16.false)
