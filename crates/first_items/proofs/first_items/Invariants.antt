use Prim.Native.Nat.{◌-◌}
use mathlib.Core.Path.{◌≡◌}
use Rattle.first_items.specs.Firsts.{firsts_from, first_items}
use Rattle.first_items.proofs.first_items.Given as goal

abbrev pub invariant-loop-number : goal.invariant-loop-number
invariant-loop-number l = first_items l.header l.recorded l.trail l.items ≡ firsts_from l.header l.recorded l.trail (l.items - l.number) l.number l.place l.firsts
