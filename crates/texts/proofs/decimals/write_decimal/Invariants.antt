use Prim.Native.Nat.{◌-◌}
use Rattle.texts.proofs.Digiting.{Digiting}
use Rattle.texts.proofs.decimals.write_decimal.Given as goal

abbrev pub invariant-loop-at : goal.invariant-loop-at
invariant-loop-at l = Digiting l.initial.text l.number l.text (l.at - 1) l.left
