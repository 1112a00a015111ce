-- `place_ready`: what is left of the turns, from where the placing stands, is what all of them are from the start.
use mathlib.Core.Path.{sym, ◌∙◌}
use native.Mathlib.Nat.{sub-zero}
use native.Mathlib.Omega.{arith}
use Rattle.placing.proofs.Cases.{turns_done, turn_ends, turn_takes}
use Rattle.placing.proofs.turns.place_ready.Goals as goal

pub loop-count-init : goal.loop-count-init
loop-count-init c = rw sub-zero

pub returns-in-None : goal.returns-in-None
returns-in-None c =
    sym (c.loop-count.invariant
    ∙ turn_ends _ _ _ _ _ _ _ _ (omega arith) c.take_lowest.ensures c.in-None.is)

pub loop-count-preserved : goal.loop-count-preserved
loop-count-preserved c =
    rw (c.release.ensures, c.note.ensures)
    (c.loop-count.invariant
    ∙ turn_takes _ _ _ _ _ _ _ _ (omega arith) c.take_lowest.ensures c.in-Some.is)

pub returns : goal.returns
returns c = sym (c.loop-count.invariant ∙ turns_done _ _ _ _ _ _ _ _ (omega arith))
