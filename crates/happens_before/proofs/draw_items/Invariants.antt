use Rattle.happens_before.proofs.Turns.{Turn}
use Rattle.happens_before.proofs.draw_items.Given as goal

abbrev pub invariant-loop-item : goal.invariant-loop-item
invariant-loop-item g l = Turn l.trail l.last l.initial.drawn l.item l.kept l.drawn
