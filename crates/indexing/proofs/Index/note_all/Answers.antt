-- `Index::note_all`: what is left of the arrows, from where the loop stands, is what all of them are from the start.
use mathlib.Core.Path.{sym, ◌∙◌}
use native.Mathlib.Nat.{sub-zero}
use native.Mathlib.Omega.{arith}
use Rattle.indexing.proofs.Cases.{edges_turn, edges_done}
use Rattle.indexing.proofs.Index.note_all.Goals as goal

pub loop-edge-init : goal.loop-edge-init
loop-edge-init c = rw (c.edges_in-last.ensures, sub-zero)

pub loop-edge-preserved : goal.loop-edge-preserved
loop-edge-preserved c = rw c.note.ensures (c.loop-edge.invariant ∙ edges_turn _ _ _ _ _ (omega arith))

pub returns : goal.returns
returns c = sym (c.loop-edge.invariant ∙ edges_done _ _ _ _ _ (omega arith))
