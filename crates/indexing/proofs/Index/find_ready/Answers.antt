-- `Index::find_ready`: what is left of the groups, from where the search stands, is what all of them are from the start.
use mathlib.Core.Path.{sym, ◌∙◌}
use native.Mathlib.Nat.{sub-zero}
use native.Mathlib.Omega.{arith}
use Rattle.indexing.proofs.Cases.{ready_turn, ready_done}
use Rattle.indexing.proofs.Index.find_ready.Goals as goal

pub loop-group-init : goal.loop-group-init
loop-group-init c = rw sub-zero

pub loop-group-preserved : goal.loop-group-preserved
loop-group-preserved c = rw c.ready_if_free.ensures (c.loop-group.invariant ∙ ready_turn _ _ _ _ (omega arith))

pub returns : goal.returns
returns c = sym (c.loop-group.invariant ∙ ready_done _ _ _ _ (omega arith))
