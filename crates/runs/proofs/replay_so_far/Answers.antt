-- `replay_so_far`: what is left of the items, from where the replay stands, is what all of them are from the start. Each way on is a law of `Turns`.
use mathlib.Core.Path.{refl, sym, ◌∙◌}
use Rattle.std.proofs.Common.{rules, arith}
use Rattle.runs.proofs.Turns.{none_taken, all_taken, unread, untaken, one_taken}
use Rattle.runs.proofs.replay_so_far.Goals as goal

pub loop-init : goal.loop-init
loop-init c = none_taken _ _ _ _ _ _ _ refl (omega arith)

pub returns-in_err-read : goal.returns-in_err-read
returns-in_err-read c =
    unread _ _ _ _ _ _ _ c.loop.invariant (omega arith) (sym c.read_item.ensures ∙ c.in_err-read.was) (search rules)

pub returns-in_err-taken : goal.returns-in_err-taken
returns-in_err-taken c =
    untaken _ _ _ _ _ _ _ c.loop.invariant (omega arith) (sym c.read_item.ensures ∙ c.in_ok-read.was) c.take_item.ensures c.in_err-taken.was
    (search rules)

pub loop-preserved : goal.loop-preserved
loop-preserved c =
    one_taken _ _ _ _ _ _ _ c.loop.invariant (omega arith) (sym c.read_item.ensures ∙ c.in_ok-read.was) c.take_item.ensures c.in_ok-taken.was
    c.tell.ensures (omega arith)

pub returns : goal.returns
returns c = all_taken _ _ _ _ _ _ _ c.loop.invariant (omega arith) c.all_empty.ensures
