-- `read_transitions`: the loop keeps `Passed`. Assumes nothing.
use Rattle.std.proofs.Common.{rules, arith, ◌<◌}
use Rattle.std.proofs.lemmas.List.{length-take-le}
use Rattle.model.specs.Limits.{word_values}
use Rattle.expressions.proofs.Values.{made_of, made_of_none}
use Rattle.program.proofs.Loops.{fits, passed_none, passed_more, passed_refused, left_over, all_read}
use Rattle.program.proofs.reader.read_transitions.Goals as goal

pub loop-start-init : goal.loop-start-init
loop-start-init c = passed_none _ _ _ _ c.requires (length-take-le _ _ (omega (arith, c.requires.few)))

pub returns-in_err-transition : goal.returns-in_err-transition
returns-in_err-transition c =
    rw (passed_refused c.loop-start.invariant (omega arith) (made_of_none _ _ c.in_err-transition.ensures)) (search rules)

pub overflow_cast-start : goal.overflow_cast-start
overflow_cast-start c =
    let fits : c.loop-start.place < word_values = fits c.loop-start.invariant (omega arith) in
    omega arith

pub loop-start-preserved : goal.loop-start-preserved
loop-start-preserved c =
    let (transition, read, value) = made_of _ _ c.in_ok-transition.ensures in
    passed_more c.loop-start.invariant (omega arith) read

pub returns-then-place-bytes : goal.returns-then-place-bytes
returns-then-place-bytes c = all_read c.loop-start.invariant (omega arith) c.if-place-bytes.true

pub returns-else-place-bytes : goal.returns-else-place-bytes
returns-else-place-bytes c = rw (left_over c.loop-start.invariant (omega arith) c.if-place-bytes.false)
