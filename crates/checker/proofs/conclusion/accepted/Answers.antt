-- `accepted`: the tests are the definition's, and the product of two 16-bit numbers fits.
use Prim.Native.Nat.{◌≤◌}
use mathlib.Core.Path.{sym, ◌∙◌}
use native.Mathlib.Nat.{mul-le-mul}
use native.Mathlib.Omega.{arith}
use borrow.Author.Rules.{rules}
use borrow.Author.Tests.{le-leb, lt-leb}
use Rattle.model.proofs.Laws.{when_true, when_false}
use Rattle.checker.specs.Concluded.{accepted_with}
use Rattle.checker.proofs.conclusion.accepted.Goals as goal

pub overflow_mul-needed : goal.overflow_mul-needed
overflow_mul-needed c =
    let header = c.args.header in
    let ranks : header.ranks ≤ 65535 = search rules in
    let width : header.cells ≤ 65535 = search rules in
    omega (arith, mul-le-mul ranks width)

pub returns-then-room-count : goal.returns-then-room-count
unfolding accepted_with
returns-then-room-count c = c.refused.ensures ∙ sym (when_false _ _ (lt-leb _ _ c.if-room-count.true))

pub returns-then-room-needed : goal.returns-then-room-needed
unfolding accepted_with
returns-then-room-needed c =
    c.refused-then-room-needed.ensures
    ∙ sym (when_true _ _ (le-leb _ _ c.if-room-count.false) ∙ when_false _ _ (lt-leb _ _ c.if-room-needed.true))

pub returns : goal.returns
unfolding accepted_with
returns c =
    c.verdict_on.ensures ∙ sym (when_true _ _ (le-leb _ _ c.if-room-count.false) ∙ when_true _ _ (le-leb _ _ c.if-room-needed.false))
