-- `asked_by`: no arguments, more than one, or one that is known or not.
use Rattle.std.proofs.Common.{arith}
use Rattle.list_run.specs.Arguments.{no_arguments, more}
use Rattle.list_run.proofs.Asking.{compared, asks_help, asks_version, asks_other}
use Rattle.list_run.proofs.arguments.asked_by.Goals as goal

pub returns-then-words-lt2 : goal.returns-then-words-lt2
returns-then-words-lt2 c = search (no_arguments, arith)

pub returns-then-words-gt2 : goal.returns-then-words-gt2
returns-then-words-gt2 c = search (more, arith)

pub returns-then-eq : goal.returns-then-eq
returns-then-eq c = asks_help (omega arith) (compared _ c.as_slice.ensures c.eq.ensures) c.if-eq.true

pub returns-then-eq-2 : goal.returns-then-eq-2
returns-then-eq-2 c = asks_version (omega arith) (compared _ c.as_slice-2.ensures c.eq-2.ensures) c.if-eq-2.true

pub returns : goal.returns
returns c =
    asks_other (omega arith) (compared _ c.as_slice.ensures c.eq.ensures) c.if-eq.false
    (compared _ c.as_slice-2.ensures c.eq-2.ensures) c.if-eq-2.false
