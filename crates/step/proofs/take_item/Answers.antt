-- `take_item`: the row is judged first; then the item goes the way of its part. The promise follows from the step on arrays.
use Rattle.std.proofs.Common.{arith}
use Rattle.step.proofs.Outcomes.{commands_part, row_refused, item_fetched, item_delivered, number_refused, item_command}
use Rattle.step.proofs.take_item.Goals as goal

pub returns-then-not-row_allows : goal.returns-then-not-row_allows
returns-then-not-row_allows c = search row_refused

pub returns-in-Popa : goal.returns-in-Popa
returns-in-Popa c = search (item_fetched, c.take_fetch.ensures)

pub returns-in-Popb : goal.returns-in-Popb
returns-in-Popb c = search (item_delivered, c.take_delivery.ensures)

pub returns-in-Some : goal.returns-in-Some
returns-in-Some c =
    item_command _ _ _ _ _ _ c.row_allows.ensures c.if-not-row_allows.false (grind (arith, commands_part)) (omega (arith, c.in-Some.ensures.lookup.3.0)) (cc (c.in-Some.ensures.lookup.3.1 0, c.in-Some.start-is, c.from.ensures, c.from-in-Some.ensures)) c.take_command.ensures

pub returns-in-None : goal.returns-in-None
returns-in-None c =
    number_refused _ _ _ _ _ _ c.row_allows.ensures c.if-not-row_allows.false (grind (arith, commands_part)) (omega (arith, c.in-None.ensures.lookup.3))
