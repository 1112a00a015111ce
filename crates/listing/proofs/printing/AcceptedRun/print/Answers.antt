-- `print`: the text is counted on no bytes, and then written whole, or not at all.
use Rattle.listing.proofs.Printed.{verdict_whole, verdict_none}
use Rattle.listing.proofs.printing.AcceptedRun.print.Goals as goal

pub returns-then-text-length : goal.returns-then-text-length
returns-then-text-length c =
    verdict_none _ _ _ _ _ _ _ c.judge-judged.ensures c.first_items.ensures _ c.write_text-length.ensures
    c.if-text-length.true c.too_short.ensures

pub returns : goal.returns
returns c =
    verdict_whole _ _ _ _ _ _ _ c.judge-judged.ensures c.first_items.ensures _ c.write_text-length.ensures
    c.if-text-length.false c.write_text.ensures c.answer-answer.ensures
