-- `print_refused`: the refusal's line, where it fits.
use Rattle.listing.proofs.Printed.{refusal_whole, refusal_none}
use Rattle.listing.proofs.printing.print_refused.Goals as goal

pub returns-then-text-length : goal.returns-then-text-length
returns-then-text-length c =
    refusal_none _ _ c.answer_length-length.ensures c.if-text-length.true c.too_short.ensures

pub returns : goal.returns
returns c =
    refusal_whole _ _ c.answer_length-length.ensures c.if-text-length.false c.write_answer.ensures
