-- `replay_record`: the record is refused as the definition refuses it, or its items are, or they come to their end.
use mathlib.Core.Path.{sym, ◌∙◌}
use Rattle.std.proofs.Common.{rules}
use Rattle.replay.proofs.Ending.{record_unread, items_refused, items_taken}
use Rattle.replay.proofs.replay_record.Goals as goal

pub returns-in_err-items : goal.returns-in_err-items
returns-in_err-items c = record_unread _ _ _ _ (sym c.read_record.ensures ∙ c.in_err-items.was) (search rules)

pub returns-in_err-reached : goal.returns-in_err-reached
returns-in_err-reached c =
    items_refused _ _ _ _ (sym c.read_record.ensures ∙ c.in_ok-items.was) c.replay_so_far.ensures c.in_err-reached.was (search rules)

pub returns : goal.returns
returns c =
    items_taken _ _ _ _ (sym c.read_record.ensures ∙ c.in_ok-items.was) c.replay_so_far.ensures c.in_ok-reached.was c.at_end.ensures
