-- `read_record`: the count is a judged word, behind it so many items are read, and they have to reach the end. Assumes nothing.
use Rattle.std.proofs.Common.{rules, eq-eqb, ne_eqb}
use Rattle.record.proofs.Places.{count_judged, record_count_is}
use Rattle.record.proofs.reader.read_record.Goals as goal

pub returns-in_err-count : goal.returns-in_err-count
returns-in_err-count c =
    let count = count_judged _ c.read_word-word.ensures c.within.ensures in
    rw (record_count_is, ← count, c.in_err-count.was) (search rules)

pub returns-in_err-end : goal.returns-in_err-end
returns-in_err-end c =
    let count = count_judged _ c.read_word-word.ensures c.within.ensures in
    rw (record_count_is, ← count, c.in_ok-count.was, ← c.read_items.ensures, c.in_err-end.was) (search rules)

pub returns-then-end-bytes : goal.returns-then-end-bytes
returns-then-end-bytes c =
    let count = count_judged _ c.read_word-word.ensures c.within.ensures in
    rw (record_count_is, ← count, c.in_ok-count.was, ← c.read_items.ensures, c.in_ok-end.was, eq-eqb _ _ c.if-end-bytes.true) (search rules)

pub returns-else-end-bytes : goal.returns-else-end-bytes
returns-else-end-bytes c =
    let count = count_judged _ c.read_word-word.ensures c.within.ensures in
    rw (record_count_is, ← count, c.in_ok-count.was, ← c.read_items.ensures, c.in_ok-end.was, ne_eqb _ _ c.if-end-bytes.false) (search rules)
