-- `lines::write_group` meets its contract: the word, the number, a space and the line of the kind, each behind the last.
use native.Mathlib.Omega.{arith}
use Rattle.texts.proofs.Texts.{wrote_none, wrote_inside, grown_inside}
use Rattle.lines.proofs.GroupLines.{Room, with_word, with_number, with_head, with_line}
use Rattle.lines.proofs.write_group.Goals as goal

pub returns-then-text-group_length : goal.returns-then-text-group_length
returns-then-text-group_length c = wrote_none _ _ (omega arith)

pub slice_bounds-write_number-count : goal.slice_bounds-write_number-count
slice_bounds-write_number-count c =
    let fits : Room c.args.text.now c.args.group c.args.kind c.args.rank c.args.first = record { fits = omega arith } in
    grown_inside (with_word fits c.write_word-at.ensures)

pub slice_bounds-write_number-start : goal.slice_bounds-write_number-start
slice_bounds-write_number-start c =
    let fits : Room c.args.text.now c.args.group c.args.kind c.args.rank c.args.first = record { fits = omega arith } in
    grown_inside (with_word fits c.write_word-at.ensures)

pub overflow_add-at : goal.overflow_add-at
overflow_add-at c =
    let fits : Room c.args.text.now c.args.group c.args.kind c.args.rank c.args.first = record { fits = omega arith } in
    let number = with_number fits (with_word fits c.write_word-at.ensures) c.write_number-at.ensures in
    record { fits = omega (arith, grown_inside number) }

pub slice_bounds-write_word-count : goal.slice_bounds-write_word-count
slice_bounds-write_word-count c =
    let fits : Room c.args.text.now c.args.group c.args.kind c.args.rank c.args.first = record { fits = omega arith } in
    grown_inside (with_number fits (with_word fits c.write_word-at.ensures) c.write_number-at.ensures)

pub slice_bounds-write_word-start : goal.slice_bounds-write_word-start
slice_bounds-write_word-start c =
    let fits : Room c.args.text.now c.args.group c.args.kind c.args.rank c.args.first = record { fits = omega arith } in
    grown_inside (with_number fits (with_word fits c.write_word-at.ensures) c.write_number-at.ensures)

pub overflow_add-at-2 : goal.overflow_add-at-2
overflow_add-at-2 c =
    let fits : Room c.args.text.now c.args.group c.args.kind c.args.rank c.args.first = record { fits = omega arith } in
    let number = with_number fits (with_word fits c.write_word-at.ensures) c.write_number-at.ensures in
    record { fits = omega (arith, grown_inside (with_head fits number c.write_word-at-2.ensures)) }

pub slice_bounds-write_line-count : goal.slice_bounds-write_line-count
slice_bounds-write_line-count c =
    let fits : Room c.args.text.now c.args.group c.args.kind c.args.rank c.args.first = record { fits = omega arith } in
    let number = with_number fits (with_word fits c.write_word-at.ensures) c.write_number-at.ensures in
    grown_inside (with_head fits number c.write_word-at-2.ensures)

pub slice_bounds-write_line-start : goal.slice_bounds-write_line-start
slice_bounds-write_line-start c =
    let fits : Room c.args.text.now c.args.group c.args.kind c.args.rank c.args.first = record { fits = omega arith } in
    let number = with_number fits (with_word fits c.write_word-at.ensures) c.write_number-at.ensures in
    grown_inside (with_head fits number c.write_word-at-2.ensures)

pub returns : goal.returns
returns c =
    let fits : Room c.args.text.now c.args.group c.args.kind c.args.rank c.args.first = record { fits = omega arith } in
    let number = with_number fits (with_word fits c.write_word-at.ensures) c.write_number-at.ensures in
    with_line fits (with_head fits number c.write_word-at-2.ensures) (rw c.kind_word.ensures at c.write_line.ensures)

pub overflow_add-result : goal.overflow_add-result
overflow_add-result c =
    let fits : Room c.args.text.now c.args.group c.args.kind c.args.rank c.args.first = record { fits = omega arith } in
    let number = with_number fits (with_word fits c.write_word-at.ensures) c.write_number-at.ensures in
    let whole = with_line fits (with_head fits number c.write_word-at-2.ensures) (rw c.kind_word.ensures at c.write_line.ensures) in
    record { fits = omega (arith, wrote_inside whole) }
