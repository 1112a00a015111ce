-- `command_counts`: each turn counts the rank of the next row.
use Rattle.std.proofs.Common.{rules, ◌≡◌, length, arith, ◌∙◌}
use Rattle.model.specs.Limits.{max_items}
use Rattle.rank_counts.proofs.Tallies.{tallying_none, tallying_few, tallying_counted, tallying_beyond, tallying_passed, tallying_all}
use Rattle.rank_counts.proofs.command_counts.Goals as goal

pub loop-told-init : goal.loop-told-init
loop-told-init c =
    let long : length c.args.trail.now ≡ max_items = search rules in
    let room : c.into_iter-told-iterator.result.n ≡ c.args.items = search rules in
    let all : c.into_iter-told-iterator.result.iter.rest.now ≡ c.args.trail.now = search rules in
    rw (room, all) (tallying_none _ _ long)

pub overflow_add-counts : goal.overflow_add-counts
overflow_add-counts c =
    let long : length c.args.trail.now ≡ max_items = search rules in
    let so_far = rw c.in-Some.ensures.steps.0 at c.loop-told.invariant in
    let few = tallying_few _ _ long so_far _ c.if-row-lt-RANKS.true in
    omega (arith, few)

pub loop-told-preserved-then-row-lt-RANKS : goal.loop-told-preserved-then-row-lt-RANKS
loop-told-preserved-then-row-lt-RANKS c =
    let long : length c.args.trail.now ≡ max_items = search rules in
    let steps = c.in-Some.ensures.steps in
    tallying_counted _ _ long (rw steps.0 at c.loop-told.invariant) steps.1 c.in-Some-row_of.ensures c.if-row-lt-RANKS.true

pub loop-told-preserved-else-row-lt-RANKS : goal.loop-told-preserved-else-row-lt-RANKS
loop-told-preserved-else-row-lt-RANKS c =
    let long : length c.args.trail.now ≡ max_items = search rules in
    let steps = c.in-Some.ensures.steps in
    tallying_beyond _ _ long (rw steps.0 at c.loop-told.invariant) steps.1 c.in-Some-row_of.ensures c.if-row-lt-RANKS.false

pub loop-told-preserved : goal.loop-told-preserved
loop-told-preserved c =
    let long : length c.args.trail.now ≡ max_items = search rules in
    let steps = c.in-Some.ensures.steps in
    tallying_passed _ _ long (rw steps.0 at c.loop-told.invariant) steps.1 (λ row is. c.in_default.not-Some row (c.row_of.ensures ∙ is))

pub returns : goal.returns
returns c =
    let long : length c.args.trail.now ≡ max_items = search rules in
    tallying_all _ _ long c.loop-told.invariant (λ more. (c.in-None.ensures.steps more).0)
