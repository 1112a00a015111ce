-- `entries::entries_of` meets its contract: each turn makes the entry of the next two bytes.
use Rattle.std.proofs.Common.{rules, ◌≡◌, ◌+◌, ◌*◌}
use lib.ListN.{get_or}
use Rattle.model.specs.Limits.{byte_values}
use Rattle.starts.specs.Writing.{max_entries}
use Rattle.starts.proofs.Gathering.{gathering_none, gathering_more, gathering_all}
use Rattle.starts.proofs.entries.entries_of.Goals as goal

pub loop-i-init : goal.loop-i-init
loop-i-init c =
    let first : c.into_iter-i-iterator.result.count ≡ 0 = search rules in
    let room : c.into_iter-i-iterator.result.iter.n ≡ max_entries = search rules in
    let all : c.into_iter-i-iterator.result.iter.iter.rest.now ≡ c.args.bytes.now = search rules in
    let size : c.into_iter-i-iterator.result.iter.iter.size ≡ 2 = search rules in
    rw (first, room, all, size) (gathering_none _)

pub loop-i-preserved : goal.loop-i-preserved
loop-i-preserved c =
    let steps = c.in-Some.ensures.steps in
    let value : c.from_be_bytes.result ≡ get_or c.in-Some.pair.now 0 0 * byte_values + get_or c.in-Some.pair.now 1 0 = search rules in
    rw (steps.2, steps.1, steps.0.0.0) (gathering_more _ c.loop-i.invariant _ _ steps.0.0.1.0 steps.0.0.1.1 steps.0.1 value)

pub returns : goal.returns
returns c = gathering_all _ c.loop-i.invariant (λ more. (c.in-None.ensures.steps.0 more).1.0)
