-- `map_of`: each turn adds the bit of the next value.
use Rattle.std.proofs.Common.{rules, ◌≡◌}
use Rattle.marked.specs.Maps.{map_bits}
use Rattle.marking.proofs.Mapping.{mapping_none, mapping_with, mapping_without, mapping_all}
use Rattle.marking.proofs.map_of.Goals as goal

pub loop-bit-init : goal.loop-bit-init
loop-bit-init c =
    let first : c.into_iter-bit-iterator.result.count ≡ 0 = search rules in
    let room : c.into_iter-bit-iterator.result.iter.n ≡ map_bits = search rules in
    let all : c.into_iter-bit-iterator.result.iter.iter.rest.now ≡ c.args.values.now = search rules in
    rw (first, room, all) (mapping_none _)

pub loop-bit-preserved-then-value-gt0 : goal.loop-bit-preserved-then-value-gt0
loop-bit-preserved-then-value-gt0 c =
    let steps = c.in-Some.ensures.steps in
    rw (steps.2, steps.1) (mapping_with _ (rw steps.0.0 at c.loop-bit.invariant) steps.0.1 c.if-value-gt0.true)

pub loop-bit-preserved : goal.loop-bit-preserved
loop-bit-preserved c =
    let steps = c.in-Some.ensures.steps in
    rw steps.2 (mapping_without _ (rw steps.0.0 at c.loop-bit.invariant) steps.0.1 c.if-value-gt0.false)

pub returns : goal.returns
returns c = mapping_all _ c.loop-bit.invariant (λ more. (c.in-None.ensures.steps.0 more).0)
