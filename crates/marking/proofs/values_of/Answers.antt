-- `values_of`: each turn puts the value of the next bit into the next entry.
use Rattle.std.proofs.Common.{rules, inl, ◌≡◌, ◌≤◌, length, arith}
use Rattle.marked.specs.Maps.{map_bits, bits_of}
use Rattle.marking.specs.Marking.{value_in}
use Rattle.marking.proofs.Gathering.{bits_within, gathering_none, gathering_room, gathering_more, gathering_all}
use Rattle.marking.proofs.values_of.Goals as goal

pub loop-done-init-derived : goal.loop-done-init-derived
loop-done-init-derived c =
    let few : length (bits_of c.into_iter-done-iterator.result.iter.0) ≤ map_bits = bits_within _ in
    let first : c.into_iter-done-iterator.result.count ≡ 0 = search rules in
    ((tt, tt, inl (omega arith)), tt)

pub loop-done-init : goal.loop-done-init
loop-done-init c =
    let first : c.into_iter-done-iterator.result.count ≡ 0 = search rules in
    let all : c.into_iter-done-iterator.result.iter.0 ≡ c.args.map = search rules in
    rw (first, all) (gathering_none _ _)

pub offset_bounds-marked-done : goal.offset_bounds-marked-done
offset_bounds-marked-done c = let room = gathering_room _ _ (rw c.in-Some.ensures.steps.0 at c.loop-done.invariant) in search rules

pub bounds-marked-done : goal.bounds-marked-done
bounds-marked-done c = let room = gathering_room _ _ (rw c.in-Some.ensures.steps.0 at c.loop-done.invariant) in search rules

pub loop-done-preserved : goal.loop-done-preserved
loop-done-preserved c =
    let steps = c.in-Some.ensures.steps in
    let value : c.unwrap_or.result ≡ value_in c.args.values.now c.in-Some.bit = search rules in
    rw (steps.2, steps.1) (gathering_more _ _ (rw steps.0 at c.loop-done.invariant) value)

pub returns : goal.returns
returns c = gathering_all _ _ (rw c.in-None.ensures.steps.0.0 at c.loop-done.invariant)
