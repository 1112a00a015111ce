use Rattle.std.proofs.Common.{◌≡◌, ◌*◌, take}
use Rattle.std.specs.Prelude.{flat_map}
use lib.Seq.{paste}
use Rattle.lists.proofs.write.Given as goal

abbrev pub invariant-loop-i : goal.invariant-loop-i
invariant-loop-i g l =
    let e = g.T.Element in
    l.list ≡ paste l.initial.list (e.WIDTH * l.at) (flat_map e.shown (take l.i l.numbers)) (e.WIDTH * l.i)
