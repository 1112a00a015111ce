-- `ring`: what the calls answer, put together by `Whole`.
use mathlib.Core.Path.{refl}
use Rattle.model.specs.Checks.{fill}
use Rattle.rings.proofs.Whole.{answer, answer_none, fits_in, cleared, rooted, ready_again}
use Rattle.rings.proofs.ring.Goals as goal

pub list-requires : goal.list-requires
list-requires c = search cleared

pub closest-requires : goal.closest-requires
closest-requires c = search rooted

pub measure-requires : goal.measure-requires
measure-requires c = ready_again (rw c.in-Some.is at c.closest.ensures)

pub lowest_nexts-next-requires : goal.lowest_nexts-next-requires
lowest_nexts-next-requires c = fits_in _ c.groups_in-limit.ensures

pub returns-in-Some : goal.returns-in-Some
returns-in-Some c =
    let chosen = rw (c.in-Some.is, c.list.ensures.same) at c.closest.ensures in
    let measured = rw c.list.ensures.same at c.measure.ensures in
    answer _ _ _ _ c.groups_in-limit.ensures _ c.list.ensures.indexed chosen measured refl
    c.lowest_nexts-next.ensures c.follow.ensures

pub returns-in-None : goal.returns-in-None
unfolding fill
returns-in-None c =
    let chosen = rw (c.in-None.is, c.list.ensures.same) at c.closest.ensures in
    answer_none _ _ _ _ c.groups_in-limit.ensures c.list.ensures.indexed chosen refl
