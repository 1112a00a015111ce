-- `lists::write` meets its contract. The invariant: so many entries are pasted.
use Rattle.std.proofs.Common.{◌+◌, ◌*◌, ◌≤◌, length, sym, ap, ◌∙◌, arith, rules}
use borrow.Author.Rules.{scaled_fits≤}
use lib.Seq.{get_or-take}
use native.Mathlib.Nat.{div-le_self}
use Rattle.lists.proofs.Entries.{all_given, next_fits, entry_more, all_written, none_written}
use Rattle.lists.proofs.write.Goals as goal

pub slice_bounds-number-items-end : goal.slice_bounds-number-items-end
slice_bounds-number-items-end g c = all_given _ _ _ _ c.args.numbers.now (sym c.fits.ensures ∙ c.if-fits.true)

pub overflow_add-place : goal.overflow_add-place
overflow_add-place g c =
    let next = next_fits _ _ _ _ c.args.numbers.now (sym c.fits.ensures ∙ c.if-fits.true) c.loop-i-test.true in
    omega (arith, next.first, div-le_self (length c.args.list.now) c.WIDTH-width.result)

pub overflow_mul-place : goal.overflow_mul-place
overflow_mul-place g c =
    let next = next_fits _ _ _ _ c.args.numbers.now (sym c.fits.ensures ∙ c.if-fits.true) c.loop-i-test.true in
    omega (arith, next.inside)

pub overflow_add-place-in-loop-i : goal.overflow_add-place-in-loop-i
overflow_add-place-in-loop-i g c =
    let next = next_fits _ _ _ _ c.args.numbers.now (sym c.fits.ensures ∙ c.if-fits.true) c.loop-i-test.true in
    omega (arith, next.inside)

pub offset_bounds-list-place : goal.offset_bounds-list-place
offset_bounds-list-place g c =
    let next = next_fits _ _ _ _ c.args.numbers.now (sym c.fits.ensures ∙ c.if-fits.true) c.loop-i-test.true in
    let start : c.WIDTH-width.result * (c.args.at + c.loop-i.i) ≤ length c.args.list.now = omega (arith, next.inside) in
    search (rules, scaled_fits≤)

pub slice_bounds-put-end : goal.slice_bounds-put-end
slice_bounds-put-end g c =
    let next = next_fits _ _ _ _ c.args.numbers.now (sym c.fits.ensures ∙ c.if-fits.true) c.loop-i-test.true in
    omega (arith, next.inside)

pub loop-i-preserved : goal.loop-i-preserved
loop-i-preserved g c =
    let next = next_fits _ _ _ _ c.args.numbers.now (sym c.fits.ensures ∙ c.if-fits.true) c.loop-i-test.true in
    let e = g.T.Element in
    let wide = c.WIDTH-width.ensures in
    entry_more e.WIDTH e.shown g.met.T.Element.wide c.args.list.now c.args.at c.args.numbers.now c.loop-i.i _ _ _ _
    (ap (λ n. n * (c.args.at + c.loop-i.i)) wide) (ap (λ n. c.WIDTH-width.result * (c.args.at + c.loop-i.i) + n) wide)
    (rw wide at next.inside) next.some c.loop-i.invariant
    (c.put.ensures ∙ ap e.shown (get_or-take c.args.count c.args.numbers.now c.loop-i.i 0 next.read))

pub returns-after-loop-i : goal.returns-after-loop-i
returns-after-loop-i g c =
    all_written c.WIDTH-width.ensures _ _ _ _ _ (sym c.fits.ensures ∙ c.if-fits.true) c.loop-i.auto.i-end c.loop-i-test.false c.loop-i.invariant

pub returns-else-fits : goal.returns-else-fits
returns-else-fits g c = none_written c.WIDTH-width.ensures _ _ _ _ _ (sym c.fits.ensures ∙ c.if-fits.false)
