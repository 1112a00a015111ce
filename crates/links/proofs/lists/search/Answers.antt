-- `links::lists::search` meets its contract. The invariant: from this entry on, with the steps that are left, the search finds what it finds from the
-- head.
use Rattle.std.proofs.Common.{◌≡◌, ◌+◌, ◌-◌, sym, ◌∙◌, arith}
use Rattle.model.specs.Limits.{max_items}
use Rattle.links.proofs.Searches.{search_spent, search_ends, search_finds, search_goes_on}
use Rattle.links.proofs.lists.search.Goals as goal

pub returns-then-entry-eq0 : goal.returns-then-entry-eq0
returns-then-entry-eq0 c = sym (search_ends _ _ _ _ _ c.if-entry-eq0.true) ∙ c.loop.invariant

pub returns-then-is_for : goal.returns-then-is_for
returns-then-is_for c =
    sym (search_finds _ _ _ _ _ (omega (arith, c.loop-test.true)) c.if-entry-eq0.false
    (rw c.field_at.ensures at (sym c.is_for.ensures ∙ c.if-is_for.true)))
    ∙ c.loop.invariant

pub loop-preserved : goal.loop-preserved
loop-preserved c =
    let fewer : max_items - (c.loop.counter + 1) ≡ max_items - c.loop.counter - 1 = omega arith in
    rw (fewer, c.field_at-entry.ensures)
    (sym (search_goes_on _ _ _ _ _ (omega (arith, c.loop-test.true)) c.if-entry-eq0.false
    (rw c.field_at.ensures at (sym c.is_for.ensures ∙ c.if-is_for.false)))
    ∙ c.loop.invariant)

pub returns : goal.returns
returns c = sym (search_spent _ _ _ _ _ (omega (arith, c.loop-test.false))) ∙ c.loop.invariant
