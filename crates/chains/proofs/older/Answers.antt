-- `chains::older` meets its contract: the tests are the definition's, or the definition answers 0 too.
use Rattle.chains.proofs.Cases.{older_none, older_at, older_stays, older_beyond, no_slot}
use Rattle.chains.proofs.older.Goals as goal

pub returns-in_default : goal.returns-in_default
returns-in_default c = older_none _ _ (no_slot c.in_default.ensures)

pub returns-in-Some-get : goal.returns-in-Some-get
returns-in-Some-get c =
    let link = c.in-Some-get.ensures.lookup.3 in
    rw (link.1 0) (older_at _ _ c.in-Some.ensures (rw (link.1 0) at c.if-below-member.true))

pub returns-in_default-get : goal.returns-in_default-get
returns-in_default-get c =
    let link = c.in-Some-get.ensures.lookup.3 in
    older_stays _ _ c.in-Some.ensures (rw (link.1 0) at c.if-below-member.false)

pub returns-in_default-get-2 : goal.returns-in_default-get-2
returns-in_default-get-2 c =
    let beyond = rw c.in_default-get.is at c.get.ensures.lookup in
    older_beyond _ _ c.in-Some.ensures beyond.3
