-- `meet`: a group is met for the first time, or again, or nothing changes.
use mathlib.Core.Path.{refl}
use borrow.Author.Rules.{rules}
use Rattle.rings.proofs.GoingBack.{met_first, met_full, met_as_far, met_nearer, met_outside}
use Rattle.rings.proofs.searches.Search.meet.Goals as goal

pub returns-then-known-distance : goal.returns-then-known-distance
returns-then-known-distance c = search met_as_far

pub returns-else-known-distance : goal.returns-else-known-distance
returns-else-known-distance c = met_nearer (search rules) refl c.if-known-eq0.false c.if-known-distance.false

pub returns-then-self-lt-ITEMS : goal.returns-then-self-lt-ITEMS
returns-then-self-lt-ITEMS c = rw (c.push.ensures.groups, c.push.ensures.end) (search met_first)

pub returns-else-self-lt-ITEMS : goal.returns-else-self-lt-ITEMS
returns-else-self-lt-ITEMS c = search met_full

pub returns-else-group-lt-ITEMS : goal.returns-else-group-lt-ITEMS
returns-else-group-lt-ITEMS c = search met_outside
