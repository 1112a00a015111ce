use Rattle.std.proofs.Common.{◌≡◌, ◌-◌}
use Rattle.model.specs.Limits.{max_items}
use Rattle.links.specs.Lists.{searched}
use Rattle.links.proofs.lists.search.Given as goal

abbrev pub invariant-loop : goal.invariant-loop
invariant-loop l = searched l.pool l.named (max_items - l.counter) l.previous l.entry ≡ searched l.pool l.named max_items 0 l.head
