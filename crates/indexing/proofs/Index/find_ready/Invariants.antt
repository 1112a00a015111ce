use Rattle.std.proofs.Common.{◌≡◌, ◌-◌}
use Rattle.model.specs.Choice.{numbers_from}
use Rattle.indexing.specs.Indexes.{readied_all}
use Rattle.indexing.proofs.Index.find_ready.Given as goal

abbrev pub invariant-loop-group : goal.invariant-loop-group
invariant-loop-group l =
    readied_all l.self.waiting (numbers_from 0 l.groups) l.initial.ready ≡
    readied_all l.self.waiting (numbers_from l.group (l.groups - l.group)) l.ready
