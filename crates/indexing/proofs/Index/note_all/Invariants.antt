use Rattle.std.proofs.Common.{◌≡◌, ◌-◌}
use Rattle.model.specs.Choice.{numbers_from}
use Rattle.indexing.specs.Indexes.{indexed, indexed_edges}
use Rattle.indexing.proofs.Index.note_all.Given as goal

abbrev pub invariant-loop-edge : goal.invariant-loop-edge
invariant-loop-edge l =
    indexed l.groups l.drawn.count l.drawn.edges l.initial.self ≡
    indexed_edges l.groups l.drawn.edges (numbers_from l.edge (l.last - l.edge)) l.self
