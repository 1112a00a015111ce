-- `write_cells`: the ranks that are left, from where the loop stands, are what all of them are from the start.
use mathlib.Core.Path.{refl, ◌∙◌}
use Prim.Native.Nat.{◌<◌}
use native.Mathlib.Omega.{arith}
use borrow.Author.Rules.{rules}
use Rattle.layout.proofs.Laid.{going_none, going_all, no_ranks, rank_more}
use Rattle.layout.proofs.Lines.{cells_start, rank_next}
use Rattle.layout.proofs.Contents.write_cells.Goals as goal

pub write_rank-requires : goal.write_rank-requires
write_rank-requires c =
    let ranks_fit : c.args.self.now.header.ranks < 65_536 = search rules in
    let so_far = c.loop-done.invariant.1 in
    omega (arith, so_far.laying.near, so_far.within, ranks_fit)

pub loop-done-preserved : goal.loop-done-preserved
loop-done-preserved c = (
  c.write_rank.ensures.same ∙ c.loop-done.invariant.0,
  rank_more _ _ _ c.loop-done.invariant.1 c.loop-done-test.true (rank_next _ _ _) c.write_rank.ensures.laid,
)

pub returns-clause-laid : goal.returns-clause-laid
returns-clause-laid c =
    let ranks_fit : c.args.self.now.header.ranks < 65_536 = search rules in
    going_all c.loop-done.invariant.1 c.loop-done-test.false (no_ranks _ _ _ _ c.loop-done-test.false) (omega arith)

pub loop-done-init : goal.loop-done-init
loop-done-init c = (refl, going_none (cells_start _ _ _))
