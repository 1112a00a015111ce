-- `lines::group_length` meets its contract: five fields with what stands between them. Each has few bytes, so the sum does not wrap.
use mathlib.Core.Path.{ap}
use native.Mathlib.Omega.{arith}
use lib.ListN.{length}
use Rattle.model.proofs.Listings.{decimal_few, kind_short}
use Rattle.lines.proofs.GroupLines.{group_length}
use Rattle.lines.proofs.group_length.Goals as goal

pub overflow_add-result : goal.overflow_add-result
overflow_add-result c = omega (arith, decimal_few c.args.group (omega arith))

pub overflow_add-result-2 : goal.overflow_add-result-2
overflow_add-result-2 c = omega (arith, ap length c.kind_word.ensures, kind_short c.args.kind, decimal_few c.args.group (omega arith))

pub overflow_add-result-3 : goal.overflow_add-result-3
overflow_add-result-3 c =
    omega (arith, ap length c.kind_word.ensures, kind_short c.args.kind, decimal_few c.args.group (omega arith), decimal_few c.args.rank (omega arith))

pub overflow_add-result-4 : goal.overflow_add-result-4
overflow_add-result-4 c =
    omega (
      arith,
      ap length c.kind_word.ensures,
      kind_short c.args.kind,
      decimal_few c.args.group (omega arith),
      decimal_few c.args.rank (omega arith),
      decimal_few c.args.first (omega arith),
    )

pub returns : goal.returns
returns c = omega (arith, ap length c.kind_word.ensures, group_length c.args.group c.args.kind c.args.rank c.args.first)
