-- What the arrows come to, by the definition's `verdict`.
use Rattle.std.specs.Prelude.{ℕ}
use Rattle.model.specs.declared.Verdict as verdicts
use Rattle.model.specs.declared.Verdict.TheVariants.{Order, Ring}
use Rattle.model.specs.Orders.{Verdict}
use Rattle.model.specs.Checks.{listed, counted}
use Rattle.graph.specs.Edges.{group_list}
use Rattle.verdicts.specs.declared.Judged.{Judged}

-- How many groups an order or a ring has.
abbrev pub count_of : verdicts.Verdict → ℕ
count_of (Order n) = n
count_of (Ring n) = n

abbrev pub judged_as : Verdict → Judged
judged_as v = record { verdict = counted v; groups = group_list (listed v) }
