use Rattle.std.proofs.Common.{◌≡◌}
use Prim.Native.Nat.{min}
use Rattle.model.specs.Limits.{max_items}
use Rattle.layout.specs.Laid.{laid}
use Rattle.layout.specs.Lines.{longest, groups_told, group_lines_on}
use Rattle.layout.proofs.Laid.{Going, lines_left}
use Rattle.layout.proofs.Lines.{group_bytes}
use Rattle.layout.proofs.Contents.write_groups.Given as goal

abbrev pub invariant-loop-group : goal.invariant-loop-group
invariant-loop-group l =
    let count = groups_told l.self.verdict in
    let last = min count max_items in
    (l.page.text.ghost_name ≡ l.initial.page.text.ghost_name)
    × Going (lines_left (group_bytes l.self.groups.now l.self.header l.self.recorded.now l.self.firsts.now) last) last longest
    (group_lines_on l.self.groups.now count l.self.header l.self.recorded.now l.self.firsts.now) l.group-index
    (laid l.initial.page.text.now l.initial.page.at) (laid l.page.text.now l.page.at)
