-- What is left to read from here comes to the same place as the whole.
use Rattle.std.proofs.Common.{◌≡◌, ◌-◌}
use Rattle.record.specs.Places.{items_end}
use Rattle.record.proofs.reader.read_items.Given as goal

abbrev pub invariant-loop : goal.invariant-loop
invariant-loop l =
    items_end l.header (l.count - l.counter) l.bytes l.at ≡ items_end l.header l.count l.bytes l.from
