use Rattle.std.proofs.Common.{◌≡◌}
use Rattle.marked.specs.Maps.{bits_of}
use Rattle.marked.specs.Reading.{read_bits, values_at}
use Rattle.marked.proofs.reader.read_values.Given as goal

-- What is left to read from here, with the bits that are left, is the whole.
abbrev pub invariant-loop-bit : goal.invariant-loop-bit
invariant-loop-bit l = record {
  can_next : (goal.iterator-loop-bit).can_next l.bit-iterator;
  is_finite : (goal.iterator-loop-bit).is_finite l.bit-iterator;
  whole : values_at l.most l.fault l.map l.bytes l.at ≡ read_bits l.most l.fault (bits_of l.bit-iterator.0) l.values l.bytes l.next;
}
