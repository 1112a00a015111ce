-- `reader::full_map`: the shift is a power of two, of which the map is one less.
use native.Mathlib.Omega.{arith}
use lib.Pow.{pow_mono, pow_pos}
use Rattle.bitmap.proofs.Bits.{shifted}
use Rattle.slips.proofs.reader.full_map.Goals as goal

pub overflow_sub-result : goal.overflow_sub-result
overflow_sub-result c = rw (shifted 32 c.args.ranks (omega (arith, c.requires))) (pow_pos c.args.ranks)

pub overflow_cast-result : goal.overflow_cast-result
overflow_cast-result c = rw (shifted 32 c.args.ranks (omega (arith, c.requires))) (omega (arith, pow_mono c.requires))

pub returns : goal.returns
returns c = rw (shifted 32 c.args.ranks (omega (arith, c.requires))) (let positive = pow_pos c.args.ranks in omega (arith, positive))
