-- `next` of a map's bits: a map that is not 0 has its lowest bit first, and then those of the map without it.
use Rattle.std.proofs.Common.{rules, ℕ, ◌≡◌, ◌∷◌, ◌^◌, ◌<◌, ap, arith}
use lib.ListN.{length}
use Rattle.bitmap.specs.Bitmaps.{without_lowest}
use Rattle.marked.specs.Maps.{map_bits, bits_of, lowest_bit}
use Rattle.marked.proofs.Bits.{bits_none, bits_next}
use Rattle.marked.proofs.maps.BitsIterator.next.Goals as goal

taken : (map : ℕ) → map < 2 ^ map_bits → ¬ (map ≡ 0) → bits_of map ≡ lowest_bit map ∷ bits_of (without_lowest map)
taken map fits some = bits_next map (record { positive = omega arith; fits = fits })

pub returns-then-self-eq0-clause-steps : goal.returns-then-self-eq0-clause-steps
returns-then-self-eq0-clause-steps c = rw (c.if-self-eq0.true, bits_none) (search rules)

pub returns-clause-steps : goal.returns-clause-steps
returns-clause-steps c = taken _ (search rules) c.if-self-eq0.false

pub returns-clause-goes : goal.returns-clause-goes
returns-clause-goes c =
    let total = ap length (taken c.args.self.now.0 (search rules) c.if-self-eq0.false) in
    record { on = λ _. (search rules, search rules, omega (arith, total)); keeps = search rules; rests = search rules }
