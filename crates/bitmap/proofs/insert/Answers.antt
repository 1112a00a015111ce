-- `bitmap::insert` meets its contract: the test is the definition's, and the shifts stay inside a word.
use Prim.Native.Nat.{ℕ, ◌/◌, ◌%◌, ◌<◌}
use native.Mathlib.Omega.{arith}
use borrow.Author.Tests.{lt-ltb, le-ltb}
use Rattle.model.specs.Limits.{max_items}
use Rattle.bitmap.specs.Bitmaps.{word_bits, inserted}
use Rattle.bitmap.proofs.Bits.{shifted}
use Rattle.bitmap.proofs.insert.Goals as goal

pub returns-then-n-lt-ITEMS : goal.returns-then-n-lt-ITEMS
unfolding inserted
returns-then-n-lt-ITEMS c =
    let n : ℕ = c.args.number in
    let below : n < max_items = omega arith in
    rw (c.from-n.ensures, lt-ltb n max_items below, shifted word_bits (n % word_bits) (omega arith), shifted word_bits (n / word_bits) (omega arith))

pub returns-else-n-lt-ITEMS : goal.returns-else-n-lt-ITEMS
unfolding inserted
returns-else-n-lt-ITEMS c = rw (le-ltb c.args.number max_items (omega arith))
