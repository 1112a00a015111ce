-- `maps::within_cells`: no map of 64 bits reaches a power of two from 64 on.
use Rattle.std.proofs.Common.{rules, ◌^◌, ◌≤◌, arith, sym}
use lib.Pow.{pow_mono}
use borrow.Author.Tests.{lt-ltb}
use Rattle.start_cells.proofs.maps.within_cells.Goals as goal

pub returns-in-None : goal.returns-in-None
returns-in-None c =
    let given = c.args in
    let high : 64 ≤ given.cells = search rules in
    sym (lt-ltb given.map (2 ^ given.cells) (omega (arith, c.ranges.map.fits, pow_mono high)))
