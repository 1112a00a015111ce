-- A map's eight bytes: the definition goes byte by byte, and finds the same.
use Prim.Native.Nat.{ℕ, ◌/◌}
use mathlib.Core.Path.{◌≡◌, refl}
use native.Mathlib.Omega.{arith}
use Rattle.std.specs.Int.{w64, to_be_bytes}
use Rattle.model.specs.Limits.{map_size}
use Rattle.model.specs.Bytes.{big_endian_bytes}

pub eight_bytes : (map : ℕ) → to_be_bytes w64 map ≡ big_endian_bytes map_size map
unfolding big_endian_bytes
eight_bytes map =
    let two : map / 65536 ≡ map / 256 / 256 = omega arith in
    let three : map / 16777216 ≡ map / 256 / 256 / 256 = omega arith in
    let four : map / 4294967296 ≡ map / 256 / 256 / 256 / 256 = omega arith in
    let five : map / 1099511627776 ≡ map / 256 / 256 / 256 / 256 / 256 = omega arith in
    let six : map / 281474976710656 ≡ map / 256 / 256 / 256 / 256 / 256 / 256 = omega arith in
    let seven : map / 72057594037927936 ≡ map / 256 / 256 / 256 / 256 / 256 / 256 / 256 = omega arith in
    rw (seven, six, five, four, three, two) refl
