-- A map's eight bytes as one number: the definition, which goes byte by byte, finds the same number, or that a byte is missing.
use Prim.Native.Nat.{ℕ, zero, suc, ◌+◌, ◌-◌, ◌*◌, ◌≤◌, ◌<◌}
use mathlib.Core.Path.{◌≡◌, ap, sym, ◌∙◌}
use mathlib.Core.List.{List}
use native.Mathlib.Omega.{arith}
use lib.Dec.{ltb}
use lib.ListN.{length, get_or, take, drop}
use Rattle.std.specs.Int.{w64, from_be_bytes}
use Rattle.std.specs.List.{slice_index, slice_range}
use Rattle.std.proofs.lemmas.List.{get_or-take, get_or-drop}
use borrow.Author.Tests.{le-ltb}
use Rattle.model.specs.Limits.{byte_values, map_size}
use Rattle.model.specs.Refusals.{refuse}
use Rattle.model.specs.Bytes.{found, byte, big_endian}
use Rattle.model.proofs.Laws.{decided}
use Rattle.model.proofs.Bytes.{byte_there}

module _ (early : ℕ) (bytes : List ℕ) where
  -- Where they end before the last one, that is the refusal.
  pub map_missing : (size high at : ℕ) → length bytes < at + suc size → big_endian early (suc size) high bytes at ≡ refuse early (length bytes)
  unfolding big_endian byte
  map_missing zero high at short = rw (le-ltb at (length bytes) (omega arith))
  map_missing (suc size) high at short =
      decided (ltb at (length bytes))
      (λ t. rw t (map_missing size (high * byte_values + get_or bytes at 0) (at + 1) (omega arith)))
      (λ t. rw t)

  -- Where they are all there, each is the next digit.
  module _ (chunk : List ℕ) (at : ℕ) (inside : at + map_size ≤ length bytes) (is : chunk ≡ take map_size (slice_range bytes at (length bytes))) where
    chunk_at : (i : ℕ) → i < map_size → slice_index chunk i ≡ slice_index bytes (at + i)
    chunk_at i below =
        ap (λ l. get_or l i 0) is
        ∙ get_or-take map_size (slice_range bytes at (length bytes)) i 0 below
        ∙ get_or-take (length bytes - at) (drop at bytes) i 0 (omega arith)
        ∙ get_or-drop at bytes i 0

    one_read : (size high i : ℕ) → i < map_size →
        big_endian early (suc size) high bytes (at + i) ≡ big_endian early size (high * byte_values + slice_index chunk i) bytes (at + (i + 1))
    unfolding big_endian
    one_read size high i below =
        let next : at + i + 1 ≡ at + (i + 1) = omega arith in
        rw (byte_there early bytes (at + i) (omega arith), next, chunk_at i below)

    pub map_there : big_endian early map_size 0 bytes at ≡ found (from_be_bytes w64 chunk) (at + map_size)
    unfolding big_endian
    map_there =
        let begin : at + 0 ≡ at = omega arith in
        ap (big_endian early map_size 0 bytes) (sym begin)
        ∙ one_read 7 0 0 (omega arith)
        ∙ one_read 6 _ 1 (omega arith)
        ∙ one_read 5 _ 2 (omega arith)
        ∙ one_read 4 _ 3 (omega arith)
        ∙ one_read 3 _ 4 (omega arith)
        ∙ one_read 2 _ 5 (omega arith)
        ∙ one_read 1 _ 6 (omega arith)
        ∙ one_read 0 _ 7 (omega arith)
        ∙ ap (λ v. found v (at + map_size)) (omega arith)
