-- Lists of bytes, two an entry: how many entries they have, and that entries which were written are read.
use Prim.Native.Nat.{ℕ, suc, ◌/◌}
use mathlib.Core.Path.{◌≡◌, refl, ap, ◌∙◌}
use mathlib.Core.List.{List, [], ◌∷◌, ◌++◌}
use native.Mathlib.Nat.{div-add-mod'}
use native.Mathlib.Omega.{arith}
use lib.ListN.{length}
use Rattle.model.specs.Limits.{byte_values}
use Rattle.model.specs.Checks.{entry_bytes, two_by_two}

pub two_length : (bytes : List ℕ) → length (two_by_two bytes) ≡ length bytes / 2
unfolding two_by_two
two_length [] = refl
two_length (odd ∷ []) = refl
two_length (high ∷ low ∷ rest) = ap suc (two_length rest) ∙ omega arith

pub two_entries : (list rest : List ℕ) → two_by_two (entry_bytes list ++ rest) ≡ list ++ two_by_two rest
unfolding two_by_two entry_bytes
two_entries [] rest = refl
two_entries (n ∷ list) rest = rw (div-add-mod' n byte_values, two_entries list rest)
