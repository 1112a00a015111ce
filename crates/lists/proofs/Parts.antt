-- The part of a list behind a front: what it is, that the front stays where it is changed, and what fills it.
use Prim.Native.Nat.{ℕ, ◌-◌}
use mathlib.Core.Path.{◌≡◌, sym, ap, ◌∙◌}
use mathlib.Core.List.{List, ◌++◌, append-nil, append_assoc}
use native.Mathlib.Omega.{arith}
use lib.ListN.{length, drop, length-append}
use lib.Seq.{take-length, drop-length, drop-drop, take_at, drop_at}
use borrow.Rule.Slice.PartMut.{mid_of, put_mid}
use Rattle.model.specs.Checks.{fill}

module _ (front rest : List ℕ) {behind : ℕ} (long : length front ≡ behind) where
  part_length : length (front ++ rest) - behind ≡ length rest
  part_length = omega (arith, length-append front rest, long)

  pub part_is : mid_of behind (length (front ++ rest) - behind) (front ++ rest) ≡ rest
  part_is = rw (part_length, drop_at front rest behind long) (take-length rest)

  pub part_put : (part : List ℕ) → put_mid behind (length (front ++ rest) - behind) (front ++ rest) part ≡ front ++ part
  part_put part =
      rw (part_length, take_at front rest behind long, drop_at front rest behind long, drop-length rest)
      (ap (λ l. front ++ l) (append-nil part))

-- What fills the part behind a front fills all with the front.
pub fill_behind : (front new list : List ℕ) → front ++ fill new (drop (length front) list) ≡ fill (front ++ new) list
unfolding fill
fill_behind front new list =
    sym (append_assoc front new (drop (length new) (drop (length front) list)))
    ∙ ap (λ l. (front ++ new) ++ l)
    (drop-drop (length new) (length front) list ∙ ap (λ n. drop n list) (sym (length-append front new)))
