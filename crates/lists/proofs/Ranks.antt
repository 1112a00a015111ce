-- Functions of ranks and numbers as lists, one rank more.
use Prim.Native.Nat.{ℕ, zero, suc, ◌+◌, ◌*◌, ◌≤◌, ◌<◌}
use mathlib.Core.Path.{◌≡◌, refl, sym, ap, ◌∙◌}
use mathlib.Core.List.{List, [], ◌++◌, map, append_assoc, append-nil}
use native.Mathlib.Omega.{arith}
use native.Mathlib.Nat.{suc-mul}
use native.Mathlib.Numerals.{add-one}
use lib.ListN.{length, length-append, length-map}
use Rattle.model.specs.Choice.{numbers_from}
use Rattle.model.specs.Checks.{for_each_rank, rank_by_rank}
use Rattle.memory.proofs.Filled.{numbers_length, numbers_at, list_of}

module _ {A : Type 0} (count : ℕ) (f : ℕ → ℕ → A) where
  ranks_more : (first ranks : ℕ) →
      for_each_rank count f (numbers_from first (ranks + 1)) ≡
      for_each_rank count f (numbers_from first ranks) ++ map (f (first + ranks)) (numbers_from 0 count)
  unfolding for_each_rank numbers_from
  ranks_more first zero = let z : first + 0 ≡ first = omega arith in rw z (append-nil (map (f first) (numbers_from 0 count)))
  ranks_more first (suc ranks) =
      let e : first + suc ranks ≡ first + 1 + ranks = omega arith in
      let s : suc ranks + 1 ≡ suc (ranks + 1) = omega arith in
      rw (s, e, append_assoc) (ap (λ l. map (f first) (numbers_from 0 count) ++ l) (ranks_more (first + 1) ranks))

  pub rank_more : (ranks : ℕ) → rank_by_rank (ranks + 1) count f ≡ rank_by_rank ranks count f ++ map (f (1 + ranks)) (numbers_from 0 count)
  unfolding rank_by_rank
  rank_more ranks = ranks_more 1 ranks

  pub rank_none : rank_by_rank 0 count f ≡ []
  unfolding rank_by_rank for_each_rank numbers_from
  rank_none = refl

  pub rank_length_lem : (ranks : ℕ) → length (rank_by_rank ranks count f) ≡ ranks * count
  rank_length_lem zero = rw rank_none (omega arith)
  rank_length_lem (suc ranks) =
      let row : List A = map (f (1 + ranks)) (numbers_from 0 count) in
      let wide : length row ≡ count = length-map (numbers_from 0 count) (f (1 + ranks)) ∙ numbers_length 0 count in
      rw (← add-one, rank_more ranks, length-append, rank_length_lem ranks, wide) (sym (suc-mul ranks count) ∙ ap (λ n. n * count) (sym (add-one ranks)))

-- Functions that agree on the ranks and the numbers are listed alike.
pub rank_same : (ranks count : ℕ) (f g : ℕ → ℕ → ℕ) → ((r i : ℕ) → 1 ≤ r → r ≤ ranks → i < count → f r i ≡ g r i) →
    rank_by_rank ranks count f ≡ rank_by_rank ranks count g
rank_same zero count f g same = rank_none count f ∙ sym (rank_none count g)
rank_same (suc ranks) count f g same =
    rw (← add-one)
    (rank_more count f ranks
    ∙ ap (λ l. l ++ row f) (rank_same ranks count f g (λ r i low high few. same r i low (omega arith) few))
    ∙ ap (λ l. rank_by_rank ranks count g ++ l) same_row
    ∙ sym (rank_more count g ranks))
  where
    row : (ℕ → ℕ → ℕ) → List ℕ
    row h = map (h (1 + ranks)) (numbers_from 0 count)

    same_row : row f ≡ row g
    same_row =
        list_of (g (1 + ranks)) 0 count 0 (row f) (length-map (numbers_from 0 count) (f (1 + ranks)) ∙ numbers_length 0 count)
        (λ i few. numbers_at (f (1 + ranks)) 0 count i 0 few ∙ same (1 + ranks) (0 + i) (omega arith) (omega arith) (omega arith))
