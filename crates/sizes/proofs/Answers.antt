-- Lists as long as the longest answers need are long enough for every record: an accepted one has at most as many groups as items, and as many cells
-- as the largest machine. So the check gives 14 and 15 for none, and answers as the listing does.
use Prim.Native.Nat.{ℕ, ◌*◌, ◌/◌, ◌≤◌}
use mathlib.Core.Path.{◌≡◌, refl}
use mathlib.Core.List.{List}
use native.Mathlib.Nat.{mul-le-mul}
use native.Mathlib.Omega.{arith}
use lib.ListN.{length}
use borrow.Author.Tests.{le-leb}
use Rattle.model.specs.Limits.{max_ranks, max_cells, max_items}
use Rattle.model.specs.Refusals.{Result, Ok, Err}
use Rattle.model.specs.Checks.{Accepted, Verdicts, accept, check_result_in, check_result, outcome, outcome_bytes, check_in, check, check_bytes_in, check_bytes}
use Rattle.record_facts.proofs.Bounds.{accepted_bounds}
use Rattle.sizes.specs.Texts.{answer_of, result_of}

module _ (program start recorded : List ℕ) (groups cells : ℕ) (long : max_items ≤ groups) (wide : max_ranks * max_cells ≤ cells) where
  result_is : (m : Result Accepted) → accept program start recorded ≡ m → check_result program start recorded groups cells ≡ result_of m
  unfolding check_result_in
  result_is (Err r) h = rw h
  result_is (Ok a) h =
      let b = accepted_bounds program start recorded a h in
      let few : a.run.last.opened ≤ groups = omega (arith, b.bounds.most, b.few) in
      let narrow : a.program.header.ranks * a.program.header.cells ≤ cells =
      omega (arith, mul-le-mul b.header.ranks_fit b.header.cells_fit) in
      rw (h, le-leb _ _ few, le-leb _ _ narrow)

-- The check on lists of numbers, and of bytes.
module _ (program start recorded order cells : List ℕ) where
  abbrev accepted : Result Accepted
  accepted = accept program start recorded

  answers_alike : (m : Result Accepted) {r : Result Verdicts} → r ≡ result_of m → (outcome order cells r).answer ≡ answer_of m
  unfolding outcome
  answers_alike (Err x) is = rw is
  answers_alike (Ok a) is = rw is

  answers_alike_bytes : (m : Result Accepted) {r : Result Verdicts} → r ≡ result_of m → (outcome_bytes order cells r).answer ≡ answer_of m
  unfolding outcome_bytes
  answers_alike_bytes (Err x) is = rw is
  answers_alike_bytes (Ok a) is = rw is

  pub check_answers : max_items ≤ length order → max_ranks * max_cells ≤ length cells →
      (check program start recorded order cells).answer ≡ answer_of accepted
  unfolding check_in
  check_answers long wide = answers_alike accepted (result_is program start recorded (length order) (length cells) long wide accepted refl)

  pub check_bytes_answers : 2 * max_items ≤ length order → 2 * (max_ranks * max_cells) ≤ length cells →
      (check_bytes program start recorded order cells).answer ≡ answer_of accepted
  unfolding check_bytes_in
  check_bytes_answers long wide =
      answers_alike_bytes accepted
      (result_is program start recorded (length order / 2) (length cells / 2) (omega (arith, long)) (omega (arith, wide)) accepted refl)
