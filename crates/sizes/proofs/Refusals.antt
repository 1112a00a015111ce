-- A refusal of a program, readings and a record has a number of the table, and is placed no further than the longest program goes: the readers place theirs
-- within the bytes that they are allowed, and the replay at an item.
use Prim.Native.Nat.{ℕ, ◌≤◌}
use mathlib.Core.Path.{◌≡◌}
use mathlib.Core.Bool.{true}
use mathlib.Core.List.{List}
use native.Mathlib.Omega.{arith}
use lib.Dec.{eqb}
use borrow.Author.Tests.{eqb-true}
use Rattle.model.specs.declared.Header.{Header}
use Rattle.model.specs.declared.Refusal.{Refusal}
use Rattle.model.specs.Refusals.{Err, program_length, record_length, memory_too_short, no_value, start_form}
use Rattle.model.specs.Choice.{between}
use Rattle.model.specs.Programs.{read_program_in, read_program}
use Rattle.model.specs.Records.{read_record_in, read_record}
use Rattle.model.specs.Checks.{accept_in, accept, check_result_in}
use Rattle.model.proofs.Laws.{decided, between_true}
use Rattle.model.proofs.Ranges.{header_fits}
use Rattle.record_facts.proofs.Bounds.{read_few}
use Rattle.demands.specs.Demands.{is_check_number}
use Rattle.demands.proofs.Refusals.{check_tabled}
use Rattle.sizes.specs.Sizes.{max_program_bytes, max_record_bytes}
use Rattle.model.proofs.Places.{Placed, placed_ok, placed_bind, placed_later}
use Rattle.model.proofs.Allowances.{whole_placed}
use Rattle.sizes.proofs.Places.{replay_placed}
use Rattle.sizes.proofs.Readings.{start_placed}
use Rattle.sizes.proofs.Fronts.{program_takes, record_takes}

-- A refusal as a program, readings and a record can have it.
pub record RefusalFits (r : Refusal) : Type 0 where
  pub number : r.number ≤ start_form
  pub place : r.place ≤ max_program_bytes

number_fits : (number : ℕ) → is_check_number number ≡ true → number ≤ start_form
number_fits number tabled =
    decided (between program_length memory_too_short number)
    (λ t. omega (arith, (between_true program_length memory_too_short number t).high))
    (λ t.
    decided (eqb number no_value)
    (λ s. omega (arith, eqb-true number no_value s))
    (λ s. omega (arith, eqb-true number start_form (rw (t, s) at tabled))))

program_placed : (bytes : List ℕ) → Placed max_program_bytes (read_program bytes)
unfolding read_program_in
program_placed = whole_placed program_length max_program_bytes program_takes

record_placed : (header : Header) (bytes : List ℕ) → Placed max_record_bytes (read_record header bytes)
unfolding read_record_in
record_placed header = whole_placed record_length max_record_bytes (record_takes header)

module _ (program start recorded : List ℕ) where
  accept_placed : Placed max_program_bytes (accept program start recorded)
  unfolding accept_in
  accept_placed =
      placed_bind (program_placed program) λ P read_program_lem.
      placed_bind (placed_later (omega arith) (start_placed P.header (header_fits program read_program_lem) start)) λ readings _.
      placed_bind (placed_later (omega arith) (record_placed P.header recorded)) λ items read.
      placed_bind (placed_later (omega (arith, read_few P.header recorded read)) (replay_placed P readings items)) λ run _.
      placed_ok _

  pub refusal_fits : (r : Refusal) → accept program start recorded ≡ Err r → RefusalFits r
  unfolding check_result_in
  refusal_fits r h =
      record {
        number = number_fits r.number ((check_tabled program start recorded 0 0).row r (rw h));
        place = accept_placed.place r h;
      }
