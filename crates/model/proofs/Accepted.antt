-- An accepted record, taken apart: what was read, and that its items replay.
use Prim.Native.Nat.{ℕ}
use mathlib.Core.Path.{◌≡◌, subst}
use mathlib.Core.List.{List}
use Rattle.model.specs.declared.Item.{Item}
use Rattle.model.specs.Refusals.{Ok}
use Rattle.model.specs.Programs.{read_program}
use Rattle.model.specs.StartBytes.{read_start}
use Rattle.model.specs.Records.{read_record}
use Rattle.model.specs.Replay.{replay}
use Rattle.model.specs.Checks.{Accepted, accept_in, accept}
use Rattle.model.proofs.Laws.{bind_ok, ok_injective}

pub record AcceptedParts (program start recorded : List ℕ) (a : Accepted) : Type 0 where
  pub items : List Item
  pub program_read_lem : read_program program ≡ Ok a.program
  pub start_read_lem : read_start a.program.header start ≡ Ok a.readings
  pub record_read_lem : read_record a.program.header recorded ≡ Ok items
  pub replayed : replay a.program a.readings items ≡ Ok a.run

pub accepted_parts : (program start recorded : List ℕ) (a : Accepted) → accept program start recorded ≡ Ok a →
    AcceptedParts program start recorded a
unfolding accept_in
accepted_parts program start recorded a accepted =
    let (P, program_read_lem, h₁) = bind_ok (read_program program) _ accepted in
    let (readings, start_read_lem, h₂) = bind_ok (read_start P.header start) _ h₁ in
    let (items, record_read_lem, h₃) = bind_ok (read_record P.header recorded) _ h₂ in
    let (run, replayed, h₄) = bind_ok (replay P readings items) _ h₃ in
    subst (AcceptedParts program start recorded) (ok_injective h₄)
    (record {
      items = items;
      program_read_lem = program_read_lem;
      start_read_lem = start_read_lem;
      record_read_lem = record_read_lem;
      replayed = replayed;
    })
