-- A command item on arrays that stand for a state, against the definition's.
use Rattle.std.specs.Prelude.{Some}
use Prim.Native.Nat.{ℕ, ◌+◌, ◌<◌}
use mathlib.Core.Path.{◌≡◌, ap, ◌∙◌}
use mathlib.Core.Bool.{◌&&◌}
use mathlib.Core.List.{List}
use lib.Dec.{eqb}
use Rattle.model.specs.declared.Item.{Item}
use Rattle.model.specs.Limits.{max_items}
use Rattle.model.specs.Refusals.{wrong_transition}
use Rattle.model.specs.Bytes.{found}
use Rattle.model.specs.ItemKinds.{same_kind}
use Rattle.model.specs.Programs.{Program, Transition, HeaderFits, kind_of, read_transition}
use Rattle.model.specs.Machine.{Action, action}
use Rattle.model.specs.Replay.{Replay, group_of, row_after, agrees_with, access_of, origin_of, after_command, agreed, take_transition}
use Rattle.memory.specs.Tables.{Rank, control_at, registers_size, row_at}
use Rattle.transitions.specs.Transitions.{command_of}
use Rattle.items.specs.declared.rows.Progress.{Progress}
use Rattle.items.specs.Accesses.{access_number, access_told}
use Rattle.operands.specs.Operands.{action_by}
use Rattle.items.specs.Progress.{command_progress}
use Rattle.items.proofs.Accesses.{told_number}
use Rattle.operands.proofs.Asking.{ActionFits, action_by_lem, action_fits, kind_in_lem}
use Rattle.operands.proofs.Registers.{register_held}
use Rattle.machine.specs.Arrays.{Memory, cells_in}
use Rattle.machine.specs.Standing.{Holds, Standing, Follows}
use Rattle.machine.proofs.Agreement.{Together, together_test, together_value, together_agreed, counted, same_opened, opened_few}
use Rattle.machine.proofs.Held.{holds_moved}
use Rattle.commands.specs.Commands.{environment_in, moved_on, action_on, transition_on, read_on, command_on}
use Rattle.commands.proofs.Performed.{performed, same_access_lem, access_placed, control_kept}
use Rattle.commands.proofs.OwnRegisters.{own_registers}

module _ (P : Program) (m : Memory) (p : Progress) (s : Replay) (i : Item) (stands : Standing m p s) (r : Rank i.rank)
    (few : p.at < max_items) where
  -- The arrays after an action hold the state after it.
  action_holds : (target : ℕ) (a : Action) → ActionFits a →
      Holds (p.at + 1) (moved_on i p target a m) (after_command P s i target a).state.machine
  action_holds target a fits =
      let acted = performed stands.holds i.rank r (origin_of s i) a fits few in
      let moved = rw (control_kept i.rank p.at (group_of s.opened i) a m) at (holds_moved acted i.rank target r) in
      rw (← stands.opened) moved

  action_follows : (target : ℕ) (a : Action) → ActionFits a →
      Follows p.at (after_command P s i target a) (moved_on i p target a m) (command_progress P.header.ranks i p) (group_of p.opened i)
      (access_told (access_of i.rank a (cells_in m)))
  action_follows target a fits =
      record {
        standing =
            record {
              holds = rw (counted stands few) (action_holds target a fits);
              opened = same_opened stands few i;
              row = ap (λ row. row_after P.header.ranks row i) stands.row;
              few = opened_few stands few i;
            };
        counted = counted stands few;
        same_group = ap (λ opened. group_of opened i) stands.opened;
        same_access =
            ap access_number (same_access_lem stands.holds i.rank r a fits)
            ∙ told_number (access_of i.rank a (cells_in m)) (access_placed stands.holds i.rank r a fits (cells_in m));
      }

  pub action_together : (target : ℕ) (a : Action) → ActionFits a →
      Together p.at m (agreed p.at (after_command P s i target a)) (action_on P.header.ranks i p target a m)
  unfolding action_on
  action_together target a fits =
      together_agreed p.at m (after_command P s i target a) (access_of i.rank a (cells_in m)) _
      (ap (agrees_with i) (same_access_lem stands.holds i.rank r a fits))
      (λ _. action_follows target a fits)

  -- The transition that stands at a start: the state, the kind and the operands are judged alike.
  module _ (loaded : HeaderFits P.header) (bytes : List ℕ) (start : ℕ) (t : Transition) {end : ℕ}
      (read : read_transition P.header bytes start ≡ found t end) where
    own : List ℕ
    own = row_at registers_size m.registers i.rank

    operands : action P i.rank (s.machine.registers i.rank) p.at t.command
        ≡ action_by P.header i.rank p.at (command_of (environment_in P.header i.rank m) t.command)
    unfolding own
    operands = rw (own_registers stands.holds.registers i.rank r) (action_by_lem P i.rank p.at own t.command)

    pub transition_together :
        Together p.at m (take_transition P s p.at i (Some t)) (command_on bytes start P.header i p m)
    unfolding take_transition read_on transition_on own
    transition_together =
        rw (read, operands, stands.holds.controls.same i.rank r, kind_in_lem P i.rank p.at own t.command)
        (together_test p.at m
        (eqb t.source (control_at m.control i.rank) && same_kind (kind_of t.command) i.kind) wrong_transition _ _
        (λ _.
        together_value p.at m (action_by P.header i.rank p.at (command_of (environment_in P.header i.rank m) t.command)) _ _
        (λ a e. action_together t.target a (action_fits P i.rank p.at own loaded t.command
        (register_held bytes P.header loaded.registers_fit start read) e))))
