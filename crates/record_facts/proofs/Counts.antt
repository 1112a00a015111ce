-- The replay counts each rank's commands, so a command's place is the number of its rank's commands before it; and each command takes its rank from
-- the local state of its place to the next.
use Prim.Native.Nat.{ℕ, suc}
use mathlib.Core.Path.{◌≡◌, refl, sym, ◌∙◌, ap}
use mathlib.Core.Bool.{true}
use mathlib.Core.List.{List}
use lib.ListN.{take}
use Rattle.model.specs.Choice.{select}
use Rattle.model.specs.Programs.{Program}
use Rattle.model.specs.Machine.{Start}
use Rattle.model.specs.Replay.{Event, Replay, begin}
use Rattle.model.specs.HappensBefore.{At, is_command, rank_of}
use Rattle.model.specs.Traces.{command_of}
use Rattle.model.proofs.Selections.{count_own, count_other}
use Rattle.model.proofs.Laws.{decided}
use Rattle.record_facts.specs.Facts.{Local, initial_local, count_of, CommandStep}
use Rattle.record_facts.proofs.Locals.{local_of, local_kept, local_stepped, count_up_lem}
use Rattle.record_facts.proofs.Trajectory.{Run, begins, grows, local_now, move_at}

module _ {P : Program} {start : Start} {local : ℕ → ℕ → Local} where
  -- The replay's count is the number of the rank's commands so far.
  pub counted : {done : List Event} {s : Replay} → Run P start local done s → (rank : ℕ) → s.taken rank ≡ count_of rank done
  unfolding begin select
  counted (begins h) rank = refl
  counted (grows {done = done} {e = e} run step h) rank =
      decided (command_of rank e)
      (λ own. count_up_lem step rank own ∙ (ap suc (counted run rank) ∙ sym (count_own (command_of rank) done e own)))
      (λ other. (local_kept step rank other).count ∙ (counted run rank ∙ sym (count_other (command_of rank) done e other)))

  module _ {events : List Event} {s : Replay} (run : Run P start local events s) where
    -- A command's place, and the local states before and after it.
    pub place_of : (i : ℕ) (e : Event) → At events i e → is_command e ≡ true → e.place ≡ count_of (rank_of e) (take i events)
    place_of i e at own =
        let here = move_at run i e at in
        (local_stepped here.step own).place ∙ counted here.run (rank_of e)

    pub local_step : (i : ℕ) (e : Event) → At events i e → is_command e ≡ true →
        CommandStep P (local (rank_of e) e.place) e (local (rank_of e) (suc e.place))
    local_step i e at own =
        let here = move_at run i e at in
        let stepped = local_stepped here.step own in
        let from : local (rank_of e) e.place ≡ local_of here.before (rank_of e) =
        ap (local (rank_of e)) stepped.place ∙ local_now here.run (rank_of e) in
        let to : local (rank_of e) (suc e.place) ≡ local_of here.after (rank_of e) =
        ap (local (rank_of e)) (ap suc stepped.place ∙ sym stepped.count) ∙ local_now here.stepped (rank_of e) in
        rw (from, to) stepped.moves

    -- Each rank ends where its commands led it.
    pub local_end : (rank : ℕ) → local_of s rank ≡ local rank (count_of rank events)
    local_end rank = sym (local_now run rank) ∙ ap (local rank) (counted run rank)

  -- Each rank begins at the start.
  pub local_start : {done : List Event} {s : Replay} → Run P start local done s → (rank : ℕ) → local rank 0 ≡ initial_local
  local_start (begins h) rank = h rank
  local_start (grows run step h) rank = local_start run rank
