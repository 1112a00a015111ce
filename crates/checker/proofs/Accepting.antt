-- The ends of the conclusion: what the replay's answer tells of the definition's acceptance gives the definition's result at each.
use Prim.Native.Nat.{ℕ}
use mathlib.Core.Path.{◌≡◌}
use mathlib.Core.List.{List}
use Rattle.model.specs.declared.Header.{Header}
use Rattle.model.specs.declared.Refusal.{Refusal}
use Rattle.model.specs.Refusals.{Result, Ok, Err}
use Rattle.model.specs.Checks.{Verdicts, check_result}
use Rattle.memory.specs.Tables.{Table, zeros}
use Rattle.replay.specs.declared.Accepted as replayed
use Rattle.replay.specs.Handed.{Acceptance, lent, HandsOver}
use Rattle.replay.proofs.Accepting.{accept_refused, accept_found}
use Rattle.checker.specs.declared.conclusion.Room.{Room}
use Rattle.checker.specs.declared.conclusion.Concluded.{Concluded}
use Rattle.trails.specs.Trails.{trail_size}
use Rattle.judging.specs.Told.{verdict_told}
use Rattle.checker.specs.Concluded.{refused_with, accepted_with, Concludes}
use Rattle.checker.proofs.Concluding.{replay_refused, concludes_refused, concludes_accepted}

-- What is concluded of numbers and tables is concluded of equal ones.
told_accepted : {m : Result Verdicts} {room : Room} {header header' : Header} {items items' groups groups' : ℕ} {cells cells' trail trail' : Table} →
    Concludes m room cells (accepted_with room header groups (verdict_told groups items trail)) →
    header' ≡ header → items' ≡ items → groups' ≡ groups → cells' ≡ cells → trail' ≡ trail →
    Concludes m room cells' (accepted_with room header' groups' (verdict_told groups' items' trail'))
told_accepted concludes p q r s t = rw (p, q, r, s, t) concludes

module _ (program start recorded : List ℕ) (room : Room) {cells after trail : Table} {r : Acceptance}
    (handed : HandsOver program start recorded (lent cells (zeros trail_size)) (lent after trail) r) where
  abbrev Ends : Concluded → Type 0
  Ends = Concludes (check_result program start recorded room.groups room.cells) room after

  pub ends_refused : {x : Refusal} → r ≡ Err x → {k : Concluded} → k ≡ refused_with x → Ends k
  ends_refused found e =
      rw e
      (concludes_refused program start recorded room after
      (replay_refused program start recorded room (accept_refused handed found)))

  pub ends_accepted : {run : replayed.Accepted} → r ≡ Ok run → {k : Concluded} →
      k ≡ accepted_with room run.header run.groups (verdict_told run.groups run.items trail) → Ends k
  ends_accepted found e =
      let known = accept_found handed found in
      rw e
      (told_accepted (concludes_accepted program start recorded room known.a known.is)
      known.header_is known.items_is known.groups_is known.cells_is known.trail_is)
