-- What the replay's answer tells of the definition's acceptance, and so of the slip.
use Prim.Native.Nat.{ℕ}
use mathlib.Core.Path.{◌≡◌, sym, ap, ap₂, ◌∙◌}
use mathlib.Core.List.{List}
use Rattle.model.specs.declared.Header.{Header}
use Rattle.model.specs.declared.Refusal.{Refusal}
use Rattle.model.specs.Refusals as Refusals
use Rattle.model.specs.Refusals.{Result, Ok, Err}
use Rattle.model.specs.Checks.{Accepted, accept}
use Rattle.model.specs.Lending.{Lent, lend, answering}
use Rattle.model.specs.Slips.{slip_of, write_slip_in, write_slip}
use Rattle.replay.specs.declared.Accepted as handed
use Rattle.replay.specs.Handed as Handed
use Rattle.replay.specs.Handed.{HandsOver}
use Rattle.replay.proofs.Accepting.{accept_refused, accept_found}
use Rattle.memory.specs.Tables.{Table, zeros}
use Rattle.trails.specs.Trails.{trail_size}
use Rattle.rank_counts.specs.Tallies.{ranks_told, tallied}
use Rattle.slips.specs.Writing.{slip_from}
use Rattle.slips.proofs.Commands.{commands_tallied}
use Rattle.slips.proofs.Writing.{slip_accepted}

module _ (program start recorded : List ℕ) {cells : Table} {after : Handed.Lent} {r : Handed.Acceptance}
    (over : HandsOver program start recorded (Handed.lent cells (zeros trail_size)) after r) (slip : List ℕ) where
  written : {m : Result Accepted} → accept program start recorded ≡ m →
      lend slip (Refusals.◌>>=◌ m (λ a. Ok (slip_of a))) ≡ write_slip program start recorded slip
  unfolding write_slip_in
  written is = ap (λ m. lend slip (Refusals.◌>>=◌ m (λ a. Ok (slip_of a)))) (sym is)

  pub written_refused : {x : Refusal} → r ≡ Err x →
      answering (Err x) slip ≡ write_slip program start recorded slip
  unfolding lend
  written_refused found = written (accept_refused over found)

  pub written_accepted : {run : handed.Accepted} → r ≡ Ok run →
      (counts : List ℕ) → counts ≡ tallied (ranks_told run.items after.trail) → {l : Lent} →
      l ≡ lend slip (Ok (slip_from run.header.ranks counts)) →
      l ≡ write_slip program start recorded slip
  written_accepted found counts is wrote =
      let known = accept_found over found in
      let told =
      is
      ∙ ap₂ (λ n trail. tallied (ranks_told n trail)) known.items_is known.trail_is
      ∙ commands_tallied program start recorded known.a known.is in
      wrote
      ∙ ap₂ (λ (h : Header) l. lend slip (Ok (slip_from h.ranks l))) known.header_is told
      ∙ ap (λ s. lend slip (Ok s)) (sym (slip_accepted program start recorded known.a known.is))
      ∙ written known.is
