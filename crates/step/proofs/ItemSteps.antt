-- One item on arrays that stand for a state, against the definition's: the row first, then the law of the item's part. Hence the promise.
use Prim.Native.Nat.{ℕ, ◌<◌}
use mathlib.Core.Path.{◌≡◌, refl, sym, ap, ◌∙◌}
use mathlib.Core.Bool.{true}
use mathlib.Core.List.{List}
use native.Mathlib.Omega.{arith}
use lib.ListN.{get_or}
use borrow.Author.Tests.{lt-ltb}
use Rattle.model.specs.declared.Header.{Header}
use Rattle.model.specs.declared.Item.{Item}
use Rattle.model.specs.declared.Kind.{Kind}
use Rattle.model.specs.declared.Kind.TheVariants.{Popa, Popb}
use Rattle.model.specs.declared.Refusal.{Refusal}
use Rattle.model.specs.Limits.{max_items, max_transitions}
use Rattle.model.specs.Refusals.{Result, Ok, Err, barrier_row}
use Rattle.model.specs.ItemKinds.{same_kind, has_place, Part, command, fetch, delivery, part_of}
use Rattle.model.specs.Programs.{Program}
use Rattle.model.specs.Replay.{Replay, row_allows, take_part, take_item}
use Rattle.model.specs.Traces.{ChosenIn}
use Rattle.model.proofs.ItemKinds.{same_kind_true, command≢fetch, command≢delivery}
use Rattle.model.proofs.Laws.{decided, refused≢ok}
use Rattle.memory.specs.Tables.{Rank, Place}
use Rattle.items.specs.declared.rows.Progress.{Progress}
use Rattle.machine.specs.Arrays.{Memory}
use Rattle.machine.specs.Standing.{Standing}
use Rattle.machine.specs.Outcomes.{Left, Does, Outcome, outcome_of, memory_after}
use Rattle.machine.proofs.Agreement.{Together, together_does, together_test}
use Rattle.commands.proofs.CommandSteps.{transition_together}
use Rattle.pops.proofs.PopSteps.{fetch_together, delivery_together}
use Rattle.step.specs.Standing.{ItemFits, Loaded, Steps}
use Rattle.step.specs.Steps.{part_on, item_on}

-- An item that is refused leaves the arrays as they were.
refusal_keeps : (result : Result Left) (m : Memory) {r : Refusal} → outcome_of result ≡ Err r → memory_after m result ≡ m
refusal_keeps (Ok l) m e = absurd (refused≢ok (sym e))
refusal_keeps (Err x) m e = refl

-- Both pops have a place.
pop_place : (k : Kind) → ¬ (part_of k ≡ command) → has_place k ≡ true
pop_place k n =
    decided (same_kind k Popa)
    (λ t. rw (same_kind_true k Popa t))
    (λ t. decided (same_kind k Popb) (λ u. rw (same_kind_true k Popb u)) (λ u. absurd (n (rw (t, u)))))

module _ (bytes starts : List ℕ) (P : Program) (m : Memory) (p : Progress) (s : Replay) (i : Item)
    (loaded : Loaded bytes starts P.header P) (fits : ItemFits P.header i) (few : p.at < max_items) (stands : Standing m p s) where
  rank_held_lem : Rank i.rank
  rank_held_lem = record { first = fits.low; last = omega (arith, fits.high, loaded.fits.ranks_fit) }

  place_held : has_place i.kind ≡ true → Place i.place
  place_held h =
      record {
        rank_held = record { first = fits.place_low h; last = omega (arith, fits.place_high h, loaded.fits.ranks_fit) };
        cell_held = omega (arith, fits.place_cell h, loaded.fits.cells_fit);
      }

  part_together : (part : Part) → part_of i.kind ≡ part → ChosenIn P.header part i →
      Together p.at m (take_part P s p.at i part) (part_on bytes starts P.header i p part m)
  unfolding take_part part_on
  part_together command e chosen =
      let t = loaded.stands i.transition chosen in
      rw (t.named, lt-ltb i.transition max_transitions (omega (arith, chosen, loaded.fits.transitions_fit)))
      (transition_together P m p s i stands rank_held_lem few loaded.fits bytes (get_or starts i.transition 0) t.transition t.read)
  part_together fetch e chosen =
      fetch_together m p s i stands rank_held_lem (omega (arith, chosen, loaded.fits.queues_fit))
      (place_held (pop_place i.kind (λ c. command≢fetch (sym c ∙ e)))) few
  part_together delivery e chosen =
      delivery_together m p s i stands rank_held_lem (omega (arith, chosen, loaded.fits.queues_fit))
      (place_held (pop_place i.kind (λ c. command≢delivery (sym c ∙ e)))) few

  pub item_together : Together p.at m (take_item P s p.at i) (item_on bytes starts P.header i p m)
  unfolding take_item item_on
  item_together =
      rw (ap (λ row. row_allows row i) stands.row)
      (together_test p.at m (row_allows p.row i) barrier_row _ _ (λ _. part_together (part_of i.kind) refl fits.choice))

-- The promise, for whatever leaves and answers what the step on arrays says.
pub promised : (bytes starts : List ℕ) (header : Header) (i : Item) (p : Progress) {m after : Memory} {outcome : Outcome} →
    Does (item_on bytes starts header i p m) m after outcome → Steps bytes starts header i p m after outcome
promised bytes starts header i p {m} d =
    record {
      agrees = λ P s loaded fits few stands.
          let same = loaded.same in
          let together = item_together bytes starts P m p s i (rw (← same) at loaded) (rw (← same) at fits) few stands in
          together_does p.at (take_item P s p.at i) (rw (← same) together) d;
      kept = λ r e. d.leaves ∙ refusal_keeps (item_on bytes starts header i p m) m (sym d.answers ∙ e);
      does = d;
    }
