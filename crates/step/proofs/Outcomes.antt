-- What the code answers and leaves, by the item's row and its part: from what the calls on each way answered and left.
use Prim.Native.Nat.{ℕ, ◌≤◌, ◌<◌}
use mathlib.Core.Path.{◌≡◌, ap}
use mathlib.Core.Logic.{◌⊎◌, inl, inr}
use mathlib.Core.List.{List}
use mathlib.Core.Bool.{Bool, true, false}
use lib.ListN.{get_or}
use borrow.Author.Tests.{lt-ltb, le-ltb}
use Rattle.model.specs.declared.Header.{Header}
use Rattle.model.specs.declared.Item.{Item}
use Rattle.model.specs.declared.Kind.{Kind}
use Rattle.model.specs.declared.Kind.TheVariants.{Load, Store, Assign, Assume, Read, Write, Popa, Popb, Bar}
use Rattle.model.specs.Limits.{max_transitions}
use Rattle.model.specs.Refusals.{Err, barrier_row}
use Rattle.model.specs.ItemKinds.{part_of, command}
use Rattle.model.specs.Replay.{row_allows}
use Rattle.items.specs.declared.rows.Progress.{Progress}
use Rattle.machine.specs.Arrays.{Memory}
use Rattle.machine.specs.Outcomes.{Does, Outcome}
use Rattle.machine.proofs.Outcomes.{does_refused, wrong}
use Rattle.commands.specs.Commands.{command_on}
use Rattle.pops.specs.Pops.{fetch_on, delivery_on}
use Rattle.step.specs.Steps.{item_on, part_on}
use Rattle.step.specs.Standing.{Steps}
use Rattle.step.proofs.ItemSteps.{promised}

-- The kinds of commands.
pub commands_part : {k : Kind} →
    (k ≡ Load) ⊎ ((k ≡ Store) ⊎ ((k ≡ Assign) ⊎ ((k ≡ Assume) ⊎ ((k ≡ Read) ⊎ ((k ≡ Write) ⊎ (k ≡ Bar)))))) → part_of k ≡ command
commands_part (inl e) = ap part_of e
commands_part (inr (inl e)) = ap part_of e
commands_part (inr (inr (inl e))) = ap part_of e
commands_part (inr (inr (inr (inl e)))) = ap part_of e
commands_part (inr (inr (inr (inr (inl e))))) = ap part_of e
commands_part (inr (inr (inr (inr (inr (inl e)))))) = ap part_of e
commands_part (inr (inr (inr (inr (inr (inr e)))))) = ap part_of e

-- An item by its row and its part, by what is answered of them.
module _ (bytes starts : List ℕ) (h : Header) (i : Item) (p : Progress) (m : Memory) {allowed : Bool} (row : allowed ≡ row_allows p.row i) where
  abbrev Answers : (after : Memory) → Outcome → Type 0
  Answers after outcome = Steps bytes starts h i p m after outcome

  pub row_refused : allowed ≡ false → Answers m (Err (record { number = barrier_row; place = p.at }))
  unfolding item_on
  row_refused e = promised bytes starts h i p (does_refused (rw (← row, e)))

  module _ (free : allowed ≡ true) where
    pub item_fetched : {after : Memory} {outcome : Outcome} → i.kind ≡ Popa → Does (fetch_on i p m) m after outcome → Answers after outcome
    unfolding item_on part_on
    item_fetched e d = promised bytes starts h i p (rw (← row, free, e) d)

    pub item_delivered : {after : Memory} {outcome : Outcome} → i.kind ≡ Popb → Does (delivery_on i p m) m after outcome → Answers after outcome
    unfolding item_on part_on
    item_delivered e d = promised bytes starts h i p (rw (← row, free, e) d)

    module _ (commands : part_of i.kind ≡ command) where
      pub number_refused : max_transitions ≤ i.transition → Answers m (wrong p.at)
      unfolding item_on part_on
      number_refused l =
          promised bytes starts h i p (does_refused (rw (← row, free, commands, le-ltb _ _ l)))

      pub item_command : {start : ℕ} {after : Memory} {outcome : Outcome} → i.transition < max_transitions → get_or starts i.transition 0 ≡ start →
          Does (command_on bytes start h i p m) m after outcome → Answers after outcome
      unfolding item_on part_on
      item_command l s d = promised bytes starts h i p (rw (← row, free, commands, lt-ltb _ _ l, s) d)
