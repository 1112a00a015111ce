-- The step on arrays: what the code makes of the machine's arrays, test by test as the definition's step. Nothing is asked of the arrays here; that
-- they stand for a state of the definition is for the promise to say.
use Rattle.std.specs.Prelude.{ℕ, List, ltb, get_or}
use Rattle.model.specs.declared.Header.{Header}
use Rattle.model.specs.declared.Item.{Item}
use Rattle.model.specs.Limits.{max_transitions}
use Rattle.model.specs.Refusals.{Result, refuse, require, ◌>>=◌, wrong_transition, barrier_row}
use Rattle.model.specs.Choice.{when}
use Rattle.model.specs.ItemKinds.{Part, command, fetch, delivery, part_of}
use Rattle.model.specs.Replay.{row_allows}
use Rattle.items.specs.declared.rows.Progress.{Progress}
use Rattle.machine.specs.Arrays.{Memory}
use Rattle.machine.specs.Outcomes.{Left}
use Rattle.commands.specs.Commands.{read_on, command_on}
use Rattle.pops.specs.Pops.{fetched_on, delivered_on, fetch_on, delivery_on}

-- A transition that no program has is no transition from the rank's state.
unfoldable pub part_on : (bytes starts : List ℕ) → Header → Item → Progress → Part → Memory → Result Left
unfolding read_on fetched_on delivered_on
part_on bytes starts h i p command m =
    when (ltb i.transition max_transitions)
    (λ _. command_on bytes (get_or starts i.transition 0) h i p m)
    (λ _. refuse wrong_transition p.at)
part_on bytes starts h i p fetch m = fetch_on i p m
part_on bytes starts h i p delivery m = delivery_on i p m

unfoldable pub item_on : (bytes starts : List ℕ) → Header → Item → Progress → Memory → Result Left
unfolding part_on
item_on bytes starts h i p m = do
  _ ← require (row_allows p.row i) barrier_row p.at
  part_on bytes starts h i p (part_of i.kind) m
