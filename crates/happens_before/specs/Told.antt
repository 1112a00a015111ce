-- What the rows of a trail tell: events with as much in them as the arrows depend on.
use Rattle.std.specs.Prelude.{ℕ, zero, suc, ◌*◌, ◌/◌, ◌%◌, min, Bool, List, [], map, ltb, eqb, get_or, Option, Some, None}
use Rattle.std.specs.Option.{option_map}
use Rattle.model.specs.declared.Kind.{Kind}
use Rattle.model.specs.declared.Kind.TheVariants.{Assign, Popa}
use Rattle.model.specs.Limits.{max_ranks, max_cells, max_items}
use Rattle.model.specs.Choice.{when, numbers_from}
use Rattle.model.specs.Machine.{Access, address}
use Rattle.model.specs.Replay.{Event}
use Rattle.memory.specs.Tables.{Table}
use Rattle.happens_before.specs.declared.rows.Told.{Told}
use Rattle.happens_before.specs.declared.rows.Touch.{Touch}

-- How many cells there are, all ranks together.
abbrev pub max_addresses : ℕ
max_addresses = max_ranks * max_cells

-- As many as two ranks have: a small run has tables for these alone.
abbrev pub few_addresses : ℕ
few_addresses = 2 * max_cells

-- A number of a row is 0 for none, and else one more than what it tells. What is out of its range is told as none.
abbrev pub named : (limit number : ℕ) → Option ℕ
named limit zero = None
named limit (suc told) = when (ltb told limit) (λ _. Some told) (λ _. None)

-- An access by its number in a row: twice the cell's number, plus 1 if it writes.
abbrev pub touch : (number : ℕ) → Touch
touch number = record { cell = number / 2; writes = eqb (number % 2) 1 }

abbrev pub touch_in : (access : ℕ) → Option Touch
touch_in access = option_map touch (named (2 * max_addresses) access)

-- A row: its rank if it is a command, its group, and its access. A row whose group is out of its range tells nothing else.
unfoldable pub told_in : (row : List ℕ) → Told
told_in row =
    let known : Bool = ltb (get_or row 1 0) max_items in
    record {
      rank = when known (λ _. named max_ranks (get_or row 0 0)) (λ _. None);
      group = get_or row 1 0;
      access = when known (λ _. touch_in (get_or row 2 0)) (λ _. None);
    }

abbrev pub told_at : Table → (item : ℕ) → Told
told_at trail item = told_in (get_or trail item [])

-- An event of which as much is told: a command of some kind and its rank, counted from 1, or a pop of some kind; a cell by its number alone, counted
-- from 1.
abbrev pub kind_told : (rank : Option ℕ) → Kind
kind_told None = Popa
kind_told (Some rank) = Assign

abbrev pub rank_told : (rank : Option ℕ) → ℕ
rank_told None = 0
rank_told (Some rank) = suc rank

abbrev pub access_told : Option Touch → Option Access
access_told = option_map (λ t. record { writes = t.writes; address = address 0 (suc t.cell); value = 0 })

unfoldable pub event_told : Told → Event
event_told t =
    record {
      item =
          record {
            rank = rank_told t.rank;
            transition = 0;
            queue = 0;
            place = address 0 0;
            given = None;
            remote = 0;
            kind = kind_told t.rank;
          };
      place = 0;
      group = t.group;
      queue = 0;
      access = access_told t.access;
    }

-- The events that the first rows tell of, so many.
unfoldable pub events_told : (items : ℕ) → Table → List Event
unfolding told_in event_told numbers_from
events_told items trail = map (λ item. event_told (told_at trail item)) (numbers_from 0 (min items max_items))
