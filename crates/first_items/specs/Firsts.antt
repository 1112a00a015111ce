-- The first item of each group: by the events of a run, and by tables, as the code has it. Nothing is asked of the tables.
use Rattle.std.specs.Prelude.{ℕ, zero, suc, ◌+◌, List, [], ◌∷◌, Option, Some, None, ltb, eqb, get_or, set, replicate}
use Rattle.model.specs.declared.Found.{Found}
use Rattle.model.specs.declared.Header.{Header}
use Rattle.model.specs.declared.Item.{Item}
use Rattle.model.specs.Limits.{max_items}
use Rattle.model.specs.Refusals.{Result, Ok, Err}
use Rattle.model.specs.Choice.{when}
use Rattle.model.specs.Records.{read_item}
use Rattle.model.specs.Replay.{Event}
use Rattle.memory.specs.Tables.{Table}
use Rattle.record.specs.Places.{first_item}
use Rattle.first_items.specs.declared.First.{First}
use Rattle.first_items.specs.declared.Noted.{Noted}

-- The first event of a group, of events that are numbered from `number` on.
unfoldable pub first_in : (group number : ℕ) → List Event → Option First
first_in group number [] = None
first_in group number (e ∷ events) =
    when (eqb e.group group) (λ _. Some (record { item = e.item; number = number })) (λ _. first_in group (number + 1) events)

-- A row for each group: its first item's number and place, where one is noted.
abbrev pub Firsts : Type 0
Firsts = List (Option Noted)

abbrev pub no_firsts : Firsts
no_firsts = replicate max_items None

abbrev pub noted_at : Firsts → (group : ℕ) → Option Noted
noted_at firsts group = get_or firsts group None

-- An item noted under a group that has a row, unless an earlier one is; and under its group by its row of the trail.
abbrev pub unless_noted : Option Noted → (firsts else : Firsts) → Firsts
unless_noted None firsts else = else
unless_noted (Some earlier) firsts else = firsts

unfoldable pub noted_under : (group : ℕ) → Noted → Firsts → Firsts
noted_under group item firsts =
    when (ltb group max_items) (λ _. unless_noted (noted_at firsts group) firsts (set firsts group (Some item))) (λ _. firsts)

unfoldable pub noted : (trail : Table) → (number place : ℕ) → Firsts → Firsts
unfolding noted_under
noted trail number place firsts =
    when (ltb number max_items)
    (λ _. noted_under (get_or (get_or trail number []) 1 0) (record { number = number; place = place }) firsts)
    (λ _. firsts)

-- What follows an item that was read, with the place behind it; the rows as they are where none was.
abbrev pub behind : Firsts → (ℕ → Firsts) → Result (Found Item) → Firsts
behind firsts rest (Ok f) = rest f.next
behind firsts rest (Err r) = firsts

-- So many items from this number and this place on are noted.
unfoldable pub firsts_from : Header → (recorded : List ℕ) → (trail : Table) → (left number place : ℕ) → Firsts → Firsts
unfolding noted
firsts_from h recorded trail zero number place firsts = firsts
firsts_from h recorded trail (suc left) number place firsts =
    behind firsts (λ next. firsts_from h recorded trail left (number + 1) next (noted trail number place firsts)) (read_item h recorded place)

unfoldable pub first_items : Header → (recorded : List ℕ) → (trail : Table) → (items : ℕ) → Firsts
unfolding firsts_from
first_items h recorded trail items = firsts_from h recorded trail items 0 first_item no_firsts

-- A group's first item, read again at the place that its row gives.
abbrev pub read_again : (number : ℕ) → Result (Found Item) → Option First
read_again number (Ok f) = Some (record { item = f.value; number = number })
read_again number (Err r) = None

abbrev pub row_again : Header → (recorded : List ℕ) → Option Noted → Option First
row_again h recorded (Some item) = read_again item.number (read_item h recorded item.place)
row_again h recorded None = None

unfoldable pub first_of : Header → (recorded : List ℕ) → Firsts → (group : ℕ) → Option First
first_of h recorded firsts group = row_again h recorded (noted_at firsts group)
