-- The lines that the code makes for a run that tells its groups are the definition's lines of the run's events and of its last cells.
use Rattle.std.specs.Prelude.{Some, slice_get}
use Prim.Native.Nat.{ℕ, zero, suc, ◌+◌, ◌≤◌, ◌<◌}
use mathlib.Core.Path.{◌≡◌, refl, sym, ap, ap₂, ◌∙◌}
use mathlib.Core.List.{List, [], ◌∷◌, ◌++◌, map, map-id, append_assoc}
use native.Mathlib.Nat.{min-eq_left}
use native.Mathlib.Omega.{arith}
use lib.Dec.{eqb}
use lib.ListN.{length, get_or, replicate}
use Rattle.model.specs.declared.Header.{Header}
use Rattle.model.specs.Limits.{max_items, max_ranks, max_cells}
use Rattle.model.specs.Choice.{numbers_from}
use Rattle.model.specs.Replay.{Event}
use Rattle.model.specs.Orders.{Verdict, ordered, cyclic}
use Rattle.model.specs.Checks.{fill, listed, counted, answered, for_each_rank, rank_by_rank}
use Rattle.model.specs.Listings.{decimal, line, group_line, group_lines, cell_line, join, verdict_word}
use Rattle.model.proofs.Laws.{decided}
use Rattle.memory.specs.Tables.{Table, cells_size, number_at}
use Rattle.memory.specs.Made.{table_of}
use Rattle.memory.proofs.Filled.{made_holds}
use Rattle.graph.specs.Edges.{group_list}
use Rattle.graph.proofs.Edges.{read_each, filled_at}
use Rattle.lines.specs.Lines.{answer_line, group_entry, cell_entry}
use Rattle.first_items.specs.Firsts.{Firsts, first_in, first_of}
use Rattle.layout.specs.Lines.{bytes_of, groups_told, rank_shown, first_line, group_line_on, group_lines_on, cell_line_on, cell_lines_on}

-- The line of a verdict's answer.
pub verdict_line : (v : Verdict) → answer_line (answered v) ≡ line (verdict_word v) (decimal (length (listed v)) ∷ [])
unfolding answer_line
verdict_line (ordered groups) = refl
verdict_line (cyclic groups) = refl

-- It counts the groups that are listed.
pub groups_counted : (v : Verdict) → groups_told (counted v) ≡ length (listed v)
groups_counted (ordered groups) = refl
groups_counted (cyclic groups) = refl

-- A group's line, by its first event.
first_bytes : (g at : ℕ) (events : List Event) → bytes_of (first_line g (first_in g at events)) ≡ group_line g at events
unfolding first_in group_line bytes_of group_entry rank_shown
first_bytes g at [] = refl
first_bytes g at (e ∷ events) = decided (eqb e.group g) (λ t. rw t) (λ t. rw t (first_bytes g (at + 1) events))

pub join_append : (a b : List (List ℕ)) → join (a ++ b) ≡ join a ++ join b
unfolding join
join_append [] b = refl
join_append (new ∷ a) b = ap (λ l. new ++ l) (join_append a b) ∙ sym (append_assoc new (join a) (join b))

join_groups : (groups : List ℕ) (events : List Event) → join (map (λ g. group_line g 0 events) groups) ≡ group_lines groups events
unfolding join group_lines
join_groups [] events = refl
join_groups (g ∷ groups) events = ap (λ l. group_line g 0 events ++ l) (join_groups groups events)

-- Entries of a list of groups.
listed_at : (l old : List ℕ) (i : ℕ) {g : ℕ} → slice_get l i ≡ Some g → get_or (fill l old) i 0 ≡ g
listed_at l old i at = ap (λ x. get_or (fill x old) i 0) (sym (map-id l)) ∙ filled_at (λ x. x) l old 0 i at

-- The lines of all groups, where each group's first item is the one of its first event.
pub groups_lines : (l : List ℕ) (header : Header) (recorded : List ℕ) (firsts : Firsts) (events : List Event) → length l ≤ max_items →
    ((i g : ℕ) → slice_get l i ≡ Some g → first_of header recorded firsts g ≡ first_in g 0 events) →
    join (group_lines_on (group_list l) (length l) header recorded firsts) ≡ group_lines l events
unfolding group_lines_on group_line_on
groups_lines l header recorded firsts events few same =
    ap join
    (ap (λ n. map (λ i. bytes_of (group_line_on header recorded firsts (get_or (group_list l) i 0))) (numbers_from 0 n)) (min-eq_left few)
    ∙ read_each (λ g. group_line g 0 events) (λ i. bytes_of (group_line_on header recorded firsts (get_or (group_list l) i 0))) 0 l
    (λ i g at.
    let z : 0 + i ≡ i = omega arith in
    ap (λ n. bytes_of (group_line_on header recorded firsts (get_or (group_list l) n 0))) z
    ∙ ap (λ n. bytes_of (group_line_on header recorded firsts n)) (listed_at l (replicate max_items 0) i at)
    ∙ ap (λ first. bytes_of (first_line g first)) (same i g at)
    ∙ first_bytes g 0 events))
    ∙ join_groups l events

-- A cell's line.
cell_bytes_lem : (cells : Table) (rank cell : ℕ) → bytes_of (cell_line_on cells rank cell) ≡ cell_line (number_at cells_size cells) rank cell
unfolding cell_line_on cell_line bytes_of cell_entry
cell_bytes_lem cells rank cell = decided (eqb (number_at cells_size cells rank cell) 0) (λ t. rw t) (λ t. rw t)

cell_same : (f g : ℕ → ℕ → ℕ) (rank cell : ℕ) → f rank cell ≡ g rank cell → cell_line f rank cell ≡ cell_line g rank cell
unfolding cell_line
cell_same f g rank cell e = rw e

-- Functions that agree on some ranks and on their numbers are listed alike.
numbers_same : {A : Type 0} (first count : ℕ) (f g : ℕ → A) → ((i : ℕ) → i < first + count → f i ≡ g i) →
    map f (numbers_from first count) ≡ map g (numbers_from first count)
unfolding numbers_from
numbers_same first zero f g same = refl
numbers_same first (suc count) f g same =
    ap₂ ◌∷◌ (same first (omega arith)) (numbers_same (first + 1) count f g (λ i h. same i (omega arith)))

ranks_same : {A : Type 0} (width first count : ℕ) (f g : ℕ → ℕ → A) →
    ((r i : ℕ) → first ≤ r → r < first + count → i < width → f r i ≡ g r i) →
    for_each_rank width f (numbers_from first count) ≡ for_each_rank width g (numbers_from first count)
unfolding numbers_from for_each_rank
ranks_same width first zero f g same = refl
ranks_same width first (suc count) f g same =
    ap₂ ◌++◌ (numbers_same 0 width (f first) (g first) (λ i h. same first i (omega arith) (omega arith) (omega arith)))
    (ranks_same width (first + 1) count f g (λ r i low high h. same r i (omega arith) (omega arith) h))

-- The lines of all cells, where a table holds the run's last ones.
pub cells_lines : (f : ℕ → ℕ → ℕ) (ranks width : ℕ) → ranks ≤ max_ranks → width ≤ max_cells →
    cell_lines_on (table_of cells_size f) ranks width ≡ rank_by_rank ranks width (cell_line f)
unfolding cell_lines_on rank_by_rank
cells_lines f ranks width few_ranks few_cells =
    ranks_same width 1 ranks (λ r a. bytes_of (cell_line_on (table_of cells_size f) r a)) (cell_line f)
    (λ r a low high few.
    cell_bytes_lem (table_of cells_size f) r a
    ∙ cell_same (number_at cells_size (table_of cells_size f)) f r a
    (sym ((made_holds cells_size f).same r a (record { first = low; last = omega arith }) (omega arith))))
