-- The lines of a listing, by the arrays that the code has.
use Rattle.std.specs.Prelude.{ℕ, ◌≤◌, min, ◌≡◌, List, Option, Some, None, Ok, [], ◌∷◌, ◌++◌, map, eqb, length, get_or}
use Rattle.model.specs.declared.Header.{Header}
use Rattle.model.specs.declared.Item.{Item}
use Rattle.model.specs.Limits.{max_items}
use Rattle.model.specs.Choice.{when, numbers_from}
use Rattle.model.specs.ItemKinds.{is_bar}
use Rattle.model.specs.Checks.{rank_by_rank}
use Rattle.memory.specs.Tables.{Table, cells_size, number_at}
use Rattle.model.specs.declared.Verdict as model
use Rattle.model.specs.declared.Verdict.TheVariants.{Order, Ring}
use Rattle.lines.specs.Lines.{answer_line, group_entry, cell_entry}
use Rattle.first_items.specs.declared.First.{First}
use Rattle.first_items.specs.Firsts.{Firsts, first_of}
use Rattle.layout.specs.declared.line.Line.{Line}
use Rattle.layout.specs.declared.line.Line.TheVariants.{Verdict, Group, Cell, Nothing}

-- A line's bytes.
unfoldable pub bytes_of : Line → List ℕ
bytes_of (Verdict verdict) = answer_line (Ok verdict)
bytes_of (Group group kind rank first) = group_entry group kind rank first
bytes_of (Cell rank cell value) = cell_entry rank cell value
bytes_of Nothing = []

-- No line has more bytes than this; the places of a text are far below where a sum would wrap.
abbrev pub longest : ℕ
longest = 128

abbrev pub groups_long : ℕ
groups_long = 131_072

abbrev pub rank_long : ℕ
rank_long = 8_388_608

abbrev pub cells_long : ℕ
cells_long = 549_755_813_888

abbrev pub farthest : ℕ
farthest = 1_000_000_000_000

-- A line's length.
pub record Measures (line : Line) (r : ℕ) : Type 0 where
  pub is : r ≡ length (bytes_of line)
  pub few : r ≤ longest

-- "rank (0 for a barrier)"
unfoldable pub rank_shown : Item → ℕ
rank_shown i = when (is_bar i.kind) (λ _. 0) (λ _. i.rank)

-- A group's line, by its first item.
abbrev pub first_line : (group : ℕ) → Option First → Line
first_line group None = Nothing
first_line group (Some first) = Group group first.item.kind (rank_shown first.item) first.number

unfoldable pub group_line_on : Header → (recorded : List ℕ) → Firsts → (group : ℕ) → Line
group_line_on header recorded firsts group = first_line group (first_of header recorded firsts group)

-- The lines of the first `count` groups of a list.
unfoldable pub group_lines_on : (groups : List ℕ) → (count : ℕ) → Header → (recorded : List ℕ) → Firsts → List (List ℕ)
group_lines_on groups count header recorded firsts =
    map (λ i. bytes_of (group_line_on header recorded firsts (get_or groups i 0))) (numbers_from 0 (min count max_items))

-- A cell's line; none where it is 0. The lines of one rank, and of all ranks.
unfoldable pub cell_line_on : Table → (rank cell : ℕ) → Line
cell_line_on cells rank cell =
    when (eqb (number_at cells_size cells rank cell) 0) (λ _. Nothing) (λ _. Cell rank cell (number_at cells_size cells rank cell))

unfoldable pub rank_lines_on : Table → (rank width : ℕ) → List (List ℕ)
rank_lines_on cells rank width = map (λ cell. bytes_of (cell_line_on cells rank cell)) (numbers_from 0 width)

unfoldable pub cell_lines_on : Table → (ranks width : ℕ) → List (List ℕ)
cell_lines_on cells ranks width = rank_by_rank ranks width (λ rank cell. bytes_of (cell_line_on cells rank cell))

-- How many groups an order or a ring has.
abbrev pub groups_told : model.Verdict → ℕ
groups_told (Order count) = count
groups_told (Ring count) = count

-- The whole text: the verdict's line, those of its groups, those of the cells.
unfoldable pub text_lines : model.Verdict → (groups : List ℕ) → (recorded : List ℕ) → Header → Firsts → (cells : Table) → List (List ℕ)
text_lines verdict groups recorded header firsts cells =
    bytes_of (Verdict verdict) ∷
    (group_lines_on groups (groups_told verdict) header recorded firsts ++ cell_lines_on cells header.ranks header.cells)
