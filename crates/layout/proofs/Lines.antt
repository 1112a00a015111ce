-- The lines that the code makes, case by case.
use Prim.Native.Nat.{ℕ, ◌+◌, ◌<◌, min}
use mathlib.Core.Path.{◌≡◌}
use mathlib.Core.List.{List, [], ◌∷◌, map}
use native.Mathlib.Omega.{arith}
use lib.ListN.{take, get_or}
use lib.Seq.{get_or-take}
use Rattle.model.specs.declared.Header.{Header}
use Rattle.model.specs.Limits.{max_items}
use Rattle.model.specs.Choice.{numbers_from}
use Rattle.memory.specs.Tables.{Table}
use Rattle.model.specs.declared.Verdict as model
use Rattle.first_items.specs.Firsts.{Firsts}
use Rattle.layout.specs.declared.line.Line.TheVariants.{Verdict}
use Rattle.layout.specs.Laid.{Laid, lay_out, LaysOut}
use Rattle.layout.specs.Lines.{bytes_of, group_line_on, group_lines_on, groups_told}
use Rattle.layout.specs.Lines.{cell_line_on, rank_lines_on, cell_lines_on, text_lines}
use Rattle.layout.proofs.Laid.{laid_all, lines_left, all_lines, ranks_left, all_ranks}

-- The lines of a list's groups.
abbrev pub group_bytes : (groups : List ℕ) → Header → (recorded : List ℕ) → (firsts : Firsts) → (i : ℕ) → List ℕ
group_bytes groups header recorded firsts i = bytes_of (group_line_on header recorded firsts (get_or groups i 0))

pub groups_start : (groups : List ℕ) (count : ℕ) (header : Header) (recorded : List ℕ) (firsts : Firsts) {last : ℕ} → last ≡ min count max_items →
    group_lines_on groups count header recorded firsts ≡ lines_left (group_bytes groups header recorded firsts) last 0
unfolding group_lines_on
groups_start groups count header recorded firsts {last} e = rw (← e) (all_lines (group_bytes groups header recorded firsts) last)

-- The lines of a rank's cells, and of all ranks.
abbrev pub cell_bytes : Table → (rank cell : ℕ) → List ℕ
cell_bytes cells rank cell = bytes_of (cell_line_on cells rank cell)

pub rank_start : (cells : Table) (rank width : ℕ) → rank_lines_on cells rank width ≡ lines_left (cell_bytes cells rank) width 0
unfolding rank_lines_on
rank_start cells rank width = all_lines (cell_bytes cells rank) width

pub cells_start : (cells : Table) (ranks width : ℕ) → cell_lines_on cells ranks width ≡ ranks_left width (cell_bytes cells) ranks 0
unfolding cell_lines_on
cells_start cells ranks width = all_ranks width (cell_bytes cells) ranks

pub rank_next : (cells : Table) (done width : ℕ) → rank_lines_on cells (done + 1) width ≡ map (cell_bytes cells (1 + done)) (numbers_from 0 width)
unfolding rank_lines_on
rank_next cells done width = let e : done + 1 ≡ 1 + done = omega arith in rw e

-- The whole text.
pub text_laid : (verdict : model.Verdict) (groups : List ℕ) (recorded : List ℕ) (header : Header) (firsts : Firsts) (cells : Table) {m n k : ℕ}
    {start s s' end : Laid} → LaysOut (bytes_of (Verdict verdict) ∷ []) m start s →
    LaysOut (group_lines_on groups (groups_told verdict) header recorded firsts) n s s' → LaysOut (cell_lines_on cells header.ranks header.cells) k s' end →
    end ≡ lay_out (text_lines verdict groups recorded header firsts cells) start
unfolding text_lines
text_laid verdict groups recorded header firsts cells p q r = laid_all p q r

-- The next of a list's first groups.
pub next_group : (groups : List ℕ) {told : List ℕ} (last : ℕ) {i : ℕ} → told ≡ take last groups → i < last → get_or told i 0 ≡ get_or groups i 0
next_group groups last {i} first more = rw first (get_or-take last groups i 0 more)
