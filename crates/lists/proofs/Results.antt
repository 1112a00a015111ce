-- What the whole check's lists hold, where there is room: the groups, and the last cells.
use Prim.Native.Nat.{ℕ, ◌/◌, ◌≤◌}
use mathlib.Core.Path.{◌≡◌, refl, sym, ap, ◌∙◌}
use mathlib.Core.List.{List}
use native.Mathlib.Nat.{div-one}
use native.Mathlib.Omega.{arith}
use lib.ListN.{length}
use Rattle.model.specs.Limits.{max_ranks, max_cells}
use Rattle.model.specs.Checks.{fill, rank_by_rank, entry_bytes}
use Rattle.memory.specs.Tables.{Table, cells_size}
use Rattle.memory.specs.Tied.{Below}
use Rattle.model.specs.Bytes.{word_bytes}
use Rattle.model.proofs.Laws.{when_true}
use Rattle.lists.specs.Written.{itself, numbers_written, words_written, cell_entries_written, cells_written, cell_words_written, cells_listed, CellsFit}
use Rattle.lists.proofs.Room.{true_cells_fit}
use Rattle.lists.proofs.Ranks.{rank_same}
use Rattle.lists.proofs.Forms.{filled_written, numbers_themselves, numbers_as_words}

-- Groups that fill the front of an array, written to the front of a list.
pub groups_written : (groups list rest : List ℕ) (count : ℕ) → count ≡ length groups → length groups ≤ length list →
    numbers_written list 0 (fill groups rest) count ≡ fill groups list
groups_written groups list rest count e room =
    filled_written 1 itself (λ n. refl) groups list rest count e (omega arith) ∙ ap (λ l. fill l list) (numbers_themselves groups)

pub group_words_written : (groups bytes rest : List ℕ) (count : ℕ) → count ≡ length groups → length groups ≤ length bytes / 2 →
    words_written bytes 0 (fill groups rest) count ≡ fill (entry_bytes groups) bytes
group_words_written groups bytes rest count e room =
    filled_written 2 word_bytes (λ n. refl) groups bytes rest count e room ∙ ap (λ l. fill l bytes) (numbers_as_words groups)

-- Cells that hold a function of the ranks and their cells.
module _ (cells : Table) (f : ℕ → ℕ → ℕ) (held : Below cells_size cells f) (ranks width : ℕ) (few_ranks : ranks ≤ max_ranks)
    (few_cells : width ≤ max_cells) where
  pub cells_listed_lem : cells_listed cells ranks width ≡ rank_by_rank ranks width f
  cells_listed_lem =
      rank_same ranks width _ f (λ r i low high few. sym (held.same r i (record { first = low; last = omega arith }) (omega arith)))

-- The first cells of the first ranks, in either form, where there is room for them.
pub cells_written_lem : (list : List ℕ) (cells : Table) (ranks width : ℕ) → CellsFit (length list) ranks width →
    cells_written list cells ranks width ≡ fill (cells_listed cells ranks width) list
unfolding cell_entries_written
cells_written_lem list cells ranks width fit =
    let one : length list / 1 ≡ length list = div-one (length list) in
    when_true _ _ (true_cells_fit _ _ _ (rw one fit)) ∙ ap (λ l. fill l list) (numbers_themselves (cells_listed cells ranks width))

pub cell_words_written_lem : (bytes : List ℕ) (cells : Table) (ranks width : ℕ) → CellsFit (length bytes / 2) ranks width →
    cell_words_written bytes cells ranks width ≡ fill (entry_bytes (cells_listed cells ranks width)) bytes
unfolding cell_entries_written
cell_words_written_lem bytes cells ranks width fit =
    when_true _ _ (true_cells_fit _ _ _ fit) ∙ ap (λ l. fill l bytes) (numbers_as_words (cells_listed cells ranks width))
