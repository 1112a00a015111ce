-- What is written behind what is filled is filled too. From this alone follow a whole list at the front, and cells rank after rank. The forms of a lent
-- list are numbers and bytes.
use Rattle.std.specs.Prelude.{flat_map, true, false}
use Prim.Native.Nat.{ℕ, zero, suc, ◌+◌, ◌*◌, ◌/◌, ◌%◌, ◌≤◌, ◌<◌}
use mathlib.Core.Path.{◌≡◌, refl, sym, ap, ◌∙◌}
use mathlib.Core.List.{List, [], ◌∷◌, ◌++◌, map}
use native.Mathlib.Nat.{mul-add, mul-div-le, mul-le-mul_left, mul-le-mul_right, suc-mul, min-le_left}
use native.Mathlib.Numerals.{add-one}
use native.Mathlib.Omega.{arith}
use lib.ListN.{length, take, drop, get_or, length-append, length-drop, length-take}
use lib.Seq.{paste, length-take-le, get_or-take, take-append_seam, take_all, drop-append-add, drop-drop}
use Rattle.std.proofs.lemmas.List.Concat.{flat_map-append}
use Rattle.model.specs.Bytes.{word_bytes}
use Rattle.model.specs.Limits.{max_ranks, max_cells, byte_values}
use Rattle.model.specs.Choice.{numbers_from}
use Rattle.model.specs.Checks.{fill, entry_bytes}
use Rattle.memory.specs.Tables.{Table, cells_size, number_at}
use Rattle.memory.proofs.Tables.{number_inside}
use Rattle.memory.proofs.Filled.{list_of, number_row_lem}
use Rattle.model.proofs.Laws.{when_true, when_false}
use Rattle.lists.specs.Written.{itself, entries_written, cells_fit, cell_entries_written, cells_listed, CellsFit}
use Rattle.lists.proofs.Room.{true_fits}
use Rattle.lists.proofs.Entries.{elements_length}
use Rattle.lists.proofs.Ranks.{rank_more, rank_none, rank_length_lem}

pub fill_length : {A : Type 0} (new old : List A) → length new ≤ length old → length (fill new old) ≡ length old
unfolding fill
fill_length new old h = simp (length-append, length-drop) (omega arith)

-- What is pasted right behind what is filled is filled too.
pub paste_fill : {A : Type 0} (new old numbers : List A) (count : ℕ) → count ≤ length numbers →
    paste (fill new old) (length new) numbers count ≡ fill (new ++ take count numbers) old
unfolding fill
paste_fill {A} new old numbers count enough =
    let rest : List A = drop (length new) old in
    let size : length (new ++ take count numbers) ≡ length new + count =
    length-append new (take count numbers) ∙ ap (λ n. length new + n) (length-take-le count numbers enough) in
    rw (size, take-append_seam new rest, drop-append-add new rest count, drop-drop count (length new) old)

module _ {A : Type 0} (width : ℕ) (shown : ℕ → List A) (wide : (n : ℕ) → length (shown n) ≡ width) where
  abbrev all : List ℕ → List A
  all = flat_map shown

  pub written_further : (new : List ℕ) (old : List A) (numbers : List ℕ) (count : ℕ) → count ≤ length numbers → length new + count ≤ length old / width →
      entries_written width shown (fill (all new) old) (length new) numbers count ≡ fill (all (new ++ take count numbers)) old
  unfolding entries_written
  written_further new old numbers count enough inside =
      let front = elements_length width shown wide new in
      let room : width * (length new + count) ≤ width * (length old / width) = mul-le-mul_left width inside in
      let few : length (all new) ≤ length old = omega (arith, front, room, mul-add width (length new) count, mul-div-le (length old) width) in
      let long : length (all (take count numbers)) ≡ width * count =
      elements_length width shown wide (take count numbers) ∙ ap (λ n. width * n) (length-take-le count numbers enough) in
      rw (fill_length (all new) old few, true_fits (length old / width) (length new) (length numbers) count enough inside, ← front)
      (paste_fill (all new) old (all (take count numbers)) (width * count) (omega (arith, long))
      ∙ ap (λ l. fill (all new ++ l) old) (take_all (width * count) (all (take count numbers)) (omega (arith, long)))
      ∙ ap (λ l. fill l old) (sym (flat_map-append shown new (take count numbers))))

  -- Numbers that fill the front of an array, written to the front of a list.
  pub filled_written : (numbers : List ℕ) (list : List A) (rest : List ℕ) (count : ℕ) → count ≡ length numbers → length numbers ≤ length list / width →
      entries_written width shown list 0 (fill numbers rest) count ≡ fill (all numbers) list
  unfolding fill
  filled_written numbers list rest count e room =
      let enough : length numbers ≤ length (fill numbers rest) = simp (length-append, length-drop) (omega arith) in
      rw e
      (written_further [] list (fill numbers rest) (length numbers) enough (omega arith)
      ∙ ap (λ l. fill (all l) list) (take-append_seam numbers (drop (length numbers) rest)))

-- A list into which the cells of so many of the ranks are written.
pub record Listing {A : Type 0} (width : ℕ) (shown : ℕ → List A) (old : List A) (cells : Table) (ranks count row : ℕ) (now : List A) : Type 0 where
  pub fit : CellsFit (length old / width) ranks count
  pub within : row ≤ ranks
  pub made : now ≡ fill (flat_map shown (cells_listed cells row count)) old

-- The cells of a row of the table are those of its rank.
row_cells : (cells : Table) (count row : ℕ) → row < max_ranks → count ≤ max_cells → length (get_or cells row []) ≡ max_cells →
    take count (get_or cells row []) ≡ map (number_at cells_size cells (1 + row)) (numbers_from 0 count)
row_cells cells count row few narrow wide =
    list_of (number_at cells_size cells (1 + row)) 0 count 0 (take count (get_or cells row []))
    (length-take-le count (get_or cells row []) (omega arith))
    (λ i b.
    let z : 0 + i ≡ i = omega arith in
    get_or-take count (get_or cells row []) i 0 b
    ∙ number_inside cells_size cells (1 + row) row (sym (number_row_lem max_ranks row few)) i few (omega arith)
    ∙ ap (number_at cells_size cells (1 + row)) (sym z))

module _ {A : Type 0} (width : ℕ) (shown : ℕ → List A) (wide : (n : ℕ) → length (shown n) ≡ width) (old : List A) (cells : Table)
    (ranks count : ℕ) where
  pub listing_none : CellsFit (length old / width) ranks count → Listing width shown old cells ranks count 0 old
  unfolding fill
  listing_none fit =
      record {
        fit = fit;
        within = omega arith;
        made = sym (ap (λ l. fill (flat_map shown l) old) (rank_none count (number_at cells_size cells)));
      }

  pub listing_more : {row : ℕ} {now : List A} → Listing width shown old cells ranks count row now → row < length (take ranks cells) →
      length (get_or (take ranks cells) row []) ≡ max_cells →
      (after : List A) → after ≡ entries_written width shown now (row * count) (get_or (take ranks cells) row []) count →
      Listing width shown old cells ranks count (row + 1) after
  listing_more {row} {now} so_far next taken after e =
      let more : row < ranks = omega (arith, length-take ranks cells, min-le_left ranks (length cells)) in
      let same = get_or-take ranks cells row [] more in
      let long : length (get_or cells row []) ≡ max_cells = ap length (sym same) ∙ taken in
      let f = number_at cells_size cells in
      let few : row < max_ranks = omega (arith, so_far.fit.few_ranks) in
      let enough : count ≤ length (get_or cells row []) = omega (arith, so_far.fit.few_cells) in
      let last : (row + 1) * count ≤ ranks * count = mul-le-mul_right count (omega arith) in
      let inside : length (cells_listed cells row count) + count ≤ length old / width =
      rw (rank_length_lem count f row) (omega (arith, so_far.fit.room, suc-mul row count, add-one row)) in
      record {
        fit = so_far.fit;
        within = omega arith;
        made =
            e
            ∙ ap (λ l. entries_written width shown now (row * count) l count) same
            ∙ rw (so_far.made, ← rank_length_lem count f row)
            (written_further width shown wide (cells_listed cells row count) old (get_or cells row []) count enough inside
            ∙ ap (λ l. fill (flat_map shown l) old)
            (ap (λ l. cells_listed cells row count ++ l) (row_cells cells count row few so_far.fit.few_cells long) ∙ sym (rank_more count f row)));
      }

module _ {A : Type 0} (width : ℕ) (shown : ℕ → List A) (old : List A) (cells : Table) (ranks count : ℕ) where
  pub listing_all : {row : ℕ} {now : List A} → Listing width shown old cells ranks count row now → ranks ≤ row →
      now ≡ fill (flat_map shown (cells_listed cells ranks count)) old
  listing_all {row} so_far h =
      let e : row ≡ ranks = omega (arith, so_far.within) in
      so_far.made ∙ ap (λ n. fill (flat_map shown (cells_listed cells n count)) old) e

-- An entry of numbers is the number itself, and one of bytes is two.
pub numbers_themselves : (numbers : List ℕ) → flat_map itself numbers ≡ numbers
numbers_themselves [] = refl
numbers_themselves (n ∷ numbers) = ap (λ l. n ∷ l) (numbers_themselves numbers)

pub numbers_as_words : (numbers : List ℕ) → flat_map word_bytes numbers ≡ entry_bytes numbers
unfolding entry_bytes
numbers_as_words [] = refl
numbers_as_words (n ∷ numbers) = ap (λ l. word_bytes n ++ l) (numbers_as_words numbers)

pub entry_none : entry_bytes [] ≡ []
unfolding entry_bytes
entry_none = refl

pub entry_length : (numbers : List ℕ) → length (entry_bytes numbers) ≡ 2 * length numbers
unfolding entry_bytes
entry_length [] = refl
entry_length (n ∷ numbers) = omega (arith, entry_length numbers)

twice_more : (i : ℕ) → 2 * suc i ≡ suc (suc (2 * i))
twice_more i = omega arith

pub entry_take : (count : ℕ) (numbers : List ℕ) → take (2 * count) (entry_bytes numbers) ≡ entry_bytes (take count numbers)
unfolding entry_bytes
entry_take zero numbers = refl
entry_take (suc count) [] = rw (twice_more count)
entry_take (suc count) (n ∷ numbers) = rw (twice_more count) (ap (λ l. n / byte_values ∷ n % byte_values ∷ l) (entry_take count numbers))

-- The high byte stands before the low one.
pub entry_high : (numbers : List ℕ) (i : ℕ) → get_or (entry_bytes numbers) (2 * i) 0 ≡ get_or numbers i 0 / byte_values
unfolding entry_bytes
entry_high [] i = refl
entry_high (n ∷ numbers) zero = refl
entry_high (n ∷ numbers) (suc i) = rw (twice_more i) (entry_high numbers i)

pub entry_low : (numbers : List ℕ) (i : ℕ) → get_or (entry_bytes numbers) (2 * i + 1) 0 ≡ get_or numbers i 0 % byte_values
unfolding entry_bytes
entry_low [] i = refl
entry_low (n ∷ numbers) zero = refl
entry_low (n ∷ numbers) (suc i) =
    let e : 2 * suc i + 1 ≡ suc (suc (2 * i + 1)) = omega arith in
    rw e (entry_low numbers i)

-- A form: how entries stand in a list, and for how many a list has room.
pub record Form : Type 0 where
  pub shown : List ℕ → List ℕ
  pub entries : List ℕ → ℕ
  pub none : shown [] ≡ []

abbrev pub as_numbers : Form
as_numbers = record { shown = λ l. l; entries = length; none = refl }

abbrev pub as_words : Form
as_words = record { shown = entry_bytes; entries = λ bytes. length bytes / 2; none = entry_none }

-- Cells, and where they are none.
module _ {A : Type 0} {width own : ℕ} (is : width ≡ own) (shown : ℕ → List A) (list : List A) (cells : Table) (ranks count : ℕ) where
  pub no_cells : cells_fit (length list / width) ranks count ≡ false → list ≡ cell_entries_written own shown list cells ranks count
  unfolding cell_entries_written
  no_cells short = sym (when_false _ _ (rw is at short))

  pub all_cells : cells_fit (length list / width) ranks count ≡ true → {now : List A} {row : ℕ} →
      Listing own shown list cells ranks count row now → length cells ≡ max_ranks → length (take ranks cells) ≤ row →
      now ≡ cell_entries_written own shown list cells ranks count
  unfolding cell_entries_written
  all_cells fit {row = row} so_far long done =
      let all : ranks ≤ row = omega (arith, so_far.fit.few_ranks, long, length-take-le ranks cells (omega (arith, so_far.fit.few_ranks, long))) in
      listing_all own shown list cells ranks count so_far all ∙ sym (when_true _ _ (rw is at fit))
