-- The slip of counts is read as those counts, and no other bytes are: so it is of values behind any map, and the map stands in its one byte or two.
use Rattle.model.specs.declared.Found.{Found}
use Prim.Native.Nat.{ℕ, suc, ◌+◌, ◌-◌, ◌^◌, ◌≤◌, ◌<◌}
use mathlib.Core.Path.{◌≡◌, refl, sym, ap, ap₂, ◌∙◌}
use mathlib.Core.List.{List, [], ◌++◌, map, append-nil}
use native.Mathlib.Omega.{arith}
use lib.Dec.{ltb}
use lib.ListN.{length, get_or, drop}
use lib.Seq.{drop-length}
use borrow.Author.Tests.{eq-eqb, lt-ltb}
use Rattle.model.specs.Limits.{byte_ranks, max_items}
use Rattle.model.specs.Refusals.{Ok, slip_form}
use Rattle.model.specs.Choice.{numbers_from}
use Rattle.model.specs.Bytes.{AreBytes, found, byte, word_bytes, judged, whole}
use Rattle.model.specs.Marked.{marked_bytes}
use Rattle.model.specs.Slips.{map_bytes, map_field, slip_reader}
use Rattle.model.proofs.Laws.{decided, bind_ok}
use Rattle.model.proofs.Bytes.{judged_ok, whole_ok, whole_finds}
use Rattle.model.proofs.Standing.{byte_stands, word_read, word_stands}
use Rattle.memory.proofs.Filled.{list_of}
use Rattle.marked.proofs.MarkedMaps.{map_to, map_fits}
use Rattle.marking.proofs.RoundTrip.{marked_reads, marked_told}
use Rattle.slips.specs.Writing.{map_length}
use Rattle.slips.specs.Reading.{map_reader}
use Rattle.slips.proofs.Reading.{map_small, slip_counts}

-- The slip of the ranks up to N.
abbrev pub slip_up_to : (f : ℕ → ℕ) → (ranks : ℕ) → List ℕ
slip_up_to f ranks = map_bytes ranks (map_to 1 f ranks) ++ marked_bytes f (numbers_from 1 ranks)

-- What is written is read back, first the map in its one byte or two.
module _ (ranks mapped : ℕ) (rest : List ℕ) where
  map_found : map_field ranks (map_bytes ranks mapped ++ rest) 0 ≡ found mapped (map_length ranks)
  unfolding map_field map_bytes byte
  map_found =
      decided (ltb byte_ranks ranks)
      (λ t. rw t (word_read slip_form (word_bytes mapped ++ rest) 0 mapped refl))
      (λ t. rw (t, lt-ltb 0 (suc (length rest)) (omega arith)))

  first_read : mapped < 2 ^ ranks → map_reader ranks (map_bytes ranks mapped ++ rest) 0 ≡ found mapped (map_length ranks)
  unfolding judged
  first_read small = rw (map_found, lt-ltb mapped (2 ^ ranks) small)

  behind_map : drop (map_length ranks) (map_bytes ranks mapped ++ rest) ≡ rest
  unfolding map_bytes
  behind_map = decided (ltb byte_ranks ranks) (λ t. rw t) (λ t. rw t)

  slip_end : map_length ranks + length rest ≡ length (map_bytes ranks mapped ++ rest)
  unfolding map_bytes
  slip_end = decided (ltb byte_ranks ranks) (λ t. rw t (omega arith)) (λ t. rw t (omega arith))

pub slip_reads : (f : ℕ → ℕ) → ((rank : ℕ) → f rank ≤ max_items) → (ranks : ℕ) →
    whole slip_form (slip_reader ranks) (slip_up_to f ranks) ≡ Ok (map f (numbers_from 1 ranks))
unfolding whole slip_reader
slip_reads f few ranks =
    let mapped = map_to 1 f ranks in
    let counts = marked_bytes f (numbers_from 1 ranks) in
    let behind = behind_map ranks mapped counts ∙ sym (append-nil counts) in
    let read = marked_reads f 1 max_items slip_form few (slip_up_to f ranks) ranks (map_length ranks) [] behind in
    rw (first_read ranks mapped counts (map_fits 1 f ranks), read, eq-eqb _ _ (slip_end ranks mapped counts))

-- A map that was read stands in its one byte or two.
map_stands : (ranks : ℕ) (slip : List ℕ) {m : Found ℕ} → AreBytes slip → map_field ranks slip 0 ≡ Ok m →
    slip ≡ map_bytes ranks m.value ++ drop m.next slip
unfolding map_field map_bytes
map_stands ranks slip bound h =
    decided (ltb byte_ranks ranks)
    (λ t. rw t (word_stands slip_form slip 0 bound (rw t at h)))
    (λ t. rw t (byte_stands slip_form slip 0 (rw t at h)).stands)

-- A rank's count in a list of counts, rank 1 first.
abbrev count_for : (counts : List ℕ) → (rank : ℕ) → ℕ
count_for counts rank = get_or counts (rank - 1) 0

listed_counts : (l : List ℕ) (ranks : ℕ) → length l ≡ ranks → l ≡ map (count_for l) (numbers_from 1 ranks)
listed_counts l ranks long =
    list_of (count_for l) 1 ranks 0 l long (λ row below. let e : 1 + row - 1 ≡ row = omega arith in ap (λ i. get_or l i 0) (sym e))

-- The bytes that are read as these counts.
slip_told : (ranks : ℕ) (slip : List ℕ) {l : List ℕ} → AreBytes slip → whole slip_form (slip_reader ranks) slip ≡ Ok l →
    slip ≡ slip_up_to (count_for l) ranks
unfolding slip_reader
slip_told ranks slip {l} bound h =
    let (m, first, rest) = bind_ok (map_reader ranks slip 0) _ (whole_ok slip_form (slip_reader ranks) slip h) in
    let (map_read_lem, _) = judged_ok (λ b. ltb b (2 ^ ranks)) slip_form (map_field ranks) slip 0 first in
    let long = whole_finds slip_form (slip_reader ranks) slip (λ l. length l ≡ ranks) (slip_counts ranks slip) h in
    let read = rest ∙ ap (λ counts. found counts (length slip)) (listed_counts l ranks long) in
    let told = marked_told (count_for l) 1 max_items slip_form slip bound m.value ranks m.next (length slip) (map_small ranks slip first) read in
    map_stands ranks slip bound map_read_lem
    ∙ ap₂ (λ x l. map_bytes ranks x ++ l) (sym told.mapped_is)
    (told.stands
    ∙ ap (λ l'. marked_bytes (count_for l) (numbers_from 1 ranks) ++ l') (drop-length slip)
    ∙ append-nil (marked_bytes (count_for l) (numbers_from 1 ranks)))

-- No other bytes are read as those counts.
pub slip_unique : (ranks : ℕ) (slip other : List ℕ) {l : List ℕ} → AreBytes slip → AreBytes other → whole slip_form (slip_reader ranks) slip ≡ Ok l →
    whole slip_form (slip_reader ranks) other ≡ Ok l → slip ≡ other
slip_unique ranks slip other bound bound' read read' = slip_told ranks slip bound read ∙ sym (slip_told ranks other bound' read')
