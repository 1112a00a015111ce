-- For a header that a program has, the table that is read is the definition's start. The definition finds a list of readings for each rank, one for
-- each of its A cells; the table has them in its first rows, filled up with 0.
use Rattle.model.specs.declared.Found.{Found}
use Prim.Native.Nat.{ℕ, zero, suc, ◌+◌, ◌-◌, ◌^◌, ◌≤◌, ◌<◌}
use mathlib.Core.Path.{◌≡◌, refl, sym, ap, ◌∙◌}
use mathlib.Core.List.{List, [], ◌∷◌, ◌++◌, map}
use native.Mathlib.Nat.{zero-add}
use native.Mathlib.Omega.{arith}
use lib.Dec.{ltb, eqb}
use lib.ListN.{length, get_or, replicate, length-append, length-map, length-replicate, get_or-map}
use lib.Seq.{set_at, append_snoc}
use borrow.Author.Tests.{ltb-true, lt-ltb, ne_eqb}
use Rattle.model.specs.declared.Header.{Header}
use Rattle.model.specs.Limits.{max_ranks, max_cells, max_value, map_size}
use Rattle.model.specs.Refusals as Refusals
use Rattle.model.specs.Refusals.{Result, Ok, Err, refuse, start_form}
use Rattle.model.specs.Choice.{when, numbers_from, Each, all, one}
use Rattle.model.specs.Bytes.{found, big_endian, times, whole}
use Rattle.model.specs.Marked.{read_marked}
use Rattle.model.specs.Programs.{HeaderFits}
use Rattle.model.specs.Machine.{Start, zero_start}
use Rattle.model.specs.StartBytes.{start_map, rank_reader, start_reader, start_of, read_start}
use Rattle.model.proofs.Laws.{decided}
use Rattle.model.proofs.Bytes.{Finds, finds_anything, finds_bind, finds_times, finds_counted, finds_weaker, judged_ok}
use Rattle.memory.specs.Tables.{Table, zeros, cells_size}
use Rattle.memory.specs.Made.{table_of}
use Rattle.memory.proofs.Filled.{numbers_length, list_of, table_is}
use Rattle.memory.proofs.Tied.{holds_zeros}
use Rattle.marked.specs.Reading.{values_at}
use Rattle.marked.proofs.Reading.{values_placed, marked_length}
use Rattle.start_cells.specs.Reading.{row_reader, with_row, rows_from, cells_read}

-- A rank's readings, filled up.
abbrev padded : List ℕ → List ℕ
padded readings = readings ++ replicate (max_cells - length readings) 0

-- What a list that is filled up holds.
padded_at : {A : Type 0} (d : A) (l : List A) (n i : ℕ) → get_or (l ++ replicate n d) i d ≡ get_or l i d
padded_at d [] zero i = refl
padded_at d [] (suc n) zero = refl
padded_at d [] (suc n) (suc i) = padded_at d [] n i
padded_at d (x ∷ l) n zero = refl
padded_at d (x ∷ l) n (suc i) = padded_at d l n i

padded_length : {A : Type 0} (d : A) (l : List A) (limit : ℕ) → length l ≤ limit → length (l ++ replicate (limit - length l) d) ≡ limit
padded_length d l limit few =
    length-append l (replicate (limit - length l) d) ∙ ap (λ n. length l + n) (length-replicate (limit - length l) d) ∙ omega arith

-- A row reads as the definition's reader of a rank.
module _ (cells : ℕ) (few : cells ≤ max_cells) (bytes : List ℕ) where
  abbrev padding : Result (Found (List ℕ)) → Result (Found (List ℕ))
  padding m = Refusals.◌>>=◌ m (λ f. found (padded f.value) f.next)

  pub rank_length_lem : Finds bytes (rank_reader cells) (λ l. length l ≡ cells)
  unfolding rank_reader
  rank_length_lem =
      finds_bind (finds_anything (start_map cells)) λ map _.
      finds_weaker (marked_length 0 max_value start_form map (numbers_from 0 cells)) λ l e. e ∙ numbers_length 0 cells

  row_padded : (at : ℕ) → row_reader cells bytes at ≡ padding (rank_reader cells bytes at)
  unfolding row_reader rank_reader
  row_padded at = go (start_map cells bytes at) (λ f h. ltb-true f.value (2 ^ cells) (judged_ok (λ map. ltb map (2 ^ cells)) start_form (big_endian start_form map_size 0) bytes at h).1)
    where
      filled : (m : Result (Found (List ℕ))) → ((f : Found (List ℕ)) → m ≡ Ok f → length f.value ≡ cells) →
          Refusals.◌>>=◌ m (λ f. found (f.value ++ replicate (max_cells - cells) 0) f.next) ≡ padding m
      filled (Ok f) long = ap (λ n. found (f.value ++ replicate (max_cells - n) 0) f.next) (sym (long f refl))
      filled (Err r) long = refl

      go : (m : Result (Found ℕ)) → ((f : Found ℕ) → m ≡ Ok f → f.value < 2 ^ cells) →
          Refusals.◌>>=◌ m (λ f. values_at max_value start_form f.value bytes f.next)
          ≡ padding (Refusals.◌>>=◌ m (λ f. read_marked 0 max_value start_form f.value (numbers_from 0 cells) bytes f.next))
      go (Ok f) small =
          values_placed 0 max_value start_form f.value bytes cells few (small f refl) f.next
          ∙ filled (read_marked 0 max_value start_form f.value (numbers_from 0 cells) bytes f.next)
          (λ g h. (marked_length 0 max_value start_form f.value (numbers_from 0 cells)).holds f.next g h ∙ numbers_length 0 cells)
      go (Err r) small = refl

  -- The rows from one on, behind those that are done.
  abbrev joined : (done : Table) → (left : ℕ) → (new : List (List ℕ)) → Table
  joined done left new = done ++ (map padded new ++ replicate left (padded []))

  abbrev placing : (done : Table) → (left : ℕ) → Result (Found (List (List ℕ))) → Result (Found Table)
  placing done left m = Refusals.◌>>=◌ m (λ f. found (joined done left f.value) f.next)

  rows_placed : (count left row : ℕ) (done : Table) (at : ℕ) → length done ≡ row → row + (count + left) ≡ max_ranks →
      rows_from cells count row (done ++ replicate (count + left) (padded [])) bytes at ≡ placing done left (times count (rank_reader cells) bytes at)
  unfolding rows_from times
  rows_placed zero left row done at long all_rows = rw (zero-add left)
  rows_placed (suc count) left row done at long all_rows =
      rw (row_padded at)
      (go (λ values next. rows_placed count left (row + 1) (done ++ padded values ∷ []) next (later values) (omega arith)) (rank_reader cells bytes at))
    where
      later : (values : List ℕ) → length (done ++ padded values ∷ []) ≡ row + 1
      later values = length-append done (padded values ∷ []) ∙ ap (λ n. n + 1) long

      kept : (values : List ℕ) → with_row (done ++ replicate (suc count + left) (padded [])) row (padded values)
          ≡ (done ++ padded values ∷ []) ++ replicate (count + left) (padded [])
      kept values =
          let e : suc count + left ≡ suc (count + left) = omega arith in
          rw (lt-ltb row max_ranks (omega arith), e)
          (set_at done (padded []) (replicate (count + left) (padded [])) (padded values) row long ∙ sym (append_snoc done (padded values) (replicate (count + left) (padded []))))

      behind : (values : List ℕ) (m : Result (Found (List (List ℕ)))) →
          placing (done ++ padded values ∷ []) left m ≡ placing done left (Refusals.◌>>=◌ m (λ f. found (values ∷ f.value) f.next))
      behind values (Ok f) = ap (λ l. found l f.next) (append_snoc done (padded values) (map padded f.value ++ replicate left (padded [])))
      behind values (Err r) = refl

      go : ((values : List ℕ) (next : ℕ) →
          rows_from cells count (row + 1) ((done ++ padded values ∷ []) ++ replicate (count + left) (padded [])) bytes next
          ≡ placing (done ++ padded values ∷ []) left (times count (rank_reader cells) bytes next)) →
          (m : Result (Found (List ℕ))) →
          Refusals.◌>>=◌ (padding m)
          (λ f. rows_from cells count (row + 1) (with_row (done ++ replicate (suc count + left) (padded [])) row f.value) bytes f.next)
          ≡ placing done left
          (Refusals.◌>>=◌ m
          (λ a. Refusals.◌>>=◌ (times count (rank_reader cells) bytes a.next) (λ rest. found (a.value ∷ rest.value) rest.next)))
      go further (Ok f) =
          ap (λ table. rows_from cells count (row + 1) table bytes f.next) (kept f.value)
          ∙ further f.value f.next
          ∙ behind f.value (times count (rank_reader cells) bytes f.next)
      go further (Err r) = refl

-- The rows, filled up, are the table of the start.
row_made : (readings : List ℕ) → length readings ≤ max_cells → padded readings ≡ map (λ cell. get_or readings cell 0) (numbers_from 0 max_cells)
row_made readings few =
    list_of (λ cell. get_or readings cell 0) 0 max_cells 0 (padded readings) (padded_length 0 readings max_cells few)
    (λ i below. padded_at 0 readings (max_cells - length readings) i ∙ ap (λ n. get_or readings n 0) (sym (zero-add i)))

rank_few : {readings : List (List ℕ)} → Each (λ l. length l ≤ max_cells) readings → (row : ℕ) → length (get_or readings row []) ≤ max_cells
rank_few all row = omega arith
rank_few (one few rest) zero = few
rank_few (one few rest) (suc row) = rank_few rest row

table_made : (readings : List (List ℕ)) → length readings ≤ max_ranks → Each (λ l. length l ≤ max_cells) readings →
    map padded readings ++ replicate (max_ranks - length readings) (padded []) ≡ table_of cells_size (start_of readings)
unfolding start_of
table_made readings few each =
    let e : length (map padded readings) ≡ length readings = length-map readings padded in
    list_of _ 1 max_ranks (padded []) _
    (ap (λ n. length (map padded readings ++ replicate (max_ranks - n) (padded []))) (sym e)
    ∙ padded_length (padded []) (map padded readings) max_ranks (rw e few))
    (λ row below.
    let next : 1 + row ≡ suc row = omega arith in
    padded_at (padded []) (map padded readings) (max_ranks - length readings) row
    ∙ get_or-map padded readings row []
    ∙ row_made (get_or readings row []) (rank_few each row)
    ∙ ap (λ rank. map (start_of readings rank) (numbers_from 0 max_cells)) (sym next))

-- What is read for a header that a program has.
module _ (header : Header) (fits : HeaderFits header) where
  abbrev pub tabled : Result Start → Result Table
  tabled m = Refusals.◌>>=◌ m (λ readings. Ok (table_of cells_size readings))

  zero_table : zeros cells_size ≡ table_of cells_size zero_start
  unfolding zero_start
  zero_table = table_is cells_size zero_start (zeros cells_size) (holds_zeros cells_size)

  -- The rows of all ranks, as many as the definition's lists.
  all_rows : (bytes : List ℕ) →
      rows_from header.cells header.ranks 0 (zeros cells_size) bytes 0
      ≡ placing header.cells fits.cells_fit bytes [] (max_ranks - header.ranks) (times header.ranks (rank_reader header.cells) bytes 0)
  all_rows bytes =
      let e : header.ranks + (max_ranks - header.ranks) ≡ max_ranks = omega (arith, fits.ranks_fit) in
      ap (λ n. rows_from header.cells header.ranks 0 (replicate n (padded [])) bytes 0) (sym e)
      ∙ rows_placed header.cells fits.cells_fit bytes header.ranks (max_ranks - header.ranks) 0 [] 0 refl (zero-add _ ∙ e)

  record Listed (readings : List (List ℕ)) : Type 0 where
    counted : length readings ≡ header.ranks
    each : Each (λ l. length l ≤ max_cells) readings

  listed : (bytes : List ℕ) → Finds bytes (times header.ranks (rank_reader header.cells)) Listed
  listed bytes =
      let short : Finds bytes (rank_reader header.cells) (λ l. length l ≤ max_cells) =
      finds_weaker (rank_length_lem header.cells fits.cells_fit bytes) λ l e. rw e fits.cells_fit in
      record {
        holds = λ at f h.
            record {
              counted = (finds_counted header.ranks (rank_reader header.cells)).holds at f h;
              each = (finds_times header.ranks short).holds at f h;
            };
      }

  some_read : (bytes : List ℕ) →
      whole start_form (rows_from header.cells header.ranks 0 (zeros cells_size)) bytes
      ≡ Refusals.◌>>=◌ (whole start_form (start_reader header) bytes) (λ readings. Ok (table_of cells_size (start_of readings)))
  unfolding whole start_reader
  some_read bytes =
      ap (λ m. Refusals.◌>>=◌ m (ended bytes)) (all_rows bytes)
      ∙ go (times header.ranks (rank_reader header.cells) bytes 0) (λ f h. (listed bytes).holds 0 f h)
    where
      ended : {A : Type 0} → List ℕ → Found A → Result A
      ended bytes f = when (eqb f.next (length bytes)) (λ _. Ok f.value) (λ _. refuse start_form f.next)

      go : (m : Result (Found (List (List ℕ)))) → ((f : Found (List (List ℕ))) → m ≡ Ok f → Listed f.value) →
          Refusals.◌>>=◌ (placing header.cells fits.cells_fit bytes [] (max_ranks - header.ranks) m) (ended bytes)
          ≡ Refusals.◌>>=◌ (Refusals.◌>>=◌ m (ended bytes)) (λ readings. Ok (table_of cells_size (start_of readings)))
      go (Ok f) is =
          let l = is f refl in
          let few : length f.value ≤ max_ranks = rw l.counted fits.ranks_fit in
          let made =
          ap (λ n. map padded f.value ++ replicate (max_ranks - n) (padded [])) (sym l.counted) ∙ table_made f.value few l.each in
          decided (eqb f.next (length bytes)) (λ t. rw t (ap Ok made)) (λ t. rw t)
      go (Err r) is = refl

  pub cells_read_lem : (bytes : List ℕ) → cells_read header bytes ≡ tabled (read_start header bytes)
  unfolding cells_read read_start
  cells_read_lem [] = ap Ok zero_table
  cells_read_lem (first ∷ rest) =
      ap (λ t. when t (λ _. Ok (zeros cells_size)) (λ _. whole start_form (rows_from header.cells header.ranks 0 (zeros cells_size)) (first ∷ rest)))
      (ne_eqb (length (first ∷ rest)) 0 (λ e. omega (arith, e)))
      ∙ some_read (first ∷ rest)
      ∙ joined_twice (whole start_form (start_reader header) (first ∷ rest))
    where
      joined_twice : (m : Result (List (List ℕ))) →
          Refusals.◌>>=◌ m (λ readings. Ok (table_of cells_size (start_of readings))) ≡ tabled (Refusals.◌>>=◌ m (λ readings. Ok (start_of readings)))
      joined_twice (Ok readings) = refl
      joined_twice (Err r) = refl
