-- Start bytes: how far their reader looks, where it places its faults, and that what it reads fits sixteen bits.
use Prim.Native.Nat.{ℕ, zero, suc, ◌+◌, ◌-◌, ◌*◌, ◌^◌, ◌≤◌, ◌<◌}
use mathlib.Core.Path.{◌≡◌, refl, ap}
use mathlib.Core.Bool.{Bool, true, false}
use mathlib.Core.List.{List, [], ◌∷◌}
use native.Mathlib.Nat.{mul-le-mul}
use native.Mathlib.Omega.{arith}
use lib.Dec.{ltb}
use lib.ListN.{get_or, take}
use Rattle.model.specs.declared.Header.{Header}
use Rattle.model.specs.Limits.{map_size, max_ranks, max_cells, max_value, word_values}
use Rattle.model.specs.Refusals as Refusals
use Rattle.model.specs.Refusals.{Ok, start_form}
use Rattle.model.specs.Choice.{bit, between, numbers_from, Each, all, one}
use Rattle.model.specs.Bytes.{big_endian, word, judged, optional, whole}
use Rattle.model.specs.Marked.{read_marked}
use Rattle.model.specs.Programs.{HeaderFits}
use Rattle.model.specs.Machine.{Start, zero_start}
use Rattle.model.specs.StartBytes.{start_map, rank_reader, start_reader, start_of, read_start}
use Rattle.model.proofs.Laws.{between_true, bind_ok, ok_injective}
use Rattle.model.proofs.Bytes.{Finds, finds_anything, finds_bind, finds_pure, finds_judged, finds_weaker, finds_times, whole_finds}
use Rattle.model.proofs.Places.{Placed, placed_ok, placed_bind}
use Rattle.model.proofs.Allowances.{Takes, takes_less, takes_pure, takes_bind, takes_byte, takes_word, takes_tested, takes_optional, cost, takes_times, whole_of_start, whole_placed}
use Rattle.sizes.specs.Sizes.{max_start_bytes}

-- The map, then two bytes for each cell at most.
big_takes : (size high left : ℕ) {from : ℕ} → Takes from (left + size) (λ _. left) (big_endian start_form size high)
unfolding big_endian
big_takes zero high left = takes_pure high (omega arith)
big_takes (suc size) high left =
    takes_bind (takes_byte start_form (left + size) (omega arith)) λ low. big_takes size _ left

cost_few : (present : Bool) (left n : ℕ) → left + cost present n ≤ left + n
cost_few true left n = omega arith
cost_few false left n = omega arith

marked_takes : (map first count : ℕ) {from : ℕ} →
    Takes from (2 * count) (λ _. 0) (read_marked 0 max_value start_form map (numbers_from first count))
unfolding read_marked numbers_from
marked_takes map first zero = takes_pure [] (omega arith)
marked_takes map first (suc count) =
    let few = cost_few (bit (first - 0) map) (2 * count) 2 in
    takes_less {spared = λ _. 0}
    (takes_bind
    (takes_optional (bit (first - 0) map) 0 2 (takes_tested (between 1 max_value) start_form (takes_word start_form (2 * count) (omega arith))))
    λ value.
    takes_bind (marked_takes map (first + 1) count) λ rest.
    takes_pure _ (omega arith)) (omega (arith, few)) (λ _. omega arith)

-- What a rank's readings take at most.
abbrev pub rank_size : (cells : ℕ) → ℕ
rank_size cells = 2 * cells + map_size

rank_takes : (cells : ℕ) {from : ℕ} → Takes from (rank_size cells) (λ _. 0) (rank_reader cells)
unfolding rank_reader start_map
rank_takes cells =
    takes_bind (takes_tested (λ map. ltb map (2 ^ cells)) start_form (big_takes map_size 0 (2 * cells))) λ map. marked_takes map 0 cells

-- All ranks of a machine that a program may have.
module _ (header : Header) (fits : HeaderFits header) where
  pub ranks_size : header.ranks * rank_size header.cells ≤ max_start_bytes
  ranks_size =
      let few : rank_size header.cells ≤ rank_size max_cells = omega (arith, fits.cells_fit) in
      let most : header.ranks * rank_size header.cells ≤ max_ranks * rank_size max_cells = mul-le-mul fits.ranks_fit few in
      omega (arith, most)

  start_takes : Takes 0 max_start_bytes (λ _. 0) (start_reader header)
  unfolding start_reader
  start_takes =
      takes_less {spared = λ _. 0} (takes_times header.ranks (rank_size header.cells) (rank_takes header.cells)) ranks_size
      (λ _. omega arith)

  pub the_same_start : (start : List ℕ) → read_start header (take (suc max_start_bytes) start) ≡ read_start header start
  unfolding read_start
  the_same_start [] = refl
  the_same_start (first ∷ rest) =
      ap (λ m. Refusals.◌>>=◌ m (λ readings. Ok (start_of readings))) (whole_of_start start_form max_start_bytes start_takes (first ∷ rest))

  pub start_placed : (start : List ℕ) → Placed max_start_bytes (read_start header start)
  unfolding read_start
  start_placed [] = placed_ok _
  start_placed (first ∷ rest) =
      placed_bind (whole_placed start_form max_start_bytes start_takes (first ∷ rest)) λ readings _. placed_ok _

-- Readings are 16-bit numbers.
abbrev Fits : ℕ → Type 0
Fits v = v < word_values

each_get : {A : Type 0} {Holds : A → Type 0} {l : List A} (d : A) → Each Holds l → Holds d → (i : ℕ) → Holds (get_or l i d)
each_get d all last i = last
each_get d (one holds rest) last zero = holds
each_get d (one holds rest) last (suc i) = each_get d rest last i

value_fits : {bytes : List ℕ} (present : Bool) → Finds bytes (optional present 0 (judged (between 1 max_value) start_form (word start_form))) Fits
value_fits true =
    finds_weaker (finds_judged (between 1 max_value) start_form (word start_form)) λ v test. omega (arith, (between_true 1 max_value v test).high)
value_fits false = finds_pure 0 (omega arith)

marked_fit : {bytes : List ℕ} (map : ℕ) (numbers : List ℕ) → Finds bytes (read_marked 0 max_value start_form map numbers) (Each Fits)
unfolding read_marked
marked_fit map [] = finds_pure [] all
marked_fit map (n ∷ numbers) =
    finds_bind (value_fits (bit (n - 0) map)) λ value fits.
    finds_bind (marked_fit map numbers) λ rest others.
    finds_pure (value ∷ rest) (one fits others)

rank_fits : {bytes : List ℕ} (cells : ℕ) → Finds bytes (rank_reader cells) (Each Fits)
unfolding rank_reader
rank_fits cells = finds_bind (finds_anything (start_map cells)) λ map _. marked_fit map (numbers_from 0 cells)

start_fits : (readings : List (List ℕ)) → Each (Each Fits) readings → (rank cell : ℕ) → Fits (start_of readings rank cell)
unfolding start_of
start_fits readings fit zero cell = omega arith
start_fits readings fit (suc row) cell = each_get 0 (each_get [] fit all row) (omega arith) cell

pub readings_fit : (header : Header) (start : List ℕ) {readings : Start} → read_start header start ≡ Ok readings → (rank cell : ℕ) → Fits (readings rank cell)
unfolding read_start start_reader zero_start
readings_fit header [] h rank cell = rw (← (ok_injective h)) (omega arith)
readings_fit header (first ∷ rest) h rank cell =
    let bytes = first ∷ rest in
    let (found, read, is) = bind_ok (whole start_form (start_reader header) bytes) _ h in
    let fit =
    whole_finds start_form (start_reader header) bytes (Each (Each Fits)) (finds_times header.ranks (rank_fits header.cells)) read in
    rw (← (ok_injective is)) (start_fits found fit rank cell)
