-- Cell lists: the start that one says, rank by rank, and the entries that its bytes are.
use Prim.Native.Nat.{ℕ, zero, suc, ◌+◌, ◌*◌, ◌/◌, ◌≤◌, ◌<◌}
use mathlib.Core.Path.{◌≡◌, refl, sym, ap, ap₂, ◌∙◌}
use mathlib.Core.List.{List, [], ◌∷◌, ◌++◌, map, append_assoc}
use native.Mathlib.Nat.{mul-le-mul_right, suc-mul, zero-mul, zero-add}
use native.Mathlib.Numerals.{add-one}
use native.Mathlib.Omega.{arith}
use lib.Arith.{digits_div, digits_mod}
use lib.Dec.{ltb}
use lib.ListN.{length, get_or, take, drop, length-map, length-drop, get_or-append, get_or-eq_default}
use lib.Seq.{take-add, length-take-le, get_or-take, get_or-drop, get_or-append-add}
use borrow.Author.Tests.{ltb-true, ltb-false}
use Rattle.model.specs.Limits.{max_value, byte_values}
use Rattle.model.specs.Choice.{numbers_from}
use Rattle.model.specs.Bytes.{AreBytes}
use Rattle.model.specs.StartBytes.{listed_start}
use Rattle.model.specs.Checks.{rank_by_rank, entry_bytes, two_by_two}
use Rattle.model.proofs.Laws.{decided}
use Rattle.model.proofs.Entries.{two_length}
use Rattle.memory.proofs.Filled.{numbers_length, numbers_at, list_of}
use Rattle.lists.proofs.Ranks.{rank_more, rank_none, rank_length_lem}
use Rattle.starts.specs.Writing.{row_in}
use Rattle.starts.specs.Claims.{AreWords}

-- What a list says of a rank's cells is that part of it.
pub row_at : (width : ℕ) (list : List ℕ) (row cell : ℕ) → cell < width → get_or (row_in width list row) cell 0 ≡ get_or list (row * width + cell) 0
row_at width list row cell few = get_or-take width (drop (row * width) list) cell 0 few ∙ get_or-drop (row * width) list cell 0

pub row_length : (ranks width : ℕ) (list : List ℕ) → ranks * width ≤ length list → (row : ℕ) → row < ranks → length (row_in width list row) ≡ width
row_length ranks width list room row more =
    let last : suc row * width ≤ ranks * width = mul-le-mul_right width more in
    length-take-le width (drop (row * width) list) (omega (arith, length-drop (row * width) list, suc-mul row width))

-- The start of a list, listed again.
pub listed_again : (ranks width : ℕ) (list : List ℕ) → ranks * width ≤ length list →
    rank_by_rank ranks width (listed_start width list) ≡ take (ranks * width) list
unfolding listed_start
listed_again zero width list room = rank_none width (listed_start width list) ∙ ap (λ n. take n list) (sym (zero-mul width))
listed_again (suc ranks) width list room =
    let f = listed_start width list in
    let all = suc-mul ranks width in
    let e : 1 + ranks ≡ suc ranks = omega arith in
    let row : row_in width list ranks ≡ map (f (1 + ranks)) (numbers_from 0 width) =
    list_of (f (1 + ranks)) 0 width 0 (row_in width list ranks) (row_length (suc ranks) width list room ranks (omega arith))
    (λ cell few. let z : 0 + cell ≡ cell = omega arith in row_at width list ranks cell few ∙ ap₂ f (sym e) (sym z)) in
    ap (λ n. rank_by_rank n width f) (sym (add-one ranks))
    ∙ rank_more width f ranks
    ∙ ap₂ ◌++◌ (listed_again ranks width list (omega (arith, all))) (sym row)
    ∙ sym (take-add (ranks * width) width list)
    ∙ ap (λ n. take n list) (sym all)

-- The start of a list that a function of ranks and cells fills.
listed_at : (width : ℕ) (f : ℕ → ℕ → ℕ) (rest : List ℕ) (ranks row cell : ℕ) → row < ranks → cell < width →
    get_or (rank_by_rank ranks width f ++ rest) (row * width + cell) 0 ≡ f (suc row) cell
listed_at width f rest zero row cell more few = absurd (omega arith)
listed_at width f rest (suc ranks) row cell more few =
    let before = rank_by_rank ranks width f in
    let last = map (f (1 + ranks)) (numbers_from 0 width) in
    let split : rank_by_rank (suc ranks) width f ++ rest ≡ before ++ (last ++ rest) =
    ap (λ n. rank_by_rank n width f ++ rest) (sym (add-one ranks)) ∙ ap (λ l. l ++ rest) (rank_more width f ranks) ∙ append_assoc before last rest in
    ap (λ l. get_or l (row * width + cell) 0) split
    ∙ decided (ltb row ranks)
    (λ t.
    let inside : suc row * width ≤ ranks * width = mul-le-mul_right width (ltb-true row ranks t) in
    let place : row * width + cell < length before = rw (rank_length_lem width f ranks) (omega (arith, suc-mul row width)) in
    get_or-append before (last ++ rest) 0 (row * width + cell) place
    ∙ sym (get_or-append before rest 0 (row * width + cell) place)
    ∙ listed_at width f rest ranks row cell (ltb-true row ranks t) few)
    (λ t.
    let e : row ≡ ranks = omega (arith, ltb-false row ranks t) in
    let s : 1 + ranks ≡ suc ranks = omega arith in
    let z : 0 + cell ≡ cell = omega arith in
    let wide : length last ≡ width = length-map (numbers_from 0 width) (f (1 + ranks)) ∙ numbers_length 0 width in
    ap (λ n. get_or (before ++ (last ++ rest)) (n + cell) 0) (ap (λ r. r * width) e ∙ sym (rank_length_lem width f ranks))
    ∙ get_or-append-add before (last ++ rest) cell 0
    ∙ get_or-append last rest 0 cell (rw wide few)
    ∙ numbers_at (f (1 + ranks)) 0 width cell 0 few
    ∙ ap₂ f (s ∙ ap suc (sym e)) z)

pub listed_cells : (ranks width : ℕ) (f : ℕ → ℕ → ℕ) (rest : List ℕ) (rank cell : ℕ) → 1 ≤ rank → rank ≤ ranks → cell < width →
    listed_start width (rank_by_rank ranks width f ++ rest) rank cell ≡ f rank cell
unfolding listed_start
listed_cells ranks width f rest zero cell low high few = absurd (omega arith)
listed_cells ranks width f rest (suc row) cell low high few = listed_at width f rest ranks row cell high few

-- Its readings are 16-bit numbers.
pub listed_few : (width : ℕ) (list : List ℕ) → AreWords list → (rank cell : ℕ) → listed_start width list rank cell ≤ max_value
unfolding listed_start
listed_few width list words zero cell = omega arith
listed_few width list words (suc row) cell = omega (arith, words (row * width + cell))

-- The entries of a list of bytes.
pub two_words : (bytes : List ℕ) → AreBytes bytes → AreWords (two_by_two bytes)
unfolding two_by_two
two_words [] bound i = omega arith
two_words (odd ∷ []) bound i = omega arith
two_words (high ∷ low ∷ rest) bound zero = omega (arith, bound 0, bound 1)
two_words (high ∷ low ∷ rest) bound (suc i) = two_words rest (λ j. bound (suc (suc j))) i

pub two_bytes : (count : ℕ) (bytes : List ℕ) → AreBytes bytes → count ≤ length bytes / 2 →
    entry_bytes (take count (two_by_two bytes)) ≡ take (2 * count) bytes
unfolding two_by_two entry_bytes
two_bytes zero bytes bound room = refl
two_bytes (suc count) [] bound room = absurd (omega arith)
two_bytes (suc count) (odd ∷ []) bound room = absurd (omega arith)
two_bytes (suc count) (high ∷ low ∷ rest) bound room =
    let twice : 2 * suc count ≡ suc (suc (2 * count)) = omega arith in
    rw (twice, digits_div high (bound 1), digits_mod high (bound 1))
    (ap {B = List ℕ} (λ l. high ∷ low ∷ l) (two_bytes count rest (λ i. bound (suc (suc i))) (omega arith)))

-- An entry is two bytes, the high one first, and 0 beyond the last.
pub two_at : (bytes : List ℕ) (i : ℕ) → i < length bytes / 2 →
    get_or (two_by_two bytes) i 0 ≡ get_or bytes (2 * i) 0 * byte_values + get_or bytes (2 * i + 1) 0
unfolding two_by_two
two_at [] i below = absurd (omega arith)
two_at (odd ∷ []) i below = absurd (omega arith)
two_at (high ∷ low ∷ rest) zero below = refl
two_at (high ∷ low ∷ rest) (suc i) below =
    let twice : 2 * suc i ≡ suc (suc (2 * i)) = omega arith in
    let after : 2 * suc i + 1 ≡ suc (suc (2 * i + 1)) = omega arith in
    rw (after, twice) (two_at rest i (omega arith))

pub two_beyond : (bytes : List ℕ) (i : ℕ) → length bytes / 2 ≤ i → get_or (two_by_two bytes) i 0 ≡ 0
two_beyond bytes i beyond = get_or-eq_default (two_by_two bytes) 0 (rw (two_length bytes) beyond)

pub two_from : (bytes : List ℕ) (i : ℕ) {x : ℕ} → x ≡ get_or (two_by_two bytes) i 0 → x ≡ get_or (two_by_two bytes) (0 + i) 0
two_from bytes i e = e ∙ ap (λ n. get_or (two_by_two bytes) n 0) (sym (zero-add i))
