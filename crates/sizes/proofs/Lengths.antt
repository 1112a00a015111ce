-- How long the lines of a listing are: a number below a power of ten has so many digits, and a line is its words with a byte behind each. The lines
-- of one kind together are at most as long as the longest of them, times their number.
use Prim.Native.Nat.{ℕ, zero, suc, ◌+◌, ◌*◌, ◌<◌, ◌≤◌}
use mathlib.Core.Path.{◌≡◌, refl}
use mathlib.Core.Bool.{Bool, true, false}
use mathlib.Core.List.{List, [], ◌∷◌, ◌++◌, map}
use native.Mathlib.Nat.{mul-le-mul, mul-le-mul_right}
use native.Mathlib.Omega.{arith}
use lib.Dec.{eqb}
use lib.ListN.{length, length-append}
use Rattle.model.specs.declared.Kind.{Kind}
use Rattle.model.specs.declared.Refusal.{Refusal}
use Rattle.model.specs.Limits.{max_ranks, max_cells, max_items, word_values}
use Rattle.model.specs.Choice.{when, numbers_from}
use Rattle.model.specs.ItemKinds.{is_bar}
use Rattle.model.specs.Replay.{Event}
use Rattle.model.specs.Orders.{Verdict, ordered, cyclic}
use Rattle.model.specs.HappensBefore.{At, rank_of}
use Rattle.model.specs.Checks.{for_each_rank, rank_by_rank}
use Rattle.model.specs.Listings.{decimal, line, line_feed, space, group_word, cell_word, refused_word, kind_word, verdict_word}
use Rattle.model.specs.Listings.{group_line, group_lines, cell_line, join, refused_line}
use Rattle.model.specs.Lists.{◌∈◌}
use Rattle.model.proofs.Laws.{decided}
use Rattle.model.proofs.Listings.{decimal_short, kind_short}
use Rattle.model.proofs.Lists.{here, there}
use Rattle.sizes.specs.Sizes.{max_verdict_line, max_group_line, max_cell_line}
use Rattle.sizes.proofs.Refusals.{RefusalFits}

-- The words of a line, each with the byte behind it.
abbrev spaced : List (List ℕ) → ℕ
spaced [] = 0
spaced (field ∷ fields) = length field + 1 + spaced fields

line_length : (word : List ℕ) (fields : List (List ℕ)) → length (line word fields) ≡ length word + 1 + spaced fields
unfolding line
line_length word [] = omega (arith, length-append word (line_feed ∷ []))
line_length word (field ∷ fields) = omega (arith, length-append word (space ∷ line field fields), line_length field fields)

-- `order 1024`.
word_short : (v : Verdict) → length (verdict_word v) ≤ 5
word_short (ordered groups) = omega arith
word_short (cyclic groups) = omega arith

pub verdict_line_short : (v : Verdict) (count : ℕ) → count ≤ max_items → length (line (verdict_word v) (decimal count ∷ [])) ≤ max_verdict_line
verdict_line_short v count few =
    omega (arith, line_length (verdict_word v) (decimal count ∷ []), word_short v, decimal_short 3 count (omega (arith, few)))

-- `group 1023 assign 16 1023`.
rank_short : (bar : Bool) (rank : ℕ) → rank ≤ max_ranks → length (decimal (when bar (λ _. 0) (λ _. rank))) ≤ 2
rank_short true rank low = decimal_short 1 0 (omega arith)
rank_short false rank low = decimal_short 1 rank (omega (arith, low))

-- Every event is of a rank that a program can have.
abbrev pub RanksFit : List Event → Type 0
RanksFit events = (i : ℕ) (e : Event) → At events i e → rank_of e ≤ max_ranks

group_line_short : (g at : ℕ) (events : List Event) → g < max_items → at + length events ≤ max_items → RanksFit events →
    length (group_line g at events) ≤ max_group_line
unfolding group_line
group_line_short g at [] low few ranks = omega arith
group_line_short g at (e ∷ events) low few ranks =
    let kind : Kind = e.item.kind in
    let rank : ℕ = when (is_bar kind) (λ _. 0) (λ _. rank_of e) in
    decided (eqb e.group g)
    (λ t.
    rw t
    (omega (
      arith,
      line_length group_word (decimal g ∷ kind_word kind ∷ decimal rank ∷ decimal at ∷ []),
      decimal_short 3 g (omega arith),
      kind_short kind,
      rank_short (is_bar kind) (rank_of e) (ranks 0 e refl),
      decimal_short 3 at (omega arith),
    )))
    (λ t. rw t (group_line_short g (at + 1) events low (omega arith) (λ i x at. ranks (suc i) x at)))

pub group_lines_short : (groups : List ℕ) (events : List Event) → ((g : ℕ) → g ∈ groups → g < max_items) → length events ≤ max_items →
    RanksFit events → length (group_lines groups events) ≤ length groups * max_group_line
unfolding group_lines
group_lines_short [] events low few ranks = omega arith
group_lines_short (g ∷ groups) events low few ranks =
    omega (
      arith,
      length-append (group_line g 0 events) (group_lines groups events),
      group_line_short g 0 events (low g (here refl)) (omega arith) ranks,
      group_lines_short groups events (λ h m. low h (there m)) few ranks,
    )

-- `cell 16 63 65535`.
cell_line_short : (cells : ℕ → ℕ → ℕ) (r a : ℕ) → r ≤ max_ranks → a < max_cells → cells r a < word_values → length (cell_line cells r a) ≤ max_cell_line
unfolding cell_line
cell_line_short cells r a rank cell fits =
    decided (eqb (cells r a) 0) (λ t. rw t (omega arith))
    (λ t.
    rw t
    (omega (
      arith,
      line_length cell_word (decimal r ∷ decimal a ∷ decimal (cells r a) ∷ []),
      decimal_short 1 r (omega arith),
      decimal_short 1 a (omega arith),
      decimal_short 4 (cells r a) (omega arith),
    )))

-- Lines that are at most so long, of the numbers of a rank and then of all ranks.
module _ (most : ℕ) (f : ℕ → ℕ → List ℕ) where
  row_short : (r first count : ℕ) (rest : List (List ℕ)) → ((i : ℕ) → i < first + count → length (f r i) ≤ most) →
      length (join (map (f r) (numbers_from first count) ++ rest)) ≤ count * most + length (join rest)
  unfolding join numbers_from
  row_short r first zero rest short = omega arith
  row_short r first (suc count) rest short =
      omega (
        arith,
        length-append (f r first) (join (map (f r) (numbers_from (first + 1) count) ++ rest)),
        short first (omega arith),
        row_short r (first + 1) count rest (λ i low. short i (omega arith)),
      )

  ranks_short : (first ranks count : ℕ) → ((r i : ℕ) → r < first + ranks → i < count → length (f r i) ≤ most) →
      length (join (for_each_rank count f (numbers_from first ranks))) ≤ ranks * (count * most)
  unfolding join numbers_from for_each_rank
  ranks_short first zero count short = omega arith
  ranks_short first (suc ranks) count short =
      omega (
        arith,
        row_short first 0 count (for_each_rank count f (numbers_from (first + 1) ranks)) (λ i low. short first i (omega arith) (omega arith)),
        ranks_short (first + 1) ranks count (λ r i rank low. short r i (omega arith) low),
      )

pub cell_lines_short : (ranks width : ℕ) (cells : ℕ → ℕ → ℕ) → ranks ≤ max_ranks → width ≤ max_cells → ((r a : ℕ) → cells r a < word_values) →
    length (join (rank_by_rank ranks width (cell_line cells))) ≤ max_ranks * max_cells * max_cell_line
unfolding rank_by_rank
cell_lines_short ranks width cells few narrow fits =
    omega (
      arith,
      ranks_short max_cell_line (cell_line cells) 1 ranks width (λ r a rank cell. cell_line_short cells r a (omega arith) (omega arith) (fits r a)),
      mul-le-mul few (mul-le-mul_right max_cell_line narrow),
    )

-- `refused 15 51208`.
pub refused_line_short : (r : Refusal) → RefusalFits r → length (refused_line r) ≤ 17
unfolding refused_line
refused_line_short r fits =
    omega (
      arith,
      line_length refused_word (decimal r.number ∷ decimal r.place ∷ []),
      decimal_short 1 r.number (omega (arith, fits.number)),
      decimal_short 4 r.place (omega (arith, fits.place)),
    )
