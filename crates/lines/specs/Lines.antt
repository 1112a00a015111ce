-- What is told of a line's length, and the lines of a listing, by what each is written from.
use Rattle.model.specs.Checks.{Answer}
use Rattle.model.specs.declared.Verdict.TheVariants.{Order, Ring}
use Rattle.std.specs.Prelude.{ℕ, ◌+◌, ◌*◌, ◌≤◌, min, ◌≡◌, List, [], ◌∷◌, map, length, Ok, Err}
use Rattle.model.specs.declared.Kind.{Kind}
use Rattle.model.specs.Listings.{line, decimal, order_word, ring_word, group_word, cell_word, kind_word, refused_line}

-- The largest number of sixty-four bits: no memory has so many bytes.
abbrev pub largest : ℕ
largest = 18_446_744_073_709_551_615

-- What is told of the length of a line of a word and numbers: the largest number stands for all that is longer. A number takes a space and at most
-- twenty digits.
pub record LengthTold (word numbers : List ℕ) (r : ℕ) : Type 0 where
  pub is : r ≡ min (length (line word (map decimal numbers))) largest
  pub short : length (line word (map decimal numbers)) ≤ length word + 1 + 21 * length numbers

-- "`order` and `ring` carry the count"; "`refused` carries number and place"
unfoldable pub answer_line : Answer → List ℕ
unfolding line decimal refused_line
answer_line (Ok (Order count)) = line order_word (decimal count ∷ [])
answer_line (Ok (Ring count)) = line ring_word (decimal count ∷ [])
answer_line (Err refusal) = refused_line refusal

-- "`group`, number, kind word, rank (0 for a barrier), first item"
unfoldable pub group_entry : (group : ℕ) → Kind → (rank first : ℕ) → List ℕ
unfolding line decimal
group_entry group kind rank first = line group_word (decimal group ∷ kind_word kind ∷ decimal rank ∷ decimal first ∷ [])

-- "`cell`, rank, cell, value"
unfoldable pub cell_entry : (rank cell value : ℕ) → List ℕ
unfolding line decimal
cell_entry rank cell value = line cell_word (decimal rank ∷ decimal cell ∷ decimal value ∷ [])
