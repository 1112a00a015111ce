-- Values that a map marks, as a slip has counts of ranks and a start readings of cells. A bit of the map stands for each number with a value, bit 0
-- for the first number, and the values follow in two bytes each, numbers rising. A number without a bit has the value 0.
use Rattle.std.specs.Prelude.{ℕ, ◌+◌, ◌-◌, ◌^◌, List, [], ◌∷◌, ◌++◌, ltb}
use Rattle.model.specs.Choice.{when, bit, between}
use Rattle.model.specs.Bytes.{Reader, ◌>>=◌, pure, word, word_bytes, judged, optional}

-- The map of those numbers whose value is not 0.
unfoldable pub marked_map : (first : ℕ) → (value : ℕ → ℕ) → List ℕ → ℕ
marked_map first value [] = 0
marked_map first value (n ∷ numbers) = when (ltb 0 (value n)) (λ _. 2 ^ (n - first)) (λ _. 0) + marked_map first value numbers

-- Their values, written.
unfoldable pub marked_bytes : (value : ℕ → ℕ) → List ℕ → List ℕ
marked_bytes value [] = []
marked_bytes value (n ∷ numbers) = when (ltb 0 (value n)) (λ _. word_bytes (value n)) (λ _. []) ++ marked_bytes value numbers

-- The values of all numbers, read by a map: a marked one is 1 to `most`, and `fault` is the number of the refusal, also where a byte is missing.
unfoldable pub read_marked : (first most fault map : ℕ) → List ℕ → Reader (List ℕ)
unfolding word judged
read_marked first most fault map [] = pure []
read_marked first most fault map (n ∷ numbers) = do
  value ← optional (bit (n - first) map) 0 (judged (between 1 most) fault (word fault))
  rest ← read_marked first most fault map numbers
  pure (value ∷ rest)
