-- Values read by a map's bits, lowest first, each into the entry of its bit.
use Rattle.std.specs.Prelude.{ℕ, List, [], ◌∷◌, set}
use Rattle.model.specs.Choice.{between}
use Rattle.model.specs.Bytes.{Reader, ◌>>=◌, pure, word, judged}
use Rattle.marked.specs.Maps.{bits_of, no_values}

-- A value, 1 to `most`.
abbrev pub value_reader : (most fault : ℕ) → Reader ℕ
value_reader most fault = judged (between 1 most) fault (word fault)

-- A value for each of these bits.
unfoldable pub read_bits : (most fault : ℕ) → (bits values : List ℕ) → Reader (List ℕ)
read_bits most fault [] values = pure values
read_bits most fault (i ∷ bits) values = value_reader most fault >>= (λ value. read_bits most fault bits (set values i value))

unfoldable pub values_at : (most fault map : ℕ) → Reader (List ℕ)
values_at most fault map = read_bits most fault (bits_of map) no_values
