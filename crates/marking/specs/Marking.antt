-- A list of values, entry i for bit i of a map: the map of those that are not 0, and the values that a map marks.
use Rattle.std.specs.Prelude.{ℕ, List, map as List·map, get_or}
use Rattle.model.specs.Choice.{numbers_from}
use Rattle.model.specs.Marked.{marked_map}
use Rattle.marked.specs.Maps.{map_bits, bits_of}

-- A bit's value; what the list does not have is 0.
abbrev pub value_in : (values : List ℕ) → (i : ℕ) → ℕ
value_in values i = get_or values i 0

unfoldable pub map_of : (values : List ℕ) → ℕ
map_of values = marked_map 0 (value_in values) (numbers_from 0 map_bits)

-- The values of a map's bits, bits rising.
unfoldable pub values_of : (map : ℕ) → (values : List ℕ) → List ℕ
values_of map values = List·map (value_in values) (bits_of map)
