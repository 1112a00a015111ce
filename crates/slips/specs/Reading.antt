-- The slip read by its map's bits, lowest first, into a value for each bit that a map may have.
use Rattle.std.specs.Prelude.{ℕ, ◌^◌, List, ltb}
use Rattle.model.specs.Limits.{max_items}
use Rattle.model.specs.Refusals.{slip_form}
use Rattle.model.specs.Bytes.{Reader, ◌>>=◌, judged}
use Rattle.model.specs.Slips.{map_field}
use Rattle.marked.specs.Reading.{values_at}

-- "a bit for a rank above N is 16 at byte 0"
abbrev pub map_reader : (ranks : ℕ) → Reader ℕ
map_reader ranks = judged (λ map. ltb map (2 ^ ranks)) slip_form (map_field ranks)

-- "a count of 0 or above 1,024, a missing byte .. is 16 there"
unfoldable pub counts_reader : (ranks : ℕ) → Reader (List ℕ)
counts_reader ranks = map_reader ranks >>= (λ map. values_at max_items slip_form map)
