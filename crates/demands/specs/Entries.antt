-- The entries of a lent list, as its caller reads them. Document 01 has a "lent 16-bit list"; for the recorder "both lists there are bytes, two an
-- entry, and an odd last byte is never used".
use Rattle.std.specs.Prelude.{ℕ, List, take}
use Rattle.model.specs.Checks.{two_by_two}

-- A list of 16-bit numbers, one an entry; or of bytes, two an entry.
pub data Form : Type 0 where
  numbers bytes : Form

abbrev pub width : Form → ℕ
width numbers = 1
width bytes = 2

-- The entries of a list.
abbrev pub entries : Form → List ℕ → List ℕ
entries numbers list = list
entries bytes list = two_by_two list

-- The first so many of them.
abbrev pub first_entries : Form → ℕ → List ℕ → List ℕ
first_entries form n list = take n (entries form list)
