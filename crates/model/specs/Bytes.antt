-- Reading bytes (document 01, the paragraph after the table): a reader starts at a place of the bytes and finds a value and the place after it,
-- or refuses. "A field is judged as soon as its bytes are read, and a fault is placed at that field's first byte."
use Rattle.std.specs.Prelude.{ℕ, zero, suc, ◌+◌, ◌*◌, ◌/◌, ◌%◌, ◌<◌, Bool, true, false, List, [], ◌∷◌, ◌++◌, ltb, eqb, length, get_or}
use Rattle.model.specs.declared.Found.{Found}
use Rattle.model.specs.Limits.{byte_values}
use Rattle.model.specs.Refusals as Refusals
use Rattle.model.specs.Refusals.{Result, Ok, refuse}
use Rattle.model.specs.Choice.{when}

-- What a slice of bytes holds.
abbrev pub AreBytes : List ℕ → Type 0
AreBytes bytes = (i : ℕ) → get_or bytes i 0 < byte_values

abbrev pub found : {A : Type 0} → A → ℕ → Result (Found A)
found value next = Ok (record { value = value; next = next })

-- From the bytes and a place.
abbrev pub Reader : Type 0 → Type 0
Reader A = List ℕ → ℕ → Result (Found A)

infixl 1 ◌>>=◌
-- One reader after the other.
abbrev pub ◌>>=◌ : {A B : Type 0} → Reader A → (A → Reader B) → Reader B
◌>>=◌ read rest = λ bytes at. Refusals.◌>>=◌ (read bytes at) (λ f. rest f.value bytes f.next)

-- Reads nothing.
abbrev pub pure : {A : Type 0} → A → Reader A
pure a bytes at = found a at

-- The place where the next field begins.
abbrev pub here : Reader ℕ
here bytes at = found at at

-- A fault at a place.
abbrev pub fault : {A : Type 0} → ℕ → ℕ → Reader A
fault number place bytes at = refuse number place

-- "a missing byte anywhere gives 1 or 4 and reading ends there": `early` is 1 for a program and 4 for a record, placed at the length.
unfoldable pub byte : (early : ℕ) → Reader ℕ
byte early bytes at =
    when (ltb at (length bytes)) (λ _. found (get_or bytes at 0) (at + 1)) (λ _. refuse early (length bytes))

-- "Two-byte numbers are big-endian."
unfoldable pub word : (early : ℕ) → Reader ℕ
unfolding byte
word early = do
  high ← byte early
  low ← byte early
  pure (high * byte_values + low)

-- The same, written.
abbrev pub word_bytes : ℕ → List ℕ
word_bytes n = n / byte_values ∷ n % byte_values ∷ []

-- A big-endian number of so many bytes more, behind those that made `high`; and the same, written.
unfoldable pub big_endian : (early size high : ℕ) → Reader ℕ
unfolding byte
big_endian early zero high = pure high
big_endian early (suc size) high = do
  low ← byte early
  big_endian early size (high * byte_values + low)

unfoldable pub big_endian_bytes : (size n : ℕ) → List ℕ
big_endian_bytes zero n = []
big_endian_bytes (suc size) n = big_endian_bytes size (n / byte_values) ++ n % byte_values ∷ []

-- A field that has to pass a test; its fault is placed at its first byte.
unfoldable pub judged : (ℕ → Bool) → (number : ℕ) → Reader ℕ → Reader ℕ
judged test number read bytes at =
    Refusals.◌>>=◌ (read bytes at) (λ f. when (test f.value) (λ _. Ok f) (λ _. refuse number at))

-- A field that is there only where its map bit stands, and else this value.
abbrev pub optional : {A : Type 0} → Bool → A → Reader A → Reader A
optional true absent read = read
optional false absent read = pure absent

-- So many, one after the other.
unfoldable pub times : {A : Type 0} → ℕ → Reader A → Reader (List A)
times zero read = pure []
times (suc n) read = do
  a ← read
  rest ← times n read
  pure (a ∷ rest)

-- "bytes left over (first one)": what was read has to reach the end of the bytes.
unfoldable pub whole : {A : Type 0} → (left : ℕ) → Reader A → List ℕ → Result A
whole left read bytes =
    Refusals.◌>>=◌ (read bytes 0) (λ f. when (eqb f.next (length bytes)) (λ _. Ok f.value) (λ _. refuse left f.next))
