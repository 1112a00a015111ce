-- The items of a record and their places: one after the other behind the count, the last one ending where the record's bytes end.
use Rattle.std.specs.Prelude.{ℕ, ◌≤◌, ◌≡◌, List, [], ◌∷◌, leb, length}
use Rattle.model.specs.declared.Header.{Header}
use Rattle.model.specs.declared.Item.{Item}
use Rattle.model.specs.Limits.{max_items}
use Rattle.model.specs.Refusals.{Result, Ok, record_length, record_range, ◌>>=◌}
use Rattle.model.specs.Bytes.{Reader, found, word, judged, times}
use Rattle.model.specs.Records.{read_item, read_record}

-- Where the first item stands: behind the count.
abbrev pub first_item : ℕ
first_item = 2

-- These items, read one after the other from a place to the place where the last one ends.
pub data ItemsFrom (header : Header) (bytes : List ℕ) : (at : ℕ) → List Item → (end : ℕ) → Type 0 where
  ended : {at : ℕ} → ItemsFrom header bytes at [] at
  then : {at next end : ℕ} {item : Item} {items : List Item} →
      read_item header bytes at ≡ found item next → ItemsFrom header bytes next items end → ItemsFrom header bytes at (item ∷ items) end

-- A readable record: the item count within its limit, and so many items behind it, up to the end.
pub record Recorded (header : Header) (bytes : List ℕ) (items : List Item) : Type 0 where
  pub count : word record_length bytes 0 ≡ found (length items) first_item
  pub limit : length items ≤ max_items
  pub items_from : ItemsFrom header bytes first_item items (length bytes)

-- "a two-byte item count, 0..1,024"
unfoldable pub item_count : Reader ℕ
item_count = judged (λ n. leb n max_items) record_range (word record_length)

-- So many items read from a place come to this one, where the last one ends.
unfoldable pub items_end : Header → (count : ℕ) → List ℕ → (at : ℕ) → Result ℕ
items_end header count bytes at = times count (read_item header) bytes at >>= (λ f. Ok f.next)

-- How many items a record has, or its refusal.
unfoldable pub record_count : Header → List ℕ → Result ℕ
record_count header bytes = read_record header bytes >>= (λ items. Ok (length items))
