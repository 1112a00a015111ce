-- Record bytes (document 01), written: "a two-byte item count, 0..1,024, then the items", each in its one form.
use Rattle.std.specs.Prelude.{ℕ, ◌+◌, ◌/◌, ◌%◌, ◌≡◌, Bool, true, false, not, List, [], ◌∷◌, ◌++◌, ltb, leb, length, Some, None, Option}
use Rattle.model.specs.declared.Header.{Header}
use Rattle.model.specs.declared.Item.{Item}
use Rattle.model.specs.declared.Kind.{Kind}
use Rattle.model.specs.Limits.{byte_values}
use Rattle.model.specs.Choice.{bit}
use Rattle.model.specs.Bytes.{word_bytes}
use Rattle.model.specs.ItemKinds.{kind_number, has_place, is_command_kind}
use Rattle.model.specs.Machine.{address}
use Rattle.model.specs.Traces.{InRecord}

-- A map bit's part of the map, and a field's part of the item.
abbrev pub flag : Bool → ℕ → ℕ
flag true n = n
flag false n = 0

abbrev pub part : Bool → List ℕ → List ℕ
part true bytes = bytes
part false bytes = []

abbrev pub is_given : Option ℕ → Bool
is_given (Some v) = true
is_given None = false

abbrev pub given_bytes : Option ℕ → List ℕ
given_bytes (Some v) = word_bytes v
given_bytes None = []

-- The one map of an item: a rank; a transition or a queue; a place where the kind has one; a value if it gives one; a remote rank if it names one; and
-- a high byte if the transition's number needs it.
abbrev pub map_with : (command placed valued named high : Bool) → ℕ
map_with command placed valued named high =
    1 + flag command 2 + flag (not command) 4 + flag placed 24 + flag valued 32 + flag named 64 + flag high 128

abbrev pub map_of : Kind → (valued named high : Bool) → ℕ
map_of kind = map_with (is_command_kind kind) (has_place kind)

abbrev pub item_map : Item → ℕ
item_map i = map_of i.kind (is_given i.given) (ltb 0 i.remote) (leb byte_values i.transition)

-- The bytes of an item, by its map.
abbrev pub field_bytes : (map : ℕ) → Item → List ℕ
field_bytes map i =
    part (bit 0 map) (i.rank ∷ []) ++
    (part (bit 1 map) (i.transition % byte_values ∷ []) ++
    (part (bit 2 map) (i.queue ∷ []) ++
    (part (bit 3 map) (i.place.rank ∷ []) ++
    (part (bit 4 map) (word_bytes i.place.cell) ++
    (given_bytes i.given ++
    (part (bit 6 map) (i.remote ∷ []) ++
    part (bit 7 map) (i.transition / byte_values ∷ [])))))))

unfoldable pub item_bytes : Item → List ℕ
item_bytes i = item_map i ∷ kind_number i.kind ∷ field_bytes (item_map i) i

-- The items, one behind the other, and the record.
unfoldable pub items_bytes : List Item → List ℕ
unfolding item_bytes
items_bytes [] = []
items_bytes (i ∷ items) = item_bytes i ++ items_bytes items

abbrev pub record_bytes : List Item → List ℕ
record_bytes items = word_bytes (length items) ++ items_bytes items

-- An item that its bytes show: a field that its kind does not have is 0, and only a kind with a place gives a value.
pub record Shown (i : Item) : Type 0 where
  pub of_command : is_command_kind i.kind ≡ true → (i.queue ≡ 0) × (i.remote ≡ 0)
  pub of_pop : is_command_kind i.kind ≡ false → i.transition ≡ 0
  pub of_no_place : has_place i.kind ≡ false → (i.place ≡ address 0 0) × (i.given ≡ None)

-- An item that can be written: as a record has it, and as its bytes show it.
pub record Writable (h : Header) (i : Item) : Type 0 where
  pub in_record : InRecord h i
  pub shown : Shown i
