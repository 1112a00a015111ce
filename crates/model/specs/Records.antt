-- Record bytes (document 01): "a two-byte item count, 0..1,024, then the items"; and document 02's #107 on an item's transition
-- and #108 on the remote rank that a pop names.
use Rattle.std.specs.Prelude.{ℕ, ◌+◌, ◌*◌, Bool, true, false, ◌&&◌, List, ltb, leb, Some, None, Option}
use Rattle.model.specs.declared.Header.{Header}
use Rattle.model.specs.declared.Kind.{Kind}
use Rattle.model.specs.declared.Item.{Item}
use Rattle.model.specs.Limits.{max_items, byte_values}
use Rattle.model.specs.Refusals.{Result, record_length, record_range}
use Rattle.model.specs.Choice.{between, bit}
use Rattle.model.specs.Bytes.{Reader, pure, here, byte, word, judged, optional, times, whole, ◌>>=◌}
use Rattle.model.specs.Formats.{Format, today}
use Rattle.model.specs.ItemForms.{item_form_in, judged_item_form}

-- A one-byte field whose number has to pass a test.
unfoldable pub field : (ℕ → Bool) → Reader ℕ
unfolding byte judged
field test = judged test record_range (byte record_length)

-- A transition's byte: below T where it is the whole number; "With bit 7 the low byte is not judged alone".
unfoldable pub low_byte : (high : Bool) → (transitions : ℕ) → Reader ℕ
unfolding byte field
low_byte true transitions = byte record_length
low_byte false transitions = field (λ t. ltb t transitions)

-- The number that a high byte makes of the low one: "a high byte of 0, or one that makes the number T or more, gets 5 at that byte."
unfoldable pub high_byte : (transitions low : ℕ) → Reader ℕ
unfolding field
high_byte transitions low = do
  high ← field (λ h. ltb 0 h && ltb (h * byte_values + low) transitions)
  pure (high * byte_values + low)

unfoldable pub given_value : Reader (Option ℕ)
unfolding word
given_value = do
  value ← word record_length
  pure (Some value)

-- "then the fields whose bit stands, in bit order: 0 rank, 1 transition, 2 queue, 3 place rank, 4 place cell (two bytes), 5 value (two bytes); the
-- others are one byte"; with bit 6, "as its last field, the remote rank (one byte)", of which "one outside 1..N gets 5"; and with bit 7 "the
-- transition's high byte after all other fields". No kind has both bits.
unfoldable pub item_fields : Header → (map : ℕ) → Kind → Reader Item
unfolding byte word judged field low_byte high_byte given_value
item_fields header map kind = do
  rank ← optional (bit 0 map) 0 (field (between 1 header.ranks))
  low ← optional (bit 1 map) 0 (low_byte (bit 7 map) header.transitions)
  queue ← optional (bit 2 map) 0 (field (λ q. ltb q header.queues))
  place_rank ← optional (bit 3 map) 0 (field (between 1 header.ranks))
  place_cell ← optional (bit 4 map) 0 (judged (λ a. ltb a header.cells) record_range (word record_length))
  given ← optional (bit 5 map) None given_value
  remote ← optional (bit 6 map) 0 (field (between 1 header.ranks))
  transition ← optional (bit 7 map) low (high_byte header.transitions low)
  pure
      (record {
        kind = kind;
        rank = rank;
        transition = transition;
        queue = queue;
        place = record { rank = place_rank; cell = place_cell };
        given = given;
        remote = remote;
      })

-- "An item is a map byte, a kind byte, then the fields"; "map and kind are both read before either is judged."
unfoldable pub read_item_in : Format → Header → Reader Item
unfolding byte item_form_in judged_item_form item_fields
read_item_in format header = do
  at ← here
  map ← byte record_length
  number ← byte record_length
  kind ← judged_item_form at (item_form_in format map number)
  item_fields header map kind

abbrev pub read_item : Header → Reader Item
read_item = read_item_in today

unfoldable pub record_reader_in : Format → Header → Reader (List Item)
unfolding word judged times read_item_in
record_reader_in format header = do
  count ← judged (λ n. leb n max_items) record_range (word record_length)
  times count (read_item_in format header)

abbrev pub record_reader : Header → Reader (List Item)
record_reader = record_reader_in today

-- The items that these bytes are, for a program that begins with these numbers, or the refusal.
unfoldable pub read_record_in : Format → Header → List ℕ → Result (List Item)
unfolding whole record_reader_in
read_record_in format header = whole record_length (record_reader_in format header)

abbrev pub read_record : Header → List ℕ → Result (List Item)
read_record = read_record_in today
