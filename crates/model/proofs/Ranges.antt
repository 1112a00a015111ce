-- What was read is in its ranges: a header is within the limits, and every item of a record is one "as a record has them". A field passed its test if
-- its map bit stands, and each right map of a kind has the bits that the kind needs.
use Rattle.std.specs.Prelude.{Some, None}
use Prim.Native.Nat.{ℕ, ◌+◌, ◌*◌, ◌<◌, ◌≤◌}
use mathlib.Core.Path.{◌≡◌, refl}
use mathlib.Core.Bool.{Bool, true, false, true≢false, not, ◌&&◌, ◌||◌}
use mathlib.Core.List.{List}
use native.Mathlib.Omega.{arith}
use lib.Dec.{ltb, leb, eqb}
use borrow.Author.Tests.{ltb-true, leb-true}
use Rattle.model.specs.declared.Header.{Header}
use Rattle.model.specs.declared.Kind.{Kind}
use Rattle.model.specs.declared.Item.{Item}
use Rattle.model.specs.Limits.{max_ranks, max_cells, max_registers, max_queues, max_states, short_transitions, max_transitions, long_count, max_items, byte_values}
use Rattle.model.specs.Refusals.{Ok, program_length, program_range, record_length, record_range}
use Rattle.model.specs.Choice.{between, bit, Each}
use Rattle.model.specs.Bytes.{AreBytes, here, byte, word, judged, optional, times}
use Rattle.model.specs.ItemKinds.{item_kinds, has_place, Part, command, fetch, delivery, part_of}
use Rattle.model.specs.Programs.{Program, HeaderFits, header_number, count_byte, transition_count, read_header_in, read_header, read_transition, program_reader_in, program_reader, read_program_in, read_program}
use Rattle.model.specs.Formats.{HasMap, item_maps}
use Rattle.model.specs.Records.{field, low_byte, high_byte, given_value, item_fields, read_item_in, read_item, record_reader_in, record_reader, read_record_in, read_record}
use Rattle.model.specs.Replay.{every}
use Rattle.model.specs.Traces.{ChosenIn, GivenIn, InRecord}
use Rattle.model.proofs.Laws.{and-true, decided, Within, between_true, each_weaker}
use Rattle.model.proofs.Bytes.{Finds, finds_anything, finds_pure, finds_bind, finds_judged, finds_optional, finds_times, finds_word, whole_finds, finds_weaker}
use Rattle.model.proofs.Tables.{every_row}
use Rattle.model.proofs.ItemForms.{each_map, form_finds}

-- The header.
number_finds : {bytes : List ℕ} (low high : ℕ) → Finds bytes (header_number low high) (Within low high)
unfolding header_number
number_finds low high =
    finds_weaker (finds_judged (between low high) program_range (byte program_length)) (between_true low high)

-- A count of one byte is at most 128, and a two-byte one is in its range.
count_finds : {bytes : List ℕ} → Finds bytes (transition_count max_transitions) (λ n. n ≤ max_transitions)
unfolding transition_count
count_finds =
    finds_bind (finds_judged (count_byte max_transitions) program_range (byte program_length)) λ count passes.
    decided (eqb count long_count)
    (λ t. rw t (finds_weaker (finds_judged (between (short_transitions + 1) max_transitions) program_range (word program_length))
    (λ n h. (between_true (short_transitions + 1) max_transitions n h).high)))
    (λ t. rw t (finds_pure count (omega (arith, leb-true count short_transitions (rw t at passes)))))

pub header_finds : {bytes : List ℕ} → Finds bytes read_header HeaderFits
unfolding read_header_in
header_finds =
    finds_bind (number_finds 1 max_ranks) λ ranks ranks_in.
    finds_bind (number_finds 1 max_cells) λ cells cells_in.
    finds_bind (number_finds 1 max_registers) λ registers registers_in.
    finds_bind (number_finds 1 max_queues) λ queues queues_in.
    finds_bind (number_finds 1 max_states) λ states states_in.
    finds_bind count_finds λ transitions transitions_in.
    finds_pure _
    (record {
      ranks_low = ranks_in.low;
      ranks_fit = ranks_in.high;
      cells_fit = cells_in.high;
      registers_fit = registers_in.high;
      queues_fit = queues_in.high;
      states_fit = states_in.high;
      transitions_fit = transitions_in;
    })

-- A program that was read has a header within the limits.
pub header_fits : (bytes : List ℕ) {P : Program} → read_program bytes ≡ Ok P → HeaderFits P.header
unfolding read_program_in program_reader_in
header_fits bytes =
    whole_finds program_length program_reader bytes (λ P. HeaderFits P.header)
    (finds_bind header_finds λ header fits. finds_bind (finds_anything (times header.transitions
    (read_transition header))) λ transitions _. finds_pure _ fits)

-- A right map has the bits that the fields of its kind need: a rank, a transition or a queue, and a place where the kind has one.
abbrev chosen_bit : Part → ℕ → Bool
chosen_bit command map = bit 1 map
chosen_bit fetch map = bit 2 map
chosen_bit delivery map = bit 2 map

module _ {kind : Kind} {map : ℕ} (has : HasMap kind map) where
  rank_bit : bit 0 map ≡ true
  unfolding every_row every item_kinds item_maps
  rank_bit = each_map (λ k m. bit 0 m) refl has

  chosen_bit_lem : chosen_bit (part_of kind) map ≡ true
  unfolding every_row every item_kinds item_maps
  chosen_bit_lem = each_map (λ k m. chosen_bit (part_of k) m) refl has

  place_bits : has_place kind ≡ true → (bit 3 map && bit 4 map) ≡ true
  unfolding every_row every item_kinds item_maps
  place_bits placed = rw placed at (each_map (λ k m. not (has_place k) || (bit 3 m && bit 4 m)) refl has)

  place_bit : has_place kind ≡ true → (bit 3 map ≡ true) × (bit 4 map ≡ true)
  place_bit placed = and-true (bit 3 map) (bit 4 map) (place_bits placed)

-- A field that passed its test.
field_finds : {bytes : List ℕ} (test : ℕ → Bool) → Finds bytes (field test) (λ v. test v ≡ true)
unfolding field
field_finds test = finds_judged test record_range (byte record_length)

-- A transition's byte that is the whole number is below T, and so is the number that a high byte makes.
low_finds : {bytes : List ℕ} (high : Bool) (transitions : ℕ) → Finds bytes (low_byte high transitions) (λ t. high ≡ false → ltb t transitions ≡ true)
unfolding low_byte
low_finds true transitions = record { holds = λ at f h absent. absurd (true≢false absent) }
low_finds false transitions = finds_weaker (field_finds (λ t. ltb t transitions)) (λ t below absent. below)

high_finds : {bytes : List ℕ} (transitions low : ℕ) → Finds bytes (high_byte transitions low) (λ t. ltb t transitions ≡ true)
unfolding high_byte
high_finds transitions low =
    finds_bind (field_finds (λ h. ltb 0 h && ltb (h * byte_values + low) transitions)) λ high passes.
    finds_pure _ (and-true (ltb 0 high) (ltb (high * byte_values + low) transitions) passes).1

-- Without a high byte the low one is the number. An item without a transition has none to be below T.
number_finds_below : {bytes : List ℕ} (named high : Bool) (transitions low : ℕ) → (named ≡ true → high ≡ false → ltb low transitions ≡ true) →
    Finds bytes (optional high low (high_byte transitions low)) (λ t. named ≡ true → ltb t transitions ≡ true)
number_finds_below named true transitions low below = finds_weaker (high_finds transitions low) (λ t passes standing. passes)
number_finds_below named false transitions low below = finds_pure low (λ standing. below standing refl)

-- A value of two bytes fits 16 bits.
given_finds : {bytes : List ℕ} → Finds bytes given_value (λ g. AreBytes bytes → GivenIn g)
unfolding given_value
given_finds = finds_bind (finds_word record_length) λ v below. finds_pure (Some v) below

absent_or_given : {bytes : List ℕ} (present : Bool) → Finds bytes (optional present None given_value) (λ g. AreBytes bytes → GivenIn g)
absent_or_given true = given_finds
absent_or_given false = finds_pure None (λ _. tt)

-- An item whose fields are in their ranges; its value is, where the bytes are bytes.
pub record Ranged (header : Header) (bytes : List ℕ) (i : Item) : Type 0 where
  pub rank : Within 1 header.ranks i.rank
  pub choice : ChosenIn header (part_of i.kind) i
  pub place_rank_lem : has_place i.kind ≡ true → Within 1 header.ranks i.place.rank
  pub place_cell_lem : has_place i.kind ≡ true → i.place.cell < header.cells
  pub given : AreBytes bytes → GivenIn i.given

-- A remote rank that is named, or none.
remote_finds : {bytes : List ℕ} (present : Bool) (ranks : ℕ) → Finds bytes (optional present 0 (field (between 1 ranks))) (λ n. n ≤ ranks)
remote_finds true ranks = finds_weaker (field_finds (between 1 ranks)) λ n h. (between_true 1 ranks n h).high
remote_finds false ranks = finds_pure 0 (omega arith)

-- A command names a transition, a pop a queue and a remote rank or none.
chosen_in : (header : Header) (part : Part) (item : Item) (map : ℕ) → chosen_bit part map ≡ true →
    (bit 1 map ≡ true → ltb item.transition header.transitions ≡ true) → (bit 2 map ≡ true → ltb item.queue header.queues ≡ true) →
    item.remote ≤ header.ranks → ChosenIn header part item
chosen_in header command item map b t q n = ltb-true item.transition header.transitions (t b)
chosen_in header fetch item map b t q n = (ltb-true item.queue header.queues (q b), n)
chosen_in header delivery item map b t q n = (ltb-true item.queue header.queues (q b), n)

fields_find : {bytes : List ℕ} (header : Header) {map : ℕ} {kind : Kind} → HasMap kind map →
    Finds bytes (item_fields header map kind) (Ranged header bytes)
unfolding item_fields
fields_find header {map} {kind} has =
    finds_bind (finds_optional (bit 0 map) 0 (field_finds (between 1 header.ranks))) λ rank rank_in.
    finds_bind (finds_optional (bit 1 map) 0 (low_finds (bit 7 map) header.transitions)) λ low low_in.
    finds_bind (finds_optional (bit 2 map) 0 (field_finds (λ q. ltb q header.queues))) λ queue queue_in.
    finds_bind (finds_optional (bit 3 map) 0 (field_finds (between 1 header.ranks))) λ place_rank_lem place_rank_in.
    finds_bind (finds_optional (bit 4 map) 0 (finds_judged (λ a. ltb a header.cells) record_range (word record_length))) λ place_cell_lem place_cell_in.
    finds_bind (absent_or_given (bit 5 map)) λ given given_in.
    finds_bind (remote_finds (bit 6 map) header.ranks) λ remote remote_in.
    finds_bind (number_finds_below (bit 1 map) (bit 7 map) header.transitions low low_in) λ transition transition_in.
    finds_pure _
    (record {
      rank = between_true 1 header.ranks rank (rank_in (rank_bit has));
      choice = chosen_in header (part_of kind) _ map (chosen_bit_lem has) transition_in queue_in remote_in;
      place_rank_lem = λ placed. between_true 1 header.ranks place_rank_lem (place_rank_in (place_bit has placed).0);
      place_cell_lem = λ placed. ltb-true place_cell_lem header.cells (place_cell_in (place_bit has placed).1);
      given = given_in;
    })

pub item_finds : {bytes : List ℕ} (header : Header) → Finds bytes (read_item header) (Ranged header bytes)
unfolding read_item_in
item_finds header =
    finds_bind (finds_anything here) λ at _.
    finds_bind (finds_anything (byte record_length)) λ map _.
    finds_bind (finds_anything (byte record_length)) λ number _.
    finds_bind (form_finds at map number) λ kind has.
    fields_find header has

-- So every item that was read from bytes is one "as a record has them".
pub ranged_in_record : {header : Header} {bytes : List ℕ} {i : Item} → AreBytes bytes → Ranged header bytes i → InRecord header i
ranged_in_record bound r =
    record {
      low = r.rank.low;
      high = r.rank.high;
      choice = r.choice;
      place = λ has. ((r.place_rank_lem has).low, (r.place_rank_lem has).high, r.place_cell_lem has);
      given = r.given bound;
    }

pub read_in_record : (header : Header) (bytes : List ℕ) {items : List Item} → AreBytes bytes → read_record header bytes ≡ Ok items →
    Each (InRecord header) items
unfolding read_record_in record_reader_in
read_in_record header bytes bound h =
    each_weaker (λ i. ranged_in_record bound)
    (whole_finds record_length (record_reader header) bytes (Each (Ranged header bytes))
    (finds_bind (finds_anything (judged (λ n. leb n max_items) record_range (word record_length))) λ count _. finds_times count (item_finds header)) h)
