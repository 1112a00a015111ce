-- The front of a file is enough: a program, readings and a record of which one byte more than the longest readable ones is read are read, or refused,
-- as their whole bytes are, and so the listing is the same.
use Rattle.std.specs.Prelude.{None}
use Prim.Native.Nat.{ℕ, suc, ◌+◌, ◌*◌, ◌≤◌}
use mathlib.Core.Path.{◌≡◌, refl, ap}
use mathlib.Core.Bool.{Bool, true, false, ◌&&◌}
use mathlib.Core.List.{List}
use native.Mathlib.Omega.{arith}
use lib.Dec.{ltb, leb, eqb}
use lib.ListN.{take}
use borrow.Author.Tests.{leb-true}
use Rattle.model.specs.declared.Header.{Header}
use Rattle.model.specs.declared.Kind.{Kind}
use Rattle.model.specs.Limits.{max_transition_bytes, short_transitions, max_transitions, long_count, max_items, byte_values}
use Rattle.model.specs.Refusals.{program_length, program_range, record_length, record_range, record_form}
use Rattle.model.specs.Choice.{when, between, bit}
use Rattle.model.specs.Bytes.{word, judged, optional}
use Rattle.model.specs.Programs.{count_byte, transition_count, read_header_in, read_header, program_reader_in, program_reader, read_program_in, read_program}
use Rattle.model.specs.ItemKinds.{item_kinds}
use Rattle.model.specs.Formats.{HasMap, item_maps}
use Rattle.model.specs.ItemForms.{FormIs, good, unknown_kind, wrong_map, judged_item_form, ItemForm}
use Rattle.model.specs.Records.{field, low_byte, high_byte, given_value, item_fields, read_item_in, read_item, record_reader_in, record_reader, read_record_in, read_record}
use Rattle.model.specs.Replay.{every}
use Rattle.model.specs.Checks.{accept_in, accept}
use Rattle.model.specs.Listings.{listing_in, listing, printed_of}
use Rattle.model.proofs.Laws.{decided, bind_cong, between_true}
use Rattle.model.proofs.Ranges.{header_fits}
use Rattle.model.proofs.Tables.{every_row}
use Rattle.model.proofs.ItemForms.{today_maps, form_is, each_map}
use Rattle.sizes.specs.Sizes.{max_program_bytes, max_start_bytes, max_record_bytes}
use Rattle.sizes.proofs.Readings.{the_same_start}
use Rattle.model.proofs.Extents.{transition_takes, number_takes}
use Rattle.model.proofs.Allowances.{Takes, takes_pure, takes_here, takes_fault, takes_bind, takes_byte, takes_word, takes_judged, takes_tested, cost, takes_optional, takes_times, whole_of_start}

-- The program.
-- A count's byte leaves enough for the transitions that it counts, or for a count of two bytes and 400 transitions.
abbrev count_spares : ℕ → ℕ
count_spares n = when (eqb n long_count) (λ _. max_transitions * max_transition_bytes + 2) (λ _. n * max_transition_bytes)

byte_spares : (n : ℕ) → count_byte max_transitions n ≡ true → count_spares n ≤ max_transitions * max_transition_bytes + 2
byte_spares n h =
    decided (eqb n long_count) (λ t. rw t (omega arith)) (λ t. rw t (omega (arith, leb-true n short_transitions (rw t at h))))

long_takes : (count : ℕ) {from : ℕ} →
    Takes from (count_spares count) (λ n. n * max_transition_bytes)
    (optional (eqb count long_count) count (judged (between (short_transitions + 1) max_transitions) program_range (word program_length)))
long_takes count =
    decided (eqb count long_count)
    (λ t. rw t
    (takes_judged (between (short_transitions + 1) max_transitions) program_range (takes_word program_length (max_transitions * max_transition_bytes) (omega arith))
    (λ v h. omega (arith, (between_true (short_transitions + 1) max_transitions v h).high))))
    (λ t. rw t (takes_pure count (omega arith)))

count_takes : {from : ℕ} → Takes from (max_transitions * max_transition_bytes + 3) (λ n. n * max_transition_bytes) (transition_count max_transitions)
unfolding transition_count
count_takes =
    takes_bind
    (takes_judged (count_byte max_transitions) program_range (takes_byte program_length (max_transitions * max_transition_bytes + 2) (omega arith)) byte_spares)
    λ count. long_takes count

header_takes : Takes 0 max_program_bytes (λ header. header.transitions * max_transition_bytes) read_header
unfolding read_header_in
header_takes =
    takes_bind (number_takes _ _ 51_207 (omega arith)) λ ranks.
    takes_bind (number_takes _ _ 51_206 (omega arith)) λ cells.
    takes_bind (number_takes _ _ 51_205 (omega arith)) λ registers.
    takes_bind (number_takes _ _ 51_204 (omega arith)) λ queues.
    takes_bind (number_takes _ _ 51_203 (omega arith)) λ states.
    takes_bind count_takes λ transitions.
    takes_pure _ (omega arith)

pub program_takes : Takes 0 max_program_bytes (λ _. 0) program_reader
unfolding program_reader_in
program_takes =
    takes_bind header_takes λ header.
    takes_bind (takes_times header.transitions max_transition_bytes (transition_takes header)) λ transitions.
    takes_pure _ (omega arith)

pub the_same_program : (bytes : List ℕ) → read_program (take (suc max_program_bytes) bytes) ≡ read_program bytes
unfolding read_program_in
the_same_program = whole_of_start program_length max_program_bytes program_takes

-- The record.
field_takes : (test : ℕ → Bool) (left : ℕ) {from allowed : ℕ} → left + 1 ≤ allowed → Takes from allowed (λ _. left) (field test)
unfolding field
field_takes test left enough = takes_tested test record_range (takes_byte record_length left enough)

low_takes : (high : Bool) (transitions left : ℕ) {from allowed : ℕ} → left + 1 ≤ allowed → Takes from allowed (λ _. left) (low_byte high transitions)
unfolding low_byte
low_takes true transitions left enough = takes_byte record_length left enough
low_takes false transitions left enough = field_takes (λ t. ltb t transitions) left enough

high_takes : (transitions low left : ℕ) {from allowed : ℕ} → left + 1 ≤ allowed → Takes from allowed (λ _. left) (high_byte transitions low)
unfolding high_byte
high_takes transitions low left enough =
    takes_bind (field_takes (λ h. ltb 0 h && ltb (h * byte_values + low) transitions) left enough) λ high. takes_pure _ (omega arith)

given_takes : (left : ℕ) {from allowed : ℕ} → left + 2 ≤ allowed → Takes from allowed (λ _. left) given_value
unfolding given_value
given_takes left enough = takes_bind (takes_word record_length left enough) λ value. takes_pure _ (omega arith)

-- What the fields of an item cost, by its map.
abbrev item_cost : (map : ℕ) → ℕ
item_cost map =
    0 + cost (bit 7 map) 1 + cost (bit 6 map) 1 + cost (bit 5 map) 2 + cost (bit 4 map) 2 + cost (bit 3 map) 1 + cost (bit 2 map) 1
    + cost (bit 1 map) 1 + cost (bit 0 map) 1

-- A right map has a transition or a queue, and not both; and a high byte only with a transition, a remote rank only with a queue.
map_cost : {kind : Kind} {map : ℕ} → HasMap kind map → leb (item_cost map) 8 ≡ true
unfolding every_row every item_kinds item_maps
map_cost has = each_map (λ kind map. leb (item_cost map) 8) refl has

verdict_takes : (at : ℕ) {map number : ℕ} {form : ItemForm} → FormIs HasMap map number form → Takes at 8 (λ _. item_cost map) (judged_item_form at form)
unfolding judged_item_form
verdict_takes at {map} (good kind same has) = takes_pure kind (leb-true (item_cost map) 8 (map_cost has))
verdict_takes at (unknown_kind no_kind) = takes_fault record_form (at + 1) (omega arith)
verdict_takes at (wrong_map kind same has_not) = takes_fault record_form at (omega arith)

cell_takes : (cells left : ℕ) {from allowed : ℕ} → left + 2 ≤ allowed →
    Takes from allowed (λ _. left) (judged (λ a. ltb a cells) record_range (word record_length))
cell_takes cells left enough = takes_tested (λ a. ltb a cells) record_range (takes_word record_length left enough)

item_fields_take : (header : Header) (map : ℕ) (kind : Kind) {from : ℕ} → Takes from (item_cost map) (λ _. 0) (item_fields header map kind)
unfolding item_fields
item_fields_take header map kind =
    takes_bind (takes_optional (bit 0 map) 0 1 (field_takes (between 1 header.ranks) _ (omega arith))) λ rank.
    takes_bind (takes_optional (bit 1 map) 0 1 (low_takes (bit 7 map) header.transitions _ (omega arith))) λ low.
    takes_bind (takes_optional (bit 2 map) 0 1 (field_takes (λ q. ltb q header.queues) _ (omega arith))) λ queue.
    takes_bind (takes_optional (bit 3 map) 0 1 (field_takes (between 1 header.ranks) _ (omega arith))) λ place_rank_lem.
    takes_bind (takes_optional (bit 4 map) 0 2 (cell_takes header.cells _ (omega arith))) λ place_cell_lem.
    takes_bind (takes_optional (bit 5 map) None 2 (given_takes _ (omega arith))) λ given.
    takes_bind (takes_optional (bit 6 map) 0 1 (field_takes (between 1 header.ranks) _ (omega arith))) λ remote.
    takes_bind (takes_optional (bit 7 map) low 1 (high_takes header.transitions low _ (omega arith))) λ transition.
    takes_pure _ (omega arith)

item_takes : (header : Header) {from : ℕ} → Takes from 10 (λ _. 0) (read_item header)
unfolding read_item_in
item_takes header =
    takes_here λ at.
    takes_bind (takes_byte record_length 9 (omega arith)) λ map.
    takes_bind (takes_byte record_length 8 (omega arith)) λ number.
    takes_bind (verdict_takes at (form_is today_maps map number)) λ kind.
    item_fields_take header map kind

pub record_takes : (header : Header) → Takes 0 max_record_bytes (λ _. 0) (record_reader header)
unfolding record_reader_in
record_takes header =
    takes_bind
    (takes_judged (λ n. leb n max_items) record_range (takes_word record_length (max_items * 10) (omega arith))
    (λ v h. omega (arith, leb-true v max_items h))) λ count.
    takes_times count 10 (item_takes header)

pub the_same_record : (header : Header) (bytes : List ℕ) → read_record header (take (suc max_record_bytes) bytes) ≡ read_record header bytes
unfolding read_record_in
the_same_record header = whole_of_start record_length max_record_bytes (record_takes header)

-- The listing.
module _ (program start recorded : List ℕ) where
  the_same_acceptance : accept (take (suc max_program_bytes) program) (take (suc max_start_bytes) start) (take (suc max_record_bytes) recorded)
      ≡ accept program start recorded
  unfolding accept_in
  the_same_acceptance =
      rw (the_same_program program)
      (bind_cong (read_program program) _ _ λ P e.
      rw (the_same_start P.header (header_fits program e) start, the_same_record P.header recorded))

  pub the_same_listing : (memory : List ℕ) →
      listing (take (suc max_program_bytes) program) (take (suc max_start_bytes) start) (take (suc max_record_bytes) recorded) memory
      ≡ listing program start recorded memory
  unfolding listing_in
  the_same_listing memory = ap (printed_of memory) the_same_acceptance
