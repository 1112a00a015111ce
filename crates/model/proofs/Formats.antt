-- A wider format keeps what a narrower one reads: the same program, the same items, so the same answer, lists, slip and listing, of a record that is
-- accepted and of one that the replay refuses. Today's is wider than document 01's, so "Old programs and records keep their bytes and meaning" (document
-- 02, #107).
--
-- A reader that goes by the narrower format is kept by the one that goes by the wider: whatever the first finds, the second finds there. There is a
-- rule for each way in which readers are put together.
use Rattle.model.specs.declared.Found.{Found}
use Rattle.std.specs.Prelude.{Option, Some, None}
use Prim.Native.Nat.{ℕ, zero, suc, ◌+◌, ◌/◌, ◌≤◌}
use mathlib.Core.Path.{◌≡◌, ◌∙◌}
use mathlib.Core.Bool.{Bool, true, false}
use mathlib.Core.List.{List}
use native.Mathlib.Omega.{arith}
use lib.Dec.{leb, eqb}
use lib.ListN.{length}
use borrow.Author.Tests.{lt-ltb, ltb-true}
use Rattle.model.specs.declared.Header.{Header}
use Rattle.model.specs.declared.Item.{Item}
use Rattle.model.specs.declared.Kind.{Kind}
use Rattle.model.specs.declared.Refusal.{Refusal}
use Rattle.model.specs.Limits.{max_cells, max_registers, max_queues, max_states, short_transitions, long_count, max_items}
use Rattle.model.specs.Refusals.{Ok, Err, program_length, program_range, record_length, record_range}
use Rattle.model.specs.Choice.{between, lookup, member}
use Rattle.model.specs.Bytes.{Reader, ◌>>=◌, here, byte, word, judged, optional, times, whole}
use Rattle.model.specs.ItemKinds.{item_kinds}
use Rattle.model.specs.Formats.{Format, document01, today, original}
use Rattle.model.specs.Programs.{Program, header_number, count_byte, transition_count, read_header_in, program_reader_in, read_program_in}
use Rattle.model.specs.ItemForms.{form_of, item_form_in, judged_item_form}
use Rattle.model.specs.Records.{read_item_in, record_reader_in, read_record_in}
use Rattle.model.specs.Machine.{Start}
use Rattle.model.specs.StartBytes.{read_start}
use Rattle.model.specs.Replay.{replay}
use Rattle.model.specs.Checks.{Accepted, accept_in, check_result_in, check_in, check_bytes_in}
use Rattle.model.specs.Slips.{write_slip_in}
use Rattle.model.specs.Listings.{listing_in}
use Rattle.model.proofs.Laws.{refused≢ok, bind_ok, bind_cong, decided, between_true, true_between, eqb_refl}
use Rattle.model.proofs.Bytes.{judged_ok, whole_ok}
use Rattle.model.proofs.ItemForms.{original_maps_lem, today_maps}

-- As many ranks and transitions at least, and every map.
pub record Extends (old new : Format) : Type 0 where
  pub ranks : old.ranks ≤ new.ranks
  pub transitions : old.transitions ≤ new.transitions
  pub maps : (kind : Kind) (map : ℕ) → member map (old.maps kind) ≡ true → member map (new.maps kind) ≡ true

pub today_extends : Extends document01 today
today_extends =
    record { ranks = omega arith; transitions = omega arith; maps = λ kind map h. today_maps.listed (original (original_maps_lem.only kind map h)) }

-- Bytes that a format reads as a program and as a record of it.
pub record Readable (format : Format) (program_bytes recorded : List ℕ) : Type 0 where
  pub program : Program
  pub items : List Item
  pub program_read_lem : read_program_in format program_bytes ≡ Ok program
  pub record_read_lem : read_record_in format program.header recorded ≡ Ok items

-- What the first reader finds, the second finds there.
record Keeps {A : Type 0} (first second : Reader A) : Type 0 where
  kept : (bytes : List ℕ) (at : ℕ) (f : Found A) → first bytes at ≡ Ok f → second bytes at ≡ Ok f

keeps_same : {A : Type 0} (read : Reader A) → Keeps read read
keeps_same read = record { kept = λ bytes at f h. h }

keeps_bind : {A B : Type 0} {first second : Reader A} {rest after : A → Reader B} → Keeps first second → ((a : A) → Keeps (rest a) (after a)) →
    Keeps (first >>= rest) (second >>= after)
keeps_bind {first = first} keeps then =
    record {
      kept =
          λ bytes at g h.
          let (f, e, h₁) = bind_ok (first bytes at) _ h in
          rw (keeps.kept bytes at f e) ((then f.value).kept bytes f.next g h₁);
    }

keeps_judged : (test weaker : ℕ → Bool) (number : ℕ) (read : Reader ℕ) → ((n : ℕ) → test n ≡ true → weaker n ≡ true) →
    Keeps (judged test number read) (judged weaker number read)
unfolding judged
keeps_judged test weaker number read passes =
    record {
      kept =
          λ bytes at f h.
          let (e, t) = judged_ok test number read bytes at h in
          rw (e, passes f.value t);
    }

keeps_optional : {A : Type 0} (present : Bool) (absent : A) {first second : Reader A} → Keeps first second →
    Keeps (optional present absent first) (optional present absent second)
keeps_optional true absent keeps = keeps
keeps_optional false absent keeps = keeps_same _

keeps_times : {A : Type 0} (n : ℕ) {first second : Reader A} → Keeps first second → Keeps (times n first) (times n second)
unfolding times
keeps_times zero keeps = keeps_same _
keeps_times (suc n) keeps = keeps_bind keeps λ a. keeps_bind (keeps_times n keeps) λ rest. keeps_same _

keeps_whole : {A : Type 0} (left : ℕ) {first second : Reader A} → Keeps first second → (bytes : List ℕ) {a : A} → whole left first bytes ≡ Ok a →
    whole left second bytes ≡ Ok a
unfolding whole
keeps_whole left {first} keeps bytes h = rw (keeps.kept bytes 0 _ (whole_ok left first bytes h), eqb_refl (length bytes))

-- A range that goes further.
keeps_range : (low : ℕ) {high higher : ℕ} → high ≤ higher → (number : ℕ) (read : Reader ℕ) →
    Keeps (judged (between low high) number read) (judged (between low higher) number read)
keeps_range low {high} {higher} further number read =
    keeps_judged (between low high) (between low higher) number read
    λ n h. let within = between_true low high n h in true_between low higher n (record { low = within.low; high = omega (arith, within.high) })

module _ {old new : Format} (wider : Extends old new) where
  -- The program.
  byte_kept : (n : ℕ) → count_byte old.transitions n ≡ true → count_byte new.transitions n ≡ true
  byte_kept n h =
      decided (eqb n long_count)
      (λ t. rw t (lt-ltb short_transitions new.transitions (omega (arith, wider.transitions, ltb-true short_transitions old.transitions (rw t at h)))))
      (λ t. rw t (rw t at h))

  count_kept : Keeps (transition_count old.transitions) (transition_count new.transitions)
  unfolding transition_count
  count_kept =
      keeps_bind (keeps_judged (count_byte old.transitions) (count_byte new.transitions) program_range (byte program_length) byte_kept) λ count.
      keeps_optional (eqb count long_count) count
      (keeps_range (short_transitions + 1) wider.transitions program_range (word program_length))

  header_kept : Keeps (read_header_in old) (read_header_in new)
  unfolding read_header_in header_number
  header_kept =
      keeps_bind (keeps_range 1 wider.ranks program_range (byte program_length)) λ ranks.
      keeps_bind (keeps_same (header_number 1 max_cells)) λ cells.
      keeps_bind (keeps_same (header_number 1 max_registers)) λ registers.
      keeps_bind (keeps_same (header_number 1 max_queues)) λ queues.
      keeps_bind (keeps_same (header_number 1 max_states)) λ states.
      keeps_bind count_kept λ transitions.
      keeps_same _

  pub program_kept : (bytes : List ℕ) {P : Program} → read_program_in old bytes ≡ Ok P → read_program_in new bytes ≡ Ok P
  unfolding read_program_in program_reader_in
  program_kept =
      keeps_whole program_length (keeps_bind header_kept λ header. keeps_same _)

  -- The record.
  form_kept : (at map : ℕ) (kind : Option Kind) → Keeps (judged_item_form at (form_of old.maps map kind)) (judged_item_form at (form_of new.maps map kind))
  unfolding form_of judged_item_form
  form_kept at map None = keeps_same _
  form_kept at map (Some kind) =
      decided (member map (old.maps kind))
      (λ t. rw (t, wider.maps kind map t) (keeps_same _))
      (λ t. rw t (record { kept = λ bytes next f h. absurd (refused≢ok h) }))

  item_kept : (header : Header) → Keeps (read_item_in old header) (read_item_in new header)
  unfolding read_item_in item_form_in
  item_kept header =
      keeps_bind (keeps_same here) λ at.
      keeps_bind (keeps_same (byte record_length)) λ map.
      keeps_bind (keeps_same (byte record_length)) λ number.
      keeps_bind (form_kept at map (lookup number item_kinds)) λ kind.
      keeps_same _

  pub record_kept : (header : Header) (bytes : List ℕ) {items : List Item} → read_record_in old header bytes ≡ Ok items →
      read_record_in new header bytes ≡ Ok items
  unfolding read_record_in record_reader_in
  record_kept header =
      keeps_whole record_length
      (keeps_bind (keeps_same (judged (λ n. leb n max_items) record_range (word record_length))) λ count. keeps_times count (item_kept header))

  -- A readable program with a readable record, from any start. What becomes of it is the replay's, or the start's: it is accepted with the same run, or
  -- refused with the same number and place.
  module _ {program recorded : List ℕ} (readable : Readable old program recorded) (start : List ℕ) where
    pub accept_kept : accept_in new program start recorded ≡ accept_in old program start recorded
    unfolding accept_in
    accept_kept =
        let h = readable.program.header in
        rw (readable.program_read_lem, program_kept program readable.program_read_lem)
        (bind_cong (read_start h start) _ _ λ readings _. rw (readable.record_read_lem, record_kept h recorded readable.record_read_lem))

    -- So its answer with number and place, lists, slip and listing, for whatever lent memory.
    result_kept : (order_length cells_length : ℕ) →
        check_result_in new program start recorded order_length cells_length ≡ check_result_in old program start recorded order_length cells_length
    unfolding check_result_in
    result_kept order_length cells_length = rw accept_kept

    pub check_kept : (order cells : List ℕ) → check_in new program start recorded order cells ≡ check_in old program start recorded order cells
    unfolding check_in
    check_kept order cells = rw (result_kept (length order) (length cells))

    pub entry_kept : (order cells : List ℕ) → check_bytes_in new program start recorded order cells ≡ check_bytes_in old program start recorded order cells
    unfolding check_bytes_in
    entry_kept order cells = rw (result_kept (length order / 2) (length cells / 2))

    pub slip_kept : (memory : List ℕ) → write_slip_in new program start recorded memory ≡ write_slip_in old program start recorded memory
    unfolding write_slip_in
    slip_kept memory = rw accept_kept

    pub listing_kept : (memory : List ℕ) → listing_in new program start recorded memory ≡ listing_in old program start recorded memory
    unfolding listing_in
    listing_kept memory = rw accept_kept

    -- A record that the replay refuses (7 to 13, and 18) is refused by this number at this place, as it was.
    pub refused_kept : {readings : Start} {r : Refusal} → read_start readable.program.header start ≡ Ok readings →
        replay readable.program readings readable.items ≡ Err r → accept_in new program start recorded ≡ Err r
    unfolding accept_in
    refused_kept begun refuses = accept_kept ∙ rw (readable.program_read_lem, begun, readable.record_read_lem, refuses)

-- An accepted record is a readable one.
pub accepted_readable : (format : Format) (program start recorded : List ℕ) {a : Accepted} → accept_in format program start recorded ≡ Ok a →
    Readable format program recorded
unfolding accept_in
accepted_readable format program start recorded accepted =
    let (P, program_read_lem, h₁) = bind_ok (read_program_in format program) _ accepted in
    let (readings, start_read_lem, h₂) = bind_ok (read_start P.header start) _ h₁ in
    let (items, record_read_lem, h₃) = bind_ok (read_record_in format P.header recorded) _ h₂ in
    record { program = P; items = items; program_read_lem = program_read_lem; record_read_lem = record_read_lem }
