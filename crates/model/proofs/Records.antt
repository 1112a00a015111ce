-- What the item reader answers shows the verdict on map and kind: where both are there, it is 6 at the kind's byte exactly if the kind is unknown, 6 at
-- the map's byte exactly if the map is not its kind's, and else what the fields come to, which are never refused by 6.
use Rattle.model.specs.declared.FormFault.TheVariants.{UnknownKind, WrongMap}
use Rattle.std.specs.Prelude.{None, Ok, Err}
use Prim.Native.Nat.{ℕ, ◌+◌, ◌*◌, ◌<◌}
use mathlib.Core.Path.{◌≡◌, refl, sym, subst, ◌∙◌}
use mathlib.Core.Bool.{Bool, true, false, ◌&&◌}
use mathlib.Core.List.{List}
use mathlib.Core.Logic.{◌↔◌, ◌⊎◌, inl, inr, ⊎_elim}
use native.Mathlib.Omega.{arith}
use lib.Dec.{ltb}
use lib.ListN.{length, get_or}
use Rattle.model.specs.declared.Header.{Header}
use Rattle.model.specs.declared.Item.{Item}
use Rattle.model.specs.declared.Kind.{Kind}
use Rattle.model.specs.Limits.{byte_values}
use Rattle.model.specs.Refusals.{refuse, record_length, record_range, record_form}
use Rattle.model.specs.Choice.{between, bit}
use Rattle.model.specs.Bytes.{Reader, ◌>>=◌}
use Rattle.model.specs.Formats.{HasMap}
use Rattle.model.specs.ItemForms.{FormIs, item_form, judged_item_form, ItemForm}
use Rattle.model.specs.Records.{field, low_byte, high_byte, given_value, item_fields, read_item_in, read_item}
use Rattle.model.proofs.Laws.{same_place}
use Rattle.model.proofs.Bytes.{byte_there}
use Rattle.model.proofs.Faults.{Faults, pure_faults, bind_faults, byte_faults, word_faults, judged_faults, optional_faults}
use Rattle.model.proofs.ItemForms.{today_maps, form_is, form_only}

-- Fields are refused by 4 or 5: a transition's two bytes ..
low_faults : {Row : ℕ → Type 0} → Row record_length → Row record_range → (high : Bool) (transitions : ℕ) → Faults Row (low_byte high transitions)
unfolding low_byte field
low_faults length_row range_row true transitions = byte_faults record_length length_row
low_faults length_row range_row false transitions =
    judged_faults (λ t. ltb t transitions) record_range range_row (byte_faults record_length length_row)

high_faults : {Row : ℕ → Type 0} → Row record_length → Row record_range → (transitions low : ℕ) → Faults Row (high_byte transitions low)
unfolding high_byte field
high_faults length_row range_row transitions low =
    bind_faults
    (judged_faults (λ h. ltb 0 h && ltb (h * byte_values + low) transitions) record_range range_row (byte_faults record_length length_row)) λ high.
    pure_faults _

-- .. and all of them.
pub item_fields_fault : {Row : ℕ → Type 0} → Row record_length → Row record_range → (header : Header) (map : ℕ) (kind : Kind) →
    Faults Row (item_fields header map kind)
unfolding item_fields field given_value
item_fields_fault length_row range_row header map kind =
    let one_byte : _ = byte_faults record_length length_row in
    bind_faults (optional_faults (bit 0 map) 0 (judged_faults (between 1 header.ranks) record_range range_row one_byte)) λ rank.
    bind_faults (optional_faults (bit 1 map) 0 (low_faults length_row range_row (bit 7 map) header.transitions)) λ low.
    bind_faults (optional_faults (bit 2 map) 0 (judged_faults (λ q. ltb q header.queues) record_range range_row one_byte)) λ queue.
    bind_faults (optional_faults (bit 3 map) 0 (judged_faults (between 1 header.ranks) record_range range_row one_byte)) λ place_rank_lem.
    bind_faults
    (optional_faults (bit 4 map) 0
    (judged_faults (λ a. ltb a header.cells) record_range range_row (word_faults record_length length_row))) λ place_cell_lem.
    bind_faults (optional_faults (bit 5 map) None (bind_faults (word_faults record_length length_row) λ value. pure_faults _)) λ given.
    bind_faults (optional_faults (bit 6 map) 0 (judged_faults (between 1 header.ranks) record_range range_row one_byte)) λ remote.
    bind_faults (optional_faults (bit 7 map) low (high_faults length_row range_row header.transitions low)) λ transition.
    pure_faults _

-- So a field is never refused by 6.
module _ (header : Header) (map : ℕ) (kind : Kind) (bytes : List ℕ) (next place : ℕ) where
  fields_no_form : ¬ (item_fields header map kind bytes next ≡ refuse record_form place)
  fields_no_form h =
      let other : record_form < record_form = ((item_fields_fault {Row = λ n. n < record_form} (omega arith) (omega arith) header map kind
      ).tabled bytes next).row (record { number = record_form; place = place }) h in
      omega arith

-- The papers' verdict on the map byte and the kind byte at a place.
abbrev pub FormAt : List ℕ → (at : ℕ) → ItemForm → Type 0
FormAt bytes at form = FormIs HasMap (get_or bytes at 0) (get_or bytes (at + 1) 0) form

-- Where both bytes are there, the verdict decides.
module _ (header : Header) (bytes : List ℕ) (at : ℕ) (there : at + 1 < length bytes) where
  abbrev fields_after : Kind → Reader Item
  fields_after = item_fields header (get_or bytes at 0)

  read_by : {form : ItemForm} → FormAt bytes at form → read_item header bytes at ≡ (judged_item_form at form >>= fields_after) bytes (at + 1 + 1)
  unfolding read_item_in
  read_by v =
      rw (byte_there record_length bytes at (omega arith), byte_there record_length bytes (at + 1) there, form_only today_maps v)

  -- Good: the fields follow.
  pub good_read : {kind : Kind} → FormAt bytes at (Ok kind) → read_item header bytes at ≡ fields_after kind bytes (at + 1 + 1)
  unfolding judged_item_form
  good_read v = read_by v

  -- What is refused by 6, by the verdict.
  refused_by : {place : ℕ} (form : ItemForm) → (judged_item_form at form >>= fields_after) bytes (at + 1 + 1) ≡ refuse record_form place →
      ((form ≡ Err UnknownKind) × (place ≡ at + 1)) ⊎ ((form ≡ Err WrongMap) × (place ≡ at))
  unfolding judged_item_form
  refused_by {place} (Ok kind) h = absurd (fields_no_form header (get_or bytes at 0) kind bytes (at + 1 + 1) place h)
  refused_by (Err UnknownKind) h = inl (refl, sym (same_place h))
  refused_by (Err WrongMap) h = inr (refl, sym (same_place h))

  -- So 6 comes from one of the two verdicts, at its byte.
  pub form_refused : {place : ℕ} → read_item header bytes at ≡ refuse record_form place →
      (FormAt bytes at (Err UnknownKind) × (place ≡ at + 1)) ⊎ (FormAt bytes at (Err WrongMap) × (place ≡ at))
  form_refused h =
      let is : FormAt bytes at (item_form (get_or bytes at 0) (get_or bytes (at + 1) 0)) = form_is today_maps (get_or bytes at 0) (get_or bytes (at + 1) 0) in
      ⊎_elim
      (λ u. inl (subst (FormAt bytes at) u.0 is, u.1))
      (λ w. inr (subst (FormAt bytes at) w.0 is, w.1))
      (refused_by (item_form (get_or bytes at 0) (get_or bytes (at + 1) 0)) (sym (read_by is) ∙ h))

  -- 6 at the kind's byte, exactly for an unknown kind.
  pub kind_refused : (read_item header bytes at ≡ refuse record_form (at + 1)) ↔ FormAt bytes at (Err UnknownKind)
  unfolding judged_item_form
  kind_refused = ((λ h. ⊎_elim (λ u. u.0) (λ w. absurd (omega (arith, w.1))) (form_refused h)), (λ v. read_by v))

  -- 6 at the map's byte, exactly for a map that is not among its kind's.
  pub map_refused : (read_item header bytes at ≡ refuse record_form at) ↔ FormAt bytes at (Err WrongMap)
  unfolding judged_item_form
  map_refused = ((λ h. ⊎_elim (λ u. absurd (omega (arith, u.1))) (λ w. w.0) (form_refused h)), (λ v. read_by v))
