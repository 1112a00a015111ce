-- The verdict on a map and a kind's number is the papers', for every pair of numbers, and so for each of the 65,536 pairs of bytes
-- (`forms_agree`), in document 01's format and in today's: the verdict that is computed is the papers', and the papers have no other. A kind is found
-- under its number and no other is; and a format lists for a kind exactly the maps that the papers' relation gives it.
use Rattle.std.specs.Prelude.{Option, Some, None}
use Rattle.model.proofs.Options.{none-ne-some}
use Prim.Native.Nat.{ℕ, ◌+◌}
use mathlib.Core.Path.{◌≡◌, refl, sym, ap, subst, ◌∙◌}
use mathlib.Core.Bool.{Bool, true, false, true≢false, not, ◌||◌}
use mathlib.Core.List.{List}
use mathlib.Core.Logic.{◌↔◌}
use lib.Dec.{eqb}
use borrow.Author.Tests.{eqb-true}
use Rattle.model.specs.declared.Kind.{Kind}
use Rattle.model.specs.declared.Kind.TheVariants.{Load, Store, Assign, Assume, Read, Write, Popa, Popb, Bar}
use Rattle.model.specs.Choice.{bit, lookup, member, Each, all, one}
use Rattle.model.specs.ItemKinds.{kind_number, item_kinds, is_command_kind}
use Rattle.model.specs.Formats.{OriginalMap, HasMap, original, with_high, with_remote, original_maps, item_maps, Format, document01, today}
use Rattle.model.specs.ItemForms.{FormIs, good, unknown_kind, wrong_map, form_of, item_form_in, item_form, judged_item_form, ItemForm}
use Rattle.model.specs.Replay.{every}
use Rattle.model.proofs.Laws.{decided, refused≢ok}
use Rattle.model.proofs.ItemKinds.{kind_found}
use Rattle.model.proofs.Bytes.{Finds, finds_pure}
use Rattle.model.proofs.Tables.{every_row, looked_up, one_of, every_one}

-- What is found under a number has that number.
found_number : (number : ℕ) {kind : Kind} → lookup number item_kinds ≡ Some kind → kind_number kind ≡ number
unfolding item_kinds every_row
found_number number {kind} h =
    eqb-true (kind_number kind) number (looked_up (λ n k. eqb (kind_number k) n) number item_kinds refl h)

-- A format lists the maps of a relation, and no others.
pub record Lists (format : Format) (Has : Kind → ℕ → Type 0) : Type 0 where
  pub listed : {kind : Kind} {map : ℕ} → Has kind map → member map (format.maps kind) ≡ true
  pub only : (kind : Kind) (map : ℕ) → member map (format.maps kind) ≡ true → Has kind map

-- Document 01's sentence, and its case for each kind.
original_listed : {kind : Kind} {map : ℕ} → OriginalMap kind map → member map (original_maps kind) ≡ true
unfolding member original_maps
original_listed OriginalMap.load = refl
original_listed OriginalMap.load_valued = refl
original_listed OriginalMap.store = refl
original_listed OriginalMap.store_valued = refl
original_listed OriginalMap.assign = refl
original_listed OriginalMap.assume = refl
original_listed OriginalMap.read = refl
original_listed OriginalMap.write = refl
original_listed OriginalMap.bar = refl
original_listed OriginalMap.popa = refl
original_listed OriginalMap.popa_valued = refl
original_listed OriginalMap.popb = refl
original_listed OriginalMap.popb_valued = refl

each_original : (kind : Kind) → Each (OriginalMap kind) (original_maps kind)
unfolding original_maps
each_original Load = one OriginalMap.load (one OriginalMap.load_valued all)
each_original Store = one OriginalMap.store (one OriginalMap.store_valued all)
each_original Assign = one OriginalMap.assign all
each_original Assume = one OriginalMap.assume all
each_original Read = one OriginalMap.read all
each_original Write = one OriginalMap.write all
each_original Popa = one OriginalMap.popa (one OriginalMap.popa_valued all)
each_original Popb = one OriginalMap.popb (one OriginalMap.popb_valued all)
each_original Bar = one OriginalMap.bar all

pub original_maps_lem : Lists document01 OriginalMap
original_maps_lem =
    record { listed = λ has. original_listed has; only = λ kind map h. one_of map (original_maps kind) (each_original kind) h }

-- A test that is computed for each kind with each of its maps, of a map that a kind has.
each_map_in : {format : Format} {Has : Kind → ℕ → Type 0} → Lists format Has → (test : Kind → ℕ → Bool) →
    every_row (λ _ k. every (test k) (format.maps k)) item_kinds ≡ true → {kind : Kind} {map : ℕ} → Has kind map → test kind map ≡ true
each_map_in {format} lists test passes {kind} {map} has =
    every_one (test kind) map (format.maps kind)
    (looked_up (λ _ k. every (test k) (format.maps k)) (kind_number kind) item_kinds passes (kind_found kind)) (lists.listed has)

-- Today's case for each kind has document 01's maps, with bit 7 those that have bit 1, and with bit 6 those of the pops; and it has no others.
module _ {kind : Kind} {map : ℕ} (has : OriginalMap kind map) where
  kept : member map (item_maps kind) ≡ true
  unfolding every_row every member item_kinds original_maps item_maps
  kept = each_map_in original_maps_lem (λ k m. member m (item_maps k)) refl has

  high_listed : bit 1 map ≡ true → member (map + 128) (item_maps kind) ≡ true
  unfolding every_row every member item_kinds original_maps item_maps
  high_listed standing = rw standing at (each_map_in original_maps_lem (λ k m. not (bit 1 m) || member (m + 128) (item_maps k)) refl has)

  remote_listed : is_command_kind kind ≡ false → member (map + 64) (item_maps kind) ≡ true
  unfolding every_row every member item_kinds original_maps item_maps
  remote_listed pops = rw pops at (each_map_in original_maps_lem (λ k m. is_command_kind k || member (m + 64) (item_maps k)) refl has)

today_listed : {kind : Kind} {map : ℕ} → HasMap kind map → member map (item_maps kind) ≡ true
today_listed (original has) = kept has
today_listed (with_high has standing) = high_listed has standing
today_listed (with_remote has pops) = remote_listed has pops

each_today : (kind : Kind) → Each (HasMap kind) (item_maps kind)
unfolding item_maps
each_today Load =
    one (original OriginalMap.load)
    (one (original OriginalMap.load_valued)
    (one (with_high OriginalMap.load refl) (one (with_high OriginalMap.load_valued refl) all)))
each_today Store =
    one (original OriginalMap.store)
    (one (original OriginalMap.store_valued)
    (one (with_high OriginalMap.store refl) (one (with_high OriginalMap.store_valued refl) all)))
each_today Assign = one (original OriginalMap.assign) (one (with_high OriginalMap.assign refl) all)
each_today Assume = one (original OriginalMap.assume) (one (with_high OriginalMap.assume refl) all)
each_today Read = one (original OriginalMap.read) (one (with_high OriginalMap.read refl) all)
each_today Write = one (original OriginalMap.write) (one (with_high OriginalMap.write refl) all)
each_today Popa =
    one (original OriginalMap.popa)
    (one (original OriginalMap.popa_valued)
    (one (with_remote OriginalMap.popa refl) (one (with_remote OriginalMap.popa_valued refl) all)))
each_today Popb =
    one (original OriginalMap.popb)
    (one (original OriginalMap.popb_valued)
    (one (with_remote OriginalMap.popb refl) (one (with_remote OriginalMap.popb_valued refl) all)))
each_today Bar = one (original OriginalMap.bar) (one (with_high OriginalMap.bar refl) all)

pub today_maps : Lists today HasMap
today_maps = record { listed = λ has. today_listed has; only = λ kind map h. one_of map (item_maps kind) (each_today kind) h }

pub each_map : (test : Kind → ℕ → Bool) → every_row (λ _ k. every (test k) (item_maps k)) item_kinds ≡ true → {kind : Kind} {map : ℕ} →
    HasMap kind map → test kind map ≡ true
each_map test passes has = each_map_in today_maps test passes has

-- Of a format that lists the maps of a relation, the computed verdict is the papers' ..
module _ {format : Format} {Has : Kind → ℕ → Type 0} (lists : Lists format Has) where
  by_kind : (map number : ℕ) (found : Option Kind) → lookup number item_kinds ≡ found → FormIs Has map number (form_of format.maps map found)
  unfolding form_of
  by_kind map number None e =
      unknown_kind (λ kind same. none-ne-some kind (sym e ∙ ap (λ n. lookup n item_kinds) (sym same) ∙ kind_found kind))
  by_kind map number (Some kind) e =
      decided (member map (format.maps kind))
      (λ t. rw t (good kind (found_number number e) (lists.only kind map t)))
      (λ t. rw t (wrong_map kind (found_number number e) (λ has. true≢false (sym (lists.listed has) ∙ t))))

  pub form_is : (map number : ℕ) → FormIs Has map number (item_form_in format map number)
  unfolding item_form_in
  form_is map number = by_kind map number (lookup number item_kinds) refl

  -- .. and the papers have no other verdict.
  none_found : (number : ℕ) (found : Option Kind) → lookup number item_kinds ≡ found → ((kind : Kind) → ¬ (kind_number kind ≡ number)) →
      found ≡ None
  none_found number None e no_kind = refl
  none_found number (Some kind) e no_kind = absurd (no_kind kind (found_number number e))

  unlisted : (map : ℕ) (kind : Kind) → ¬ (Has kind map) → member map (format.maps kind) ≡ false
  unlisted map kind has_not =
      decided (member map (format.maps kind)) (λ t. absurd (has_not (lists.only kind map t))) (λ t. t)

  pub form_only : {map number : ℕ} {form : ItemForm} → FormIs Has map number form → item_form_in format map number ≡ form
  unfolding item_form_in form_of
  form_only (good kind same has) = rw (← same, kind_found kind, lists.listed has)
  form_only {number = number} (unknown_kind no_kind) = rw (none_found number (lookup number item_kinds) refl no_kind)
  form_only {map} (wrong_map kind same has_not) = rw (← same, kind_found kind, unlisted map kind has_not)

  pub forms_agree : (map number : ℕ) (form : ItemForm) → (item_form_in format map number ≡ form) ↔ FormIs Has map number form
  forms_agree map number form = ((λ e. subst (FormIs Has map number) e (form_is map number)), (λ v. form_only v))

-- A kind that was judged good has the map.
verdict_finds : {bytes : List ℕ} (at : ℕ) {map number : ℕ} {form : ItemForm} → FormIs HasMap map number form →
    Finds bytes (judged_item_form at form) (λ kind. HasMap kind map)
unfolding judged_item_form
verdict_finds at (good kind same has) = finds_pure kind has
verdict_finds at (unknown_kind no_kind) = record { holds = λ next f h. absurd (refused≢ok h) }
verdict_finds at (wrong_map kind same has_not) = record { holds = λ next f h. absurd (refused≢ok h) }

pub form_finds : {bytes : List ℕ} (at map number : ℕ) → Finds bytes (judged_item_form at (item_form map number)) (λ kind. HasMap kind map)
form_finds at map number = verdict_finds at (form_is today_maps map number)
