-- A record that was read is its items, one after the other. Reading so many items is read from the front: after an item that was found, one less from
-- the next place. Hence the items stand from place 2 to the end, and whoever reads the item at the place where the one before it ended reads the
-- record's items again.
use Rattle.model.specs.declared.Found.{Found}
use Prim.Native.Nat.{ℕ, zero, suc, ◌-◌, ◌+◌, ◌<◌}
use mathlib.Core.Path.{◌≡◌, refl, sym, subst, fun_ext, ◌∙◌}
use mathlib.Core.Bool.{Bool}
use mathlib.Core.List.{List, ◌∷◌}
use native.Mathlib.Omega.{arith}
use lib.Dec.{eqb, leb, leb-zero}
use lib.ListN.{length}
use borrow.Author.Tests.{eqb-true, leb-true}
use Rattle.model.specs.declared.Header.{Header}
use Rattle.model.specs.declared.Item.{Item}
use Rattle.model.specs.declared.Refusal.{Refusal}
use Rattle.model.specs.Limits.{max_items}
use Rattle.model.specs.Refusals.{Result, Ok, Err, refuse, record_length, record_range, ◌>>=◌}
use Rattle.model.specs.Choice.{when, between}
use Rattle.model.specs.Bytes.{found, word, judged, times}
use Rattle.model.specs.Records.{read_item, read_record_in, read_record}
use Rattle.model.proofs.Laws.{refused≢ok, ok_injective, bind_ok, bind_assoc, bind_cong, decided}
use Rattle.model.proofs.Bytes.{finds_counted, judged_ok, word_next}
use Rattle.fields.specs.Fields.{judged_field}
use Rattle.record.specs.Places.{ItemsFrom, ended, then, Recorded, item_count, items_end, record_count}

-- The items from a place, one at a time, with one left or more: the next one is refused, or it is found, and one less is left behind it.
module _ (header : Header) (bytes : List ℕ) (at count index : ℕ) (some : index < count) where
  left : count - index ≡ suc (count - (index + 1))
  left = omega arith

  pub item_fails : {r : Refusal} → read_item header bytes at ≡ Err r → Err r ≡ items_end header (count - index) bytes at
  unfolding items_end times
  item_fails p = rw (left, p)

  pub item_found : {item : Item} {next : ℕ} → read_item header bytes at ≡ found item next →
      items_end header (count - (index + 1)) bytes next ≡ items_end header (count - index) bytes at
  unfolding items_end times
  item_found {item} {next} p =
      rw (left, p) (sym (bind_assoc (times (count - (index + 1)) (read_item header) bytes next) (λ f. found (item ∷ f.value) f.next) (λ f. Ok f.next)))

-- What is made of items that come to a place: their count, if that is the end of the bytes.
abbrev pub at_end : List ℕ → (count end : ℕ) → Result ℕ
at_end bytes count end = when (eqb end (length bytes)) (λ _. Ok count) (λ _. refuse record_length end)

-- Items that were found have to reach the end of the bytes.
abbrev to_end : (bytes : List ℕ) → Found (List Item) → Result (List Item)
to_end bytes f = when (eqb f.next (length bytes)) (λ _. Ok f.value) (λ _. refuse record_length f.next)

-- The definition of the whole record, with the end looked at behind the items.
read_record_is : (header : Header) (bytes : List ℕ) →
    read_record header bytes ≡ (item_count bytes 0 >>= (λ f. times f.value (read_item header) bytes f.next >>= to_end bytes))
unfolding read_record_in item_count
read_record_is header bytes = bind_assoc (item_count bytes 0) (λ f. times f.value (read_item header) bytes f.next) (to_end bytes)

-- So many items that are read to the end are counted at once.
counted : (bytes : List ℕ) (count : ℕ) (m : Result (Found (List Item))) → ((f : Found (List Item)) → m ≡ Ok f → length f.value ≡ count) →
    ((m >>= to_end bytes) >>= (λ items. Ok (length items))) ≡ ((m >>= (λ f. Ok f.next)) >>= at_end bytes count)
counted bytes count (Ok f) h = decided (eqb f.next (length bytes)) (λ t. rw (t, h f refl)) (λ t. rw t)
counted bytes count (Err r) h = refl

-- A record's count is read first, then so many items, and then the end has to be reached.
pub record_count_is : (header : Header) (bytes : List ℕ) →
    record_count header bytes ≡ (item_count bytes 0 >>= (λ f. items_end header f.value bytes f.next >>= at_end bytes f.value))
unfolding record_count items_end
record_count_is header bytes =
    rw read_record_is
    (bind_assoc (item_count bytes 0) _ _
    ∙ bind_cong (item_count bytes 0) _ _
    (λ f _. counted bytes f.value (times f.value (read_item header) bytes f.next) (λ g e. (finds_counted f.value (read_item header)).holds f.next _ e)))

-- The count is a word within its limit.
from_zero : (high : ℕ) → between 0 high ≡ (λ n. leb n high)
from_zero high = fun_ext λ n. rw (leb-zero n)

pub count_judged : (bytes : List ℕ) {read answer : Result (Found ℕ)} → read ≡ word record_length bytes 0 →
    answer ≡ judged_field (between 0 max_items) record_range 0 read → answer ≡ item_count bytes 0
unfolding item_count judged
count_judged bytes {read} {answer} p q =
    subst (λ (test : ℕ → Bool). answer ≡ judged_field test record_range 0 (word record_length bytes 0)) (from_zero max_items) (rw p at q)

-- Items that reach the end.
ends : (bytes : List ℕ) (m : Result (Found (List Item))) {items : List Item} → (m >>= to_end bytes) ≡ Ok items → m ≡ found items (length bytes)
ends bytes (Ok f) {items} h =
    decided (eqb f.next (length bytes))
    (λ t.
    let v : f.value ≡ items = ok_injective (rw t at h) in
    let n : f.next ≡ length bytes = eqb-true f.next (length bytes) t in
    rw (← v, ← n))
    (λ t. absurd (refused≢ok (rw t at h)))
ends bytes (Err r) h = absurd (refused≢ok h)

-- The items that were read stand one after the other.
times_from : (header : Header) (bytes : List ℕ) (n at : ℕ) {f : Found (List Item)} → times n (read_item header) bytes at ≡ Ok f →
    ItemsFrom header bytes at f.value f.next
unfolding times
times_from header bytes zero at h = subst (λ (f : Found (List Item)). ItemsFrom header bytes at f.value f.next) (ok_injective h) ended
times_from header bytes (suc n) at h =
    let (a, ea, h₁) = bind_ok (read_item header bytes at) _ h in
    let (rest, er, h₂) = bind_ok (times n (read_item header) bytes a.next) _ h₁ in
    subst (λ (f : Found (List Item)). ItemsFrom header bytes at f.value f.next) (ok_injective h₂)
    (then ea (times_from header bytes n a.next er))

-- A record that was read is one, as the paper describes it.
pub record_items : (header : Header) (bytes : List ℕ) {items : List Item} → read_record header bytes ≡ Ok items → Recorded header bytes items
unfolding item_count
record_items header bytes {items} h =
    let (f, ef, h₁) = bind_ok (item_count bytes 0) _ (rw read_record_is at h) in
    let (ew, t) = judged_ok (λ n. leb n max_items) record_range (word record_length) bytes 0 ef in
    let e = ends bytes (times f.value (read_item header) bytes f.next) h₁ in
    let l : length items ≡ f.value = (finds_counted f.value (read_item header)).holds f.next _ e in
    let n : f.next ≡ 2 = word_next record_length bytes 0 ew in
    record {
      count = rw (l, ← n) ew;
      limit = rw l (leb-true f.value max_items t);
      items_from = rw n at (times_from header bytes f.value f.next e);
    }

-- What the record reader's answer says of the definition.
pub readable_items : (header : Header) (bytes : List ℕ) {count : ℕ} → Ok count ≡ record_count header bytes →
    (items : List Item) × (read_record header bytes ≡ Ok items) × (length items ≡ count)
unfolding record_count
readable_items header bytes h =
    let (items, e, l) = bind_ok (read_record header bytes) _ (sym h) in
    (items, e, ok_injective l)
