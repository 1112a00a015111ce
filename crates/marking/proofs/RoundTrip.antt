-- The values of numbers, written by a map, are read back as those values, and no other map and bytes are.
--
-- From a place on, the bytes of the values are read back, number by number: a number's bit stands exactly if it has a value. The other way round,
-- whatever is read was written so: each value that is read stands in two bytes, and the map is the one with the bits that were met.
use Rattle.model.specs.declared.Found.{Found}
use Prim.Native.Nat.{ℕ, zero, suc, ◌+◌, ◌-◌, ◌/◌, ◌%◌, ◌^◌, ◌≤◌, ◌<◌, zero-le}
use mathlib.Core.Path.{◌≡◌, sym, ap, ap₂, ◌∙◌}
use mathlib.Core.Bool.{Bool, true, false}
use mathlib.Core.List.{List, [], ◌∷◌, ◌++◌, map, append_assoc}
use native.Mathlib.Nat.{add-zero, le_refl}
use native.Mathlib.Omega.{arith}
use lib.Dec.{ltb, eqb}
use lib.ListN.{length, drop}
use borrow.Author.Tests.{eqb-true, eqb-false, ltb-true, ltb-false, lt-ltb}
use Rattle.model.specs.Limits.{byte_values}
use Rattle.model.specs.Refusals as Refusals
use Rattle.model.specs.Refusals.{Result, Ok}
use Rattle.model.specs.Choice.{when, bit, between, numbers_from}
use Rattle.model.specs.Bytes.{AreBytes, found, word, word_bytes, judged, optional}
use Rattle.model.specs.Marked.{marked_map, marked_bytes, read_marked}
use Rattle.model.proofs.Laws.{decided, bind_ok, ok_injective, true_between, between_true}
use Rattle.model.proofs.Bytes.{judged_ok}
use Rattle.model.proofs.Standing.{word_read, behind_word, word_stands}
use Rattle.marked.specs.Reading.{value_reader}
use Rattle.marked.proofs.MarkedMaps.{held, map_to, map_bit, map_is}

-- A value's two bytes; a number without a value has none.
abbrev value_part : (value : ℕ) → List ℕ
value_part value = when (ltb 0 value) (λ _. word_bytes value) (λ _. [])

-- A value that was read, and where it stands: it is there exactly if the bit stands.
record ValueTold (bytes : List ℕ) (at : ℕ) (present : Bool) (g : Found ℕ) : Type 0 where
  marks : present ≡ ltb 0 g.value
  stands : drop at bytes ≡ value_part g.value ++ drop g.next bytes

-- A list that was read is its first member, and then the others.
record Parts (m : Result (Found ℕ)) (more : ℕ → Result (Found (List ℕ))) (x : ℕ) (l : List ℕ) (next : ℕ) : Type 0 where
  g : Found ℕ
  first : m ≡ Ok g
  value : g.value ≡ x
  rest : more g.next ≡ found l next

parts : (m : Result (Found ℕ)) (more : ℕ → Result (Found (List ℕ))) {x : ℕ} {l : List ℕ} {next : ℕ} →
    Refusals.◌>>=◌ m (λ g. Refusals.◌>>=◌ (more g.next) (λ rest. found (g.value ∷ rest.value) rest.next)) ≡ found (x ∷ l) next →
    Parts m more x l next
parts m more {x} {l} {next} h =
    let (g, first, h₁) = bind_ok m _ h in
    let (rest, others, h₂) = bind_ok (more g.next) _ h₁ in
    let values : ◌≡◌ {A = List ℕ} (g.value ∷ rest.value) (x ∷ l) = ap (λ (f : Found (List ℕ)). f.value) (ok_injective h₂) in
    let is : g.value ≡ x = cc in
    let tail : rest.value ≡ l = cc in
    let ends : rest.next ≡ next = ap (λ (f : Found (List ℕ)). f.next) (ok_injective h₂) in
    record { g = g; first = first; value = is; rest = others ∙ ap₂ found tail ends }

module _ (most fault : ℕ) (bytes : List ℕ) (at : ℕ) where
  -- A number of the right size that stands in two bytes is read as a value.
  value_read_lem : (n : ℕ) {more : List ℕ} → 1 ≤ n → n ≤ most → drop at bytes ≡ n / byte_values ∷ n % byte_values ∷ more →
      value_reader most fault bytes at ≡ found n (at + 1 + 1)
  unfolding judged
  value_read_lem n low high e = rw (word_read fault bytes at n e, true_between 1 most n (record { low = low; high = high }))

  value_told : AreBytes bytes → (present : Bool) {g : Found ℕ} → optional present 0 (value_reader most fault) bytes at ≡ Ok g →
      ValueTold bytes at present g
  value_told bound true {g} h =
      let (read, test) = judged_ok (between 1 most) fault (word fault) bytes at h in
      let some : ltb 0 g.value ≡ true = lt-ltb 0 g.value (between_true 1 most g.value test).low in
      record { marks = sym some; stands = rw some (word_stands fault bytes at bound read) }
  value_told bound false {g} h =
      let is = ok_injective h in
      let none : g.value ≡ 0 = ap (λ (x : Found ℕ). x.value) (sym is) in
      let here : at ≡ g.next = ap (λ (x : Found ℕ). x.next) is in
      record { marks = rw none; stands = rw none (ap (λ n. drop n bytes) here) }

module _ (f : ℕ → ℕ) (first most fault : ℕ) where
  -- The bytes of the values from a bit on, and what is read there.
  abbrev bytes_from : (i count : ℕ) → List ℕ
  bytes_from i count = marked_bytes f (numbers_from (first + i) count)

  abbrev read_from : (mapped : ℕ) (bytes : List ℕ) (i count : ℕ) → (at : ℕ) → Result (Found (List ℕ))
  read_from mapped bytes i count at = read_marked first most fault mapped (numbers_from (first + i) count) bytes at

  abbrev SameBits : (mapped i count : ℕ) → Type 0
  SameBits mapped i count = (j : ℕ) → i ≤ j → j < i + count → bit j mapped ≡ held first f j

  module _ (few : (n : ℕ) → f n ≤ most) (bytes : List ℕ) where
    values_read_lem : (mapped count i at : ℕ) (more : List ℕ) → SameBits mapped i count → drop at bytes ≡ bytes_from i count ++ more →
        read_from mapped bytes i count at ≡ found (map f (numbers_from (first + i) count)) (at + length (bytes_from i count))
    unfolding read_marked marked_bytes numbers_from
    values_read_lem mapped zero i at more same e = ap (found []) (sym (add-zero at))
    values_read_lem mapped (suc count) i at more same e =
        let back : first + i - first ≡ i = omega arith in
        let next : first + i + 1 ≡ first + (i + 1) = omega arith in
        let others : SameBits mapped (i + 1) count = λ j low high. same j (omega arith) (omega arith) in
        let here : bit i mapped ≡ held first f i = same i (le_refl i) (omega arith) in
        decided (held first f i)
        (λ t.
        let stands = rw t at e in
        let some : 1 ≤ f (first + i) = ltb-true 0 (f (first + i)) t in
        let rest = values_read_lem mapped count (i + 1) (at + 1 + 1) more others (rw next at (behind_word bytes at stands)) in
        rw (back, here ∙ t, t, next, value_read_lem most fault bytes at (f (first + i)) some (few (first + i)) stands, rest)
        (ap (found _) (omega arith)))
        (λ t.
        let stands = rw (t, next) at e in
        let none : f (first + i) ≡ 0 = let z = ltb-false 0 (f (first + i)) t in omega (arith, z) in
        rw (back, here ∙ t, t, next, values_read_lem mapped count (i + 1) at more others stands, none))

    -- What is written is read back.
    pub marked_reads : (count at : ℕ) (more : List ℕ) → drop at bytes ≡ marked_bytes f (numbers_from first count) ++ more →
        read_marked first most fault (marked_map first f (numbers_from first count)) (numbers_from first count) bytes at
        ≡ found (map f (numbers_from first count)) (at + length (marked_bytes f (numbers_from first count)))
    marked_reads count at more e =
        let z : first + 0 ≡ first = add-zero first in
        rw z at
        (values_read_lem (map_to first f count) count 0 at more (λ j low high. map_bit first f count j (omega arith)) (rw z e))

  -- Values that were read from a bit on, and where they stand.
  record Told (bytes : List ℕ) (mapped i count at next : ℕ) : Type 0 where
    bits : SameBits mapped i count
    stands : drop at bytes ≡ bytes_from i count ++ drop next bytes

  -- The map that values were read by, and where they stand.
  pub record MarkedTold (bytes : List ℕ) (mapped count at next : ℕ) : Type 0 where
    pub mapped_is : marked_map first f (numbers_from first count) ≡ mapped
    pub stands : drop at bytes ≡ marked_bytes f (numbers_from first count) ++ drop next bytes

  module _ (bytes : List ℕ) (bound : AreBytes bytes) (mapped : ℕ) where
    one_told : {i count at next : ℕ} {g : Found ℕ} → ValueTold bytes at (bit i mapped) g → g.value ≡ f (first + i) →
        Told bytes mapped (i + 1) count g.next next → Told bytes mapped i (suc count) at next
    unfolding marked_bytes numbers_from
    one_told {i} {count} {at} {next} {g} here is rest =
        let e : first + i + 1 ≡ first + (i + 1) = omega arith in
        record {
          bits = λ j low high.
              decided (eqb j i)
              (λ t. rw (eqb-true j i t) (here.marks ∙ ap (ltb 0) is))
              (λ t. let ne = eqb-false j i t in rest.bits j (omega (arith, ne)) (omega arith));
          stands =
              rw e
              (here.stands
              ∙ ap₂ (λ value more. value_part value ++ more) is rest.stands
              ∙ sym (append_assoc (value_part (f (first + i))) (bytes_from (i + 1) count) (drop next bytes)));
        }

    values_told : (count i at next : ℕ) → read_from mapped bytes i count at ≡ found (map f (numbers_from (first + i) count)) next →
        Told bytes mapped i count at next
    unfolding read_marked marked_bytes numbers_from
    values_told zero i at next h =
        record { bits = λ j low high. absurd (omega arith); stands = ap (λ n. drop n bytes) (ap (λ (g : Found (List ℕ)). g.next) (ok_injective h)) }
    values_told (suc count) i at next h =
        let back : first + i - first ≡ i = omega arith in
        let shift : first + i + 1 ≡ first + (i + 1) = omega arith in
        let p = parts (optional (bit i mapped) 0 (value_reader most fault) bytes at) (read_from mapped bytes (i + 1) count) (rw (back, shift) at h) in
        let g = p.g in
        one_told {g = g} (value_told most fault bytes at bound (bit i mapped) {g = g} p.first) p.value
        (values_told count (i + 1) g.next next p.rest)

    -- What is read was written so.
    pub marked_told : (count at next : ℕ) → mapped < 2 ^ count →
        read_marked first most fault mapped (numbers_from first count) bytes at ≡ found (map f (numbers_from first count)) next →
        MarkedTold bytes mapped count at next
    marked_told count at next small h =
        let z : first + 0 ≡ first = add-zero first in
        let told = values_told count 0 at next (rw z h) in
        record {
          mapped_is = map_is first f count mapped small (λ j below. told.bits j zero-le (omega arith));
          stands = rw z at told.stands;
        }
