-- Readers and writers that undo each other: a rule for each way in which readers are put together, so that one walk through a reader shows that what is
-- written is bytes, that it is read back, and that what is read was written so.
--
-- Where one reader follows another, the value that the first one finds is picked from the value that the whole finds. So the rest is shown, for each such
-- value, of the values from which it is picked.
use Rattle.model.specs.declared.Found.{Found}
use Prim.Native.Nat.{ℕ, zero, suc, ◌+◌, ◌/◌, ◌%◌, ◌<◌}
use mathlib.Core.Path.{◌≡◌, refl, sym, ap, ap₂, subst, ◌∙◌}
use mathlib.Core.Bool.{Bool, true, false, true≢false, false≢true}
use mathlib.Core.List.{List, [], ◌∷◌, ◌++◌, append_assoc, append-nil}
use native.Mathlib.Nat.{add-zero}
use native.Mathlib.Omega.{arith}
use lib.ListN.{length, drop, get_or, length-append, length-drop}
use lib.Seq.{drop-drop, drop-append_seam, drop-length, get_or-drop}
use borrow.Author.Tests.{eq-eqb}
use Rattle.model.specs.Limits.{byte_values, word_values}
use Rattle.model.specs.Refusals as Refusals
use Rattle.model.specs.Refusals.{Ok}
use Rattle.model.specs.Choice.{Each, all, one}
use Rattle.model.specs.Bytes.{AreBytes, Reader, found, pure, here, byte, word, word_bytes, judged, optional, times, whole, ◌>>=◌}
use Rattle.model.proofs.Laws.{ok_injective, bind_ok}
use Rattle.model.proofs.Bytes.{byte_there, judged_ok, times_none, times_more, finds_word}
use Rattle.model.proofs.Standing.{byte_stands, word_read, word_stands}
use Rattle.record_bytes.specs.RecordBytes.{part}
use Rattle.record_bytes.specs.Claims.{StandsAt, RoundTrip, OneForm}

-- Bytes in a row.
pub no_bytes : AreBytes []
no_bytes i = omega arith

one_byte : {n : ℕ} → n < byte_values → AreBytes (n ∷ [])
one_byte small zero = small
one_byte small (suc i) = no_bytes i

bytes_append : (l m : List ℕ) → AreBytes l → AreBytes m → AreBytes (l ++ m)
bytes_append [] m first second i = second i
bytes_append (b ∷ l) m first second zero = first 0
bytes_append (b ∷ l) m first second (suc i) = bytes_append l m (λ k. first (suc k)) second i

-- What stands behind.
behind : (bytes : List ℕ) (at : ℕ) (out more : List ℕ) → drop at bytes ≡ out ++ more → drop (at + length out) bytes ≡ more
behind bytes at out more h = sym (drop-drop (length out) at bytes) ∙ ap (drop (length out)) h ∙ drop-append_seam out more

inside : (bytes : List ℕ) (at x : ℕ) (more : List ℕ) → drop at bytes ≡ x ∷ more → at < length bytes
inside bytes at x more h = omega (arith, ap length h, length-drop at bytes)

pub trip_byte : (early : ℕ) → RoundTrip (byte early) (λ v. v ∷ []) (λ v. v < byte_values)
trip_byte early =
    record {
      are_bytes = λ n small. one_byte small;
      read_back = λ n small bytes at more h.
          let is : get_or bytes at 0 ≡ n =
          ap (λ k. get_or bytes k 0) (sym (add-zero at)) ∙ sym (get_or-drop at bytes 0 0) ∙ ap (λ l. get_or l 0 0) h in
          byte_there early bytes at (inside bytes at n more h) ∙ ap (λ v. found v (at + 1)) is;
      written_so = λ bytes bound at f h.
          let is = byte_stands early bytes at h in
          record { can = rw is.value (bound at); stands = is.stands };
    }

pub trip_word : (early : ℕ) → RoundTrip (word early) word_bytes (λ v. v < word_values)
trip_word early =
    record {
      are_bytes = λ n small.
          let high : n / byte_values < byte_values = omega (arith, small) in
          let low : n % byte_values < byte_values = omega arith in
          bytes_append (n / byte_values ∷ []) (n % byte_values ∷ []) (one_byte high) (one_byte low);
      read_back = λ n small bytes at more h. word_read early bytes at n h ∙ ap (found n) (omega arith);
      written_so = λ bytes bound at f h.
          record { can = (finds_word early).holds at f h bound; stands = word_stands early bytes at bound h };
    }

-- A test that the value passes.
pub trip_judged : (test : ℕ → Bool) (number : ℕ) {read : Reader ℕ} {written : ℕ → List ℕ} {Can : ℕ → Type 0} → RoundTrip read written Can →
    RoundTrip (judged test number read) written (λ v. Can v × (test v ≡ true))
unfolding judged
trip_judged test number {read} first =
    record {
      are_bytes = λ v (can, passes). first.are_bytes v can;
      read_back = λ v (can, passes) bytes at more h. rw (first.read_back v can bytes at more h, passes) refl;
      written_so = λ bytes bound at f h.
          let (e, passes) = judged_ok test number read bytes at h in
          let is = first.written_so bytes bound at f e in
          record { can = (is.can, passes); stands = is.stands };
    }

-- The same values, said otherwise; the same bytes, written otherwise.
pub trip_as : {A : Type 0} {read : Reader A} {written : A → List ℕ} {Can Could : A → Type 0} → RoundTrip read written Can →
    ((a : A) → Can a → Could a) → ((a : A) → Could a → Can a) → RoundTrip read written Could
trip_as first there back =
    record {
      are_bytes = λ a could. first.are_bytes a (back a could);
      read_back = λ a could. first.read_back a (back a could);
      written_so = λ bytes bound at f h.
          let is = first.written_so bytes bound at f h in
          record { can = there f.value is.can; stands = is.stands };
    }

pub trip_written : {A : Type 0} {read : Reader A} {written otherwise : A → List ℕ} {Can : A → Type 0} → RoundTrip read written Can →
    ((a : A) → Can a → written a ≡ otherwise a) → RoundTrip read otherwise Can
trip_written {read = read} first same =
    record {
      are_bytes = λ a can. subst AreBytes (same a can) (first.are_bytes a can);
      read_back = λ a can bytes at.
          subst (λ out. (more : List ℕ) → drop at bytes ≡ out ++ more → read bytes at ≡ found a (at + length out)) (same a can)
          (first.read_back a can bytes at);
      written_so = λ bytes bound at f h.
          let is = first.written_so bytes bound at f h in
          record { can = is.can; stands = is.stands ∙ ap (λ out. out ++ drop f.next bytes) (same f.value is.can) };
    }

-- A value that takes no bytes; it is the only one with what was picked from it.
pub trip_pure : {A : Type 0} {Can Picked : A → Type 0} (a : A) → Can a → Picked a → ((b : A) → Can b → Picked b → a ≡ b) →
    RoundTrip (pure a) (λ b. []) (λ b. Can b × Picked b)
trip_pure {A} {Can} {Picked} a can picked only =
    record {
      are_bytes = λ b is. no_bytes;
      read_back = λ b is bytes at more h. ap₂ found (only b is.0 is.1) (sym (add-zero at));
      written_so = λ bytes bound at f h.
          let is = ok_injective h in
          record {
            can = subst (λ (f : Found A). Can f.value × Picked f.value) is (can, picked);
            stands = ap (λ (f : Found A). drop f.next bytes) is;
          };
    }

-- One reader after another.
pub trip_bind : {A B : Type 0} {read : Reader A} {rest : A → Reader B} {written : A → List ℕ} {after : B → List ℕ} {Could : A → Type 0}
    {Can Picked : B → Type 0} (pick : B → A) → RoundTrip read written Could → ((b : B) → Can b → Picked b → Could (pick b)) →
    ((a : A) → Could a → RoundTrip (rest a) after (λ b. Can b × (Picked b × (pick b ≡ a)))) →
    RoundTrip (read >>= rest) (λ b. written (pick b) ++ after b) (λ b. Can b × Picked b)
trip_bind {B = B} {read = read} {rest} {written} {after} {Could} {Can} {Picked} pick first could then =
    record {
      are_bytes = λ b (can, picked).
          let fits = could b can picked in
          bytes_append (written (pick b)) (after b) (first.are_bytes (pick b) fits) ((then (pick b) fits).are_bytes b (can, (picked, refl)));
      read_back = λ b (can, picked) bytes at more h.
          let fits = could b can picked in
          let out = written (pick b) in
          let split : drop at bytes ≡ out ++ (after b ++ more) = h ∙ append_assoc out (after b) more in
          ap (λ m. Refusals.◌>>=◌ m (λ f. rest f.value bytes f.next)) (first.read_back (pick b) fits bytes at (after b ++ more) split) ∙
          (then (pick b) fits).read_back b (can, (picked, refl)) bytes (at + length out) more (behind bytes at out (after b ++ more) split) ∙
          ap (found b) (omega (arith, length-append out (after b)));
      written_so = λ bytes bound at g h.
          let (f, e, h₁) = bind_ok (read bytes at) _ h in
          let is = first.written_so bytes bound at f e in
          let more = (then f.value is.can).written_so bytes bound f.next g h₁ in
          both g is more;
    }
  where
    both : {bytes : List ℕ} {at : ℕ} {f : Found _} (g : Found B) → StandsAt written Could bytes at f →
        StandsAt after (λ b. Can b × (Picked b × (pick b ≡ f.value))) bytes f.next g →
        StandsAt (λ b. written (pick b) ++ after b) (λ b. Can b × Picked b) bytes at g
    both {bytes} {at} {f} g is more =
        let (can, (picked, same)) = more.can in
        record {
          can = (can, picked);
          stands =
              is.stands ∙ ap₂ (λ v l. written v ++ l) (sym same) more.stands ∙
              sym (append_assoc (written (pick g.value)) (after g.value) (drop g.next bytes));
        }

-- A last reader, behind which nothing is read.
pub trip_then : {A B : Type 0} {read : Reader A} {rest : A → Reader B} {written : A → List ℕ} {Could : A → Type 0} {Can Picked : B → Type 0}
    (pick : B → A) → RoundTrip read written Could → ((b : B) → Can b → Picked b → Could (pick b)) →
    ((a : A) → Could a → RoundTrip (rest a) (λ b. []) (λ b. Can b × (Picked b × (pick b ≡ a)))) →
    RoundTrip (read >>= rest) (λ b. written (pick b)) (λ b. Can b × Picked b)
trip_then {written = written} pick first could then =
    trip_written (trip_bind pick first could then) (λ b _. append-nil (written (pick b)))

-- A whole, from which nothing was picked before.
pub trip_plain : {A : Type 0} {read : Reader A} {written : A → List ℕ} {Can : A → Type 0} → RoundTrip read written (λ a. Can a × Unit {0}) →
    RoundTrip read written Can
trip_plain first = trip_as first (λ a is. is.0) (λ a can. (can, tt))

-- The place where a field begins is no value of it.
pub trip_here : {B : Type 0} {rest : ℕ → Reader B} {written : B → List ℕ} {Can : B → Type 0} → ((at : ℕ) → RoundTrip (rest at) written Can) →
    RoundTrip (here >>= rest) written Can
trip_here then =
    record {
      are_bytes = (then 0).are_bytes;
      read_back = λ b can bytes at. (then at).read_back b can bytes at;
      written_so = λ bytes bound at. (then at).written_so bytes bound at;
    }

-- A field that is there only where its map bit stands.
pub record Optional {A : Type 0} (present : Bool) (absent : A) (Can : A → Type 0) (a : A) : Type 0 where
  pub there : present ≡ true → Can a
  pub left_out : present ≡ false → a ≡ absent

pub trip_optional : {A : Type 0} (present : Bool) (absent : A) {read : Reader A} {written : A → List ℕ} {Can : A → Type 0} →
    RoundTrip read written Can → RoundTrip (optional present absent read) (λ v. part present (written v)) (Optional present absent Can)
trip_optional true absent first =
    trip_as first (λ a can. record { there = λ _. can; left_out = λ is. absurd (true≢false is) }) (λ a is. is.there refl)
trip_optional false absent first =
    record {
      are_bytes = λ a is. no_bytes;
      read_back = λ a is bytes at more h. ap₂ found (sym (is.left_out refl)) (sym (add-zero at));
      written_so = λ bytes bound at f h.
          let is = ok_injective h in
          record {
            can = record { there = λ t. absurd (false≢true t); left_out = λ _. ap (λ (f : Found _). f.value) (sym is) };
            stands = ap (λ (f : Found _). drop f.next bytes) is;
          };
    }

-- So many, one behind the other.
module _ {A : Type 0} {read : Reader A} {written : A → List ℕ} {Can : A → Type 0} (first : RoundTrip read written Can) (all_written : List A → List ℕ)
    (none : all_written [] ≡ []) (more : (a : A) (l : List A) → all_written (a ∷ l) ≡ written a ++ all_written l) where
  all_bytes : {l : List A} → Each Can l → AreBytes (all_written l)
  all_bytes all = rw none no_bytes
  all_bytes (one {a} {rest} can others) = rw more (bytes_append (written a) (all_written rest) (first.are_bytes a can) (all_bytes others))

  all_read_back : {l : List A} → Each Can l → (bytes : List ℕ) (at : ℕ) (left : List ℕ) → drop at bytes ≡ all_written l ++ left →
      times (length l) read bytes at ≡ found l (at + length (all_written l))
  all_read_back all bytes at left h = rw (none, times_none read bytes at) (ap (found []) (sym (add-zero at)))
  all_read_back (one {a} {rest} can others) bytes at left h =
      let split : drop at bytes ≡ written a ++ (all_written rest ++ left) =
      h ∙ ap (λ out. out ++ left) (more a rest) ∙ append_assoc (written a) (all_written rest) left in
      rw (
        times_more (length rest) read bytes at,
        first.read_back a can bytes at (all_written rest ++ left) split,
        all_read_back others bytes (at + length (written a)) left (behind bytes at (written a) (all_written rest ++ left) split),
        more a rest,
        length-append (written a) (all_written rest),
      )
      (ap (found (a ∷ rest)) (omega arith))

  all_stand : (bytes : List ℕ) → AreBytes bytes → (n at : ℕ) (f : Found (List A)) → times n read bytes at ≡ Ok f →
      StandsAt all_written (λ l. Each Can l × (length l ≡ n)) bytes at f
  all_stand bytes bound zero at f h =
      subst (StandsAt all_written (λ l. Each Can l × (length l ≡ 0)) bytes at) (ok_injective (sym (times_none read bytes at) ∙ h))
      (record { can = (all, refl); stands = rw none })
  all_stand bytes bound (suc n) at f h =
      let (a, ea, h₁) = bind_ok (read bytes at) _ (sym (times_more n read bytes at) ∙ h) in
      let (rest, er, h₂) = bind_ok (times n read bytes a.next) _ h₁ in
      both a rest (ok_injective {a = record { value = a.value ∷ rest.value; next = rest.next }} h₂) (first.written_so bytes bound at a ea) (all_stand bytes bound n a.next rest er)
    where
      both : (a : Found A) (rest : Found (List A)) → record { value = a.value ∷ rest.value; next = rest.next } ≡ f → StandsAt written Can bytes at a →
          StandsAt all_written (λ l. Each Can l × (length l ≡ n)) bytes a.next rest →
          StandsAt all_written (λ l. Each Can l × (length l ≡ suc n)) bytes at f
      both a rest found_so is others =
          subst (StandsAt all_written (λ l. Each Can l × (length l ≡ suc n)) bytes at) found_so
          (record {
            can = (one is.can others.can.0, ap suc others.can.1);
            stands =
                is.stands ∙ ap (λ out. written a.value ++ out) others.stands ∙
                sym (append_assoc (written a.value) (all_written rest.value) (drop rest.next bytes)) ∙
                ap (λ out. out ++ drop rest.next bytes) (sym (more a.value rest.value));
          })

  pub trip_times : (n : ℕ) → RoundTrip (times n read) all_written (λ l. Each Can l × (length l ≡ n))
  trip_times n =
      record {
        are_bytes = λ l (each, counted). all_bytes each;
        read_back = λ l (each, counted) bytes at left h. rw (← counted) (all_read_back each bytes at left h);
        written_so = λ bytes bound at f h. all_stand bytes bound n at f h;
      }

-- What is read to the end of the bytes is what is written, and no other bytes are read as it.
module _ {A : Type 0} {read : Reader A} {written : A → List ℕ} {Can : A → Type 0} (first : RoundTrip read written Can) where
  pub whole_back : (left : ℕ) (a : A) → Can a → whole left read (written a) ≡ Ok a
  unfolding whole
  whole_back left a can =
      rw (first.read_back a can (written a) 0 [] (sym (append-nil (written a))), eq-eqb (0 + length (written a)) (length (written a)) (omega arith))

  pub whole_so : (bytes : List ℕ) (a : A) → AreBytes bytes → read bytes 0 ≡ found a (length bytes) → (bytes ≡ written a) × Can a
  whole_so bytes a bound h =
      let is = first.written_so bytes bound 0 _ h in
      (is.stands ∙ ap (λ l. written a ++ l) (drop-length bytes) ∙ append-nil (written a), is.can)

pub trip_once : {A : Type 0} {read other : Reader A} {written : A → List ℕ} {Can Could : A → Type 0} → RoundTrip read written Can →
    RoundTrip other written Could → OneForm read other
trip_once first second bytes others a bound bound' h h' = (whole_so first bytes a bound h).0 ∙ sym (whole_so second others a bound' h').0
