-- Readers: what a byte, a word, a judged field and so many of one kind say of the bytes if they are found, and a rule for each way in which readers
-- are put together (`Finds`): what holds of all that they find.
use Rattle.model.specs.declared.Found.{Found}
use Prim.Native.Nat.{ℕ, zero, suc, ◌+◌, ◌*◌, ◌<◌}
use mathlib.Core.Path.{◌≡◌, refl, sym, ap, subst, ◌∙◌}
use mathlib.Core.Bool.{Bool, true, false, false≢true}
use mathlib.Core.List.{List, [], ◌∷◌}
use native.Mathlib.Omega.{arith}
use lib.Dec.{ltb, eqb}
use lib.ListN.{length, get_or}
use borrow.Author.Tests.{eqb-true, lt-ltb}
use Rattle.model.specs.Limits.{byte_values, word_values}
use Rattle.model.specs.Refusals as Refusals
use Rattle.model.specs.Refusals.{Ok}
use Rattle.model.specs.Choice.{Each, all, one}
use Rattle.model.specs.Bytes.{AreBytes, found, Reader, ◌>>=◌, pure, byte, word, judged, optional, times, whole}
use Rattle.model.proofs.Laws.{refused≢ok, ok_injective, bind_ok, decided}

-- A byte that was found is there and one byte long.
module _ (early : ℕ) (bytes : List ℕ) (at : ℕ) where
  pub byte_ok : {f : Found ℕ} → byte early bytes at ≡ Ok f → record { value = get_or bytes at 0; next = at + 1 } ≡ f
  unfolding byte
  byte_ok h = decided (ltb at (length bytes)) (λ t. ok_injective (rw t at h)) (λ t. absurd (refused≢ok (rw t at h)))

  pub byte_there : at < length bytes → byte early bytes at ≡ found (get_or bytes at 0) (at + 1)
  unfolding byte
  byte_there h = rw (lt-ltb at (length bytes) h)

  pub byte_next : {f : Found ℕ} → byte early bytes at ≡ Ok f → f.next ≡ at + 1
  byte_next h = ap (λ (f : Found ℕ). f.next) (sym (byte_ok h))

-- A word is two bytes.
pub word_is : (early : ℕ) → word early ≡ (byte early >>= (λ high. byte early >>= (λ low. pure (high * byte_values + low))))
unfolding word byte
word_is early = refl

pub word_next : (early : ℕ) (bytes : List ℕ) (at : ℕ) {f : Found ℕ} → word early bytes at ≡ Ok f → f.next ≡ at + 1 + 1
word_next early bytes at h =
    let (a, ea, h₁) = bind_ok (byte early bytes at) _ (rw word_is at h) in
    let (b, eb, h₂) = bind_ok (byte early bytes a.next) _ h₁ in
    ap (λ (f : Found ℕ). f.next) (sym (ok_injective h₂)) ∙ byte_next early bytes a.next eb ∙ ap (λ n. n + 1) (byte_next early bytes at ea)

module _ (test : ℕ → Bool) (number : ℕ) (read : Reader ℕ) (bytes : List ℕ) (at : ℕ) where
  -- A judged field that was found is the field, and it passed.
  pub judged_ok : {f : Found ℕ} → judged test number read bytes at ≡ Ok f → (read bytes at ≡ Ok f) × (test f.value ≡ true)
  unfolding judged
  judged_ok {f} h =
      let (g, e, h₁) = bind_ok (read bytes at) _ h in
      decided (test g.value)
      (λ t.
      let p : g ≡ f = ok_injective (rw t at h₁) in
      (rw (← p) e, rw (← p) t))
      (λ t. absurd (refused≢ok (rw t at h₁)))

-- So many, one after the other.
pub times_none : {A : Type 0} (read : Reader A) (bytes : List ℕ) (at : ℕ) → times 0 read bytes at ≡ found [] at
unfolding times
times_none read bytes at = refl

pub times_more : {A : Type 0} (n : ℕ) (read : Reader A) (bytes : List ℕ) (at : ℕ) →
    times (suc n) read bytes at
    ≡ Refusals.◌>>=◌ (read bytes at) (λ a. Refusals.◌>>=◌ (times n read bytes a.next) (λ rest. found (a.value ∷ rest.value) rest.next))
unfolding times
times_more n read bytes at = refl

-- The whole bytes are what was read to their end.
pub whole_ok : {A : Type 0} (left : ℕ) (read : Reader A) (bytes : List ℕ) {a : A} → whole left read bytes ≡ Ok a →
    read bytes 0 ≡ found a (length bytes)
unfolding whole
whole_ok left read bytes h =
    let (f, e, h₁) = bind_ok (read bytes 0) _ h in
    decided (eqb f.next (length bytes))
    (λ t. e ∙ ap Ok (λ i. record { value = ok_injective (rw t at h₁) i; next = eqb-true f.next (length bytes) t i }))
    (λ t. absurd (refused≢ok (rw t at h₁)))

-- Whatever the reader finds in these bytes, from any place on, holds.
pub record Finds (bytes : List ℕ) {A : Type 0} (read : Reader A) (Holds : A → Type 0) : Type 0 where
  pub holds : (at : ℕ) (f : Found A) → read bytes at ≡ Ok f → Holds f.value

pub finds_anything : {bytes : List ℕ} {A : Type 0} (read : Reader A) → Finds bytes read (λ a. Unit {0})
finds_anything read = record { holds = λ at f h. tt }

pub finds_weaker : {bytes : List ℕ} {A : Type 0} {read : Reader A} {Holds Weaker : A → Type 0} → Finds bytes read Holds →
    ((a : A) → Holds a → Weaker a) → Finds bytes read Weaker
finds_weaker finds weaker = record { holds = λ at f h. weaker f.value (finds.holds at f h) }

pub finds_pure : {bytes : List ℕ} {A : Type 0} {Holds : A → Type 0} (a : A) → Holds a → Finds bytes (pure a) Holds
finds_pure {A = A} {Holds} a holds = record { holds = λ at f h. subst (λ (f : Found A). Holds f.value) (ok_injective h) holds }

pub finds_bind : {bytes : List ℕ} {A B : Type 0} {read : Reader A} {rest : A → Reader B} {First : A → Type 0} {Holds : B → Type 0} →
    Finds bytes read First → ((a : A) → First a → Finds bytes (rest a) Holds) → Finds bytes (read >>= rest) Holds
finds_bind {bytes} {read = read} first then =
    record {
      holds =
          λ at g h.
          let (f, e, h₁) = bind_ok (read bytes at) _ h in
          (then f.value (first.holds at f e)).holds f.next g h₁;
    }

pub finds_judged : {bytes : List ℕ} (test : ℕ → Bool) (number : ℕ) (read : Reader ℕ) →
    Finds bytes (judged test number read) (λ v. test v ≡ true)
finds_judged {bytes} test number read = record { holds = λ at f h. (judged_ok test number read bytes at h).1 }

-- A field that its map bit leaves out says nothing of itself.
pub finds_optional : {bytes : List ℕ} {A : Type 0} {read : Reader A} {Holds : A → Type 0} (present : Bool) (absent : A) →
    Finds bytes read Holds → Finds bytes (optional present absent read) (λ a. present ≡ true → Holds a)
finds_optional true absent finds = record { holds = λ at f h standing. finds.holds at f h }
finds_optional false absent finds = record { holds = λ at f h standing. absurd (false≢true standing) }

pub finds_times : {bytes : List ℕ} {A : Type 0} {read : Reader A} {Holds : A → Type 0} (n : ℕ) → Finds bytes read Holds →
    Finds bytes (times n read) (Each Holds)
unfolding times
finds_times zero finds = finds_pure [] all
finds_times (suc n) finds =
    finds_bind finds λ a holds. finds_bind (finds_times n finds) λ rest each. finds_pure (a ∷ rest) (one holds each)

-- So many were asked for, so many were read.
pub finds_counted : {bytes : List ℕ} {A : Type 0} (n : ℕ) (read : Reader A) → Finds bytes (times n read) (λ l. length l ≡ n)
unfolding times
finds_counted zero read = finds_pure [] refl
finds_counted (suc n) read =
    finds_bind (finds_anything read) λ a _. finds_bind (finds_counted n read) λ rest counted. finds_pure (a ∷ rest) (ap suc counted)

-- A byte and a word are as small as their bytes are.
pub finds_byte : {bytes : List ℕ} (early : ℕ) → Finds bytes (byte early) (λ v. AreBytes bytes → v < byte_values)
finds_byte {bytes} early =
    record { holds = λ at f h bound. subst (λ (f : Found ℕ). f.value < byte_values) (byte_ok early bytes at h) (bound at) }

pub finds_word : {bytes : List ℕ} (early : ℕ) → Finds bytes (word early) (λ v. AreBytes bytes → v < word_values)
finds_word {bytes} early =
    subst (λ read. Finds bytes read (λ v. AreBytes bytes → v < word_values)) (sym (word_is early))
    (finds_bind (finds_byte early) λ high below.
    finds_bind (finds_byte early) λ low less.
    finds_pure (high * byte_values + low) (λ bound. omega (arith, below bound, less bound)))

pub whole_finds : {A : Type 0} (left : ℕ) (read : Reader A) (bytes : List ℕ) (Holds : A → Type 0) {a : A} → Finds bytes read Holds →
    whole left read bytes ≡ Ok a → Holds a
whole_finds left read bytes Holds finds h = finds.holds 0 _ (whole_ok left read bytes h)
