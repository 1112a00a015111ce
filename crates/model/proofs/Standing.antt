-- Bytes that stand at a place: what a byte and a word say of the rest of the bytes, both ways.
use Rattle.model.specs.declared.Found.{Found}
use Prim.Native.Nat.{ℕ, zero, suc, ◌+◌, ◌/◌, ◌%◌, ◌<◌}
use mathlib.Core.Path.{◌≡◌, sym, ap, ap₂, ◌∙◌}
use mathlib.Core.List.{List, [], ◌∷◌}
use native.Mathlib.Nat.{zero-lt-suc, div-add-mod'}
use native.Mathlib.Numerals.{add-one}
use native.Mathlib.Omega.{arith}
use lib.Arith.{digits_div, digits_mod}
use lib.Dec.{ltb}
use lib.ListN.{length, get_or, drop}
use lib.Seq.{drop-cons}
use borrow.Author.Tests.{ltb-true}
use Rattle.model.specs.Limits.{byte_values}
use Rattle.model.specs.Refusals.{Ok}
use Rattle.model.specs.Bytes.{AreBytes, found, byte, word}
use Rattle.model.proofs.Laws.{decided, bind_ok, ok_injective, refused≢ok}
use Rattle.model.proofs.Bytes.{byte_ok, byte_there, word_is}

-- The first of the bytes from a place on.
record First (bytes : List ℕ) (at x : ℕ) (more : List ℕ) : Type 0 where
  inside : at < length bytes
  is : get_or bytes at 0 ≡ x
  next : drop (at + 1) bytes ≡ more

-- No bytes are no first one.
none≢some : {x : ℕ} {more : List ℕ} → ¬ (◌≡◌ {A = List ℕ} [] (x ∷ more))
none≢some e = let z : ◌≡◌ {A = ℕ} 0 1 = cc in omega arith

first : (bytes : List ℕ) (at : ℕ) {x : ℕ} {more : List ℕ} → drop at bytes ≡ x ∷ more → First bytes at x more
first [] zero e = absurd (none≢some e)
first [] (suc at) e = absurd (none≢some e)
first (y ∷ bytes) zero e = record { inside = zero-lt-suc _; is = cc; next = cc }
first (y ∷ bytes) (suc at) e =
    let rest = first bytes at e in
    let behind : suc at + 1 ≡ suc (at + 1) = omega arith in
    record { inside = omega (arith, rest.inside); is = rest.is; next = ap (λ n. drop n (y ∷ bytes)) behind ∙ rest.next }

inside_byte : (early : ℕ) (bytes : List ℕ) (at : ℕ) {f : Found ℕ} → byte early bytes at ≡ Ok f → at < length bytes
unfolding byte
inside_byte early bytes at h =
    decided (ltb at (length bytes)) (λ t. ltb-true at (length bytes) t) (λ t. absurd (refused≢ok (rw t at h)))

-- Two bytes that stand there are read as their number ..
pub word_read : (early : ℕ) (bytes : List ℕ) (at n : ℕ) {more : List ℕ} → drop at bytes ≡ n / byte_values ∷ n % byte_values ∷ more →
    word early bytes at ≡ found n (at + 1 + 1)
word_read early bytes at n e =
    let high = first bytes at e in
    let low = first bytes (at + 1) high.next in
    rw (word_is early, byte_there early bytes at high.inside, byte_there early bytes (at + 1) low.inside, high.is, low.is)
    (ap (λ v. found v (at + 1 + 1)) (div-add-mod' n byte_values))

pub behind_word : (bytes : List ℕ) (at : ℕ) {x y : ℕ} {more : List ℕ} → drop at bytes ≡ x ∷ y ∷ more → drop (at + 1 + 1) bytes ≡ more
behind_word bytes at e = (first bytes (at + 1) (first bytes at e).next).next

-- .. and a number that is read stands there in two bytes.
pub record Stands (bytes : List ℕ) (at : ℕ) (f : Found ℕ) : Type 0 where
  pub stands : drop at bytes ≡ f.value ∷ drop f.next bytes
  pub value : f.value ≡ get_or bytes at 0

pub byte_stands : (early : ℕ) (bytes : List ℕ) (at : ℕ) {f : Found ℕ} → byte early bytes at ≡ Ok f → Stands bytes at f
byte_stands early bytes at h =
    let is = byte_ok early bytes at h in
    let next = sym (add-one at) ∙ ap (λ (f : Found ℕ). f.next) is in
    record {
      stands =
          drop-cons bytes at 0 (inside_byte early bytes at h)
          ∙ ap₂ {C = List ℕ} (λ x n. x ∷ drop n bytes) (ap (λ (f : Found ℕ). f.value) is) next;
      value = ap (λ (f : Found ℕ). f.value) (sym is);
    }

pub word_stands : (early : ℕ) (bytes : List ℕ) (at : ℕ) {f : Found ℕ} → AreBytes bytes → word early bytes at ≡ Ok f →
    drop at bytes ≡ f.value / byte_values ∷ f.value % byte_values ∷ drop f.next bytes
word_stands early bytes at {f} bound h =
    let (a, ea, h₁) = bind_ok (byte early bytes at) _ (rw word_is at h) in
    let (b, eb, h₂) = bind_ok (byte early bytes a.next) _ h₁ in
    let low = byte_stands early bytes a.next eb in
    let below : b.value < byte_values = rw low.value (bound a.next) in
    let is = ok_injective h₂ in
    (byte_stands early bytes at ea).stands
    ∙ ap {B = List ℕ} (λ l. a.value ∷ l) low.stands
    ∙ ap₂ {C = List ℕ} (λ x y. x ∷ y ∷ drop b.next bytes) (sym (digits_div a.value below)) (sym (digits_mod a.value below))
    ∙ ap {B = List ℕ} (λ (f : Found ℕ). f.value / byte_values ∷ f.value % byte_values ∷ drop f.next bytes) is
