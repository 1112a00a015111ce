-- Big-endian numbers: the first byte is the high one, what is written is read back, and what is read stands there.
use Rattle.model.specs.declared.Found.{Found}
use Prim.Native.Nat.{ℕ, zero, suc, ◌+◌, ◌*◌, ◌/◌, ◌%◌, ◌^◌, ◌<◌}
use mathlib.Core.Path.{◌≡◌, refl, sym, ap, ap₂, ◌∙◌}
use mathlib.Core.List.{List, [], ◌∷◌, ◌++◌}
use native.Mathlib.Nat.{pow-suc, add-zero, mul_comm, mul_assoc, add-mul, div-one, mod-one, zero-lt-suc, one-le-pow, div-div-eq-div-mul, mod-eq_of_lt}
use native.Mathlib.Omega.{arith}
use lib.Arith.{digits_div, digits_mod, mod-mul}
use lib.ListN.{length, get_or, drop, length-append, length-drop}
use lib.Seq.{drop-cons}
use native.Mathlib.Numerals.{add-one}
use Rattle.model.specs.Limits.{byte_values}
use Rattle.model.specs.Refusals.{Ok}
use Rattle.model.specs.Bytes.{AreBytes, found, byte, big_endian, big_endian_bytes}
use Rattle.model.proofs.Laws.{bind_ok, ok_injective}
use Rattle.model.proofs.Bytes.{byte_there, byte_next}
use Rattle.model.proofs.Standing.{byte_stands}

pub big_length : (size n : ℕ) → length (big_endian_bytes size n) ≡ size
unfolding big_endian_bytes
big_length zero n = refl
big_length (suc size) n =
    omega (arith, length-append (big_endian_bytes size (n / byte_values)) (n % byte_values ∷ []), big_length size (n / byte_values))

-- One byte more, behind the others or before them.
abbrev digits : ℕ → ℕ
digits size = byte_values ^ size

div_behind : (n size : ℕ) → n / byte_values / digits size ≡ n / digits (suc size)
div_behind n size =
    div-div-eq-div-mul n byte_values (digits size) ∙ ap (λ d. n / d) (mul_comm byte_values (digits size) ∙ sym (pow-suc byte_values size))

div_before : (n size : ℕ) → n / digits size / byte_values ≡ n / digits (suc size)
div_before n size = div-div-eq-div-mul n (digits size) byte_values ∙ ap (λ d. n / d) (sym (pow-suc byte_values size))

big_front : (size n : ℕ) → big_endian_bytes (suc size) n ≡ n / digits size % byte_values ∷ big_endian_bytes size n
unfolding big_endian_bytes
big_front zero n = ap {B = List ℕ} (λ m. m % byte_values ∷ []) (sym (div-one n))
big_front (suc size) n =
    ap (λ l. l ++ n % byte_values ∷ []) (big_front size (n / byte_values))
    ∙ ap {B = List ℕ} (λ m. m % byte_values ∷ big_endian_bytes (suc size) n) (div_behind n size)

-- A byte that stands at a place is read.
record Read (early : ℕ) (bytes : List ℕ) (at x : ℕ) (more : List ℕ) : Type 0 where
  is : byte early bytes at ≡ found x (at + 1)
  next : drop (at + 1) bytes ≡ more

byte_read : (early : ℕ) (bytes : List ℕ) (at : ℕ) {x : ℕ} {more : List ℕ} → drop at bytes ≡ x ∷ more → Read early bytes at x more
byte_read early bytes at {x} {more} e =
    let inside : at < length bytes = omega (arith, length-drop at bytes, ap length e) in
    let split : ◌≡◌ {A = List ℕ} (get_or bytes at 0 ∷ drop (suc at) bytes) (x ∷ more) = sym (drop-cons bytes at 0 inside) ∙ e in
    let value : get_or bytes at 0 ≡ x = cc in
    let rest : drop (suc at) bytes ≡ more = cc in
    record { is = byte_there early bytes at inside ∙ ap (λ v. found v (at + 1)) value; next = ap (λ n. drop n bytes) (add-one at) ∙ rest }

-- What is written is read back, behind the digits that were there.
mod_more : (n size : ℕ) → n % digits (suc size) ≡ n / digits size % byte_values * digits size + n % digits size
mod_more n size =
    ap (λ d. n % d) (pow-suc byte_values size ∙ mul_comm (digits size) byte_values)
    ∙ mod-mul n {m = byte_values} {c = digits size} (zero-lt-suc 255) (one-le-pow size byte_values (zero-lt-suc 255))

shift_more : (high x size rest : ℕ) → (high * byte_values + x) * digits size + rest ≡ high * digits (suc size) + (x * digits size + rest)
shift_more high x size rest =
    let sum = add-mul (high * byte_values) x (digits size) in
    let up : high * byte_values * digits size ≡ high * digits (suc size) =
    mul_assoc high byte_values (digits size) ∙ ap (λ d. high * d) (mul_comm byte_values (digits size) ∙ sym (pow-suc byte_values size)) in
    omega (arith, sum, up)

module _ (early : ℕ) (bytes : List ℕ) where
  digits_read : (size n high at : ℕ) (more : List ℕ) → drop at bytes ≡ big_endian_bytes size n ++ more →
      big_endian early size high bytes at ≡ found (high * digits size + n % digits size) (at + size)
  unfolding big_endian
  digits_read zero n high at more e = ap₂ found (omega (arith, mod-one n)) (omega arith)
  digits_read (suc size) n high at more e =
      let x = n / digits size % byte_values in
      let here = byte_read early bytes at (e ∙ ap (λ l. l ++ more) (big_front size n)) in
      rw here.is
      (digits_read size n (high * byte_values + x) (at + 1) more here.next
      ∙ ap₂ found (shift_more high x size (n % digits size) ∙ ap (λ r. high * digits (suc size) + r) (sym (mod_more n size))) (omega arith))

  pub big_read : (size n at : ℕ) (more : List ℕ) → n < byte_values ^ size → drop at bytes ≡ big_endian_bytes size n ++ more →
      big_endian early size 0 bytes at ≡ found n (at + size)
  big_read size n at more small e =
      digits_read size n 0 at more e ∙ ap (λ v. found v (at + size)) (omega (arith, mod-eq_of_lt small))

  -- What is read stands there, and the digits before it are those that were there.
  pub record BigStands (size high at : ℕ) (f : Found ℕ) : Type 0 where
    pub above : f.value / byte_values ^ size ≡ high
    pub behind : f.next ≡ at + size
    pub stands : drop at bytes ≡ big_endian_bytes size f.value ++ drop f.next bytes

  pub big_stands : AreBytes bytes → (size high at : ℕ) {f : Found ℕ} → big_endian early size high bytes at ≡ Ok f → BigStands size high at f
  unfolding big_endian big_endian_bytes
  big_stands bound zero high at h =
      rw (← (ok_injective h)) (record { above = div-one high; behind = sym (add-zero at); stands = refl })
  big_stands bound (suc size) high at {f} h =
      let (b, read, h₁) = bind_ok (byte early bytes at) _ h in
      let here = byte_stands early bytes at read in
      let below : b.value < byte_values = rw here.value (bound at) in
      let rest = big_stands bound size (high * byte_values + b.value) b.next h₁ in
      let x : f.value / digits size % byte_values ≡ b.value = ap (λ n. n % byte_values) rest.above ∙ digits_mod high below in
      record {
        above = sym (div_before f.value size) ∙ ap (λ n. n / byte_values) rest.above ∙ digits_div high below;
        behind = omega (arith, rest.behind, byte_next early bytes at read);
        stands =
            here.stands
            ∙ ap₂ {C = List ℕ} ◌∷◌ (sym x) rest.stands
            ∙ ap (λ l. l ++ drop f.next bytes) (sym (big_front size f.value));
      }
