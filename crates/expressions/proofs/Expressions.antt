-- The definition reads operands at most `depth` deep, the code goes by the tokens that are left. Each operand takes a token, so a depth that is no
-- less than the tokens left never shows: the reader is the same at every such depth.
use Rattle.model.specs.declared.Found.{Found}
use Rattle.std.specs.Prelude.{Option, Some, None}
use Prim.Native.Nat.{ℕ, zero, suc, ◌-◌, ◌≤◌}
use mathlib.Core.Path.{◌≡◌, refl, ap, sym}
use mathlib.Core.List.{List}
use native.Mathlib.Omega.{arith}
use lib.Dec.{ltb}
use borrow.Author.Tests.{lt-ltb}
use Rattle.model.specs.Refusals.{Ok, program_length, program_range}
use Rattle.model.specs.Refusals as Refusals
use Rattle.model.specs.Choice.{lookup}
use Rattle.model.specs.Bytes.{Reader, found, byte, word, judged}
use Rattle.model.specs.Expressions.{
  Counted,
  Expression,
  Token,
  constant_token,
  register_token,
  own_rank_token,
  rank_count_token,
  operator_token,
  tokens,
  no_token_left,
  after_token,
  on_token,
  read_expression,
}
use Rattle.model.proofs.Laws.{bind_assoc, bind_cong, bind_ok, ok_injective, refused≢ok}
use Rattle.expressions.specs.Values.{token_byte}

-- What operands leave is never more than they were given.
abbrev pub Falls : (ℕ → Reader Counted) → List ℕ → Type 0
Falls operand bytes = (k at : ℕ) (a : Counted) (n : ℕ) → operand k bytes at ≡ found a n → a.left ≤ k

-- The tokens left of what was read.
left_of : {e : Expression} {left n m : ℕ} {a : Counted} →
    Ok (record { value = record { expression = e; left = left }; next = n }) ≡ found a m → a.left ≤ left
left_of h = let e = ap (λ (f : Found Counted). f.value.left) (ok_injective h) in omega arith

none_left : (bytes : List ℕ) (at : ℕ) {a : Counted} {n : ℕ} → no_token_left bytes at ≡ found a n → ⊥
unfolding no_token_left
none_left bytes at h = refused≢ok (bind_ok (byte program_length bytes at) _ h).2

module _ (registers : ℕ) (operand : ℕ → Reader Counted) (bytes : List ℕ) (falls : Falls operand bytes) where
  after_falls : (left at : ℕ) (t : Token) {a : Counted} {n : ℕ} → after_token registers operand left t bytes at ≡ found a n → a.left ≤ left
  unfolding after_token
  after_falls left at constant_token h = left_of (bind_ok (word program_length bytes at) _ h).2
  after_falls left at register_token h = left_of (bind_ok (judged (λ i. ltb i registers) program_range (byte program_length) bytes at) _ h).2
  after_falls left at own_rank_token h = left_of h
  after_falls left at rank_count_token h = left_of h
  after_falls left at (operator_token o) h =
      let (first, p, h') = bind_ok (operand left bytes at) _ h in
      let (second, q, h'') = bind_ok (operand first.value.left bytes first.next) _ h' in
      omega (arith, falls left at _ _ p, falls first.value.left first.next _ _ q, left_of h'')

  on_falls : (left place at : ℕ) (t : Option Token) {a : Counted} {n : ℕ} →
      on_token registers operand left place t bytes at ≡ found a n → a.left ≤ left
  unfolding on_token
  on_falls left place at (Some t) h = after_falls left at t h
  on_falls left place at None h = absurd (refused≢ok h)

pub expression_falls : (registers depth : ℕ) (bytes : List ℕ) → Falls (read_expression registers depth) bytes
unfolding read_expression
expression_falls registers zero bytes k at a n h = absurd (none_left bytes at h)
expression_falls registers (suc depth) bytes zero at a n h = absurd (none_left bytes at h)
expression_falls registers (suc depth) bytes (suc k) at a n h =
    let (f, p, h') = bind_ok (byte program_length bytes at) _ h in
    let e = on_falls registers (read_expression registers depth) bytes (expression_falls registers depth bytes) k at f.next
    (lookup f.value tokens) h' in
    omega arith

-- Operands that are read alike while at most so many tokens are left.
abbrev Alike : (one other : ℕ → Reader Counted) → ℕ → List ℕ → Type 0
Alike one other left bytes = (k at : ℕ) → k ≤ left → one k bytes at ≡ other k bytes at

module _ (registers : ℕ) (one other : ℕ → Reader Counted) (bytes : List ℕ) (left : ℕ)
    (falls : Falls one bytes) (alike : Alike one other left bytes) where
  after_alike : (at : ℕ) (t : Token) → after_token registers one left t bytes at ≡ after_token registers other left t bytes at
  unfolding after_token
  after_alike at constant_token = refl
  after_alike at register_token = refl
  after_alike at own_rank_token = refl
  after_alike at rank_count_token = refl
  after_alike at (operator_token o) =
      rw (← alike left at (omega arith))
      (bind_cong (one left bytes at) _ _ (λ a p. rw (alike a.value.left a.next (falls left at a.value a.next p))))

  on_alike : (place at : ℕ) (t : Option Token) → on_token registers one left place t bytes at ≡ on_token registers other left place t bytes at
  unfolding on_token
  on_alike place at (Some t) = after_alike at t
  on_alike place at None = refl

pub same_depth : (registers depth other left : ℕ) → left ≤ depth → left ≤ other → (bytes : List ℕ) (at : ℕ) →
    read_expression registers depth left bytes at ≡ read_expression registers other left bytes at
unfolding read_expression
same_depth registers zero zero left p q bytes at = refl
same_depth registers zero (suc other) zero p q bytes at = refl
same_depth registers zero (suc other) (suc left) p q bytes at = absurd (omega arith)
same_depth registers (suc depth) zero zero p q bytes at = refl
same_depth registers (suc depth) zero (suc left) p q bytes at = absurd (omega arith)
same_depth registers (suc depth) (suc other) zero p q bytes at = refl
same_depth registers (suc depth) (suc other) (suc left) p q bytes at =
    bind_cong (byte program_length bytes at) _ _
    (λ f r. on_alike registers (read_expression registers depth) (read_expression registers other) bytes left
    (expression_falls registers depth bytes)
    (λ k place h. same_depth registers depth other k (omega arith) (omega arith) bytes place)
    at f.next (lookup f.value tokens))

-- An expression is its token and what that token asks for; where no token is left, the token's byte is refused.
pub by_token : (registers left : ℕ) (bytes : List ℕ) (at : ℕ) →
    read_expression registers left left bytes at
    ≡ Refusals.◌>>=◌ (token_byte left bytes at)
    (λ f. on_token registers (read_expression registers (left - 1)) (left - 1) at (lookup f.value tokens) bytes f.next)
unfolding read_expression no_token_left judged
by_token registers zero bytes at = sym (bind_assoc (byte program_length bytes at) _ _)
by_token registers (suc left) bytes at =
    let e : suc left - 1 ≡ left = omega arith in
    rw (e, lt-ltb 0 (suc left) (omega arith)) (sym (bind_assoc (byte program_length bytes at) _ _))
