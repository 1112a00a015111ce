-- Numbers of list members, and queues along which they rise. A member that joins at the end with a higher number keeps them rising, and one that is
-- taken out leaves them rising; so the oldest of the entries that pass a test has the lowest number of those.
use Rattle.std.specs.Prelude.{Some, slice_get}
use Rattle.model.proofs.Options.{none-ne-some, some-injective}
use Prim.Native.Nat.{ℕ, zero, suc, ◌≤◌, ◌<◌}
use mathlib.Core.Path.{◌≡◌, refl, sym, ◌∙◌, ap}
use mathlib.Core.Bool.{Bool, true, false, true≢false}
use mathlib.Core.List.Memᴰ
use mathlib.Core.List.{List, [], ◌∷◌, ◌++◌}
use mathlib.Core.Logic.{⊎_elim}
use native.Mathlib.Omega.{arith}
use Rattle.model.specs.Choice.{when, Each, all, one}
use Rattle.model.specs.Lists.{◌∈◌}
use Rattle.model.proofs.Laws.{each_append, each_at}
use Rattle.model.proofs.Lists.{position}
use Rattle.model.proofs.Replay.{Oldest}
use Rattle.record_facts.proofs.Queues.{Out, first, later, each_out}

-- The number of the first member that passes a test.
unfoldable pub first_number : {A : Type 0} → (A → Bool) → List A → ℕ
first_number test [] = 0
first_number test (a ∷ l) = when (test a) (λ _. 0) (λ _. suc (first_number test l))

pub first_number_lem : {A : Type 0} (test : A → Bool) (l : List A) (i : ℕ) {a : A} → slice_get l i ≡ Some a → test a ≡ true →
    ((k : ℕ) (b : A) → k < i → slice_get l k ≡ Some b → test b ≡ false) → first_number test l ≡ i
unfolding first_number
first_number_lem test [] i at passes others = absurd (none-ne-some _ at)
first_number_lem test (x ∷ l) zero {a} at passes others = rw (ap test (some-injective x a at) ∙ passes)
first_number_lem test (x ∷ l) (suc i) at passes others =
    rw (others 0 x (omega arith) refl) (ap suc (first_number_lem test l i at passes (λ k b less. others (suc k) b (omega arith))))

module _ {A : Type 0} (number : A → ℕ) where
  -- The numbers rise along the list, and all are below n.
  pub data Rises (n : ℕ) : List A → Type 0 where
    none : Rises n []
    next : {a : A} {l : List A} → number a < n → Each (λ b. number a < number b) l → Rises n l → Rises n (a ∷ l)

  pub rises_wider : {n m : ℕ} {l : List A} → n ≤ m → Rises n l → Rises m l
  rises_wider wide none = none
  rises_wider wide (next {a} below above rest) = next {a = a} (omega arith) above (rises_wider wide rest)

  pub rises_last : {n : ℕ} {l : List A} {x : A} → number x ≡ n → Rises n l → Rises (suc n) (l ++ x ∷ [])
  rises_last {x = x} is none = next {a = x} (omega arith) all none
  rises_last {x = x} is (next {a} below above rest) =
      let higher : number a < number x = omega arith in
      next {a = a} (omega arith) (each_append above (one higher all)) (rises_last is rest)

  pub rises_out : {n : ℕ} {a : A} {l rest : List A} → Out a l rest → Rises n l → Rises n rest
  rises_out first (next below above rest) = rest
  rises_out (later o) (next below above rest) = next below (each_out o above).1 (rises_out o rest)

  pub rises_oldest : {n : ℕ} {among : A → Bool} {l : List A} {a : A} {rest : List A} → Oldest among l a rest → Rises n l →
      {b : A} → b ∈ l → among b ≡ true → number a ≤ number b
  rises_oldest {n} {among} {a = a} o rises {b} m passes = go o.older o.first (rw o.stands at rises) (rw o.stands at m)
    where
      go : (older : List A) → Each (λ x. among x ≡ false) older → Rises n (older ++ a ∷ o.newer) → b ∈ older ++ a ∷ o.newer →
          number a ≤ number b
      go [] all (next below above rest) m =
          ⊎_elim
          (λ same. rw same (omega arith))
          (λ behind. let (k, at) = position behind in let less : number a < number b = each_at o.newer above k at in omega arith)
          (Memᴰ.cases_cons m)
      go (x ∷ older) (one fails each) (next below above rest) m =
          ⊎_elim (λ same. absurd (true≢false (sym passes ∙ ap among same ∙ fails))) (go older each rest) (Memᴰ.cases_cons m)
