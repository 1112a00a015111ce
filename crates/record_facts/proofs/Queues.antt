-- The entries that a group has in a queue. An entry that is appended or taken out counts for its own group alone. Of the way in which a pop chooses
-- its entry the facts use only this: the entry is taken out of the queue, and the others stay (`Out`).
use Prim.Native.Nat.{ℕ}
use native.Mathlib.Omega.{arith}
use mathlib.Core.Path.{◌≡◌, ◌∙◌, ap, fun_ext}
use mathlib.Core.Bool.{true, ◌&&◌, Bool}
use mathlib.Core.List.{List, [], ◌∷◌, ◌++◌}
use lib.Dec.{eqb}
use borrow.Author.Tests.{eq-eqb, ne_eqb, eqb-true}
use Rattle.model.specs.Choice.{select, Each, one}
use Rattle.model.specs.Machine.{put₂}
use Rattle.model.proofs.Selections.{select_own, select_other}
use Rattle.model.proofs.Replay.{Oldest}
use Rattle.model.proofs.Laws.{decided, and-true, put₂_map}

pub cons≢nil : {A : Type 0} {a : A} {l : List A} → ¬ (a ∷ l ≡ [])
cons≢nil h = let z : ◌≡◌ {A = ℕ} 0 1 = cc in omega arith

-- The list `rest` is `l` with one `a` taken out.
pub data Out {A : Type 0} (a : A) : List A → List A → Type 0 where
  first : {l : List A} → Out a (a ∷ l) l
  later : {b : A} {l rest : List A} → Out a l rest → Out a (b ∷ l) (b ∷ rest)

-- The entry that a pop takes is taken out of its queue.
out_middle : {A : Type 0} (older : List A) (a : A) (newer : List A) → Out a (older ++ a ∷ newer) (older ++ newer)
out_middle [] a newer = first
out_middle (b ∷ older) a newer = later (out_middle older a newer)

pub oldest_out : {A : Type 0} {among : A → Bool} {l : List A} {a : A} {rest : List A} → Oldest among l a rest → Out a l rest
oldest_out {a = a} o = rw (o.stands, o.leaves) (out_middle o.older a o.newer)

-- What holds of each entry holds of the one that is taken out, and of the others.
pub each_out : {A : Type 0} {Holds : A → Type 0} {a : A} {l rest : List A} → Out a l rest → Each Holds l → Holds a × Each Holds rest
each_out first (one h each) = (h, each)
each_out (later o) (one h each) = let (taken, left) = each_out o each in (taken, one h left)

-- Nothing is taken out of an empty list, and the one member out of a list of one.
pub out_nothing : {A : Type 0} {a : A} {l rest : List A} → Out a l rest → ¬ (l ≡ [])
out_nothing first h = cons≢nil h
out_nothing (later o) h = cons≢nil h

pub out_only : {A : Type 0} {a b : A} {l rest : List A} → Out a l rest → l ≡ b ∷ [] → (a ≡ b) × (rest ≡ [])
out_only first h = (cc, cc)
out_only (later o) h = absurd (out_nothing o (cc))

-- A value put where it stood already.
pub put₂_idle : {A : Type 0} (f : ℕ → ℕ → A) (i j : ℕ) (v : A) → v ≡ f i j → put₂ f i j v ≡ f
unfolding put₂
put₂_idle f i j v h = fun_ext λ k. fun_ext λ l. decided (eqb k i && eqb l j) (λ yes'. there k l yes') (λ no'. rw no')
  where
    there : (k l : ℕ) → (eqb k i && eqb l j) ≡ true → put₂ f i j v k l ≡ f k l
    there k l here = let (p, q) = and-true (eqb k i) (eqb l j) here in rw (here, h, eqb-true k i p, eqb-true l j q)

-- The second of two values put at one place counts.
pub put₂_again : {A : Type 0} (f : ℕ → ℕ → A) (i j : ℕ) (v w : A) → put₂ (put₂ f i j v) i j w ≡ put₂ f i j w
unfolding put₂
put₂_again f i j v w = fun_ext λ k. fun_ext λ l. decided (eqb k i && eqb l j) (λ yes'. rw yes') (λ no'. rw no')

-- Entries of which each has a group.
module _ {A : Type 0} (group : A → ℕ) where
  -- The entries of a group, in their order.
  abbrev pub of_own : (g : ℕ) → A → Bool
  of_own g x = eqb (group x) g

  abbrev pub entries_of : (g : ℕ) → List A → List A
  entries_of g = select (of_own g)

  pub out_own : {a : A} {l rest : List A} (g : ℕ) → Out a l rest → group a ≡ g → Out a (entries_of g l) (entries_of g rest)
  unfolding select
  out_own {a} g first own = rw (eq-eqb (group a) g own) first
  out_own g (later {b = b} o) own =
      decided (eqb (group b) g) (λ yes'. rw yes' (later (out_own g o own))) (λ no'. rw no' (out_own g o own))

  out_other : {a : A} {l rest : List A} (g : ℕ) → Out a l rest → ¬ (group a ≡ g) → entries_of g rest ≡ entries_of g l
  unfolding select
  out_other {a} g first other = rw (ne_eqb (group a) g other)
  out_other g (later {b = b} o) other =
      decided (eqb (group b) g) (λ yes'. rw yes' (ap (b ∷◌) (out_other g o other))) (λ no'. rw no' (out_other g o other))

  -- The entries of a group in the queues of all ranks.
  abbrev pub of_group : (g : ℕ) → (ℕ → ℕ → List A) → ℕ → ℕ → List A
  of_group g queues rank queue = entries_of g (queues rank queue)

  -- An entry appended to a queue, seen by its own group and by another.
  pub append_own : (queues : ℕ → ℕ → List A) (rank queue : ℕ) (x : A) (g : ℕ) → group x ≡ g →
      of_group g (put₂ queues rank queue (queues rank queue ++ x ∷ [])) ≡
      put₂ (of_group g queues) rank queue (of_group g queues rank queue ++ x ∷ [])
  append_own queues rank queue x g own =
      put₂_map (entries_of g) queues rank queue _ ∙
      ap (put₂ (of_group g queues) rank queue) (select_own (of_own g) (queues rank queue) x (eq-eqb (group x) g own))

  pub append_other : (queues : ℕ → ℕ → List A) (rank queue : ℕ) (x : A) (g : ℕ) → ¬ (group x ≡ g) →
      of_group g (put₂ queues rank queue (queues rank queue ++ x ∷ [])) ≡ of_group g queues
  append_other queues rank queue x g other =
      put₂_map (entries_of g) queues rank queue _ ∙
      put₂_idle (of_group g queues) rank queue _ (select_other (of_own g) (queues rank queue) x (ne_eqb (group x) g other))

  -- What an entry taken out leaves, seen by its own group and by another.
  pub take_own : (queues : ℕ → ℕ → List A) (rank queue : ℕ) (rest : List A) (g : ℕ) →
      of_group g (put₂ queues rank queue rest) ≡ put₂ (of_group g queues) rank queue (entries_of g rest)
  take_own queues rank queue rest g = put₂_map (entries_of g) queues rank queue rest

  pub take_other : (queues : ℕ → ℕ → List A) (rank queue : ℕ) {a : A} {rest : List A} (g : ℕ) → Out a (queues rank queue) rest → ¬ (group a ≡ g) →
      of_group g (put₂ queues rank queue rest) ≡ of_group g queues
  take_other queues rank queue {rest = rest} g o other =
      put₂_map (entries_of g) queues rank queue rest ∙ put₂_idle (of_group g queues) rank queue _ (out_other g o other)
