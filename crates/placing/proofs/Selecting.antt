-- Selections from lists, and counts of what is selected: a selection of a selection is one, and a count falls into two parts.
use Prim.Native.Nat.{◌+◌}
use mathlib.Core.Path.{◌≡◌, refl, ap, ◌∙◌}
use mathlib.Core.Bool.{Bool, not, ◌&&◌}
use mathlib.Core.List.{List, [], ◌∷◌}
use native.Mathlib.Omega.{arith}
use lib.ListN.{length}
use Rattle.model.specs.Choice.{select}
use Rattle.model.specs.Lists.{◌∈◌}
use Rattle.model.proofs.Laws.{decided}
use Rattle.model.proofs.Selections.{select_yes, select_no}
use Rattle.model.proofs.Lists.{here, there}

module _ {A : Type 0} (p q : A → Bool) where
  -- Tests that agree on the members of a list select alike.
  pub select_same : (l : List A) → ((a : A) → a ∈ l → p a ≡ q a) → select p l ≡ select q l
  unfolding select
  select_same [] h = refl
  select_same (x ∷ l) h =
      let rest = select_same l (λ a m. h a (there m)) in
      decided (q x)
      (λ t. rw (select_yes p x l (h x (here refl) ∙ t), select_yes q x l t) (ap {B = List A} (λ r. x ∷ r) rest))
      (λ t. rw (select_no p x l (h x (here refl) ∙ t), select_no q x l t) rest)

  -- A selection of a selection takes both tests.
  pub select_both : (l : List A) → select p (select q l) ≡ select (λ a. q a && p a) l
  unfolding select
  select_both [] = refl
  select_both (x ∷ l) =
      decided (q x)
      (λ t. decided (p x)
      (λ u. rw (select_yes q x l t, select_yes p x (select q l) u, select_yes (λ a. q a && p a) x l (rw (t, u)))
      (ap {B = List A} (λ r. x ∷ r) (select_both l)))
      (λ u. rw (select_yes q x l t, select_no p x (select q l) u, select_no (λ a. q a && p a) x l (rw (t, u))) (select_both l)))
      (λ t. rw (select_no q x l t, select_no (λ a. q a && p a) x l (rw t)) (select_both l))

  -- Those that pass are counted by whether they pass another test.
  pub count_parts : (l : List A) → length (select p l) ≡ length (select p (select (λ a. not (q a)) l)) + length (select p (select q l))
  unfolding select
  count_parts [] = refl
  count_parts (x ∷ l) =
      let rest = count_parts l in
      decided (q x)
      (λ t. decided (p x)
      (λ u. rw (
        select_no (λ a. not (q a)) x l (ap not t),
        select_yes q x l t,
        select_yes p x l u,
        select_yes p x (select q l) u,
      ) (omega (arith, rest)))
      (λ u. rw (
        select_no (λ a. not (q a)) x l (ap not t),
        select_yes q x l t,
        select_no p x l u,
        select_no p x (select q l) u,
      ) rest))
      (λ t. decided (p x)
      (λ u. rw (
        select_yes (λ a. not (q a)) x l (ap not t),
        select_no q x l t,
        select_yes p x l u,
        select_yes p x (select (λ a. not (q a)) l) u,
      ) (omega (arith, rest)))
      (λ u. rw (
        select_yes (λ a. not (q a)) x l (ap not t),
        select_no q x l t,
        select_no p x l u,
        select_no p x (select (λ a. not (q a)) l) u,
      ) rest))
