-- Which entry a pop takes is told by what its test looks at: a function of the entries that keeps this may hide the rest, such as their marks.
use Rattle.std.specs.Prelude.{Option, Some, None}
use Rattle.model.proofs.Options.{none-ne-some, some-injective}
use mathlib.Core.Path.{◌≡◌, refl, sym, ap, ◌∙◌}
use mathlib.Core.Bool.{Bool}
use mathlib.Core.List.{List, [], ◌∷◌, map}
use Rattle.model.specs.Replay.{behind, oldest}
use Rattle.model.proofs.Laws.{decided}

-- Erasing does not change which entry is taken.
abbrev erased : {A B : Type 0} → (A → B) → Option (A × List A) → Option (B × List B)
erased f None = None
erased f (Some (a, rest)) = Some (f a, map f rest)

module _ {A B : Type 0} (f : A → B) (among : B → Bool) where
  erased_behind : (b : A) (o : Option (A × List A)) → behind (f b) (erased f o) ≡ erased f (behind b o)
  erased_behind b None = refl
  erased_behind b (Some (a, rest)) = refl

  oldest_erased : (l : List A) → oldest among (map f l) ≡ erased f (oldest (λ a. among (f a)) l)
  unfolding oldest
  oldest_erased [] = refl
  oldest_erased (a ∷ l) =
      decided (among (f a))
      (λ passes. rw passes)
      (λ fails. rw fails (ap (behind (f a)) (oldest_erased l) ∙ erased_behind a (oldest (λ x. among (f x)) l)))

  pub erased_taken : (l : List A) {a : A} {rest : List A} → oldest (λ x. among (f x)) l ≡ Some (a, rest) →
      oldest among (map f l) ≡ Some (f a, map f rest)
  erased_taken l h = oldest_erased l ∙ ap (erased f) h

  -- The entry behind the one that is seen.
  pub record Marked (l : List A) (b : B) (left : List B) : Type 0 where
    pub entry : A
    pub rest : List A
    pub chosen : oldest (λ x. among (f x)) l ≡ Some (entry, rest)
    pub here : f entry ≡ b
    pub others : map f rest ≡ left

  marked : (l : List A) {b : B} {left : List B} (o : Option (A × List A)) → oldest (λ x. among (f x)) l ≡ o → erased f o ≡ Some (b, left) →
      Marked l b left
  marked l None e h = absurd (none-ne-some _ h)
  marked l {b} {left} (Some (a, rest)) e h =
      let same = some-injective (f a, map f rest) (b, left) h in
      record { entry = a; rest = rest; chosen = e; here = ap (λ (y : B × List B). y.0) same; others = ap (λ (y : B × List B). y.1) same }

  pub taken_marked : (l : List A) {b : B} {left : List B} → oldest among (map f l) ≡ Some (b, left) → Marked l b left
  taken_marked l h = marked l (oldest (λ x. among (f x)) l) refl (sym (oldest_erased l) ∙ h)
