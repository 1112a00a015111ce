-- The groups that are met by following the next ones, in an array.
use Prim.Native.Nat.{ℕ, suc, ◌+◌, ◌-◌, ◌≤◌, ◌<◌}
use mathlib.Core.Path.{◌≡◌, refl, sym, ap, ap₂, ◌∙◌}
use mathlib.Core.List.{List, [], ◌∷◌, ◌++◌, append_assoc, append-nil}
use native.Mathlib.Omega.{arith}
use lib.ListN.{length, set, replicate, length-replicate, length-append}
use Rattle.model.specs.Limits.{max_items}
use Rattle.model.specs.Checks.{fill}
use Rattle.memory.proofs.Filled.{fill_more}
use Rattle.indexing.specs.Entries.{entry_at}
use Rattle.rings.specs.declared.Found.{Found}
use Rattle.rings.specs.Found.{found_as}
use Rattle.rings.specs.Nexts.{followed}

abbrev found_in : (old : List ℕ) → List ℕ → Found
found_in old l = record { count = length l; ring = fill l old }

none_in : (old : List ℕ) → ◌≡◌ {A = Found} (record { count = 0; ring = old }) (found_in old [])
unfolding fill
none_in old = refl

-- One group more.
more_in : (old l : List ℕ) (f : Found) → f ≡ found_in old l → f.count < length old → (x : ℕ) →
    ◌≡◌ {A = Found} (record { count = f.count + 1; ring = set f.ring f.count x }) (found_in old (l ++ x ∷ []))
more_in old l f e h x =
    let count : f.count ≡ length l = ap (λ (g : Found). g.count) e in
    ap (λ (g : Found). record { count = g.count + 1; ring = set g.ring g.count x }) e
    ∙ ap₂ (λ (n : ℕ) (r : List ℕ). record { count = n; ring = r }) (sym (length-append l (x ∷ []))) (fill_more l old x (omega arith))

-- What was met so far stands in the array, and what is left begins here.
pub record Followed (start count : ℕ) (next ring : List ℕ) (at done : ℕ) : Type 0 where
  pub fits : count ≤ max_items
  pub within : done ≤ count
  pub met : List ℕ
  pub found : ◌≡◌ {A = Found} (record { count = done; ring = ring }) (found_as met)
  pub whole : followed count start (entry_at next) ≡ met ++ followed (count - done) at (entry_at next)

module _ {start count : ℕ} {next : List ℕ} where
  pub followed_none : count ≤ max_items → Followed start count next (replicate max_items 0) start 0
  followed_none fits =
      let z : count - 0 ≡ count = omega arith in
      record { fits = fits; within = omega arith; met = []; found = none_in (replicate max_items 0); whole = rw z }

  module _ {ring : List ℕ} {at done : ℕ} (f : Followed start count next ring at done) where
    pub followed_more : done < count → {after : ℕ} → after ≡ entry_at next at → Followed start count next (set ring done at) after (done + 1)
    unfolding followed
    followed_more h {after} e =
        let step : count - done ≡ suc (count - (done + 1)) = omega (arith, h) in
        record {
          fits = f.fits;
          within = omega (arith, h);
          met = f.met ++ at ∷ [];
          found = more_in (replicate max_items 0) f.met _ f.found (omega (arith, h, f.fits, length-replicate {A = ℕ} max_items 0)) at;
          whole =
              f.whole
              ∙ ap (λ k. f.met ++ followed k at (entry_at next)) step
              ∙ sym (append_assoc f.met (at ∷ []) (followed (count - (done + 1)) (entry_at next at) (entry_at next)))
              ∙ ap (λ k. (f.met ++ at ∷ []) ++ followed (count - (done + 1)) k (entry_at next)) (sym e);
        }

    pub followed_all : count ≤ done → ◌≡◌ {A = Found} (record { count = count; ring = ring }) (found_as (followed count start (entry_at next)))
    unfolding followed
    followed_all h =
        let z : count - done ≡ 0 = omega (arith, h) in
        let e : count ≡ done = omega (arith, h, f.within) in
        ap (λ (n : ℕ). record { count = n; ring = ring }) e
        ∙ f.found
        ∙ ap found_as (sym (f.whole ∙ ap (λ k. f.met ++ followed k at (entry_at next)) z ∙ append-nil f.met))
