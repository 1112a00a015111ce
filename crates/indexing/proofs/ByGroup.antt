-- Lists with a number for each group, as a function of groups fills them.
use Prim.Native.Nat.{ℕ, ◌+◌, ◌<◌}
use mathlib.Core.Path.{◌≡◌, ap, ◌∙◌}
use native.Mathlib.Omega.{arith}
use lib.Dec.{eqb}
use lib.ListN.{length, get_or, set, length-set, length-map}
use lib.Seq.{get_or-set_same, get_or-set_other}
use borrow.Author.Tests.{eqb-true, eqb-false}
use Rattle.model.specs.Limits.{max_items}
use Rattle.model.specs.Choice.{numbers_from}
use Rattle.model.proofs.Laws.{decided}
use Rattle.memory.proofs.Filled.{numbers_length, numbers_at, list_of}
use Rattle.indexing.specs.Degrees.{by_group}

pub group_length : (f : ℕ → ℕ) → length (by_group f) ≡ max_items
group_length f = length-map (numbers_from 0 max_items) f ∙ numbers_length 0 max_items

pub group_at : (f : ℕ → ℕ) (g : ℕ) → g < max_items → get_or (by_group f) g 0 ≡ f g
group_at f g h = let z : 0 + g ≡ g = omega arith in numbers_at f 0 max_items g 0 h ∙ ap f z

-- One number changed.
pub group_set : (f f' : ℕ → ℕ) (g : ℕ) → g < max_items → ((h : ℕ) → ¬ (h ≡ g) → f h ≡ f' h) → set (by_group f) g (f' g) ≡ by_group f'
group_set f f' g b same =
    list_of f' 0 max_items 0 (set (by_group f) g (f' g)) (length-set (by_group f) g (f' g) ∙ group_length f)
    (λ i h.
    let z : 0 + i ≡ i = omega arith in
    decided (eqb i g)
    (λ t.
    let e : i ≡ g = eqb-true i g t in
    let l = group_length f in
    rw (z, e) (get_or-set_same (by_group f) g (f' g) 0 (omega (arith, l))))
    (λ t.
    let ne : ¬ (i ≡ g) = eqb-false i g t in
    rw z (get_or-set_other (by_group f) g i (f' g) 0 ne ∙ group_at f i h ∙ same i ne)))

-- A list that has a function's numbers.
pub group_same : (f f' : ℕ → ℕ) → ((g : ℕ) → g < max_items → f g ≡ f' g) → by_group f ≡ by_group f'
group_same f f' same =
    list_of f' 0 max_items 0 (by_group f) (group_length f) (λ i h. let z : 0 + i ≡ i = omega arith in rw z (group_at f i h ∙ same i h))
