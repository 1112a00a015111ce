-- How many arrows lead from one group to another. A walk of n arrows from x to h is there exactly if x is among the groups that come to h by n
-- arrows. So the search that counts n up finds the fewest that lead there, and finds none only if no more than its turns do.
use Rattle.std.specs.Prelude.{Option, Some, None, slice_get}
use Rattle.model.proofs.Options.{none-ne-some, some-injective}
use Prim.Native.Nat.{ℕ, zero, suc, ◌+◌, ◌≤◌}
use mathlib.Core.Path.{◌≡◌, refl, sym, ap, ◌∙◌, subst}
use mathlib.Core.List.Memᴰ
use mathlib.Core.List.{List, [], ◌∷◌, ◌++◌}
use mathlib.Core.Logic.{⊎_elim}
use native.Mathlib.Nat.{zero-add, suc-add}
use native.Mathlib.Omega.{arith}
use lib.Dec.{eqb}
use lib.ListN.{length}
use borrow.Author.Tests.{eqb-true, eqb-false}
use Rattle.model.specs.Choice.{member}
use Rattle.model.specs.HappensBefore.{Edge, ◌⟶◌}
use Rattle.model.specs.Rings.{starts_into, coming_to, fewest_from, fewest}
use Rattle.model.specs.Lists.{◌∈◌}
use Rattle.model.proofs.Laws.{decided}
use Rattle.model.proofs.Lists.{here, there, member_true, member_false}
use Rattle.ordering.specs.Walks.{Along, Walk, stay, step}

pub walk_join : {edges : List Edge} {n m x y z : ℕ} → Walk edges n x y → Walk edges m y z → Walk edges (n + m) x z
walk_join {edges} {x = x} {z = z} (stay e) w = subst (λ (k : ℕ). Walk edges k x z) (sym (zero-add _)) (rw e w)
walk_join {edges} {x = x} {z = z} (step a v) w = subst (λ (k : ℕ). Walk edges k x z) (sym (suc-add _ _)) (step a (walk_join v w))

-- A walk as a list is a walk.
pub along_walk : (edges : List Edge) (x g : ℕ) (l : List ℕ) → Along edges x (l ++ g ∷ []) → Walk edges (suc (length l)) x g
along_walk edges x g [] a = step a.0 (stay refl)
along_walk edges x g (h ∷ l) a = step a.0 (along_walk edges h g l a.1)

-- Along a walk, from one place to a later one.
pub walk_between : (edges : List Edge) (g : ℕ) (l : List ℕ) → Along edges g l → (i j d : ℕ) {a b : ℕ} → slice_get (g ∷ l) i ≡ Some a →
    slice_get (g ∷ l) j ≡ Some b → j ≡ i + d → Walk edges d a b
walk_between edges g l w zero zero zero p q e = stay (some-injective _ _ (sym p ∙ q))
walk_between edges g l w zero zero (suc d) p q e = absurd (omega arith)
walk_between edges g l w zero (suc j) zero p q e = absurd (omega arith)
walk_between edges g [] w zero (suc j) (suc d) p q e = absurd (none-ne-some _ q)
walk_between edges g (h ∷ l) w zero (suc j) (suc d) {a} p q e =
    step (subst (λ (y : ℕ). y ⟶ h ∈ edges) (some-injective _ _ p) w.0) (walk_between edges h l w.1 zero j d refl q (omega arith))
walk_between edges g l w (suc i) zero d p q e = absurd (omega arith)
walk_between edges g [] w (suc i) (suc j) d p q e = absurd (none-ne-some _ q)
walk_between edges g (h ∷ l) w (suc i) (suc j) d p q e = walk_between edges h l w.1 i j d p q (omega arith)

-- The starts of the arrows into a list of groups.
starts_sound : (layer : List ℕ) (edges : List Edge) {x : ℕ} → x ∈ starts_into layer edges → (h : ℕ) × (x ⟶ h ∈ edges) × (h ∈ layer)
unfolding starts_into
starts_sound layer [] m = absurd (Memᴰ.not-nil m)
starts_sound layer (e ∷ edges) {x} m =
    decided (member e.to layer)
    (λ t. ⊎_elim
    (λ s. (e.to, here (rw s), member_true e.to layer t))
    (λ k. let r = starts_sound layer edges k in (r.0, there r.1, r.2))
    (Memᴰ.cases_cons (rw t at m)))
    (λ t. let r = starts_sound layer edges (rw t at m) in (r.0, there r.1, r.2))

starts_complete : (layer : List ℕ) (edges : List Edge) {x h : ℕ} → x ⟶ h ∈ edges → h ∈ layer → x ∈ starts_into layer edges
unfolding starts_into
starts_complete layer [] m k = absurd (Memᴰ.not-nil m)
starts_complete layer (e ∷ edges) {x} {h} m k =
    ⊎_elim
    (λ s. let to : h ≡ e.to = ap (λ (c : Edge). c.to) s in
    let from : x ≡ e.from = ap (λ (c : Edge). c.from) s in
    decided (member e.to layer)
    (λ t. rw t (here from))
    (λ t. absurd (member_false e.to layer t (subst (λ (y : ℕ). y ∈ layer) to k))))
    (λ n. decided (member e.to layer) (λ t. rw t (there (starts_complete layer edges n k))) (λ t. rw t (starts_complete layer edges n k)))
    (Memᴰ.cases_cons m)

-- A walk of n arrows is there exactly if its start is among those that come by n arrows.
pub coming_walk : (n g : ℕ) (edges : List Edge) {x : ℕ} → x ∈ coming_to n g edges → Walk edges n x g
unfolding coming_to
coming_walk zero g edges m = ⊎_elim (λ e. stay e) (λ k. absurd (Memᴰ.not-nil k)) (Memᴰ.cases_cons m)
coming_walk (suc n) g edges m =
    let (h, arrow, k) = starts_sound (coming_to n g edges) edges m in step arrow (coming_walk n g edges k)

pub walk_coming : (edges : List Edge) {n x g : ℕ} → Walk edges n x g → x ∈ coming_to n g edges
unfolding coming_to
walk_coming edges (stay e) = here e
walk_coming edges (step {n} {x} {h} {g} a w) = starts_complete (coming_to n g edges) edges a (walk_coming edges w)

-- What a search for the fewest arrows tells, one at least and at most so many: none leads there; or so many do, and no fewer.
pub data Fewest (edges : List Edge) (least most g h : ℕ) : Option ℕ → Type 0 where
  unled : ((m : ℕ) → least ≤ m → m ≤ most → ¬ Walk edges m g h) → Fewest edges least most g h None
  led : (n : ℕ) → least ≤ n → n ≤ most → Walk edges n g h → ((m : ℕ) → least ≤ m → Walk edges m g h → n ≤ m) → Fewest edges least most g h (Some n)

-- No walk of n arrows is there: what is told from n + 1 on is told from n on.
fewest_later : (edges : List Edge) (n most g h : ℕ) → ¬ Walk edges n g h → {o : Option ℕ} → Fewest edges (suc n) most g h o → Fewest edges n most g h o
fewest_later edges n most g h not_here (unled nothing) =
    unled (λ m low high w. decided (eqb n m)
    (λ t. not_here (subst (λ (k : ℕ). Walk edges k g h) (sym (eqb-true n m t)) w))
    (λ t. let other : ¬ (n ≡ m) = eqb-false n m t in nothing m (omega arith) high w))
fewest_later edges n most g h not_here (led k low high w least) =
    led k (omega arith) high w (λ m low' v. decided (eqb n m)
    (λ t. absurd (not_here (subst (λ (k : ℕ). Walk edges k g h) (sym (eqb-true n m t)) v)))
    (λ t. let other : ¬ (n ≡ m) = eqb-false n m t in least m (omega arith) v))

fewest_from_lem : (edges : List Edge) (turns n most g h : ℕ) → most ≡ n + turns → Fewest edges (suc n) most g h (fewest_from turns (suc n) g h edges)
unfolding fewest_from
fewest_from_lem edges zero n most g h e = unled (λ m low high w. omega arith)
fewest_from_lem edges (suc turns) n most g h e =
    decided (member g (coming_to (suc n) h edges))
    (λ t. rw t (led (suc n) (omega arith) (omega arith) (coming_walk (suc n) h edges (member_true g (coming_to (suc n) h edges) t)) (λ m low w. low)))
    (λ t. rw t
    (fewest_later edges (suc n) most g h (λ w. member_false g (coming_to (suc n) h edges) t (walk_coming edges w))
    (fewest_from_lem edges turns (suc n) most g h (omega arith))))

-- The fewest arrows from one group to another.
pub fewest_is : (edges : List Edge) (most g h : ℕ) → Fewest edges 1 most g h (fewest most g h edges)
unfolding fewest
fewest_is edges most g h = fewest_from_lem edges most 0 most g h (omega arith)
