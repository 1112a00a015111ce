-- "This replaces the ring rule of document 01 .. A record that had an order has the same order still." The rule of document 01 stands here alone, with
-- the verdict by it. An order is what is placed where no group is left, and neither rule is asked then; so the two verdicts are both the same order
-- or both a ring.
use Prim.Native.Nat.{ℕ, suc, min}
use mathlib.Core.Path.{◌≡◌}
use mathlib.Core.List.{List, [], ◌∷◌, ◌++◌}
use mathlib.Core.Logic.{◌↔◌}
use native.Mathlib.Omega.{arith}
use lib.Dec.{eqb}
use Rattle.model.specs.Choice.{when, numbers_from}
use Rattle.model.specs.HappensBefore.{Edge}
use Rattle.model.specs.Orders.{Placing, place, Verdict, ordered, cyclic, judged_by, verdict}
use Rattle.ordering.proofs.WalkBack.{walk_back}

-- Document 01: "begin at the lowest unplaced group, step back each time to the lowest unplaced group with an arrow to it, until a group repeats. The
-- part between the repeats, listed along the arrows from its lowest number, is the ring." The part before the lowest goes to the end.
lowest : ℕ → List ℕ → ℕ
lowest g [] = g
lowest g (h ∷ hs) = lowest (min g h) hs

turned : ℕ → List ℕ → List ℕ → List ℕ
turned low passed [] = passed
turned low passed (g ∷ groups) = when (eqb g low) (λ _. g ∷ (groups ++ passed)) (λ _. turned low (passed ++ g ∷ []) groups)

from_lowest : List ℕ → List ℕ
from_lowest [] = []
from_lowest (g ∷ groups) = turned (lowest g groups) [] (g ∷ groups)

judged_before : (groups : ℕ) → (placed unplaced : List ℕ) → List Edge → Verdict
judged_before groups placed [] edges = ordered placed
judged_before groups placed (g ∷ rest) edges = cyclic (from_lowest (walk_back (suc groups) [] g edges))

-- The verdict by the rule of document 01.
pub verdict_before : (groups : ℕ) → List Edge → Verdict
verdict_before groups edges =
    let p : Placing = place groups (numbers_from 0 groups) edges in
    judged_before groups p.placed p.unplaced p.edges

judged_same : (groups : ℕ) (placed unplaced : List ℕ) (edges : List Edge) (l : List ℕ) →
    (judged_before groups placed unplaced edges ≡ ordered l) ↔ (judged_by placed unplaced edges ≡ ordered l)
unfolding judged_by judged_before
judged_same groups placed [] edges l = ((λ h. h), (λ h. h))
judged_same groups placed (g ∷ rest) edges l =
    ((λ h. let z : ◌≡◌ {A = ℕ} 0 1 = cc in absurd (omega arith)), (λ h. let z : ◌≡◌ {A = ℕ} 0 1 = cc in absurd (omega arith)))

pub same_orders : (groups : ℕ) (edges : List Edge) (l : List ℕ) → (verdict_before groups edges ≡ ordered l) ↔ (verdict groups edges ≡ ordered l)
unfolding verdict verdict_before
same_orders groups edges l =
    let p : Placing = place groups (numbers_from 0 groups) edges in
    judged_same groups p.placed p.unplaced p.edges l
