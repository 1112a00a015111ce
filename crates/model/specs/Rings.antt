-- The ring (document 02, #111): "Return one with as few groups as any closed walk along arrows has. Of several, take the one whose numbers, listed
-- from its lowest group, come first when compared place by place."
use Rattle.std.specs.Prelude.{ℕ, zero, suc, min, ◌&&◌, List, [], ◌∷◌, eqb, leb, length, Option, Some, None}
use Rattle.model.specs.Choice.{when, member}
use Rattle.model.specs.HappensBefore.{Edge}

-- The starts of the arrows that lead into one of these groups.
unfoldable pub starts_into : (layer : List ℕ) → List Edge → List ℕ
unfolding member
starts_into layer [] = []
starts_into layer (e ∷ edges) = when (member e.to layer) (λ _. e.from ∷ starts_into layer edges) (λ _. starts_into layer edges)

-- The groups from which a walk of n arrows leads to h.
unfoldable pub coming_to : (n h : ℕ) → List Edge → List ℕ
unfolding starts_into
coming_to zero h edges = h ∷ []
coming_to (suc n) h edges = starts_into (coming_to n h edges) edges

-- The fewest arrows that lead from g to h, if so many or more do; they are looked for at most `turns` times.
unfoldable pub fewest_from : (turns n g h : ℕ) → List Edge → Option ℕ
unfolding member coming_to
fewest_from zero n g h edges = None
fewest_from (suc turns) n g h edges = when (member g (coming_to n h edges)) (λ _. Some n) (λ _. fewest_from turns (suc n) g h edges)

-- The fewest arrows, one or more, that lead from g to h, if no more than `most` do.
unfoldable pub fewest : (most g h : ℕ) → List Edge → Option ℕ
unfolding fewest_from
fewest most g h edges = fewest_from most 1 g h edges

-- A group from which so many arrows lead back to it.
pub record Closing : Type 0 where
  pub group : ℕ
  pub arrows : ℕ

-- Of two the one with fewer arrows; if they have as many, the first.
unfoldable pub nearer : (g : ℕ) → Option ℕ → Option Closing → Option Closing
nearer g None later = later
nearer g (Some n) None = Some (record { group = g; arrows = n })
nearer g (Some n) (Some c) = when (leb n c.arrows) (λ _. Some (record { group = g; arrows = n })) (λ _. Some c)

-- Of these groups the first of those from which the fewest arrows lead back.
unfoldable pub closest : (most : ℕ) → (groups : List ℕ) → List Edge → Option Closing
unfolding fewest nearer
closest most [] edges = None
closest most (g ∷ groups) edges = nearer g (fewest most g g edges) (closest most groups edges)

unfoldable pub lower : ℕ → Option ℕ → ℕ
lower g None = g
lower g (Some h) = min g h

-- The lowest of these groups to which an arrow leads from g.
unfoldable pub lowest_next : (g : ℕ) → (layer : List ℕ) → List Edge → Option ℕ
unfolding member lower
lowest_next g layer [] = None
lowest_next g layer (e ∷ edges) =
    when (eqb e.from g && member e.to layer)
    (λ _. Some (lower e.to (lowest_next g layer edges)))
    (λ _. lowest_next g layer edges)

unfoldable pub onward : (ℕ → List ℕ) → Option ℕ → List ℕ
onward walk None = []
onward walk (Some h) = walk h

-- Of the walks of n arrows from g to h the one that comes "first when compared place by place": each time the lowest next group from which the rest
-- of the way can be gone. The h at its end is not listed.
unfoldable pub first_walk : (n g h : ℕ) → List Edge → List ℕ
unfolding coming_to lowest_next onward
first_walk zero g h edges = []
first_walk (suc n) g h edges = g ∷ onward (λ k. first_walk n k h edges) (lowest_next g (coming_to n h edges) edges)

unfoldable pub closed_walk : List Edge → Option Closing → List ℕ
unfolding first_walk
closed_walk edges None = []
closed_walk edges (Some c) = first_walk c.arrows c.group c.group edges

-- The ring among these groups, which rise: so the first is the lowest. No walk of more arrows than there are groups is needed.
unfoldable pub ring : (groups : List ℕ) → List Edge → List ℕ
unfolding closest closed_walk
ring groups edges = closed_walk edges (closest (length groups) groups edges)
