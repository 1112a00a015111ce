-- The function that draws the edges and the relation that document 01 words agree, on every list of events. Both kinds of edges come of one search:
-- look back from y, draw an edge from each event that hits, and end after the first that stops. So an edge is drawn from x exactly if x hits and
-- none nearer to y stops. For program order an event that hits stops; for conflicts a write to the cell does. The relation asks its test of the
-- first event and the search asks it of the last: they tell the same, since both events have one rank, or one cell.
use Rattle.model.proofs.Options.{none-ne-some, some-injective}
use Prim.Native.Nat.{ℕ, zero, suc, ◌+◌, ◌<◌}
use mathlib.Core.Path.{◌≡◌, refl, sym, ap, ◌∙◌, subst}
use mathlib.Core.Bool.{Bool, true, false}
use mathlib.Core.List.Memᴰ
use mathlib.Core.List.{List, [], ◌∷◌, ◌++◌, reverse_aux, append-nil}
use mathlib.Core.Logic.{◌⊎◌, inl, inr, ⊎_elim, ◌↔◌}
use native.Mathlib.Omega.{arith}
use lib.Dec.{eqb}
use lib.ListN.{length}
use borrow.Author.Tests.{ne_eqb, eqb-false}
use Rattle.model.specs.Choice.{when}
use Rattle.model.specs.Replay.{Event}
use Rattle.model.specs.HappensBefore.{same_sequence, overwrites, conflict, At, Follows, ProgramOrder, Conflict, HappensBefore}
use Rattle.model.specs.HappensBefore.{Edge, ◌⟶◌, edges, program_edges, conflict_edges, edges_from, edges_of}
use Rattle.model.specs.Lists.{◌∈◌}
use Rattle.model.proofs.Laws.{decided}
use Rattle.model.proofs.Lists.{here}
use Rattle.ordering.proofs.Links.{sequence_test, overwrite_test}
use Rattle.ordering.proofs.Nearest.{Nearest, nearest_first, nearest_deeper, nearest_follows, follows_nearest, retest, turned_rest}

-- The one search: an edge from each event that hits, up to the first that stops.
drawn : (hit stop : Event → Bool) → (y : Event) → (before : List Event) → List Edge
drawn hit stop y [] = []
drawn hit stop y (x ∷ before) =
    when (hit x) (λ _. edges x y) (λ _. []) ++ when (stop x) (λ _. []) (λ _. drawn hit stop y before)

-- Both kinds of edges come of it.
program_drawn : (y : Event) (before : List Event) → program_edges y before ≡ drawn (λ x. same_sequence x y) (λ x. same_sequence x y) y before
unfolding program_edges drawn
program_drawn y [] = refl
program_drawn y (x ∷ before) =
    decided (same_sequence x y) (λ t. rw t (sym (append-nil (edges x y)))) (λ t. rw t (program_drawn y before))

conflict_drawn : (y : Event) (before : List Event) →
    conflict_edges y before ≡ drawn (λ x. conflict x.access y.access) (λ x. overwrites x.access y.access) y before
unfolding conflict_edges drawn
conflict_drawn y [] = refl
conflict_drawn y (x ∷ before) = rw (conflict_drawn y before)

-- What stands in a list that is there only if a test passes, or only if it fails.
in_when : {A : Type 0} {a : A} (t : Bool) (l : List A) → a ∈ when t (λ _. l) (λ _. []) → (t ≡ true) × (a ∈ l)
in_when true l m = (refl, m)
in_when false l m = absurd (Memᴰ.not-nil m)

in_unless : {A : Type 0} {a : A} (t : Bool) (l : List A) → a ∈ when t (λ _. []) (λ _. l) → (t ≡ false) × (a ∈ l)
in_unless true l m = absurd (Memᴰ.not-nil m)
in_unless false l m = (refl, m)

-- An edge is drawn from x exactly if x hits and none nearer stops.
module _ (hit stop : Event → Bool) (y : Event) where
  drawn_sound : {e : Edge} (before : List Event) → e ∈ drawn hit stop y before →
      (x : Event) × Nearest before stop x × (hit x ≡ true) × (e ∈ edges x y)
  unfolding drawn
  drawn_sound [] m = absurd (Memᴰ.not-nil m)
  drawn_sound (x ∷ before) m =
      ⊎_elim
      (λ p. let h = in_when (hit x) (edges x y) p in (x, nearest_first x before stop, h.0, h.1))
      (λ p. let h = in_unless (stop x) (drawn hit stop y before) p in
      let r = drawn_sound before h.1 in
      (r.0, nearest_deeper x h.0 r.1, r.2, r.3))
      (Memᴰ.append_cases (when (hit x) (λ _. edges x y) (λ _. [])) m)

  drawn_complete : {e : Edge} (before : List Event) (d : ℕ) (x : Event) → At before d x →
      ((k : ℕ) (z : Event) → k < d → At before k z → stop z ≡ false) → hit x ≡ true → e ∈ edges x y → e ∈ drawn hit stop y before
  unfolding drawn
  drawn_complete [] d x lies nearer h m = absurd (none-ne-some _ lies)
  drawn_complete {e} (z ∷ before) zero x lies nearer h m =
      let same : x ≡ z = sym (some-injective _ _ lies) in
      rw (sym (ap hit same) ∙ h) (Memᴰ.append_left _ (subst (λ w. e ∈ edges w y) same m))
  drawn_complete (z ∷ before) (suc d) x lies nearer h m =
      rw (nearer 0 z (omega arith) refl)
      (Memᴰ.append_right (when (hit z) (λ _. edges z y) (λ _. []))
      (drawn_complete before d x lies (λ k w p at. nearer (suc k) w (omega arith) at) h m))

-- An edge between two events goes from the group of the one to that of the other, and these differ.
pub edges_sound : (x y : Event) {e : Edge} → e ∈ edges x y → (x.group ≡ e.from) × (y.group ≡ e.to) × (¬ (e.from ≡ e.to))
edges_sound x y m =
    let h = in_unless (eqb x.group y.group) (x.group ⟶ y.group ∷ []) m in
    let same = Memᴰ.eq_of_singleton h.1 in (
      ap (λ (d : Edge). d.from) (sym same),
      ap (λ (d : Edge). d.to) (sym same),
      λ q. eqb-false x.group y.group h.0 (ap (λ (d : Edge). d.from) (sym same) ∙ q ∙ ap (λ (d : Edge). d.to) same),
    )

pub edges_complete : (x y : Event) {g h : ℕ} → x.group ≡ g → y.group ≡ h → ¬ (g ≡ h) → g ⟶ h ∈ edges x y
edges_complete x y {g} {h} p q n =
    let same : g ⟶ h ≡ x.group ⟶ y.group = cc in
    rw (ne_eqb x.group y.group (λ e. n (sym p ∙ e ∙ q))) (here same)

-- What is drawn into the events from here on is right.
edges_from_sound : {e : Edge} (before rest : List Event) → e ∈ edges_from before rest → HappensBefore (reverse_aux before rest) e.from e.to
unfolding edges_from
edges_from_sound before [] m = absurd (Memᴰ.not-nil m)
edges_from_sound {e} before (y ∷ rest) m =
    ⊎_elim program (λ k. ⊎_elim conflicts (edges_from_sound (y ∷ before) rest) (Memᴰ.append_cases (conflict_edges y before) k))
    (Memᴰ.append_cases (program_edges y before) m)
  where
    happens : (x : Event) → e ∈ edges x y → ProgramOrder (reverse_aux before (y ∷ rest)) x y ⊎ Conflict (reverse_aux before (y ∷ rest)) x y →
        HappensBefore (reverse_aux before (y ∷ rest)) e.from e.to
    happens x k reason =
        let ends = edges_sound x y k in
        record { x = x; y = y; from = ends.0; to = ends.1; different = ends.2; reason = reason }

    program : e ∈ program_edges y before → HappensBefore (reverse_aux before (y ∷ rest)) e.from e.to
    program k =
        let (x, n, h, l) = drawn_sound (λ x. same_sequence x y) (λ x. same_sequence x y) y before (rw (program_drawn y before) at k) in
        happens x l (inl (record { same = h; next = retest (sequence_test x y h) (nearest_follows before rest n) }))

    conflicts : e ∈ conflict_edges y before → HappensBefore (reverse_aux before (y ∷ rest)) e.from e.to
    conflicts k =
        let (x, n, h, l) =
        drawn_sound (λ x. conflict x.access y.access) (λ x. overwrites x.access y.access) y before (rw (conflict_drawn y before) at k) in
        let same = overwrite_test x.access y.access h in
        happens x l (inr (record { conflicting = h; nearest = retest (λ z. same z.access) (nearest_follows before rest n) }))

-- What the relation has is drawn: by either search, if its edges into the next event are among those drawn from here on.
module _ (hit stop : Event → Event → Bool)
    (among : (e : Edge) (y : Event) (before rest : List Event) →
    e ∈ drawn (λ x. hit x y) (λ x. stop x y) y before → e ∈ edges_from before (y ∷ rest)) where
  edges_from_complete : {e : Edge} {x y : Event} (before rest : List Event) (f : Follows (reverse_aux before rest) (λ z. stop z y) x y) (k : ℕ) →
      f.j ≡ length before + k → hit x y ≡ true → e ∈ edges x y → e ∈ edges_from before rest
  unfolding edges_from
  edges_from_complete before [] f k p h m = absurd (none-ne-some _ (sym (turned_rest before [] f.j k p) ∙ f.second))
  edges_from_complete {e} {x} {y} before (z ∷ rest) f zero p h m =
      let n = follows_nearest before (z ∷ rest) f (omega arith) in
      let same : y ≡ z = sym (some-injective _ _ (sym (turned_rest before (z ∷ rest) f.j 0 p) ∙ f.second)) in
      subst (λ (w : Event). e ∈ edges_from before (w ∷ rest)) same
      (among e y before rest (drawn_complete (λ w. hit w y) (λ w. stop w y) y before n.depth x n.lies n.none_nearer h m))
  edges_from_complete before (z ∷ rest) f (suc k) p h m =
      Memᴰ.append_right (program_edges z before)
      (Memᴰ.append_right (conflict_edges z before) (edges_from_complete (z ∷ before) rest f k (omega arith) h m))

-- "The function that draws them and the relation that document 01 words agree": same pairs of groups, on every list of events.
pub edges_agree : (events : List Event) (g h : ℕ) → (g ⟶ h ∈ edges_of events) ↔ HappensBefore events g h
unfolding edges_of
edges_agree events g h = (edges_from_sound [] events, λ b. complete b b.reason)
  where
    program : (e : Edge) (y : Event) (before rest : List Event) → e ∈ drawn (λ x. same_sequence x y) (λ x. same_sequence x y) y before →
        e ∈ edges_from before (y ∷ rest)
    program e y before rest m = Memᴰ.append_left {s = program_edges y before} _ (rw (program_drawn y before) m)

    conflicts : (e : Edge) (y : Event) (before rest : List Event) →
        e ∈ drawn (λ x. conflict x.access y.access) (λ x. overwrites x.access y.access) y before → e ∈ edges_from before (y ∷ rest)
    conflicts e y before rest m =
        Memᴰ.append_right (program_edges y before) (Memᴰ.append_left {s = conflict_edges y before} _ (rw (conflict_drawn y before) m))

    complete : (b : HappensBefore events g h) → ProgramOrder events b.x b.y ⊎ Conflict events b.x b.y →
        g ⟶ h ∈ edges_from [] events
    complete b (inl r) =
        let f = retest (λ z. sym (sequence_test b.x b.y r.same z)) r.next in
        edges_from_complete same_sequence same_sequence program [] events f f.j (omega arith) r.same
        (edges_complete b.x b.y b.from b.to b.different)
    complete b (inr r) =
        let f = retest (λ z. sym (overwrite_test b.x.access b.y.access r.conflicting z.access)) r.nearest in
        edges_from_complete (λ x y. conflict x.access y.access) (λ x y. overwrites x.access y.access) conflicts [] events f f.j
        (omega arith) r.conflicting (edges_complete b.x b.y b.from b.to b.different)
