-- The greedy placing. Each turn takes a group into which no edge leads any more, and with it the edges that come from it. So an edge's start is
-- placed before its end: while the start is unplaced the edge is still there, and its end cannot be taken. As many turns as there are groups
-- suffice, so at the end none of those left can be taken.
use Rattle.std.specs.Prelude.{Option, Some, None}
use Rattle.model.proofs.Options.{none-ne-some, some-injective}
use Prim.Native.Nat.{ℕ, zero, suc, ◌+◌, ◌≤◌}
use mathlib.Core.Path.{◌≡◌, refl, sym, ap, ◌∙◌}
use mathlib.Core.Bool.{true, false, false≢true, not}
use mathlib.Core.List.Memᴰ
use mathlib.Core.List.{List, [], ◌∷◌}
use mathlib.Core.Logic.{◌⊎◌, inl, inr, ⊎_elim}
use Rattle.model.proofs.Options.{some-ne-none}
use native.Mathlib.Omega.{arith}
use lib.Dec.{eqb}
use lib.ListN.{length}
use borrow.Author.Tests.{eqb-true, eqb-false, eq-eqb, ne_eqb}
use Rattle.model.specs.HappensBefore.{Edge}
use Rattle.model.specs.Orders.{has_edge_into, first_free, without, not_from, Placing, stuck, place_next, place}
use Rattle.model.specs.Lists.{◌∈◌, Distinct, Rising, Precedes}
use Rattle.model.proofs.Selections.{select_keeps, select_within}
use Rattle.model.proofs.Laws.{decided}
use Rattle.model.proofs.Lists.{here, there, precedes_rest, precedes_later}
use Rattle.model.proofs.Lists.{without_keeps, without_within, without_length, without_distinct, without_rising, without_gone}

-- All edges are between these groups.
abbrev pub Within : List ℕ → List Edge → Type 0
Within groups edges = (e : Edge) → e ∈ edges → (e.from ∈ groups) × (e.to ∈ groups)

-- The test whether an edge leads into a group says what it should.
pub no_edge_into : (g : ℕ) (edges : List Edge) → has_edge_into g edges ≡ false → (e : Edge) → e ∈ edges → ¬ (e.to ≡ g)
unfolding has_edge_into
no_edge_into g [] h e m q = Memᴰ.not-nil m
no_edge_into g (d ∷ edges) h e m q =
    decided (eqb d.to g)
    (λ t. absurd (false≢true (sym (rw t at h))))
    (λ t. ⊎_elim
    (λ s. eqb-false d.to g t (ap (λ (c : Edge). c.to) (sym s) ∙ q))
    (λ k. no_edge_into g edges (rw t at h) e k q)
    (Memᴰ.cases_cons m))

pub into_edge : (g : ℕ) (edges : List Edge) {e : Edge} → e ∈ edges → e.to ≡ g → has_edge_into g edges ≡ true
into_edge g edges {e} m q = decided (has_edge_into g edges) (λ t. t) (λ t. absurd (no_edge_into g edges t e m q))

-- A group that can be taken is one of the list with no edge into it; if none can be, an edge leads into each.
pub free : (edges : List Edge) (groups : List ℕ) (g : ℕ) → first_free edges groups ≡ Some g → (g ∈ groups) × (has_edge_into g edges ≡ false)
unfolding first_free
free edges [] g h = absurd (none-ne-some _ h)
free edges (x ∷ groups) g h =
    decided (has_edge_into x edges)
    (λ t. let r = free edges groups g (rw t at h) in (there r.0, r.1))
    (λ t. let same : x ≡ g = some-injective _ _ (rw t at h) in (here (sym same), rw (← same) t))

pub none_free : (edges : List Edge) (groups : List ℕ) → first_free edges groups ≡ None → (g : ℕ) → g ∈ groups → has_edge_into g edges ≡ true
unfolding first_free
none_free edges [] h g m = absurd (Memᴰ.not-nil m)
none_free edges (x ∷ groups) h g m =
    decided (has_edge_into x edges)
    (λ t. ⊎_elim (λ e. rw e t) (none_free edges groups (rw t at h) g) (Memᴰ.cases_cons m))
    (λ t. absurd (some-ne-none _ (rw t at h)))

-- The edges but those from one group.
pub not_from_keeps : (g : ℕ) (edges : List Edge) {e : Edge} → e ∈ edges → ¬ (e.from ≡ g) → e ∈ not_from g edges
not_from_keeps g edges {e} m n = select_keeps (λ d. not (eqb d.from g)) edges m (ap not (ne_eqb e.from g n))

pub not_from_within : (g : ℕ) (edges : List Edge) {e : Edge} → e ∈ not_from g edges → (e ∈ edges) × (¬ (e.from ≡ g))
not_from_within g edges {e} m =
    let r = select_within (λ d. not (eqb d.from g)) edges m in
    (r.0, λ q. false≢true (ap not (sym (eq-eqb e.from g q)) ∙ r.1))

-- What holds where no group can be taken, and of a placing if it holds of what comes after its first group, holds of the whole.
module _ (P : List ℕ → List Edge → Placing → Type 0)
    (ends : (groups : List ℕ) (edges : List Edge) → first_free edges groups ≡ None → P groups edges (stuck groups edges))
    (takes : (groups : List ℕ) (edges : List Edge) (g : ℕ) (rest : Placing) → first_free edges groups ≡ Some g →
    P (without g groups) (not_from g edges) rest →
    P groups edges (record { placed = g ∷ rest.placed; unplaced = rest.unplaced; edges = rest.edges }))
  where
    -- One turn.
    place_next_lem : (groups : List ℕ) (edges : List Edge) (after : ℕ → Placing) →
        ((g : ℕ) → first_free edges groups ≡ Some g → P (without g groups) (not_from g edges) (after g)) →
        (o : Option ℕ) → first_free edges groups ≡ o → P groups edges (place_next groups edges after o)
    unfolding place_next
    place_next_lem groups edges after later None h = ends groups edges h
    place_next_lem groups edges after later (Some g) h = takes groups edges g (after g) h (later g h)

    -- All turns, if they suffice.
    pub place_induction : (turns : ℕ) (groups : List ℕ) (edges : List Edge) → length groups ≤ turns → P groups edges (place turns groups edges)
    unfolding place
    place_induction zero [] edges h = ends [] edges refl
    place_induction zero (x ∷ groups) edges h = absurd (omega arith)
    place_induction (suc turns) groups edges h =
        place_next_lem groups edges (λ g. place turns (without g groups) (not_from g edges))
        (λ g e. place_induction turns (without g groups) (not_from g edges) (omega (arith, without_length g groups (free edges groups g e).0)))
        (first_free edges groups) refl

-- What a placing of distinct groups, with edges between them alone, comes to.
pub record Placed (groups : List ℕ) (edges : List Edge) (p : Placing) : Type 0 where
  pub each : (g : ℕ) → g ∈ groups → (g ∈ p.placed) ⊎ (g ∈ p.unplaced)
  pub placed_within : (g : ℕ) → g ∈ p.placed → g ∈ groups
  pub unplaced_within : (g : ℕ) → g ∈ p.unplaced → g ∈ groups
  pub placed_once : Distinct p.placed
  pub unplaced_once : Distinct p.unplaced
  pub unplaced_rise : Rising groups → Rising p.unplaced
  pub count : length p.placed + length p.unplaced ≡ length groups
  pub forward : (e : Edge) → e ∈ edges → e.to ∈ p.placed → Precedes p.placed e.from e.to
  pub edges_left : (e : Edge) → e ∈ p.edges → e ∈ edges
  pub edges_kept : (e : Edge) → e ∈ edges → ¬ (e.from ∈ p.placed) → e ∈ p.edges
  pub left_within : Within p.unplaced p.edges
  pub nothing_free : first_free p.edges p.unplaced ≡ None

-- No group can be taken.
stuck_placed : (groups : List ℕ) (edges : List Edge) → first_free edges groups ≡ None → Distinct groups → Within groups edges →
    Placed groups edges (stuck groups edges)
unfolding stuck
stuck_placed groups edges h d w =
    record {
      each = λ g m. inr m;
      placed_within = λ g m. absurd (Memᴰ.not-nil m);
      unplaced_within = λ g m. m;
      placed_once = tt;
      unplaced_once = d;
      unplaced_rise = λ r. r;
      count = omega arith;
      forward = λ e m k. absurd (Memᴰ.not-nil k);
      edges_left = λ e m. m;
      edges_kept = λ e m n. m;
      left_within = w;
      nothing_free = h;
    }

-- A group is taken, and then the rest is placed.
module _ (groups : List ℕ) (edges : List Edge) (g : ℕ) (f : first_free edges groups ≡ Some g) where
  -- No edge leads into the group that is taken.
  not_into : (e : Edge) → e ∈ edges → ¬ (e.to ≡ g)
  not_into = no_edge_into g edges (free edges groups g f).1

  -- The edges left are between the groups left.
  within_rest : Within groups edges → Within (without g groups) (not_from g edges)
  within_rest w e m =
      let k = not_from_within g edges m in
      let ends = w e k.0 in
      (without_keeps g e.from groups ends.0 k.1, without_keeps g e.to groups ends.1 (not_into e k.0))

  -- An edge from it goes forward since its end is placed later; the others go forward among the rest.
  taken_forward : (rest : List ℕ) → ((e : Edge) → e ∈ not_from g edges → e.to ∈ rest → Precedes rest e.from e.to) →
      (e : Edge) → e ∈ edges → e.to ∈ (g ∷ rest) → Precedes (g ∷ rest) e.from e.to
  taken_forward rest later e m k =
      let end : e.to ∈ rest = ⊎_elim (λ s. absurd (not_into e m s)) (λ n. n) (Memᴰ.cases_cons k) in
      decided (eqb e.from g)
      (λ t. rw (eqb-true e.from g t) (precedes_rest g end))
      (λ t. precedes_later g (later e (not_from_keeps g edges m (eqb-false e.from g t)) end))

  -- So what holds of the rest holds of the whole.
  taken_placed : (rest : Placing) → Distinct groups → Placed (without g groups) (not_from g edges) rest →
      Placed groups edges (record { placed = g ∷ rest.placed; unplaced = rest.unplaced; edges = rest.edges })
  taken_placed rest d r =
      record {
        each = λ h m. decided (eqb h g)
            (λ t. inl (here (eqb-true h g t)))
            (λ t. ⊎_elim (λ k. inl (there k)) (λ k. inr k) (r.each h (without_keeps g h groups m (eqb-false h g t))));
        placed_within = λ h m.
            ⊎_elim (λ s. Memᴰ.cast s (free edges groups g f).0) (λ k. without_within g h groups (r.placed_within h k)) (Memᴰ.cases_cons m);
        unplaced_within = λ h m. without_within g h groups (r.unplaced_within h m);
        placed_once = ((λ m. without_gone g groups d (r.placed_within g m)), r.placed_once);
        unplaced_once = r.unplaced_once;
        unplaced_rise = λ rise. r.unplaced_rise (without_rising g groups rise);
        count = omega (arith, r.count, without_length g groups (free edges groups g f).0);
        forward = taken_forward rest.placed r.forward;
        edges_left = λ e m. (not_from_within g edges (r.edges_left e m)).0;
        edges_kept = λ e m n. r.edges_kept e (not_from_keeps g edges m (λ s. n (here s))) (λ k. n (there k));
        left_within = r.left_within;
        nothing_free = r.nothing_free;
      }

-- As many turns as there are groups suffice.
pub place_placed : (turns : ℕ) (groups : List ℕ) (edges : List Edge) → length groups ≤ turns → Distinct groups → Within groups edges →
    Placed groups edges (place turns groups edges)
place_placed =
    place_induction (λ groups edges p. Distinct groups → Within groups edges → Placed groups edges p)
    stuck_placed
    (λ groups edges g rest f later d w.
    taken_placed groups edges g f rest d (later (without_distinct g groups d) (within_rest groups edges g f w)))
