-- Arrows that were put into a table are read out again: as many as fit, and all of them where they are between the groups.
use Rattle.std.specs.Prelude.{Some, slice_get}
use Rattle.model.proofs.Options.{none-ne-some, some-injective}
use Prim.Native.Nat.{ℕ, zero, suc, ◌+◌, ◌≤◌, ◌<◌}
use mathlib.Core.Path.{◌≡◌, refl, sym, ap, ap₂, ◌∙◌}
use mathlib.Core.Bool.{true}
use mathlib.Core.List.{List, [], ◌∷◌, ◌++◌, map, map-id}
use mathlib.Core.List.Memᴰ.{head as here}
use mathlib.Core.List.Memᴰ.{tail as there}
use mathlib.Core.List.{Memᴰ as Member}
use native.Mathlib.Nat.{min-eq_left, add-zero}
use native.Mathlib.Omega.{arith}
use lib.Dec.{ltb}
use lib.ListN.{length, get_or}
use borrow.Author.Tests.{lt-ltb, ltb-true, ltb-false}
use Rattle.model.specs.Limits.{max_items, max_edges}
use Rattle.model.specs.Choice.{select, numbers_from}
use Rattle.model.specs.HappensBefore.{Edge}
use Rattle.model.specs.Checks.{fill}
use Rattle.model.proofs.Laws.{decided, and-true, slice_get_bound}
use Rattle.model.proofs.Selections.{select_within}
use Rattle.memory.specs.Tables.{Table, zeros}
use Rattle.graph.specs.Edges.{edges_size, source_at, target_at, edge_at, edges_in, edge_row, edge_table, groups_in, among, graph_in}

-- What stands in front of other entries, each told by a function.
front_at : {A B : Type 0} (tell : A → B) (l : List A) (rest : List B) (d : B) (i : ℕ) {a : A} → slice_get l i ≡ Some a →
    get_or (map tell l ++ rest) i d ≡ tell a
front_at tell [] rest d i h = absurd (none-ne-some _ h)
front_at tell (x ∷ l) rest d zero h = ap tell (some-injective _ _ h)
front_at tell (x ∷ l) rest d (suc i) h = front_at tell l rest d i h

-- A list filled from the front has there what was told.
pub filled_at : {A B : Type 0} (tell : A → B) (l : List A) (old : List B) (d : B) (i : ℕ) {a : A} → slice_get l i ≡ Some a →
    get_or (fill (map tell l) old) i d ≡ tell a
unfolding fill
filled_at tell l old d i h = front_at tell l _ d i h

-- What is read under each number, from a first one on, is a list where it is that list's.
pub read_each : {A B : Type 0} (tell : A → B) (read : ℕ → B) (first : ℕ) (l : List A) →
    ((i : ℕ) (a : A) → slice_get l i ≡ Some a → read (first + i) ≡ tell a) → map read (numbers_from first (length l)) ≡ map tell l
unfolding numbers_from
read_each tell read first [] h = refl
read_each tell read first (x ∷ l) h =
    ap₂ ◌∷◌ (ap read (sym (add-zero first)) ∙ h 0 x refl)
    (read_each tell read (first + 1) l (λ i a at. let e : first + 1 + i ≡ first + suc i = omega arith in ap read e ∙ h (suc i) a at))

-- An arrow of the table; what the other rows hold does not matter.
module _ (edges : List Edge) (old : Table) (fits : length edges ≤ max_edges) where
  abbrev filled_table : Table
  filled_table = fill (map edge_row edges) old

  edge_at_lem : (i : ℕ) (e : Edge) → slice_get edges i ≡ Some e → edge_at filled_table i ≡ e
  unfolding source_at target_at
  edge_at_lem i e at =
      let row : get_or filled_table i [] ≡ edge_row e = filled_at edge_row edges old [] i at in
      let inside : ltb i max_edges ≡ true = lt-ltb i max_edges (omega (arith, slice_get_bound edges i at)) in
      let from : source_at filled_table i ≡ e.from = rw (inside, row) in
      let to : target_at filled_table i ≡ e.to = rw (inside, row) in
      λ j. record { from = from j; to = to j }

  filled_listed : edges_in (length edges) filled_table ≡ edges
  filled_listed =
      ap (λ n. map (edge_at filled_table) (numbers_from 0 n)) (min-eq_left fits)
      ∙ read_each (λ e. e) (edge_at filled_table) 0 edges
      (λ i e at. let z : 0 + i ≡ i = omega arith in ap (edge_at filled_table) z ∙ edge_at_lem i e at)
      ∙ map-id edges

-- The arrows that a table was filled with.
pub edges_listed : (edges : List Edge) → length edges ≤ max_edges → edges_in (length edges) (edge_table edges) ≡ edges
edges_listed edges = filled_listed edges (zeros edges_size)

-- Arrows whose groups are all below a number, which the arrays have entries for.
abbrev pub AllAmong : (groups : ℕ) → List Edge → Type 0
AllAmong groups edges = (e : Edge) → Member e edges → (e.from < groups) × (e.to < groups)

pub select_among : (groups : ℕ) (edges : List Edge) → AllAmong groups edges → select (among groups) edges ≡ edges
unfolding select
select_among groups [] below = refl
select_among groups (e ∷ edges) below =
    let (from, to) = below e (here refl) in
    rw (lt-ltb e.from groups from, lt-ltb e.to groups to)
    (ap (λ l. e ∷ l) (select_among groups edges (λ d m. below d (there m))))

-- Arrows that were selected are such.
pub selected_among : (groups : ℕ) (edges : List Edge) → AllAmong groups (select (among groups) edges)
selected_among groups edges e m =
    let (from, to) = and-true (ltb e.from groups) (ltb e.to groups) (select_within (among groups) edges m).1 in
    (ltb-true e.from groups from, ltb-true e.to groups to)

-- There are no more groups than the arrays have entries for, and no fewer if they have.
pub groups_bound : (groups : ℕ) → groups_in groups ≤ max_items
unfolding groups_in
groups_bound groups =
    decided (ltb groups max_items)
    (λ t. let b = ltb-true groups max_items t in rw t (omega (arith, b)))
    (λ t. rw t (omega arith))

pub groups_in_lem : (groups : ℕ) → groups ≤ max_items → groups_in groups ≡ groups
unfolding groups_in
groups_in_lem groups h =
    decided (ltb groups max_items)
    (λ t. rw t)
    (λ t. let least = ltb-false groups max_items t in rw t (omega arith))

-- So nothing is lost.
pub graph_whole : (groups : ℕ) (edges : List Edge) → groups ≤ max_items → AllAmong groups edges → length edges ≤ max_edges →
    graph_in groups (length edges) (edge_table edges) ≡ edges
graph_whole groups edges few below fits =
    ap (λ n. select (among n) (edges_in (length edges) (edge_table edges))) (groups_in_lem groups few)
    ∙ ap (select (among groups)) (edges_listed edges fits)
    ∙ select_among groups edges below
