-- One turn on arrays is one turn of the definition: the lowest ready group is the first that is free, and its arrows are those that go with it. So
-- all turns are.
use Rattle.std.specs.Prelude.{Option, Some, None}
use Prim.Native.Nat.{ℕ, zero, suc, ◌+◌, ◌≤◌, ◌<◌}
use mathlib.Core.Path.{◌≡◌, refl, sym, ◌∙◌}
use mathlib.Core.Bool.{Bool, true, not}
use mathlib.Core.List.{List, [], ◌∷◌, ◌++◌, append-nil, append_assoc}
use native.Mathlib.Omega.{arith}
use lib.Dec.{eqb}
use lib.ListN.{length, length-append}
use borrow.Author.Tests.{lt-ltb}
use Rattle.model.specs.Limits.{max_items}
use Rattle.model.specs.Choice.{select, numbers_from}
use Rattle.model.specs.Checks.{fill}
use Rattle.model.specs.HappensBefore.{Edge}
use Rattle.model.specs.Orders.{Placing, first_free, without, not_from, stuck, place_next, place}
use Rattle.model.proofs.Laws.{and-true}
use Rattle.memory.specs.Tables.{Table}
use Rattle.memory.proofs.Filled.{fill_more}
use Rattle.graph.specs.Edges.{source_at}
use Rattle.bitmap.specs.Bitmaps.{IsLowest, lowest_in, lowest_taken}
use Rattle.indexing.specs.Degrees.{in_degree, in_degrees}
use Rattle.indexing.specs.Indexed.{ListsBy, graph_to, in_graph, numbers_out, count_into}
use Rattle.indexing.proofs.ByKey.{members_by}
use Rattle.indexing.proofs.Lists.{list_counts, list_within}
use Rattle.placing.specs.declared.Placed.{Placed}
use Rattle.placing.specs.declared.counts.Counts.{Counts}
use Rattle.placing.specs.Releases.{counts, released_edges, edges_from_group}
use Rattle.placing.specs.Turns.{placed, noted, take_next, place_on}
use Rattle.placing.specs.Standing.{Stands}
use Rattle.bitmap.proofs.Holding.{lowest_none, lowest_some}
use Rattle.placing.proofs.Degrees.{edges_out, but, degree_parts, edges_but, edges_of_one}
use Rattle.placing.proofs.Lowest.{first_none, first_lowest, without_but}
use Rattle.placing.proofs.Stands.{stands_same, stands_taken, taken_free}
use Rattle.placing.proofs.Releases.{stands_released_edges}

-- A group behind the first so many of a list.
noted_fills : (front old : List ℕ) (g : ℕ) → length old ≡ max_items → length front < max_items →
    noted (fill front old) (length front) g ≡ fill (front ++ g ∷ []) old
unfolding noted
noted_fills front old g room h = rw (lt-ltb (length front) max_items h) (fill_more front old g (omega (arith, room)))

-- What is placed behind a front, as arrays.
abbrev pub finished : (front zeros : List ℕ) → Placing → Placed
finished front zeros p = placed (length front + length p.placed) (fill (front ++ p.placed) zeros) (in_degrees p.edges)

module _ (n : ℕ) (b : n ≤ max_items) (table : Table) (count : ℕ) (heads links zeros : List ℕ) (room : length zeros ≡ max_items)
    (lists : ListsBy (in_graph n table) (source_at table) count heads links)
  where
    abbrev graph : List Edge
    graph = graph_to n table count

    abbrev unplaced : (left : ℕ → Bool) → List ℕ
    unplaced left = select left (numbers_from 0 n)

    module _ {left : ℕ → Bool} {c : Counts} (s : Stands left (in_degree (edges_out left graph)) c) where
      -- A group is taken, and its arrows with it.
      module _ (g : ℕ) (lowest : lowest_in c.ready ≡ Some g) where
        split : (h : ℕ) → in_degree (edges_out left graph) h ≡ in_degree (edges_out (but left g) graph) h + count_into table (numbers_out n table count g) h
        split h =
            degree_parts g h (edges_out left graph)
            ∙ rw (edges_but left g graph, edges_of_one left g graph (taken_free s g lowest).0, list_counts n table g h count)

        after : Stands (but left g) (in_degree (edges_out (but left g) graph))
            (released_edges table (edges_from_group heads links g) (counts c.waiting (lowest_taken c.ready)))
        after =
            let is : IsLowest _ g = lowest_some s.holds lowest in
            rw (members_by lists g is.below)
            (stands_released_edges table (in_degree (edges_out (but left g) graph)) (numbers_out n table count g)
            (λ e m. let below = list_within n table count g e m in omega (arith, below))
            (stands_same split (stands_taken s g lowest)))

        first_is : ((h : ℕ) → left h ≡ true → h < n) → first_free (edges_out left graph) (unplaced left) ≡ Some g
        first_is within =
            let is : IsLowest _ g = lowest_some s.holds lowest in
            let below : g < n = within g (taken_free s g lowest).0 in
            first_lowest left (edges_out left graph) 0 n g (omega arith) (omega (arith, below)) is.is is.least

      no_first : lowest_in c.ready ≡ None → first_free (edges_out left graph) (unplaced left) ≡ None
      no_first empty =
          first_none left (edges_out left graph) 0 n (λ g p q. lowest_none s.holds empty g (omega (arith, q, b)))

    -- The groups left and the arrows from them, on both sides; and what is placed once the first is.
    abbrev Simulates : (turns : ℕ) → Type 0
    Simulates turns =
        (left : ℕ → Bool) (front : List ℕ) (c : Counts) → ((g : ℕ) → left g ≡ true → g < n) → length front + turns ≤ max_items →
        Stands left (in_degree (edges_out left graph)) c →
        place_on table heads links turns (length front) (fill front zeros) c ≡ finished front zeros (place turns (unplaced left) (edges_out left graph))

    -- Nothing more is placed.
    ends : (left : ℕ → Bool) (front : List ℕ) (c : Counts) → Stands left (in_degree (edges_out left graph)) c →
        placed (length front) (fill front zeros) c.waiting ≡ finished front zeros (stuck (unplaced left) (edges_out left graph))
    unfolding stuck
    ends left front c s =
        let z : length front + 0 ≡ length front = omega arith in
        rw (z, append-nil front, s.waits)

    no_turns : Simulates zero
    unfolding place_on place
    no_turns left front c within fits s = ends left front c s

    -- A group is placed, and what follows is placed behind it.
    module _ (turns : ℕ) (later : Simulates turns) (left : ℕ → Bool) (front : List ℕ) (c : Counts) (within : (g : ℕ) → left g ≡ true → g < n)
        (fits : length front + suc turns ≤ max_items) (s : Stands left (in_degree (edges_out left graph)) c)
      where
        -- The two sides of a turn that takes g.
        abbrev taken_on : ℕ → Placed
        taken_on g =
            place_on table heads links turns (length front + 1) (noted (fill front zeros) (length front) g)
            (released_edges table (edges_from_group heads links g) (counts c.waiting (lowest_taken c.ready)))

        abbrev taken_by : ℕ → Placing
        taken_by g = place turns (without g (unplaced left)) (not_from g (edges_out left graph))

        rest_placed : (g : ℕ) → lowest_in c.ready ≡ Some g → taken_on g ≡ finished (front ++ g ∷ []) zeros (taken_by g)
        rest_placed g lowest =
            let e : length front + 1 ≡ length (front ++ g ∷ []) = sym (length-append front (g ∷ [])) in
            rw (noted_fills front zeros g room (omega (arith, fits)), e, without_but left g 0 n, edges_but left g graph)
            (later (but left g) (front ++ g ∷ []) _ (λ h t. within h (and-true (left h) (not (eqb h g)) t).0)
            (omega (arith, e, fits)) (after s g lowest))

        rest_behind : (g : ℕ) (p : Placing) → finished (front ++ g ∷ []) zeros p ≡
            finished front zeros (record { placed = g ∷ p.placed; unplaced = p.unplaced; edges = p.edges })
        rest_behind g p =
            let e : length (front ++ g ∷ []) + length p.placed ≡ length front + suc (length p.placed) =
            omega (arith, length-append front (g ∷ [])) in
            rw (e, append_assoc front (g ∷ []) p.placed)

        turn : (o : Option ℕ) → lowest_in c.ready ≡ o →
            take_next (placed (length front) (fill front zeros) c.waiting) taken_on o ≡
            finished front zeros (place_next (unplaced left) (edges_out left graph) taken_by (first_free (edges_out left graph) (unplaced left)))
        unfolding take_next place_next
        turn None empty = rw (no_first s empty) (ends left front c s)
        turn (Some g) lowest = rw (first_is s g lowest within) (rest_placed g lowest ∙ rest_behind g (taken_by g))

        next_turn : place_on table heads links (suc turns) (length front) (fill front zeros) c ≡
            finished front zeros (place (suc turns) (unplaced left) (edges_out left graph))
        unfolding place_on place
        next_turn = turn (lowest_in c.ready) refl

    -- All turns.
    pub simulates : (turns : ℕ) → Simulates turns
    simulates zero = no_turns
    simulates (suc turns) = next_turn turns (simulates turns)
