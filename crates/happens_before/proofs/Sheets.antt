-- Arrows put into a table one after the other are a table of them all, where there is room for all.
use Prim.Native.Nat.{ℕ, ◌+◌, ◌≤◌, ◌<◌}
use mathlib.Core.Path.{◌≡◌, refl, sym, ap, ◌∙◌}
use mathlib.Core.List.{List, [], ◌∷◌, ◌++◌, map, map-append, append_assoc, append-nil}
use native.Mathlib.Omega.{arith}
use lib.ListN.{length, set, replicate, length-append, length-map, length-replicate}
use borrow.Author.Tests.{lt-ltb}
use Rattle.model.specs.Limits.{max_edges}
use Rattle.model.specs.HappensBefore.{Edge}
use Rattle.model.specs.Checks.{fill}
use Rattle.memory.specs.Tables.{Table, zeros}
use Rattle.memory.proofs.Filled.{fill_more}
use Rattle.graph.specs.Edges.{edges_size, edge_row, edge_table}
use Rattle.graph.specs.declared.Drawn.{Drawn}
use Rattle.graph.specs.Drawn.{drawn, none_drawn, drawn_as, one_more}
use Rattle.happens_before.specs.Drawing.{added}

pub added_append : (first then : List Edge) (d : Drawn) → added (first ++ then) d ≡ added then (added first d)
unfolding added
added_append [] then d = refl
added_append (e ∷ first) then d = added_append first then (one_more e d)

-- A table with a row more.
row_more : (table : Table) → length table ≡ max_edges → (edges : List Edge) (e : Edge) → length edges < max_edges →
    set (fill (map edge_row edges) table) (length edges) (edge_row e) ≡ fill (map edge_row (edges ++ e ∷ [])) table
row_more table tall edges e room =
    let same : length (map edge_row edges) ≡ length edges = length-map edges edge_row in
    ap (λ n. set (fill (map edge_row edges) table) n (edge_row e)) (sym same)
    ∙ fill_more (map edge_row edges) table (edge_row e) (rw (same, tall) room)
    ∙ ap (λ rows. fill rows table) (sym (map-append edge_row edges (e ∷ [])))

one_more_drawn : (edges : List Edge) (e : Edge) → length edges < max_edges → one_more e (drawn_as edges) ≡ drawn_as (edges ++ e ∷ [])
unfolding one_more
one_more_drawn edges e room =
    let tall : length (zeros edges_size) ≡ max_edges = length-replicate {A = List ℕ} max_edges (replicate 2 0) in
    let longer : length edges + 1 ≡ length (edges ++ e ∷ []) = sym (length-append edges (e ∷ [])) in
    rw (lt-ltb _ _ room)
    (ap (λ n. drawn n (set (edge_table edges) (length edges) (edge_row e))) longer
    ∙ ap (drawn (length (edges ++ e ∷ []))) (row_more (zeros edges_size) tall edges e room))

-- All arrows, after some.
added_after : (before edges : List Edge) → length before + length edges ≤ max_edges → added edges (drawn_as before) ≡ drawn_as (before ++ edges)
unfolding added
added_after before [] room = ap drawn_as (sym (append-nil before))
added_after before (e ∷ edges) room =
    let longer : length (before ++ e ∷ []) ≡ length before + 1 = length-append before (e ∷ []) in
    ap (added edges) (one_more_drawn before e (omega arith))
    ∙ added_after (before ++ e ∷ []) edges (omega (arith, longer))
    ∙ ap drawn_as (append_assoc before (e ∷ []) edges)

pub added_all : (edges : List Edge) → length edges ≤ max_edges → added edges none_drawn ≡ drawn_as edges
unfolding fill
added_all edges room = added_after [] edges (omega arith)
