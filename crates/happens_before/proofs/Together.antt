-- All items drawn one after the other give the arrows of the run. There is room for each, since a run has at most three arrows for each item.
use Prim.Native.Nat.{ℕ, zero, suc, ◌+◌, ◌≤◌, ◌<◌, min}
use mathlib.Core.Path.{◌≡◌, refl, sym, ap, subst, ◌∙◌}
use mathlib.Core.List.{List, ◌++◌, map, append_assoc}
use native.Mathlib.Nat.{min-le_right}
use native.Mathlib.Numerals.{add-one}
use native.Mathlib.Omega.{arith}
use lib.ListN.{length, length-map}
use Rattle.model.specs.Limits.{max_items}
use Rattle.model.specs.Choice.{numbers_from}
use Rattle.model.specs.Replay.{Event}
use Rattle.model.specs.HappensBefore.{Edge, program_edges, conflict_edges, edges_from, edges_of}
use Rattle.ordering.proofs.Counting.{edges_count}
use Rattle.memory.specs.Tables.{Table}
use Rattle.memory.proofs.Filled.{numbers_length}
use Rattle.happens_before.specs.Told.{told_at, event_told, events_told}
use Rattle.graph.specs.declared.Drawn.{Drawn}
use Rattle.graph.specs.Drawn.{none_drawn, drawn_as}
use Rattle.happens_before.specs.declared.kept.Kept.{Kept}
use Rattle.happens_before.specs.Drawing.{kept_none, Inside, added, edges_into, kept_after, drawn_from}
use Rattle.happens_before.proofs.Sheets.{added_append, added_all}
use Rattle.happens_before.proofs.Searches.{before}
use Rattle.happens_before.proofs.Standing.{Stands, stands_none, edges_into_lem}
use Rattle.happens_before.proofs.OneMore.{stands_next}

module _ (trail : Table) where
  abbrev event : ℕ → Event
  event item = event_told (told_at trail item)

  abbrev rest : (left item : ℕ) → List Event
  rest left item = map event (numbers_from item left)

  -- No item, and one item and then the others.
  pub drawn_none : {cells : ℕ} (item : ℕ) (k : Kept cells) (d : Drawn) → drawn_from zero item trail k d ≡ d
  unfolding drawn_from
  drawn_none item k d = refl

  edges_none : (item : ℕ) (d : Drawn) → added (edges_from (before trail item) (rest zero item)) d ≡ d
  unfolding added edges_from numbers_from
  edges_none item d = refl

  pub drawn_step : {cells : ℕ} (left item : ℕ) (k : Kept cells) (d : Drawn) →
      drawn_from (suc left) item trail k d ≡ drawn_from left (item + 1) trail (kept_after trail item k) (added (edges_into trail item k) d)
  unfolding drawn_from
  drawn_step left item k d = refl

  edges_step : (left item : ℕ) →
      edges_from (before trail item) (rest (suc left) item)
      ≡ program_edges (event item) (before trail item)
      ++ (conflict_edges (event item) (before trail item) ++ edges_from (before trail (suc item)) (rest left (item + 1)))
  unfolding edges_from numbers_from before
  edges_step left item = refl

  drawn_from_lem : {cells : ℕ} (left item : ℕ) → item + left ≤ max_items → Inside cells trail (item + left) → (k : Kept cells) → Stands trail item k →
      (d : Drawn) → drawn_from left item trail k d ≡ added (edges_from (before trail item) (rest left item)) d
  drawn_from_lem zero item within inside k stands d = drawn_none item k d ∙ sym (edges_none item d)
  drawn_from_lem {cells} (suc left) item within inside k stands d =
      let here : item < max_items = omega (arith, within) in
      let own = inside item (omega arith) in
      let next : Stands trail (item + 1) (kept_after trail item k) =
      subst (λ n. Stands trail n (kept_after trail item k)) (sym (add-one item)) (stands_next trail item here own k stands) in
      let program : List Edge = program_edges (event item) (before trail item) in
      let conflicts : List Edge = conflict_edges (event item) (before trail item) in
      let others : List Edge = edges_from (before trail (item + 1)) (rest left (item + 1)) in
      drawn_step left item k d
      ∙ drawn_from_lem left (item + 1) (omega (arith, within)) (λ i h. inside i (omega (arith, h))) (kept_after trail item k) next (added (edges_into trail item k) d)
      ∙ ap (λ es. added others (added es d)) (edges_into_lem trail item here own k stands)
      ∙ sym (added_append (program ++ conflicts) others d)
      ∙ ap (λ es. added es d) (append_assoc program conflicts others)
      ∙ ap (λ n. added (program ++ (conflicts ++ edges_from (before trail n) (rest left (item + 1)))) d) (add-one item)
      ∙ ap (λ es. added es d) (sym (edges_step left item))

  edges_all : (items : ℕ) → edges_from (before trail 0) (rest (min items max_items) 0) ≡ edges_of (events_told items trail)
  unfolding edges_of events_told before
  edges_all items = refl

  few_events : (items : ℕ) → length (events_told items trail) ≤ max_items
  unfolding events_told
  few_events items =
      let long : length (rest (min items max_items) 0) ≡ min items max_items =
      length-map (numbers_from 0 (min items max_items)) event ∙ numbers_length 0 (min items max_items) in
      omega (arith, long, min-le_right items max_items)

  pub drawn_all : (cells items : ℕ) → Inside cells trail (min items max_items) → (d : Drawn) →
      drawn_from (min items max_items) 0 trail (kept_none cells) d ≡ added (edges_of (events_told items trail)) d
  drawn_all cells items inside d =
      drawn_from_lem (min items max_items) 0 (omega (arith, min-le_right items max_items)) (λ i h. inside i (omega (arith, h)))
      (kept_none cells) (stands_none cells trail) d
      ∙ ap (λ es. added es d) (edges_all items)

  -- In a cleared table they are a table of them all.
  pub table_drawn : (items : ℕ) → added (edges_of (events_told items trail)) none_drawn ≡ drawn_as (edges_of (events_told items trail))
  table_drawn items = added_all (edges_of (events_told items trail)) (omega (arith, edges_count (events_told items trail), few_events items))
