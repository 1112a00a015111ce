-- The loop over the items: what is left to draw, from where the drawing stands, is all of it from the start.
use Prim.Native.Nat.{ℕ, suc, ◌+◌, ◌-◌, ◌≤◌, ◌<◌, min}
use mathlib.Core.Path.{◌≡◌, sym, ap, subst, ◌∙◌}
use native.Mathlib.Nat.{min-eq_left, min-le_right}
use native.Mathlib.Numerals.{add-one}
use native.Mathlib.Omega.{arith}
use Rattle.model.specs.Limits.{max_items}
use Rattle.model.specs.HappensBefore.{edges_of}
use Rattle.memory.specs.Tables.{Table}
use Rattle.graph.specs.declared.Drawn.{Drawn}
use Rattle.happens_before.specs.declared.kept.Kept.{Kept}
use Rattle.happens_before.specs.Told.{events_told}
use Rattle.happens_before.specs.Drawing.{kept_none, Inside, added, kept_after, Draws, drawn_from}
use Rattle.happens_before.proofs.Standing.{Stands, stands_none}
use Rattle.happens_before.proofs.OneMore.{stands_next}
use Rattle.happens_before.proofs.Together.{drawn_none, drawn_step, drawn_all}

-- Up to the item the drawing is done, and the lists have an entry for each rank, cell and item.
pub record Turn {cells : ℕ} (trail : Table) (last : ℕ) (old : Drawn) (item : ℕ) (k : Kept cells) (d : Drawn) : Type 0 where
  pub stands : Stands trail item k
  pub left : drawn_from last 0 trail (kept_none cells) old ≡ drawn_from (last - item) item trail k d

pub turn_first : (cells : ℕ) (trail : Table) (last : ℕ) (old : Drawn) → Turn trail last old 0 (kept_none cells) old
turn_first cells trail last old =
    let all : last ≡ last - 0 = omega arith in
    record { stands = stands_none cells trail; left = ap (λ n. drawn_from n 0 trail (kept_none cells) old) all }

module _ {cells : ℕ} {trail : Table} {last item : ℕ} {old : Drawn} {k : Kept cells} {d : Drawn} (turn : Turn trail last old item k d)
    (few : last ≤ max_items) (inside : Inside cells trail last) where
  pub turn_next : {k' : Kept cells} {d' : Drawn} → item < last → Draws trail item k k' d d' → Turn trail last old (item + 1) k' d'
  turn_next {k'} {d'} more one =
      let here : item < max_items = omega (arith, more, few) in
      let fewer : last - item ≡ suc (last - (item + 1)) = omega (arith, more) in
      record {
        stands =
            subst (Stands trail (item + 1)) (sym one.keeps)
            (subst (λ n. Stands trail n (kept_after trail item k)) (sym (add-one item))
            (stands_next trail item here (inside item more) k turn.stands));
        left =
            turn.left
            ∙ ap (λ n. drawn_from n item trail k d) fewer
            ∙ drawn_step trail (last - (item + 1)) item k d
            ∙ ap (drawn_from (last - (item + 1)) (item + 1) trail (kept_after trail item k)) (sym one.draws)
            ∙ ap (λ h. drawn_from (last - (item + 1)) (item + 1) trail h d') (sym one.keeps);
      }

  pub turn_last : last ≤ item → d ≡ added (edges_of (events_told last trail)) old
  turn_last done =
      let e : min last max_items ≡ last = min-eq_left few in
      let none : last - item ≡ 0 = omega (arith, done) in
      sym
      (turn.left
      ∙ ap (λ n. drawn_from n item trail k d) none
      ∙ drawn_none trail item k d)
      ∙ ap (λ n. drawn_from n 0 trail (kept_none cells) old) (sym e)
      ∙ drawn_all trail cells last (λ i h. inside i (omega (arith, h, e))) old

-- A trail has no more rows than these.
rows_told : (trail : Table) (items : ℕ) → events_told (min items max_items) trail ≡ events_told items trail
unfolding events_told
rows_told trail items = rw (min-eq_left (min-le_right items max_items))

pub rows_drawn : (trail : Table) (items : ℕ) (old : Drawn) {last : ℕ} {d : Drawn} → last ≡ min items max_items →
    d ≡ added (edges_of (events_told last trail)) old → d ≡ added (edges_of (events_told items trail)) old
rows_drawn trail items old is drawn_rows =
    drawn_rows ∙ ap (λ events. added (edges_of events) old) (ap (λ n. events_told n trail) is ∙ rows_told trail items)
