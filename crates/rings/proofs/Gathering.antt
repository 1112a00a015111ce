-- The arrows are gone through one by one: an entry is the lowest end of those from its group that lie nearer.
use Prim.Native.Nat.{ℕ, ◌+◌, ◌≤◌, ◌<◌, min}
use mathlib.Core.Path.{◌≡◌, sym, ap, ◌∙◌, subst}
use mathlib.Core.Bool.{Bool, true, false, true≢false}
use mathlib.Core.List.{List}
use mathlib.Core.Logic.{◌⊎◌, inl, inr, ⊎_elim}
use native.Mathlib.Nat.{min-le_left, min-le_right}
use native.Mathlib.Omega.{arith}
use lib.Dec.{eqb}
use lib.ListN.{length, get_or, set, length-set, replicate, length-replicate, get_or-replicate}
use lib.Seq.{get_or-set_same, get_or-set_other}
use borrow.Author.Tests.{eqb-true, eqb-false}
use Rattle.model.specs.Limits.{max_items, max_edges}
use Rattle.model.proofs.Laws.{decided}
use Rattle.memory.specs.Tables.{Table}
use Rattle.graph.specs.Edges.{edge_at, edges_in, source_at, target_at}
use Rattle.model.specs.HappensBefore.{◌⟶◌}
use Rattle.model.specs.Lists.{◌∈◌}
use Rattle.ordering.proofs.WalkBack.{min_either}
use Rattle.indexing.specs.Entries.{entry_at}
use Rattle.indexing.proofs.Entries.{entry_is}
use Rattle.rings.specs.Found.{counts, counted, edge}
use Rattle.rings.specs.Nexts.{Nearer, TellsNearer, Nexts}
use Rattle.rings.proofs.Noting.{counting, counted_in, in_counted}

-- An arrow that was gone through, counts, and leads nearer.
pub record Leads (groups : ℕ) (waiting : List ℕ) (table : Table) (D : ℕ → ℕ) (place x h : ℕ) : Type 0 where
  pub k : ℕ
  pub before : k < place
  pub counting : counts groups waiting (edge_at table k) ≡ true
  pub starts : x ≡ source_at table k
  pub ends : h ≡ target_at table k
  pub nearer : Nearer D x h

pub record Gathered (groups : ℕ) (waiting : List ℕ) (table : Table) (distances : List ℕ) (last : ℕ) (next : List ℕ) (place : ℕ) : Type 0 where
  pub fits : groups ≤ max_items
  pub few : last ≤ max_edges
  pub within : place ≤ last
  pub long : length next ≡ max_items
  pub sound : (x : ℕ) → x < max_items → get_or next x 0 < max_items → Leads groups waiting table (entry_at distances) place x (get_or next x 0)
  pub lowest : (x h : ℕ) → Leads groups waiting table (entry_at distances) place x h → get_or next x 0 ≤ h

module _ (groups : ℕ) (waiting : List ℕ) (table : Table) (distances : List ℕ) where
  later : {place x h : ℕ} → Leads groups waiting table (entry_at distances) place x h → Leads groups waiting table (entry_at distances) (place + 1) x h
  later l = record { k = l.k; before = omega (arith, l.before); counting = l.counting; starts = l.starts; ends = l.ends; nearer = l.nearer }

  pub gathered_none : (count : ℕ) {last : ℕ} → groups ≤ max_items → last ≡ min count max_edges →
      Gathered groups waiting table distances last (replicate max_items max_items) 0
  gathered_none count fits e =
      record {
        fits = fits;
        few = omega (arith, e, min-le_right count max_edges);
        within = omega arith;
        long = length-replicate {A = ℕ} max_items max_items;
        sound = λ x b h. absurd (omega (arith, h, get_or-replicate {A = ℕ} max_items x max_items 0 b));
        lowest = λ x h l. absurd (omega (arith, l.before));
      }

  module _ {last : ℕ} {next : List ℕ} {place : ℕ} (g : Gathered groups waiting table distances last next place) (more : place < last) {from to : ℕ}
      (starts : from ≡ source_at table place) (leads : to ≡ target_at table place) {r : Bool} (tested : r ≡ counts groups waiting (edge from to)) where
    read : counts groups waiting (edge_at table place) ≡ r
    read = sym (tested ∙ ap (λ x. counts groups waiting (edge x to)) starts ∙ ap (λ x. counts groups waiting (edge (source_at table place) x)) leads)

    -- Of the arrows up to the next: those before it, or it.
    up_to : {x h : ℕ} → Leads groups waiting table (entry_at distances) (place + 1) x h →
        Leads groups waiting table (entry_at distances) place x h ⊎
        ((x ≡ from) × (h ≡ to) × (r ≡ true) × Nearer (entry_at distances) from to)
    up_to {x} {h} l =
        decided (eqb l.k place)
        (λ t. let e : l.k ≡ place = eqb-true l.k place t in
        let x_is : x ≡ from = l.starts ∙ ap (source_at table) e ∙ sym starts in
        let h_is : h ≡ to = l.ends ∙ ap (target_at table) e ∙ sym leads in
        inr (
          x_is,
          h_is,
          sym read ∙ ap (λ i. counts groups waiting (edge_at table i)) (sym e) ∙ l.counting,
          subst (λ (z : ℕ). Nearer (entry_at distances) from z) h_is (subst (λ (z : ℕ). Nearer (entry_at distances) z h) x_is l.nearer),
        ))
        (λ t. let n : ¬ (l.k ≡ place) = eqb-false l.k place t in
        inl (record { k = l.k; before = omega (arith, l.before, n); counting = l.counting; starts = l.starts; ends = l.ends; nearer = l.nearer }))

    skip : ((r ≡ true) → ¬ Nearer (entry_at distances) from to) → Gathered groups waiting table distances last next (place + 1)
    skip not_one =
        record {
          fits = g.fits;
          few = g.few;
          within = omega (arith, more);
          long = g.long;
          sound = λ x b h. later (g.sound x b h);
          lowest = λ x h l. ⊎_elim (g.lowest x h) (λ (a, b, c, d). absurd (not_one c d)) (up_to l);
        }

    pub gathered_no : r ≡ false → Gathered groups waiting table distances last next (place + 1)
    gathered_no f = skip (λ t. absurd (true≢false (sym t ∙ f)))

    pub gathered_far : {n : Bool} → TellsNearer distances from to n → n ≡ false → Gathered groups waiting table distances last next (place + 1)
    gathered_far told f = skip (λ t. told.no_nearer f)

    pub gathered_inside : r ≡ true → from < max_items
    gathered_inside t = omega (arith, (counting groups waiting table (edge from to) (sym tested ∙ t)).2, g.fits)

    pub gathered_yes : r ≡ true → {n : Bool} → TellsNearer distances from to n → n ≡ true → {next' : List ℕ} →
        next' ≡ set next from (min to (get_or next from 0)) → Gathered groups waiting table distances last next' (place + 1)
    gathered_yes t told near {next'} e =
        rw e
        (record {
          fits = g.fits;
          few = g.few;
          within = omega (arith, more);
          long = length-set next from low ∙ g.long;
          sound = λ x b h. decided (eqb x from)
              (λ u. let x_is : x ≡ from = eqb-true x from u in
              subst (λ (z : ℕ). Leads groups waiting table (entry_at distances) (place + 1) z (get_or (set next from low) z 0)) (sym x_is)
              (subst (λ (z : ℕ). Leads groups waiting table (entry_at distances) (place + 1) from z) (sym own)
              (own_leads (omega (arith, h, own, ap (λ z. get_or (set next from low) z 0) x_is)))))
              (λ u. let o = get_or-set_other next from x low 0 (eqb-false x from u) in
              subst (λ (z : ℕ). Leads groups waiting table (entry_at distances) (place + 1) x z) (sym o)
              (later (g.sound x b (omega (arith, o, h)))));
          lowest = λ x h l. ⊎_elim
              (λ old. decided (eqb x from)
              (λ u. let x_is : x ≡ from = eqb-true x from u in
              let under = g.lowest from h (subst (λ (z : ℕ). Leads groups waiting table (entry_at distances) place z h) x_is old) in
              omega (arith, ap (λ z. get_or (set next from low) z 0) x_is, own, min-le_right to (get_or next from 0), under))
              (λ u. omega (arith, get_or-set_other next from x low 0 (eqb-false x from u), g.lowest x h old)))
              (λ (x_is, h_is, c, d). omega (arith, ap (λ z. get_or (set next from low) z 0) x_is, own, min-le_left to (get_or next from 0), h_is))
              (up_to l);
        })
      where
        low : ℕ
        low = min to (get_or next from 0)

        own : get_or (set next from low) from 0 ≡ low
        own = get_or-set_same next from low 0 (omega (arith, g.long, gathered_inside t))

        own_leads : low < max_items → Leads groups waiting table (entry_at distances) (place + 1) from low
        own_leads h =
            ⊎_elim
            (λ m. subst (λ (z : ℕ). Leads groups waiting table (entry_at distances) (place + 1) from z) (sym m)
            (record { k = place; before = omega arith; counting = read ∙ t; starts = starts; ends = leads; nearer = told.yes near }))
            (λ m. subst (λ (z : ℕ). Leads groups waiting table (entry_at distances) (place + 1) from z) (sym m)
            (later (g.sound from (gathered_inside t) (omega (arith, m, h)))))
            (min_either to (get_or next from 0))

  pub gathered_all : (count : ℕ) {last place : ℕ} {next : List ℕ} → Gathered groups waiting table distances last next place → last ≡ min count max_edges →
      last ≤ place → Nexts (counted groups waiting (edges_in count table)) (entry_at distances) (entry_at next)
  gathered_all count {last} {place} {next} g e done =
      let all : place ≡ min count max_edges = omega (arith, e, done, g.within) in
      record {
        sound = λ x b h.
            let is = entry_is next x g.long in
            let l = g.sound x b (omega (arith, is, h)) in
            subst (λ (z : ℕ). (x ⟶ z ∈ counted groups waiting (edges_in count table)) × Nearer (entry_at distances) x z) (sym is)
            (counted_in groups waiting table (min count max_edges) l.k (omega (arith, l.before, all)) l.counting l.starts l.ends, l.nearer);
        lowest = λ x h m near.
            let (k, b, c, p, q) = in_counted groups waiting table (min count max_edges) m in
            omega (
              arith,
              entry_is next x g.long,
              g.lowest x h (record { k = k; before = omega (arith, b, all); counting = c; starts = p; ends = q; nearer = near }),
            );
      }
