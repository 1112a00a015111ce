-- The lists by target and by source. The arrows are noted one by one, each that counts before the lists of its two groups; so at the end a list has the
-- numbers of all arrows that count and lead there, or come from there, and no other.
use Prim.Native.Nat.{ℕ, ◌+◌, ◌≤◌, ◌<◌, min}
use mathlib.Core.Path.{◌≡◌, refl, sym, ap, ◌∙◌, subst}
use mathlib.Core.Bool.{Bool, true, false}
use mathlib.Core.List.Memᴰ
use mathlib.Core.List.{List, [], ◌∷◌, map}
use mathlib.Core.Logic.{⊎_elim}
use native.Mathlib.Nat.{min-le_right}
use native.Mathlib.Numerals.{add-one}
use native.Mathlib.Omega.{arith}
use lib.Dec.{ltb}
use borrow.Author.Tests.{ltb-true}
use Rattle.model.specs.Limits.{max_items, max_edges}
use Rattle.model.specs.Choice.{numbers_from}
use Rattle.model.specs.HappensBefore.{Edge, ◌⟶◌}
use Rattle.model.specs.Lists.{◌∈◌}
use Rattle.model.proofs.Laws.{and-true, true_and}
use Rattle.model.proofs.Selections.{select_keeps, select_within}
use Rattle.model.proofs.Lists.{here, there, in_numbers_from, numbers_from_bounds}
use Rattle.memory.specs.Tables.{Table}
use Rattle.chains.specs.Chains.{Pushed, members}
use Rattle.chains.proofs.Chains.{no_members}
use Rattle.graph.specs.Edges.{edge_at, edges_in, source_at, target_at, among}
use Rattle.indexing.specs.Entries.{entry_at}
use Rattle.indexing.specs.Indexed.{ListsBy}
use Rattle.indexing.proofs.ByKey.{lists_none, lists_skipped, lists_noted, member_of, of_member}
use Rattle.rings.specs.Found.{waits, counts, counted, edge}
use Rattle.rings.specs.Searches.{Indexed, Cleared}

-- What stands in a list of values.
in_map : {A B : Type 0} (f : A → B) (l : List A) {a : A} → a ∈ l → f a ∈ map f l
in_map f [] m = absurd (Memᴰ.not-nil m)
in_map f (x ∷ l) m = ⊎_elim (λ e. here (ap f e)) (λ k. there (in_map f l k)) (Memᴰ.cases_cons m)

map_in : {A B : Type 0} (f : A → B) (l : List A) {b : B} → b ∈ map f l → (a : A) × (a ∈ l) × (b ≡ f a)
map_in f [] m = absurd (Memᴰ.not-nil m)
map_in f (x ∷ l) m =
    ⊎_elim (λ e. (x, here refl, e)) (λ k. let (a, i, e) = map_in f l k in (a, there i, e)) (Memᴰ.cases_cons m)

-- The arrow with this number counts.
abbrev counts_at : (groups : ℕ) → (waiting : List ℕ) → Table → (edge : ℕ) → Bool
counts_at groups waiting table edge = counts groups waiting (edge_at table edge)

module _ (groups : ℕ) (waiting : List ℕ) (table : Table) where
  pub counting : (e : Edge) → counts groups waiting e ≡ true → (among groups e ≡ true) × (waits waiting e.from ≡ true) × (e.from < groups) × (e.to < groups)
  unfolding counts
  counting e h =
      let (inside, waits_there) = and-true (among groups e) (waits waiting e.from) h in
      let (low, high) = and-true (ltb e.from groups) (ltb e.to groups) inside in
      (inside, waits_there, ltb-true e.from groups low, ltb-true e.to groups high)

  -- The arrows that count, by their numbers.
  pub counted_in : (limit k : ℕ) {x h : ℕ} → k < limit → counts groups waiting (edge_at table k) ≡ true → x ≡ source_at table k → h ≡ target_at table k →
      x ⟶ h ∈ counted groups waiting (map (edge_at table) (numbers_from 0 limit))
  counted_in limit k {x} {h} b c from to =
      let (inside, waits_there, low, high) = counting (edge_at table k) c in
      let own : ◌≡◌ {A = Edge} (x ⟶ h) (edge_at table k) = rw (from, to) in
      subst (λ (d : Edge). d ∈ counted groups waiting (map (edge_at table) (numbers_from 0 limit))) (sym own)
      (select_keeps (λ d. waits waiting d.from) _
      (select_keeps (among groups) _
      (in_map (edge_at table) (numbers_from 0 limit) (in_numbers_from 0 limit k (omega arith) (omega (arith, b)))) inside) waits_there)

  pub in_counted : (limit : ℕ) {x h : ℕ} → x ⟶ h ∈ counted groups waiting (map (edge_at table) (numbers_from 0 limit)) →
      (k : ℕ) × (k < limit) × (counts groups waiting (edge_at table k) ≡ true) × (x ≡ source_at table k) × (h ≡ target_at table k)
  unfolding counts
  in_counted limit {x} {h} m =
      let (inside, waits_there) = select_within (λ d. waits waiting d.from) _ m in
      let (whole, between) = select_within (among groups) _ inside in
      let (k, i, same) = map_in (edge_at table) (numbers_from 0 limit) whole in (
        k,
        omega (arith, (numbers_from_bounds 0 limit k i).1),
        ap (counts groups waiting) (sym same) ∙ true_and (among groups (x ⟶ h)) (waits waiting x) between waits_there,
        ap (λ (d : Edge). d.from) same,
        ap (λ (d : Edge). d.to) same,
      )

  noted_indexed : groups ≤ max_items → {heads links tails onward : List ℕ} {place : ℕ} (limit : ℕ) →
      ListsBy (counts_at groups waiting table) (target_at table) place heads links → ListsBy (counts_at groups waiting table) (source_at table) place tails onward → place ≡ limit →
      Indexed groups (counted groups waiting (map (edge_at table) (numbers_from 0 limit))) table heads links tails onward
  noted_indexed fits {heads} {links} {tails} {onward} {place} limit into out e =
      record {
        lists =
            record {
              sound = λ h k m. let (b, c, q) = member_of into h k m in counted_in limit k (omega (arith, b, e)) c refl (sym q);
              complete = λ x h m.
                  let (k, b, c, from, to, low, high) = found m in
                  (k, of_member into k to (omega (arith, high, fits)) (omega (arith, b, e)) c, sym from);
              below = λ x h m. let (k, b, c, from, to, low, high) = found m in (omega (arith, low, fits), omega (arith, high, fits));
            };
        onwards =
            record {
              sound = λ x k m. let (b, c, q) = member_of out x k m in counted_in limit k (omega (arith, b, e)) c (sym q) refl;
              rest = λ x h m p q. by_source x h m;
            };
        starts = λ x h m z.
            let (k, i, t) = by_source x h m in
            Memᴰ.not-nil (subst (λ (l : List ℕ). k ∈ l) (ap (members onward) z ∙ no_members onward) i);
        within = λ x h m. let (k, b, c, from, to, low, high) = found m in high;
        tails_long = out.heads_long;
      }
    where
      found : {x h : ℕ} → x ⟶ h ∈ counted groups waiting (map (edge_at table) (numbers_from 0 limit)) →
          (k : ℕ) × (k < limit) × (counts groups waiting (edge_at table k) ≡ true) × (x ≡ source_at table k) × (h ≡ target_at table k) × (x < groups) × (h < groups)
      found m =
          let (k, b, c, from, to) = in_counted limit m in
          let (inside, waits_there, low, high) = counting (edge_at table k) c in
          (k, b, c, from, to, omega (arith, from, low), omega (arith, to, high))

      by_source : (x h : ℕ) → x ⟶ h ∈ counted groups waiting (map (edge_at table) (numbers_from 0 limit)) →
          (k : ℕ) × (k ∈ members onward (entry_at tails x)) × (target_at table k ≡ h)
      by_source x h m =
          let (k, b, c, from, to, low, high) = found m in
          (k, of_member out k from (omega (arith, low, fits)) (omega (arith, b, e)) c, sym to)

-- The loop: the arrows up to a place are noted, of so many.
pub record Noting (groups : ℕ) (waiting : List ℕ) (table : Table) (heads links tails onward : List ℕ) (last place : ℕ) : Type 0 where
  pub fits : groups ≤ max_items
  pub few : last ≤ max_edges
  pub within : place ≤ last
  pub into : ListsBy (counts_at groups waiting table) (target_at table) place heads links
  pub out : ListsBy (counts_at groups waiting table) (source_at table) place tails onward

module _ (groups : ℕ) (waiting : List ℕ) (table : Table) where
  pub noting_none : {heads links tails onward : List ℕ} {last : ℕ} (count : ℕ) → Cleared groups heads links tails onward → last ≡ min count max_edges →
      Noting groups waiting table heads links tails onward last 0
  noting_none count c e =
      record {
        fits = c.fits;
        few = omega (arith, e, min-le_right count max_edges);
        within = omega arith;
        into = rw (c.heads_none, c.links_none) (lists_none (counts_at groups waiting table) (target_at table));
        out = rw (c.tails_none, c.onward_none) (lists_none (counts_at groups waiting table) (source_at table));
      }

  module _ {heads links tails onward : List ℕ} {last place : ℕ} (n : Noting groups waiting table heads links tails onward last place) where
    module _ (more : place < last) {from to : ℕ} (starts : from ≡ source_at table place) (leads : to ≡ target_at table place)
        {r : Bool} (tested : r ≡ counts groups waiting (edge from to)) where
      read : counts groups waiting (edge_at table place) ≡ r
      read = sym (tested ∙ ap (λ x. counts groups waiting (edge x to)) starts ∙ ap (λ x. counts groups waiting (edge (source_at table place) x)) leads)

      pub noting_no : r ≡ false → Noting groups waiting table heads links tails onward last (place + 1)
      noting_no h =
          record {
            fits = n.fits;
            few = n.few;
            within = omega (arith, more);
            into = rw add-one (lists_skipped n.into (read ∙ h));
            out = rw add-one (lists_skipped n.out (read ∙ h));
          }

      pub noting_yes : r ≡ true → {heads' links' tails' onward' : List ℕ} → Pushed heads links heads' links' to (place + 1) →
          Pushed tails onward tails' onward' from (place + 1) → Noting groups waiting table heads' links' tails' onward' last (place + 1)
      noting_yes h p q =
          let (inside, waits_there, low, high) = counting groups waiting table (edge_at table place) (read ∙ h) in
          let room : place < max_edges = omega (arith, more, n.few) in
          record {
            fits = n.fits;
            few = n.few;
            within = omega (arith, more);
            into = rw add-one (lists_noted n.into (read ∙ h) (omega (arith, high, n.fits)) room (rw (leads, add-one) at p));
            out = rw add-one (lists_noted n.out (read ∙ h) (omega (arith, low, n.fits)) room (rw (starts, add-one) at q));
          }

    pub noting_all : (count : ℕ) → last ≡ min count max_edges → last ≤ place →
        Indexed groups (counted groups waiting (edges_in count table)) table heads links tails onward
    noting_all count e done = noted_indexed groups waiting table n.fits (min count max_edges) n.into n.out (omega (arith, e, done, n.within))
