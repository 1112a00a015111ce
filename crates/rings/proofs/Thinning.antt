-- Groups are taken out, and every way round that does not pass the one taken out first is left. A cursor that is moved over arrows to groups that are
-- taken out has every other arrow before it still; and where it comes to the end, a way round through its group would go on to a group that is left.
use Prim.Native.Nat.{ℕ, ◌+◌, ◌-◌, ◌≤◌, ◌<◌}
use mathlib.Core.Path.{◌≡◌, sym, ap, ◌∙◌, subst}
use mathlib.Core.List.Memᴰ
use mathlib.Core.List.{List}
use mathlib.Core.Logic.{inl, inr, ⊎_elim}
use native.Mathlib.Omega.{arith}
use lib.Dec.{eqb}
use lib.ListN.{length, get_or, set, length-set}
use borrow.Author.Tests.{eqb-true, eqb-false}
use Rattle.model.specs.Limits.{max_items}
use Rattle.model.specs.HappensBefore.{Edge}
use Rattle.model.specs.Lists.{◌∈◌}
use Rattle.model.proofs.Laws.{decided}
use Rattle.model.proofs.Lists.{there}
use Rattle.memory.specs.Tables.{Table}
use Rattle.chains.specs.Chains.{members, older_in}
use Rattle.chains.proofs.Chains.{no_members, members_first}
use Rattle.graph.specs.Edges.{target_at}
use Rattle.ordering.specs.Walks.{Passes}
use Rattle.ordering.proofs.Passing.{passes_walk, turned, passes_or_not, goes_on, walk_more}
use Rattle.indexing.specs.Entries.{entry_at}
use Rattle.indexing.proofs.Entries.{entry_is, entry_set, entry_other}
use Rattle.rings.specs.Searches.{Onward, among}
use Rattle.rings.specs.Removing.{FirstLeft, Room, Removable, Thins, Thinned, Without, TakenOut}
use Rattle.rings.proofs.Left.{among_keeps, among_within}

-- The members up to the next lead to groups that are taken out.
module _ {table : Table} {onward cursors : List ℕ} {member : ℕ} where
  pub left_begins : FirstLeft table onward cursors member member
  left_begins = record { within = λ k m. m; rest = λ k m. inl m }

  pub left_more : {next : ℕ} → FirstLeft table onward cursors member next → 0 < next → {to cursor after : ℕ} → to ≡ target_at table (next - 1) →
      cursor ≡ entry_at cursors to → cursor ≤ 0 → after ≡ older_in onward next → FirstLeft table onward cursors member after
  left_more {next} f more {to} {cursor} {after} read looked gone on =
      record {
        within = λ k m. f.within k (subst (λ (z : List ℕ). k ∈ z) (sym (members_first onward next more)) (there (subst (λ (x : ℕ). k ∈ members onward x) on m)));
        rest = λ k m. ⊎_elim
            (λ i. ⊎_elim
            (λ e. inr (omega (arith, ap (λ j. entry_at cursors (target_at table j)) e, ap (entry_at cursors) read, looked, gone)))
            (λ j. inl (subst (λ (x : ℕ). k ∈ members onward x) (sym on) j))
            (Memᴰ.cases_cons (subst (λ (z : List ℕ). k ∈ z) (members_first onward next more) i)))
            (λ z. inr z)
            (f.rest k m);
      }

  pub left_none : {next : ℕ} → FirstLeft table onward cursors member next → next ≤ 0 → FirstLeft table onward cursors member 0
  left_none {next} f done = let z : next ≡ 0 = omega (arith, done) in subst (FirstLeft table onward cursors member) z f

-- One cursor is moved.
module _ (E : List Edge) (table : Table) (onward cursors : List ℕ) (long : length cursors ≡ max_items) (o : Onward E table onward cursors)
    (from next : ℕ) (inside : from < max_items) (here_left : ¬ (entry_at cursors from ≡ 0))
    (moved : FirstLeft table onward cursors (entry_at cursors from) next) where
  abbrev after : List ℕ
  after = set cursors from next

  own : entry_at after from ≡ next
  own = entry_set cursors from next long inside

  other : (j : ℕ) → ¬ (j ≡ from) → entry_at after j ≡ entry_at cursors j
  other = entry_other cursors from next long

  left_before : (j : ℕ) → ¬ (entry_at after j ≡ 0) → ¬ (entry_at cursors j ≡ 0)
  left_before j n =
      decided (eqb j from)
      (λ t z. here_left (ap (entry_at cursors) (sym (eqb-true j from t)) ∙ z))
      (λ t z. n (other j (eqb-false j from t) ∙ z))

  -- No way round passes a group without arrows to groups that are left.
  no_way : next ≡ 0 → (m z : ℕ) → 1 ≤ m → ¬ Passes (among cursors E) m z from z
  no_way e m z one p =
      let (k, l, a, b) = goes_on one (passes_walk (turned p)) in
      let (plain, n) = among_within cursors E a in
      let (place, i, to) = o.rest from k plain n (among_within cursors E b).1 in
      ⊎_elim
      (λ j. Memᴰ.not-nil (subst (λ (s : List ℕ). place ∈ s) (ap (members onward) e ∙ no_members onward) j))
      (λ gone. (among_within cursors E b).1 (ap (entry_at cursors) (sym to) ∙ gone))
      (moved.rest place i)

  moved_thins : Thins E table onward cursors after
  moved_thins =
      record {
        onwards =
            record {
              sound = λ x k m. decided (eqb x from)
                  (λ t. let e : x ≡ from = eqb-true x from t in
                  o.sound x k (subst (λ (y : ℕ). k ∈ members onward (entry_at cursors y)) (sym e)
                  (moved.within k (subst (λ (y : ℕ). k ∈ members onward y) (ap (entry_at after) e ∙ own) m))))
                  (λ t. o.sound x k (subst (λ (y : ℕ). k ∈ members onward y) (other x (eqb-false x from t)) m));
              rest = λ x h a n l.
                  let (k, i, to) = o.rest x h a (left_before x n) (left_before h l) in
                  decided (eqb x from)
                  (λ t. let e : x ≡ from = eqb-true x from t in
                  ⊎_elim
                  (λ j. (k, subst (λ (y : ℕ). k ∈ members onward y) (sym (ap (entry_at after) e ∙ own)) j, to))
                  (λ gone. absurd (left_before h l (ap (entry_at cursors) (sym to) ∙ gone)))
                  (moved.rest k (subst (λ (y : ℕ). k ∈ members onward (entry_at cursors y)) e i)))
                  (λ t. (k, subst (λ (y : ℕ). k ∈ members onward y) (sym (other x (eqb-false x from t))) i, to));
            };
        gone = λ z e. decided (eqb z from)
            (λ t. absurd (here_left (ap (entry_at cursors) (sym (eqb-true z from t)) ∙ e)))
            (λ t. other z (eqb-false z from t) ∙ e);
        walks = λ m z one w. decided (eqb next 0)
            (λ t. ⊎_elim (λ p. absurd (no_way (eqb-true next 0 t) m z one p)) (λ v. v) (passes_or_not from keeps w))
            (λ t. walk_more (all (eqb-false next 0 t)) w);
      }
    where
      keeps : (e : Edge) → e ∈ among cursors E → ¬ (e.from ≡ from) → e ∈ among after E
      keeps e m n = let (plain, l) = among_within cursors E m in among_keeps after E plain (λ z. l (sym (other e.from n) ∙ z))

      all : ¬ (next ≡ 0) → (e : Edge) → e ∈ among cursors E → e ∈ among after E
      all n e m =
          decided (eqb e.from from)
          (λ t. among_keeps after E (among_within cursors E m).0 (λ z. n (sym own ∙ ap (entry_at after) (sym (eqb-true e.from from t)) ∙ z)))
          (λ t. keeps e m (eqb-false e.from from t))

thins_same : {E : List Edge} {table : Table} {onward cursors : List ℕ} → Onward E table onward cursors → Thins E table onward cursors cursors
thins_same o = record { onwards = o; gone = λ z e. e; walks = λ m z one w. w }

thins_both : {E : List Edge} {table : Table} {onward cursors cursors' cursors'' : List ℕ} → Thins E table onward cursors cursors' →
    Thins E table onward cursors' cursors'' → Thins E table onward cursors cursors''
thins_both s t =
    record {
      onwards = t.onwards;
      gone = λ z e. t.gone z (s.gone z e);
      walks = λ m z one w. t.walks m z one (s.walks m z one w);
    }

module _ {table : Table} {onward cursors queue : List ℕ} {end : ℕ} (room : Room cursors queue end) where
  pub thinned_same : Thinned table onward cursors cursors queue end
  thinned_same = record { room = room; thins = λ E o. thins_same o }

  module _ {from : ℕ} (inside : from < max_items) {member : ℕ} (read : member ≡ get_or cursors from 0) (more : 0 < member) {next : ℕ}
      (moved : FirstLeft table onward cursors member next) where
    entry_here : entry_at cursors from ≡ member
    entry_here = entry_is cursors from room.cursors_long ∙ sym read

    thins : (E : List Edge) → Onward E table onward cursors → Thins E table onward cursors (set cursors from next)
    thins E o =
        moved_thins E table onward cursors room.cursors_long o from next inside (λ z. omega (arith, entry_here, more, z))
        (subst (λ (k : ℕ). FirstLeft table onward cursors k next) (sym entry_here) moved)

    long : length (set cursors from next) ≡ max_items
    long = length-set cursors from next ∙ room.cursors_long

    pub passed_over : ¬ (next ≡ 0) → Thinned table onward cursors (set cursors from next) queue end
    passed_over n = record { room = record { cursors_long = long; queue_long = room.queue_long; fits = room.fits }; thins = thins }

    pub passed_out : end < max_items → next ≡ 0 → Thinned table onward cursors (set cursors from next) (set queue end from) (end + 1)
    passed_out free e =
        record {
          room = record { cursors_long = long; queue_long = length-set queue end from ∙ room.queue_long; fits = omega (arith, free) };
          thins = thins;
        }

pub thinned_more : {table : Table} {onward cursors cursors' queue' cursors'' queue'' : List ℕ} {end' end'' : ℕ} →
    Thinned table onward cursors cursors' queue' end' → Thinned table onward cursors' cursors'' queue'' end'' → Thinned table onward cursors cursors'' queue'' end''
thinned_more s t = record { room = t.room; thins = λ E o. thins_both (s.thins E o) (t.thins E (s.thins E o).onwards) }

-- The groups of the queue up to here were released.
module _ {table : Table} {onward cursors cursors' queue' : List ℕ} {end : ℕ} (t : Thinned table onward cursors cursors' queue' end) where
  pub release_less : {at : ℕ} → at < end → max_items - (at + 1) < max_items - at
  release_less h = omega (arith, h, t.room.fits)

-- A group is taken out.
module _ {group : ℕ} {table : Table} {onward cursors : List ℕ} where
  without_one : length cursors ≡ max_items → group < max_items → (E : List Edge) → Onward E table onward cursors →
      Without E table onward cursors (set cursors group 0) group
  without_one long inside E o =
      record {
        onwards =
            record {
              sound = λ x k m. decided (eqb x group)
                  (λ t. absurd (Memᴰ.not-nil (subst (λ (z : List ℕ). k ∈ z)
                  (ap (λ y. members onward (entry_at (set cursors group 0) y)) (eqb-true x group t) ∙ ap (members onward) out ∙ no_members onward) m)))
                  (λ t. o.sound x k (subst (λ (y : ℕ). k ∈ members onward y) (entry_other cursors group 0 long x (eqb-false x group t)) m));
              rest = λ x h a n l.
                  let (k, i, to) = o.rest x h a (before x n) (before h l) in
                  (k, subst (λ (y : ℕ). k ∈ members onward y) (sym (other x n)) i, to);
            };
        gone = λ z e. decided (eqb z group)
            (λ t. ap (entry_at (set cursors group 0)) (eqb-true z group t) ∙ out)
            (λ t. entry_other cursors group 0 long z (eqb-false z group t) ∙ e);
        out = out;
        walks = λ m z one w. passes_or_not group keeps w;
      }
    where
      out : entry_at (set cursors group 0) group ≡ 0
      out = entry_set cursors group 0 long inside

      other : (x : ℕ) → ¬ (entry_at (set cursors group 0) x ≡ 0) → entry_at (set cursors group 0) x ≡ entry_at cursors x
      other x n = entry_other cursors group 0 long x (λ e. n (ap (entry_at (set cursors group 0)) e ∙ out))

      before : (x : ℕ) → ¬ (entry_at (set cursors group 0) x ≡ 0) → ¬ (entry_at cursors x ≡ 0)
      before x n z = n (other x n ∙ z)

      keeps : (e : Edge) → e ∈ among cursors E → ¬ (e.from ≡ group) → e ∈ among (set cursors group 0) E
      keeps e m n =
          let (plain, l) = among_within cursors E m in
          among_keeps (set cursors group 0) E plain (λ z. l (sym (entry_other cursors group 0 long e.from n) ∙ z))

  pub taken_out : {queue cursors' queue' : List ℕ} {end : ℕ} → Removable group cursors queue →
      Thinned table onward (set cursors group 0) cursors' queue' end → TakenOut group table onward cursors cursors' queue'
  taken_out room s =
      record {
        cursors_long = s.room.cursors_long;
        queue_long = s.room.queue_long;
        without = λ E o.
            let first = without_one room.cursors_long room.inside E o in
            let then = s.thins E first.onwards in
            record {
              onwards = then.onwards;
              gone = λ z e. then.gone z (first.gone z e);
              out = then.gone group first.out;
              walks = λ m z one w. ⊎_elim (λ p. inl p) (λ v. inr (then.walks m z one v)) (first.walks m z one w);
            };
      }
