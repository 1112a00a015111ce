-- The look from each group in turn, the highest first. Every way round is left, or beaten by the best so far: the ways round through a group are looked
-- at before it is taken out. At the end none is left: a group is taken out, or every arrow into it rises, and along rising arrows no way leads back.
use Prim.Native.Nat.{ℕ, ◌-◌, ◌≤◌, ◌<◌}
use mathlib.Core.Path.{◌≡◌, refl, sym, ap, ◌∙◌, subst}
use mathlib.Core.Bool.{Bool, false}
use mathlib.Core.List.Memᴰ
use mathlib.Core.List.{List, []}
use mathlib.Core.Logic.{◌⊎◌, inl, inr, ⊎_elim}
use native.Mathlib.Omega.{arith}
use lib.Dec.{eqb, leb}
use lib.ListN.{length}
use borrow.Author.Tests.{eqb-true, eqb-false, eq-eqb, ne_eqb, leb-true, leb-false}
use Rattle.model.specs.Limits.{max_items}
use Rattle.model.specs.HappensBefore.{Edge, ◌⟶◌}
use Rattle.model.specs.Lists.{◌∈◌}
use Rattle.model.proofs.Laws.{decided}
use Rattle.memory.specs.Tables.{Table}
use Rattle.chains.specs.Chains.{members}
use Rattle.graph.specs.Edges.{source_at}
use Rattle.ordering.specs.Walks.{Walk, Passes}
use Rattle.ordering.proofs.Passing.{passes_walk, turned, walk_more, rising_open}
use Rattle.indexing.specs.Entries.{entry_at}
use Rattle.rings.specs.Searches.{Closing, Lists, Onward, Indexed, among, Beats, Better, Ready, Told, Searched}
use Rattle.rings.specs.Removing.{Removable, TakenOut}
use Rattle.rings.specs.Roots.{Entered, limit_of, Grown, Rooted, Chosen}
use Rattle.rings.proofs.Left.{among_keeps, among_within}

-- The arrows of a list that were looked at come from below.
pub record Looked (root : ℕ) (table : Table) (heads links others : List ℕ) : Type 0 where
  pub seen : (k : ℕ) → k ∈ members links (entry_at heads root) → (k ∈ others) ⊎ (source_at table k < root)

module _ {root : ℕ} {table : Table} {heads links : List ℕ} where
  module _ {others : List ℕ} (l : Looked root table heads links others) where
    pub looked_none : others ≡ [] → Entered root table heads links false
    looked_none done =
        record {
          none_above = λ f E lists x a.
              let (k, i, e) = lists.complete x root a in
              ⊎_elim
              (λ j. absurd (Memᴰ.not-nil (subst (λ (s : List ℕ). k ∈ s) done j)))
              (λ j. omega (arith, e, j))
              (l.seen k i);
        }

-- How many arrows are looked for next.
module _ (best : Closing) (most : ℕ) where
  pub limit_none : best.arrows ≡ 0 → most ≡ limit_of best most
  unfolding limit_of
  limit_none z = rw (eq-eqb best.arrows 0 z)

  pub limit_best : ¬ (best.arrows ≡ 0) → best.arrows ≡ limit_of best most
  unfolding limit_of
  limit_best n = rw (ne_eqb best.arrows 0 n)

-- The groups from `left` on were looked from: each is taken out, or entered only from below. Every way round is left or beaten.
pub record Settled (E : List Edge) (table : Table) (onward cursors : List ℕ) (groups most left : ℕ) (best : Closing) : Type 0 where
  pub onwards : Onward E table onward cursors
  pub walk : ¬ (best.arrows ≡ 0) → Walk E best.arrows best.group best.group
  pub kept : (m z : ℕ) → 1 ≤ m → m ≤ most → Walk E m z z → Walk (among cursors E) m z z ⊎ Beats best m z
  pub done : (z : ℕ) → left ≤ z → z < groups → (entry_at cursors z ≡ 0) ⊎ ((x : ℕ) → x ⟶ z ∈ E → x < z)

pub record Best (groups most : ℕ) (table : Table) (heads links tails onward cursors lows queue : List ℕ) (best : Closing) (left : ℕ) : Type 0 where
  pub fits : groups ≤ max_items
  pub most_fits : most ≤ max_items
  pub within : left ≤ groups
  pub cursors_long : length cursors ≡ max_items
  pub lows_long : length lows ≡ max_items
  pub queue_long : length queue ≡ max_items
  pub low : best.group < max_items
  pub few : best.arrows ≤ most
  pub settled : (E : List Edge) → Indexed groups E table heads links tails onward → Settled E table onward cursors groups most left best

module _ {groups most : ℕ} {table : Table} {heads links tails onward : List ℕ} where
  pub best_begins : {lows queue : List ℕ} → Rooted groups most tails lows queue →
      Best groups most table heads links tails onward tails lows queue (record { group = 0; arrows = 0 }) groups
  best_begins r =
      record {
        fits = r.fits;
        most_fits = r.most_fits;
        within = omega arith;
        cursors_long = r.tails_long;
        lows_long = r.lows_long;
        queue_long = r.queue_long;
        low = omega arith;
        few = omega arith;
        settled = λ E i.
            record {
              onwards = i.onwards;
              walk = λ n. absurd (n refl);
              kept = λ m z one few w. inl (walk_more (λ e a. among_keeps tails E a (i.starts e.from e.to a)) w);
              done = λ z low high. absurd (omega (arith, low, high));
            };
      }

  module _ {cursors lows queue : List ℕ} {best : Closing} {left : ℕ}
      (b : Best groups most table heads links tails onward cursors lows queue best left) where
    -- The next group is taken out, or entered only from below.
    next_done : {P : ℕ → Type 0} → ((z : ℕ) → left ≤ z → z < groups → P z) → P (left - 1) → (z : ℕ) → left - 1 ≤ z → z < groups → P z
    next_done {P} old own z low high =
        decided (eqb z (left - 1))
        (λ t. subst P (sym (eqb-true z (left - 1) t)) own)
        (λ t. let n : ¬ (z ≡ left - 1) = eqb-false z (left - 1) t in old z (omega (arith, low, n)) high)

    module _ (more : 0 < left) where
      abbrev root : ℕ
      root = left - 1

      skipped : ((E : List Edge) → Lists E table heads links → (entry_at cursors root ≡ 0) ⊎ ((x : ℕ) → x ⟶ root ∈ E → x < root)) →
          Best groups most table heads links tails onward cursors lows queue best (left - 1)
      skipped own =
          record {
            fits = b.fits;
            most_fits = b.most_fits;
            within = omega (arith, b.within);
            cursors_long = b.cursors_long;
            lows_long = b.lows_long;
            queue_long = b.queue_long;
            low = b.low;
            few = b.few;
            settled = λ E i.
                let s = b.settled E i in
                record {
                  onwards = s.onwards;
                  walk = s.walk;
                  kept = s.kept;
                  done = next_done {P = λ z. (entry_at cursors z ≡ 0) ⊎ ((x : ℕ) → x ⟶ z ∈ E → x < z)} s.done (own E i.lists);
                };
          }

      pub best_gone : {cursor : ℕ} → cursor ≡ entry_at cursors root → cursor ≤ 0 → Best groups most table heads links tails onward cursors lows queue best (left - 1)
      best_gone e z = skipped (λ E l. inl (omega (arith, e, z)))

      pub best_low : {told : Bool} → Entered root table heads links told → told ≡ false →
          Best groups most table heads links tails onward cursors lows queue best (left - 1)
      best_low e f = skipped (λ E l. inr (e.none_above f E l))

      limit_fits : limit_of best most ≤ most
      unfolding limit_of
      limit_fits =
          decided (eqb best.arrows 0) (λ t. rw t (omega arith)) (λ t. rw t b.few)

      pub best_ready : {limit : ℕ} → limit ≡ limit_of best most → Ready root limit lows queue
      best_ready e =
          record {
            root_fits = omega (arith, more, b.within, b.fits);
            most_fits = omega (arith, e, limit_fits, b.most_fits);
            lows_long = b.lows_long;
            queue_long = b.queue_long;
          }

      module _ {limit : ℕ} (limited : limit ≡ limit_of best most) {lows' queue' : List ℕ} {found : Closing}
          (s : Searched root limit table heads links onward cursors lows' queue' found) where
        pub best_removable : Removable root cursors queue'
        best_removable = record { cursors_long = b.cursors_long; queue_long = s.queue_long; inside = omega (arith, more, b.within, b.fits) }

        -- Every way round through the group is beaten by what was found from it, or by the best so far.
        beaten : (E : List Edge) → Lists E table heads links → Onward E table onward cursors → (m z : ℕ) → 1 ≤ m → m ≤ most → Passes (among cursors E) m z root z →
            Beats found m z ⊎ Beats best m z
        unfolding limit_of
        beaten E l o m z one few p =
            decided (eqb found.arrows 0)
            (λ t. let none : found.arrows ≡ 0 = eqb-true found.arrows 0 t in
            decided (leb m limit)
            (λ u. absurd (told.none none m one (leb-true m limit u) (passes_walk (turned p))))
            (λ u. decided (eqb best.arrows 0)
            (λ v. absurd (omega (arith, leb-false m limit u, few, limited ∙ sym (limit_none best most (eqb-true best.arrows 0 v)))))
            (λ v. let n = eqb-false best.arrows 0 v in
            let over : best.arrows < m = omega (arith, leb-false m limit u, limited ∙ sym (limit_best best most n)) in
            inr (record { some_lead = n; fewer = omega (arith, over); lower = λ e. absurd (omega (arith, e, over)) }))))
            (λ t. let n = eqb-false found.arrows 0 t in
            inl (record {
              some_lead = n;
              fewer = told.least n m one (passes_walk (turned p));
              lower = λ e. told.lowest n z (subst (λ (k : ℕ). Passes (among cursors E) k root z root) (sym e) (turned p));
            }))
          where
            told : Told (among cursors E) root limit found
            told = s.told E l o

        module _ {best' : Closing} (better : Better best found best') {cursors' queue'' : List ℕ}
            (t : TakenOut root table onward cursors cursors' queue'') where
          walk_there : (E : List Edge) (i : Indexed groups E table heads links tails onward) → ¬ (best'.arrows ≡ 0) →
              Walk E best'.arrows best'.group best'.group
          walk_there E i n =
              ⊎_elim
              (λ e. subst (λ (c : Closing). Walk E c.arrows c.group c.group) (sym e)
              ((b.settled E i).walk (λ z. n (ap (λ (c : Closing). c.arrows) e ∙ z))))
              (λ e. let found_some : ¬ (found.arrows ≡ 0) = λ z. n (ap (λ (c : Closing). c.arrows) e ∙ z) in
              subst (λ (c : Closing). Walk E c.arrows c.group c.group) (sym e)
              (walk_more (λ d m. (among_within cursors E m).0) (passes_walk (turned ((s.told E i.lists (b.settled E i).onwards).way found_some)))))
              better.one

          settled_out : (E : List Edge) (i : Indexed groups E table heads links tails onward) → Settled E table onward cursors' groups most (left - 1) best'
          settled_out E i =
              let before = b.settled E i in
              let out = t.without E before.onwards in
              record {
                onwards = out.onwards;
                walk = walk_there E i;
                kept = λ m z one few w. ⊎_elim
                    (λ v. ⊎_elim
                    (λ p. inr (⊎_elim (better.as_found m z) (better.as_best m z) (beaten E i.lists before.onwards m z one few p)))
                    (λ u. inl u)
                    (out.walks m z one v))
                    (λ k. inr (better.as_best m z k))
                    (before.kept m z one few w);
                done = next_done {P = λ z. (entry_at cursors' z ≡ 0) ⊎ ((x : ℕ) → x ⟶ z ∈ E → x < z)}
                    (λ z low high. ⊎_elim (λ g. inl (out.gone z g)) (λ r. inr r) (before.done z low high))
                    (inl out.out);
              }

          pub best_looked : Best groups most table heads links tails onward cursors' lows' queue'' best' (left - 1)
          best_looked =
              record {
                fits = b.fits;
                most_fits = b.most_fits;
                within = omega (arith, b.within);
                cursors_long = t.cursors_long;
                lows_long = s.lows_long;
                queue_long = t.queue_long;
                low = ⊎_elim
                    (λ e. omega (arith, ap (λ (c : Closing). c.group) e, b.low))
                    (λ e. omega (arith, ap (λ (c : Closing). c.group) e, s.low, more, b.within, b.fits))
                    better.one;
                few = ⊎_elim
                    (λ e. omega (arith, ap (λ (c : Closing). c.arrows) e, b.few))
                    (λ e. omega (arith, ap (λ (c : Closing). c.arrows) e, s.few, limited, limit_fits))
                    better.one;
                settled = settled_out;
              }

    -- All groups were looked from: along the arrows that are left no way leads round.
    pub best_chosen : left ≤ 0 → Chosen groups most table heads links tails onward lows queue best
    best_chosen end =
        record {
          lows_long = b.lows_long;
          queue_long = b.queue_long;
          low = b.low;
          few = b.few;
          choice = λ E i.
              let s = b.settled E i in
              record {
                walk = s.walk;
                beats = λ m z one few w. ⊎_elim (λ v. absurd (open_end E i m z one v)) (λ k. k) (s.kept m z one few w);
              };
        }
      where
        open_end : (E : List Edge) (i : Indexed groups E table heads links tails onward) (m z : ℕ) → 1 ≤ m → ¬ Walk (among cursors E) m z z
        open_end E i m z one =
            rising_open
            (λ x h l a c.
            let (plain, n) = among_within cursors E a in
            let (next, here_left) = among_within cursors E c in
            ⊎_elim (λ gone. absurd (here_left gone)) (λ rises. rises x plain)
            ((b.settled E i).done h (omega (arith, end)) (i.within x h plain)))
            one

-- One time after the other, for more arrows each time.
pub record Trying (groups most : ℕ) (tails lows queue : List ℕ) : Type 0 where
  pub some_looked : 1 ≤ most
  pub rooted : Rooted groups most tails lows queue

module _ {groups : ℕ} {tails lows queue : List ℕ} (r : Rooted groups max_items tails lows queue) where
  pub trying_first : Trying groups 2 tails lows queue
  trying_first =
      record {
        some_looked = omega arith;
        rooted =
            record { fits = r.fits; most_fits = omega arith; tails_long = r.tails_long; lows_long = r.lows_long; queue_long = r.queue_long };
      }

module _ {groups most : ℕ} {tails lows queue : List ℕ} (t : Trying groups most tails lows queue) where
  module _ {table : Table} {heads links onward lows' queue' : List ℕ} {c : Closing}
      (k : Chosen groups most table heads links tails onward lows' queue' c) where
    -- A way round of so few arrows beats all of more.
    pub trying_found : 0 < c.arrows → Chosen groups max_items table heads links tails onward lows' queue' c
    trying_found some_lead =
        record {
          lows_long = k.lows_long;
          queue_long = k.queue_long;
          low = k.low;
          few = omega (arith, k.few, t.rooted.most_fits);
          choice = λ E i.
              record {
                walk = (k.choice E i).walk;
                beats = λ m z one few w. decided (leb m most)
                    (λ u. (k.choice E i).beats m z one (leb-true m most u) w)
                    (λ u. let over : most < m = omega (arith, leb-false m most u) in
                    record {
                      some_lead = λ e. omega (arith, some_lead, e);
                      fewer = omega (arith, over, k.few);
                      lower = λ e. absurd (omega (arith, over, k.few, e));
                    });
              };
        }

    pub trying_all : max_items ≤ most → Chosen groups max_items table heads links tails onward lows' queue' c
    trying_all done =
        let e : most ≡ max_items = omega (arith, done, t.rooted.most_fits) in
        subst (λ (n : ℕ). Chosen groups n table heads links tails onward lows' queue' c) e k

    module _ {more : ℕ} (grown : Grown most more) (below : most < max_items) where
      pub trying_less : max_items - more < max_items - most
      trying_less = omega (arith, grown.larger t.some_looked below, below)

      pub trying_more : Trying groups more tails lows' queue'
      trying_more =
          record {
            some_looked = omega (arith, grown.larger t.some_looked below);
            rooted =
                record {
                  fits = t.rooted.fits;
                  most_fits = grown.fits;
                  tails_long = t.rooted.tails_long;
                  lows_long = k.lows_long;
                  queue_long = k.queue_long;
                };
          }
