-- The ring that the code finds is the definition's: put together from the lists of arrows, the group that is closest, its distances, and the way round.
use Prim.Native.Nat.{ℕ, suc, ◌+◌, ◌-◌, ◌≤◌, ◌<◌}
use mathlib.Core.Path.{◌≡◌, refl, sym, ap, ◌∙◌, subst}
use mathlib.Core.Bool.{Bool, not}
use mathlib.Core.List.{List, [], ◌∷◌}
use native.Mathlib.Omega.{arith}
use lib.Dec.{eqb, leb}
use lib.ListN.{length, get_or, set, length-set, replicate, length-replicate}
use lib.Seq.{get_or-set_same, get_or-set_other}
use borrow.Author.Tests.{eqb-true, eqb-false, ne_eqb, leb-true, leb-false}
use Rattle.model.specs.Limits.{max_items, max_edges}
use Rattle.model.specs.Choice.{select, numbers_from}
use Rattle.model.specs.HappensBefore.{Edge}
use Rattle.model.specs.Rings.{first_walk, ring}
use Rattle.model.specs.Lists.{◌∈◌, Rising}
use Rattle.model.proofs.Laws.{decided}
use Rattle.model.proofs.Selections.{select_all, select_yes, select_no, select_keeps, select_within}
use Rattle.model.proofs.Lists.{at_position, in_numbers_from, numbers_from_length, numbers_from_rising}
use Rattle.memory.specs.Tables.{Table}
use Rattle.graph.specs.Edges.{among as among_groups, edges_in, groups_in, graph_in}
use Rattle.graph.proofs.Edges.{selected_among, groups_bound}
use Rattle.ordering.specs.Walks.{Walk, stay, step}
use Rattle.ordering.proofs.Closest.{Closest}
use Rattle.ordering.proofs.Found.{ring_closest, ring_nowhere}
use Rattle.ordering.proofs.Shortest.{Starts}
use Rattle.indexing.specs.Entries.{entry_at}
use Rattle.indexing.proofs.Entries.{entry_is}
use Rattle.rings.specs.declared.Found.{Found}
use Rattle.rings.specs.Found.{waits, ring_among, found_as, counted}
use Rattle.rings.specs.Searches.{numbers, Cleared, Indexed, among, Closing, Ready, Distances, Measured}
use Rattle.rings.specs.Roots.{Rooted, Choice, Chosen}
use Rattle.rings.specs.Nexts.{Nexts, followed}
use Rattle.rings.proofs.Ending.{distances_lie}
use Rattle.rings.proofs.Following.{followed_first}

-- What is selected of numbers that rise rises, and is no more.
select_rising : (p : ℕ → Bool) (l : List ℕ) → Rising l → Rising (select p l)
unfolding select
select_rising p [] r = tt
select_rising p (x ∷ l) r =
    decided (p x)
    (λ t. rw (select_yes p x l t) ((λ y m. r.0 y (select_within p l m).0), select_rising p l r.1))
    (λ t. rw (select_no p x l t) (select_rising p l r.1))

select_few : (p : ℕ → Bool) (l : List ℕ) → length (select p l) ≤ length l
unfolding select
select_few p [] = omega arith
select_few p (x ∷ l) =
    decided (p x) (λ t. rw (select_yes p x l t) (omega (arith, select_few p l))) (λ t. rw (select_no p x l t) (omega (arith, select_few p l)))

module _ (groups : ℕ) (waiting : List ℕ) (table : Table) (count : ℕ) (fits : groups ≤ max_items) where
  abbrev E : List Edge
  E = counted groups waiting (edges_in count table)

  abbrev G : List ℕ
  G = select (waits waiting) (numbers_from 0 groups)

  from_below : (e : Edge) → e ∈ E → e.from < groups
  from_below e m =
      let (inside, w) = select_within (λ d. waits waiting d.from) (select (among_groups groups) (edges_in count table)) m in
      (selected_among groups (edges_in count table) e inside).0

  starts : Starts G E
  starts e m =
      let (inside, w) = select_within (λ d. waits waiting d.from) (select (among_groups groups) (edges_in count table)) m in
      select_keeps (waits waiting) (numbers_from 0 groups) (in_numbers_from 0 groups e.from (omega arith) (omega (arith, from_below e m))) w

  rising : Rising G
  rising = select_rising (waits waiting) (numbers_from 0 groups) (numbers_from_rising 0 groups)

  few_groups : length G ≤ max_items
  few_groups = omega (arith, select_few (waits waiting) (numbers_from 0 groups), numbers_from_length 0 groups, fits)

  module _ {heads links tails onward queue lows : List ℕ} {best : Closing} (indexed : Indexed groups E table heads links tails onward)
      (chosen : Chosen groups max_items table heads links tails onward lows queue best) where
    nowhere : best.arrows ≡ 0 → ring G E ≡ []
    nowhere z =
        ring_nowhere G E starts rising
        (λ y m one high w. ((chosen.choice E indexed).beats m y one (omega (arith, high, few_groups)) w).some_lead z)

  module _ {heads links tails onward queue queue' lows lows' distances distances' : List ℕ} (next : List ℕ) {best : Closing}
      (indexed : Indexed groups E table heads links tails onward) (chosen : Chosen groups max_items table heads links tails onward lows queue best)
      (measured : Measured best.group best.arrows table heads links tails distances lows' queue')
      (marked : distances' ≡ set distances best.group (best.arrows + 1)) (nexts : Nexts E (entry_at distances') (entry_at next)) where
    -- All groups are left.
    all_left : among tails E ≡ E
    unfolding among
    all_left =
        select_all (λ e. not (eqb (entry_at tails e.from) 0)) E
        (λ i e at. ap not (ne_eqb _ 0 (indexed.starts e.from e.to (at_position E i at))))

    choice : Choice E max_items best
    choice = chosen.choice E indexed

    no_ring : best.arrows ≡ 0 → followed best.arrows best.group (entry_at next) ≡ ring G E
    unfolding followed
    no_ring z = ap (λ k. followed k best.group (entry_at next)) z ∙ sym (nowhere indexed chosen z)

    some_ring : ¬ (best.arrows ≡ 0) → followed best.arrows best.group (entry_at next) ≡ ring G E
    some_ring n = go (best.arrows - 1) (omega (arith, n))
      where
        -- A way round of more arrows than there may be is longer.
        fewest : (x m : ℕ) → 1 ≤ m → Walk E m x x → best.arrows ≤ m
        fewest x m one w =
            decided (leb m max_items)
            (λ t. (choice.beats m x one (leb-true m max_items t) w).fewer)
            (λ t. omega (arith, leb-false m max_items t, chosen.few))

        closest : Closest G E (record { group = best.group; arrows = best.arrows })
        closest =
            record {
              inside = inside (omega (arith, n)) (choice.walk n);
              one = omega (arith, n);
              walk = choice.walk n;
              least = λ x m k one w. fewest x m one w;
              lowest = λ x k w. (choice.beats best.arrows x (omega (arith, n)) chosen.few w).lower refl;
            }
          where
            inside : {m x y : ℕ} → 1 ≤ m → Walk E m x y → x ∈ G
            inside one (stay e) = absurd (omega (arith, one))
            inside one (step a w) = starts _ a

        long : length distances' ≡ max_items
        long = ap length marked ∙ length-set distances best.group (best.arrows + 1) ∙ measured.distances_long

        D-root : entry_at distances' best.group ≡ best.arrows + 1
        D-root =
            entry_is distances' best.group long
            ∙ ap (λ l. get_or l best.group 0) marked
            ∙ get_or-set_same distances best.group (best.arrows + 1) 0 (omega (arith, chosen.low, measured.distances_long))

        D-other : (x : ℕ) → ¬ (x ≡ best.group) → entry_at distances' x ≡ numbers distances x
        D-other x k =
            entry_is distances' x long ∙ ap (λ l. get_or l x 0) marked ∙ get_or-set_other distances best.group x (best.arrows + 1) 0 k

        far : Distances E best.group best.arrows (numbers distances)
        far =
            subst (λ (F : List Edge). Distances F best.group best.arrows (numbers distances)) all_left
            (distances_lie (measured.explored E indexed.lists))

        go : (k : ℕ) → best.arrows ≡ suc k → followed best.arrows best.group (entry_at next) ≡ ring G E
        go k e =
            ap (λ j. followed j best.group (entry_at next)) e
            ∙ followed_first E indexed.lists.below best.group k
            (subst (λ (j : ℕ). Walk E j best.group best.group) e (choice.walk n))
            (λ m one w. omega (arith, e, fewest best.group m one w))
            (numbers distances) (entry_at distances') (entry_at next)
            (subst (λ (j : ℕ). Distances E best.group j (numbers distances)) e far)
            (omega (arith, D-root, e)) D-other nexts
            ∙ ap (λ j. first_walk j best.group best.group E) (sym e)
            ∙ sym (ring_closest G E starts rising (record { group = best.group; arrows = best.arrows }) closest)

    pub ring_same : followed best.arrows best.group (entry_at next) ≡ ring G E
    ring_same = decided (eqb best.arrows 0) (λ t. no_ring (eqb-true best.arrows 0 t)) (λ t. some_ring (eqb-false best.arrows 0 t))

-- The answer, for as many groups as there are.
pub answer : (groups : ℕ) (waiting : List ℕ) (table : Table) (count : ℕ) {limit : ℕ} → limit ≡ groups_in groups →
    {heads links tails onward queue queue' lows lows' distances distances' : List ℕ} (next : List ℕ) {best : Closing} →
    Indexed limit (counted limit waiting (edges_in count table)) table heads links tails onward →
    Chosen limit max_items table heads links tails onward lows queue best →
    Measured best.group best.arrows table heads links tails distances lows' queue' →
    distances' ≡ set distances best.group (best.arrows + 1) →
    Nexts (counted limit waiting (edges_in count table)) (entry_at distances') (entry_at next) →
    {f : Found} → f ≡ found_as (followed best.arrows best.group (entry_at next)) →
    f ≡ found_as (ring_among (groups_in groups) waiting (graph_in groups count table))
unfolding ring_among
answer groups waiting table count {limit} bound next indexed chosen measured marked nexts found =
    found
    ∙ ap found_as (ring_same limit waiting table count (rw bound (groups_bound groups)) next indexed chosen measured marked nexts)
    ∙ ap (λ n. found_as (ring_among n waiting (select (among_groups n) (edges_in count table)))) bound

-- No arrows lead back to any group.
pub answer_none : (groups : ℕ) (waiting : List ℕ) (table : Table) (count : ℕ) {limit : ℕ} → limit ≡ groups_in groups →
    {heads links tails onward queue lows : List ℕ} → Indexed limit (counted limit waiting (edges_in count table)) table heads links tails onward →
    {best : Closing} → Chosen limit max_items table heads links tails onward lows queue best → best.arrows ≡ 0 →
    found_as [] ≡ found_as (ring_among (groups_in groups) waiting (graph_in groups count table))
unfolding ring_among
answer_none groups waiting table count bound indexed chosen z =
    ap found_as (sym (nowhere _ waiting table count (rw bound (groups_bound groups)) indexed chosen z))
    ∙ ap (λ n. found_as (ring_among n waiting (select (among_groups n) (edges_in count table)))) bound

-- What the calls ask for.
pub fits_in : (groups : ℕ) {limit : ℕ} → limit ≡ groups_in groups → limit ≤ max_items
fits_in groups e = omega (arith, e, groups_bound groups)

pub cleared : (groups : ℕ) {limit : ℕ} → limit ≡ groups_in groups →
    Cleared limit (replicate max_items 0) (replicate max_edges 0) (replicate max_items 0) (replicate max_edges 0)
cleared groups e = record { fits = fits_in groups e; heads_none = refl; links_none = refl; tails_none = refl; onward_none = refl }

pub rooted : (groups : ℕ) {limit : ℕ} → limit ≡ groups_in groups → {E : List Edge} {table : Table} {heads links tails onward : List ℕ} →
    Indexed limit E table heads links tails onward → Rooted limit max_items tails (replicate max_items 0) (replicate max_items 0)
rooted groups e i =
    record {
      fits = fits_in groups e;
      most_fits = omega arith;
      tails_long = i.tails_long;
      lows_long = length-replicate {A = ℕ} max_items 0;
      queue_long = length-replicate {A = ℕ} max_items 0;
    }

pub ready_again : {groups : ℕ} {table : Table} {heads links tails onward lows queue : List ℕ} {c : Closing} →
    Chosen groups max_items table heads links tails onward lows queue c → Ready c.group c.arrows lows queue
ready_again k = record { root_fits = k.low; most_fits = k.few; lows_long = k.lows_long; queue_long = k.queue_long }
