-- The arrows into one of the groups met are gone back one by one. Each that comes from a group that is left has its start met then, at most one farther
-- than the group.
use Prim.Native.Nat.{ℕ, suc, ◌+◌, ◌≤◌, ◌<◌, min}
use mathlib.Core.Path.{◌≡◌, refl, sym, ap, ◌∙◌, subst}
use mathlib.Core.List.Memᴰ
use mathlib.Core.List.{List, [], ◌∷◌}
use mathlib.Core.Logic.{◌⊎◌, inl, inr, ⊎_elim}
use native.Mathlib.Nat.{min-le_right}
use native.Mathlib.Numerals.{add-one}
use native.Mathlib.Omega.{arith}
use lib.Dec.{eqb}
use lib.ListN.{get_or, set, length-set}
use lib.Seq.{get_or-set_same, get_or-set_other}
use borrow.Author.Tests.{eqb-true, eqb-false}
use Rattle.model.specs.Limits.{max_items}
use Rattle.model.specs.HappensBefore.{Edge, ◌⟶◌}
use Rattle.model.specs.Lists.{◌∈◌}
use Rattle.model.proofs.Laws.{decided}
use Rattle.model.proofs.Lists.{here, there}
use Rattle.memory.specs.Tables.{Table}
use Rattle.chains.specs.Chains.{members, older_in}
use Rattle.chains.proofs.Chains.{older_lower}
use Rattle.graph.specs.Edges.{source_at}
use Rattle.indexing.specs.Entries.{entry_at}
use Rattle.rings.specs.declared.searches.Reached.{Reached}
use Rattle.rings.specs.Searches.{Lists, among, State, Arrays, numbers, Ahead, Meets, fresh, again, known, Visits, passed, visited, Back}
use Rattle.rings.proofs.Left.{among_keeps, among_within}
use Rattle.rings.proofs.Counting.{ones_set, ones_room}
use Rattle.rings.proofs.Meeting.{Kept, fresh_kept, state_fresh, again_kept, state_again, state_next}

-- What meeting a group answers, by what was read.
module _ {from distance low end : ℕ} {distances lows queue : List ℕ} where
  module _ (inside : from < max_items) {far : ℕ} (read : far ≡ get_or distances from 0) where
    pub met_first : far ≡ 0 → end < max_items → {least : ℕ} → least ≡ min from low →
        Meets from distance low distances lows queue end (set distances from distance) (set lows from least) (set queue end from) (end + 1)
    met_first new room e = fresh inside room (sym read ∙ new) refl (ap (set lows from) e) refl refl

    pub met_full : far ≡ 0 → max_items ≤ end → Meets from distance low distances lows queue end distances lows queue end
    met_full new full = known (λ i room. absurd (omega (arith, full, room))) (λ i n. absurd (n (sym read ∙ new))) refl refl refl refl

    pub met_as_far : ¬ (far ≡ 0) → far ≡ distance → {least : ℕ} → least ≡ min (get_or lows from 0) low →
        Meets from distance low distances lows queue end distances (set lows from least) queue end
    met_as_far n same e = again inside (λ z. n (read ∙ z)) (sym read ∙ same) refl (ap (set lows from) e) refl refl

    pub met_nearer : ¬ (far ≡ 0) → ¬ (far ≡ distance) → Meets from distance low distances lows queue end distances lows queue end
    met_nearer n other = known (λ i room z. n (read ∙ z)) (λ i k z. other (read ∙ z)) refl refl refl refl

  pub met_outside : max_items ≤ from → Meets from distance low distances lows queue end distances lows queue end
  met_outside out = known (λ i. absurd (omega (arith, out, i))) (λ i. absurd (omega (arith, out, i))) refl refl refl refl

module _ {from distance low end : ℕ} {left distances lows queue : List ℕ} {cursor : ℕ} (looked : cursor ≡ entry_at left from) where
  pub visit_passed : cursor ≡ 0 → Visits from distance low left distances lows queue end distances lows queue end
  visit_passed gone = passed (sym looked ∙ gone)

  pub visit_met : ¬ (cursor ≡ 0) → {end' : ℕ} {distances' lows' queue' : List ℕ} →
      Meets from distance low distances lows queue end distances' lows' queue' end' →
      Visits from distance low left distances lows queue end distances' lows' queue' end'
  visit_met n = visited (λ z. n (looked ∙ z))

-- Two steps of keeping.
kept_both : {at : ℕ} {D L Q D' L' Q' D'' L'' Q'' : ℕ → ℕ} → Kept at D L Q D' L' Q' → Kept at D' L' Q' D'' L'' Q'' → Kept at D L Q D'' L'' Q''
kept_both {D' = D'} {L' = L'} {D'' = D''} {L'' = L''} k l =
    record {
      place = λ j h. l.place j h ∙ k.place j h;
      lies = λ j h. ap D'' (sym (k.place j h)) ∙ l.lies j h ∙ ap D' (k.place j h) ∙ k.lies j h;
      low = λ j h. ap L'' (sym (k.place j h)) ∙ l.low j h ∙ ap L' (k.place j h) ∙ k.low j h;
    }

kept_same : {at : ℕ} {D L Q : ℕ → ℕ} → Kept at D L Q D L Q
kept_same = record { place = λ j h. refl; lies = λ j h. refl; low = λ j h. refl }

module _ (at end₀ : ℕ) (table : Table) (heads links left distances₀ lows₀ queue₀ : List ℕ) where
  -- The group that is gone back from.
  abbrev group : ℕ
  group = get_or queue₀ at 0

  abbrev level : ℕ
  level = get_or distances₀ group 0

  abbrev low : ℕ
  low = get_or lows₀ group 0

  -- A search that stood there, over arrows that the lists stand for.
  abbrev Stood : (root : ℕ) → (E : List Edge) → Type 0
  Stood root E = Lists E table heads links × State (among left E) root at end₀ (numbers distances₀) (numbers lows₀) (numbers queue₀)

  -- A start that is left was met.
  pub record Done (distances lows : List ℕ) (x : ℕ) : Type 0 where
    pub met : ¬ (get_or distances x 0 ≡ 0)
    pub near : get_or distances x 0 ≤ level + 1
    pub lower : get_or distances x 0 ≡ level + 1 → get_or lows x 0 ≤ low

  pub record Seen (root : ℕ) (E : List Edge) (distances lows queue : List ℕ) (end : ℕ) (others : List ℕ) : Type 0 where
    pub state : State (among left E) root at end (numbers distances) (numbers lows) (numbers queue)
    pub kept : Kept at (numbers distances₀) (numbers lows₀) (numbers queue₀) (numbers distances) (numbers lows) (numbers queue)
    pub rest : (k : ℕ) → k ∈ others → k ∈ members links (entry_at heads group)
    pub seen : (k : ℕ) → k ∈ members links (entry_at heads group) →
        (k ∈ others) ⊎ (¬ (entry_at left (source_at table k) ≡ 0) → Done distances lows (source_at table k))

  pub record Going (distances lows queue : List ℕ) (end : ℕ) (others : List ℕ) : Type 0 where
    pub arrays : Arrays end distances lows queue
    pub ahead : at < end
    pub over : (root : ℕ) (E : List Edge) → Stood root E → Seen root E distances lows queue end others

  module _ {distances lows queue : List ℕ} {end : ℕ} {others : List ℕ} (g : Going distances lows queue end others) where
    at_group : (root : ℕ) (E : List Edge) (o : Stood root E) → get_or queue at 0 ≡ group
    at_group root E o = (g.over root E o).kept.place at (omega arith)

    lies : (root : ℕ) (E : List Edge) (o : Stood root E) → get_or distances (get_or queue at 0) 0 ≡ level
    lies root E o = ap (numbers distances) ((g.over root E o).kept.place at (omega arith)) ∙ (g.over root E o).kept.lies at (omega arith)

    low_is : (root : ℕ) (E : List Edge) (o : Stood root E) → get_or lows (get_or queue at 0) 0 ≡ low
    low_is root E o = ap (numbers lows) ((g.over root E o).kept.place at (omega arith)) ∙ (g.over root E o).kept.low at (omega arith)

    -- The next arrow of the list.
    module _ {edge : ℕ} {later : List ℕ} (first : others ≡ edge ∷ later) {from : ℕ} (read : from ≡ source_at table edge) where
      arrow : (root : ℕ) (E : List Edge) (o : Stood root E) → from ⟶ group ∈ E
      arrow root E o =
          let in_list : edge ∈ others = subst (λ (z : List ℕ). edge ∈ z) (sym first) (here refl) in
          subst (λ (x : ℕ). x ⟶ group ∈ E) (sym read) (o.0.sound group edge ((g.over root E o).rest edge in_list))

      arrow_left : (root : ℕ) (E : List Edge) (o : Stood root E) → ¬ (entry_at left from ≡ 0) → from ⟶ get_or queue at 0 ∈ among left E
      arrow_left root E o n = subst (λ (x : ℕ). from ⟶ x ∈ among left E) (sym (at_group root E o)) (among_keeps left E (arrow root E o) n)

      -- Behind that arrow, whatever was stored.
      on : {distances' lows' queue' : List ℕ} {end' : ℕ} (root : ℕ) (E : List Edge) (o : Stood root E) →
          State (among left E) root at end' (numbers distances') (numbers lows') (numbers queue') →
          Kept at (numbers distances) (numbers lows) (numbers queue) (numbers distances') (numbers lows') (numbers queue') →
          ((x : ℕ) → Done distances lows x → Done distances' lows' x) → (¬ (entry_at left from ≡ 0) → Done distances' lows' from) →
          Seen root E distances' lows' queue' end' later
      on {distances'} {lows'} root E o state kept keeps own =
          record {
            state = state;
            kept = kept_both (g.over root E o).kept kept;
            rest = λ k m. (g.over root E o).rest k (subst (λ (z : List ℕ). k ∈ z) (sym first) (there m));
            seen = λ k m. ⊎_elim
                (λ i. ⊎_elim
                (λ e. inr (subst (λ (x : ℕ). ¬ (entry_at left x ≡ 0) → Done distances' lows' x) (read ∙ ap (source_at table) (sym e)) own))
                (λ i'. inl i')
                (Memᴰ.cases_cons (subst (λ (z : List ℕ). k ∈ z) first i)))
                (λ d. inr (λ n. keeps (source_at table k) (d n)))
                ((g.over root E o).seen k m);
          }

      -- It comes from a group that is taken out.
      pub going_past : entry_at left from ≡ 0 → Going distances lows queue end later
      going_past gone =
          record {
            arrays = g.arrays;
            ahead = g.ahead;
            over = λ root E o. on root E o (g.over root E o).state kept_same (λ x d. d) (λ n. absurd (n gone));
          }

      -- It comes from a group that is left.
      module _ (here_left : ¬ (entry_at left from ≡ 0)) where
        -- It is met for the first time.
        module _ (inside : from < max_items) (room : end < max_items) (new : get_or distances from 0 ≡ 0) where
          abbrev distances_after : List ℕ
          distances_after = set distances from (level + 1)

          abbrev lows_after : List ℕ
          lows_after = set lows from (min from low)

          abbrev queue_after : List ℕ
          queue_after = set queue end from

          far_own : get_or distances_after from 0 ≡ level + 1
          far_own = get_or-set_same distances from (level + 1) 0 (omega (arith, inside, g.arrays.distances_long))

          far_old : (y : ℕ) → ¬ (y ≡ from) → get_or distances_after y 0 ≡ get_or distances y 0
          far_old y k = get_or-set_other distances from y (level + 1) 0 k

          low_own : get_or lows_after from 0 ≡ min from low
          low_own = get_or-set_same lows from (min from low) 0 (omega (arith, inside, g.arrays.lows_long))

          low_old : (y : ℕ) → ¬ (y ≡ from) → get_or lows_after y 0 ≡ get_or lows y 0
          low_old y k = get_or-set_other lows from y (min from low) 0 k

          other : (x : ℕ) → ¬ (get_or distances x 0 ≡ 0) → ¬ (x ≡ from)
          other x k z = k (ap (numbers distances) z ∙ new)

          fresh_arrays : Arrays (suc end) distances_after lows_after queue_after
          fresh_arrays =
              record {
                distances_long = length-set distances from (level + 1) ∙ g.arrays.distances_long;
                lows_long = length-set lows from (min from low) ∙ g.arrays.lows_long;
                queue_long = length-set queue end from ∙ g.arrays.queue_long;
                count =
                    ap suc g.arrays.count
                    ∙ sym (ones_set distances from (level + 1) (omega (arith, inside, g.arrays.distances_long)) new (λ z. omega (arith, z)));
                fits = room;
              }

          module _ (root : ℕ) (E : List Edge) (o : Stood root E) where
            fresh_state : State (among left E) root at (suc end) (numbers distances_after) (numbers lows_after) (numbers queue_after)
            fresh_state =
                state_fresh (among left E) root at end (numbers distances) (numbers lows) (numbers queue) (g.over root E o).state g.ahead from
                (arrow_left root E o here_left) new _ _ _ (far_own ∙ ap (λ k. k + 1) (sym (lies root E o))) far_old (low_own ∙ ap (min from) (sym (low_is root E o)))
                low_old (get_or-set_same queue end from 0 (omega (arith, room, g.arrays.queue_long))) (λ j k. get_or-set_other queue end j from 0 k)

            keeps_fresh : Kept at (numbers distances) (numbers lows) (numbers queue) (numbers distances_after) (numbers lows_after) (numbers queue_after)
            keeps_fresh =
                fresh_kept (among left E) root at end (numbers distances) (numbers lows) (numbers queue) (g.over root E o).state g.ahead from
                (arrow_left root E o here_left) new _ _ _ (far_own ∙ ap (λ k. k + 1) (sym (lies root E o))) far_old (low_own ∙ ap (min from) (sym (low_is root E o)))
                low_old (get_or-set_same queue end from 0 (omega (arith, room, g.arrays.queue_long))) (λ j k. get_or-set_other queue end j from 0 k)

          done_still : (x : ℕ) → Done distances lows x → Done distances_after lows_after x
          done_still x done =
              let far_there = far_old x (other x done.met) in
              let low_there = low_old x (other x done.met) in
              record {
                met = λ z. done.met (sym far_there ∙ z);
                near = omega (arith, far_there, done.near);
                lower = λ z. omega (arith, low_there, done.lower (omega (arith, far_there, z)));
              }

          done_own : Done distances_after lows_after from
          done_own =
              record {
                met = λ z. omega (arith, far_own, z);
                near = omega (arith, far_own);
                lower = λ z. omega (arith, low_own, min-le_right from low);
              }

          met_fresh : Going distances_after lows_after queue_after (suc end) later
          met_fresh =
              record {
                arrays = fresh_arrays;
                ahead = omega (arith, g.ahead);
                over = λ root E o. on root E o (fresh_state root E o) (keeps_fresh root E o) done_still (λ n. done_own);
              }

        -- It is met again, as far.
        module _ (inside : from < max_items) (same : get_or distances from 0 ≡ level + 1) where
          abbrev lows_lowered : List ℕ
          lows_lowered = set lows from (min (get_or lows from 0) low)

          lowered_own : get_or lows_lowered from 0 ≡ min (get_or lows from 0) low
          lowered_own = get_or-set_same lows from (min (get_or lows from 0) low) 0 (omega (arith, inside, g.arrays.lows_long))

          lowered_old : (y : ℕ) → ¬ (y ≡ from) → get_or lows_lowered y 0 ≡ get_or lows y 0
          lowered_old y k = get_or-set_other lows from y (min (get_or lows from 0) low) 0 k

          lowered_under : get_or lows_lowered from 0 ≤ low
          lowered_under = omega (arith, lowered_own, min-le_right (get_or lows from 0) low)

          module _ (root : ℕ) (E : List Edge) (o : Stood root E) where
            again_state : State (among left E) root at end (numbers distances) (numbers lows_lowered) (numbers queue)
            again_state =
                state_again (among left E) root at end (numbers distances) (numbers lows) (numbers queue) (g.over root E o).state g.ahead from
                (arrow_left root E o here_left) (same ∙ ap (λ k. k + 1) (sym (lies root E o))) _
                (lowered_own ∙ ap (min (get_or lows from 0)) (sym (low_is root E o))) lowered_old

            keeps_again : Kept at (numbers distances) (numbers lows) (numbers queue) (numbers distances) (numbers lows_lowered) (numbers queue)
            keeps_again =
                again_kept (among left E) root at end (numbers distances) (numbers lows) (numbers queue) (g.over root E o).state g.ahead from
                (arrow_left root E o here_left) (same ∙ ap (λ k. k + 1) (sym (lies root E o))) _
                (lowered_own ∙ ap (min (get_or lows from 0)) (sym (low_is root E o))) lowered_old

          done_lowered : (x : ℕ) → Done distances lows x → Done distances lows_lowered x
          done_lowered x done =
              record {
                met = done.met;
                near = done.near;
                lower = λ z. decided (eqb x from)
                    (λ t. omega (arith, ap (numbers lows_lowered) (eqb-true x from t), lowered_under))
                    (λ t. omega (arith, lowered_old x (eqb-false x from t), done.lower z));
              }

          met_again : Going distances lows_lowered queue end later
          met_again =
              record {
                arrays =
                    record {
                      distances_long = g.arrays.distances_long;
                      lows_long = length-set lows from (min (get_or lows from 0) low) ∙ g.arrays.lows_long;
                      queue_long = g.arrays.queue_long;
                      count = g.arrays.count;
                      fits = g.arrays.fits;
                    };
                ahead = g.ahead;
                over = λ root E o.
                    on root E o (again_state root E o) (keeps_again root E o) done_lowered
                    (λ n. record {
                      met = λ z. omega (arith, same, z);
                      near = omega (arith, same);
                      lower = λ z. lowered_under;
                    });
              }

        -- It was met before, and lies nearer: there is room for each group, and no two groups that are left differ by more than one.
        met_known : (from < max_items → end < max_items → ¬ (get_or distances from 0 ≡ 0)) →
            (from < max_items → ¬ (get_or distances from 0 ≡ 0) → ¬ (get_or distances from 0 ≡ level + 1)) →
            Going distances lows queue end later
        met_known old nearer =
            record {
              arrays = g.arrays;
              ahead = g.ahead;
              over = λ root E o. on root E o (g.over root E o).state kept_same (λ x done. done) (λ n. own root E o);
            }
          where
            own : (root : ℕ) (E : List Edge) → Stood root E → Done distances lows from
            own root E o =
                let inside : from < max_items = (o.0.below from group (arrow root E o)).0 in
                let met : ¬ (get_or distances from 0 ≡ 0) =
                λ z. old inside
                (omega (
                  arith,
                  g.arrays.count,
                  g.arrays.distances_long,
                  ones_room distances from (omega (arith, inside, g.arrays.distances_long)) z,
                )) z in
                let s = (g.over root E o).state in
                let (j, b, at_j) = s.queued from met in
                record {
                  met = met;
                  near = omega (arith, s.near at j (omega arith) g.ahead b, ap (numbers distances) at_j, lies root E o);
                  lower = λ z. absurd (nearer inside met z);
                }

        pub going_met : {distances' lows' queue' : List ℕ} {end' : ℕ} → Meets from (level + 1) low distances lows queue end distances' lows' queue' end' →
            Going distances' lows' queue' end' later
        going_met (fresh inside room new d o q n) = rw (d, o, q, n ∙ add-one end) (met_fresh inside room new)
        going_met (again inside met same d o q n) = rw (d, o, q, n) (met_again inside same)
        going_met (known old nearer d o q n) = rw (d, o, q, n) (met_known old nearer)

    -- No arrow is left.
    pub going_done : others ≡ [] → Back at end₀ table heads links left distances₀ lows₀ queue₀ distances lows queue end
    going_done done =
        record {
          arrays = g.arrays;
          gone = λ root E l s.
              let o = g.over root E (l, s) in
              state_next (among left E) root at end (numbers distances) (numbers lows) (numbers queue) o.state g.ahead
              (λ x a.
              let d = all root E (l, s) x (subst (λ (y : ℕ). x ⟶ y ∈ among left E) (at_group root E (l, s)) a) in
              (d.met, omega (arith, d.near, lies root E (l, s)), (λ z. omega (arith, low_is root E (l, s), d.lower (omega (arith, z, lies root E (l, s)))))));
        }
      where
        all : (root : ℕ) (E : List Edge) (o : Stood root E) (x : ℕ) → x ⟶ group ∈ among left E → Done distances lows x
        all root E o x a =
            let (plain, n) = among_within left E a in
            let (k, i, source) = o.0.complete x group plain in
            ⊎_elim
            (λ m. absurd (Memᴰ.not-nil (subst (λ (s : List ℕ). k ∈ s) done m)))
            (λ d. subst (Done distances lows) source (d (λ z. n (ap (entry_at left) (sym source) ∙ z))))
            ((g.over root E o).seen k i)

-- Links fall.
pub back_less : (links : List ℕ) {member next : ℕ} → next ≡ older_in links member → 0 < member → next < member
back_less links {member} e more = omega (arith, e, older_lower links member more)

-- The loop over the arrows, from what the search stood at.
pub record Going-back (distance lowest at end₀ : ℕ) (table : Table) (heads links left distances₀ lows₀ queue₀ distances lows queue : List ℕ)
    (end : ℕ) (others : List ℕ) : Type 0 where
  pub far : distance ≡ get_or distances₀ (get_or queue₀ at 0) 0 + 1
  pub low : lowest ≡ get_or lows₀ (get_or queue₀ at 0) 0
  pub going : Going at end₀ table heads links left distances₀ lows₀ queue₀ distances lows queue end others

module _ {distance lowest at end₀ : ℕ} {table : Table} {heads links left distances₀ lows₀ queue₀ : List ℕ} where
  pub back_begins : {others : List ℕ} {next : Reached} → Ahead at next end₀ distances₀ lows₀ queue₀ → distance ≡ next.level + 1 → lowest ≡ next.low →
      others ≡ members links (entry_at heads next.group) →
      Going-back distance lowest at end₀ table heads links left distances₀ lows₀ queue₀ distances₀ lows₀ queue₀ end₀ others
  back_begins {others = others} a d o m =
      let first : others ≡ members links (entry_at heads (get_or queue₀ at 0)) = m ∙ ap (λ g. members links (entry_at heads g)) (sym a.here_is) in
      record {
        far = d ∙ ap (λ k. k + 1) a.far;
        low = o ∙ a.lowest;
        going =
            record {
              arrays = a.arrays;
              ahead = a.ahead;
              over = λ root E s.
                  record {
                    state = s.1;
                    kept = kept_same;
                    rest = λ k i. subst (λ (z : List ℕ). k ∈ z) first i;
                    seen = λ k i. inl (subst (λ (z : List ℕ). k ∈ z) (sym first) i);
                  };
            };
      }

  module _ {end : ℕ} {others distances lows queue : List ℕ}
      (b : Going-back distance lowest at end₀ table heads links left distances₀ lows₀ queue₀ distances lows queue end others) where
    pub back_visit : {edge : ℕ} {later : List ℕ} → others ≡ edge ∷ later → {from : ℕ} → from ≡ source_at table edge →
        {distances' lows' queue' : List ℕ} {end' : ℕ} → Visits from distance lowest left distances lows queue end distances' lows' queue' end' →
        Going-back distance lowest at end₀ table heads links left distances₀ lows₀ queue₀ distances' lows' queue' end' later
    back_visit first read (passed gone) =
        record {
          far = b.far;
          low = b.low;
          going = going_past at end₀ table heads links left distances₀ lows₀ queue₀ b.going first read gone;
        }
    back_visit first {from} read {distances'} {lows'} {queue'} {end'} (visited here_left meets) =
        record {
          far = b.far;
          low = b.low;
          going =
              going_met at end₀ table heads links left distances₀ lows₀ queue₀ b.going first read here_left
              (subst (λ (k : ℕ). Meets from k (get_or lows₀ (get_or queue₀ at 0) 0) distances lows queue end distances' lows' queue' end') b.far
              (subst (λ (k : ℕ). Meets from distance k distances lows queue end distances' lows' queue' end') b.low meets));
        }

    pub back_done : others ≡ [] → Back at end₀ table heads links left distances₀ lows₀ queue₀ distances lows queue end
    back_done = going_done at end₀ table heads links left distances₀ lows₀ queue₀ b.going
