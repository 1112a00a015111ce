-- Two accepted records of one program with the same trace have the same arrows, but for the numbers of their groups: the next command of a rank is the
-- next in both, and no write to a cell lies between two accesses of it in the one if none does in the other. So a closed walk in the one has a closed
-- walk as long in the other; and the other has no fewer groups.
use Prim.Native.Nat.{ℕ, zero, suc, ◌<◌, ◌≤◌}
use mathlib.Core.Path.{◌≡◌, refl, sym, ◌∙◌, ap, subst}
use mathlib.Core.Bool.{true, false, true≢false}
use mathlib.Core.List.{List, [], ◌∷◌, ◌++◌}
use mathlib.Core.Logic.{◌⊎◌, inl, inr, ⊎_elim}
use mathlib.Core.List.Memᴰ
use native.Mathlib.Omega.{arith}
use lib.ListN.{length}
use borrow.Author.Tests.{eqb-true}
use Rattle.model.specs.Programs.{Program}
use Rattle.model.specs.Machine.{Start}
use Rattle.model.specs.Replay.{Event, Replayed}
use Rattle.model.specs.HappensBefore.{At, is_command, rank_of, same_sequence, overwrites, conflict, ProgramOrder, Conflict, HappensBefore, edges_of}
use Rattle.model.specs.Traces.{SameTrace}
use Rattle.model.specs.Lists.{◌∈◌, Distinct}
use Rattle.model.proofs.Laws.{decided}
use Rattle.model.proofs.Lists.{numbers_from_length, pigeonhole}
use Rattle.ordering.proofs.Edges.{edges_agree}
use Rattle.ordering.proofs.Links.{sequence_parts, sequence_of, write_splits}
use Rattle.ordering.specs.Walks.{Along, Closed}
use Rattle.ordering.proofs.Runs.{reason_follows}
use Rattle.ordering.specs.Orders.{ShortestRing}
use Rattle.ordering.proofs.Orders.{cycle_closed}
use Rattle.record_facts.specs.Facts.{Facts, Local, Shape, single, transfer, row}
use Rattle.serializability.proofs.Identity.{identified_sym, from_group, place_rises, place_order}
use Rattle.serializability.proofs.CommandKinds.{Twins, twin_command}
use Rattle.serializability.proofs.Correspondence.{same_groups}
use Rattle.traces.specs.Claims.{RecordedRun}
use Rattle.traces.proofs.Accesses.{conflict_same, overwrites_same}
use Rattle.traces.proofs.Pairs.{facts_of, Pair, paired, paired', pair_alike, pair_order}

-- The other way round.
abbrev turned : {events others : List Event} → Twins events others → Twins others events
turned w = record { i = w.j; j = w.i; x = w.y; y = w.x; first = w.second; second = w.first; same = identified_sym w.same }

module _ {P : Program} {start start' : Start} {run run' : Replayed} (a : RecordedRun P start run) (a' : RecordedRun P start' run')
    (trace : SameTrace run.events run'.events) where
  abbrev Both : Type 0
  Both = Pair a a' trace

  abbrev f : Facts P start a.items run
  f = facts_of a

  abbrev f' : Facts P start' a'.items run'
  f' = facts_of a'

  -- A group of each, that have a pair: one for each.
  record Match (g g' : ℕ) : Type 0 where
    pair : Both
    from : pair.x.group ≡ g
    to : pair.y.group ≡ g'

  match_one : {g g' h' : ℕ} → Match g g' → Match g h' → g' ≡ h'
  match_one m n = sym m.to ∙ same_groups f f' trace.transitions m.pair n.pair (m.from ∙ sym n.from) ∙ n.to

  match_back : {g h g' : ℕ} → Match g g' → Match h g' → g ≡ h
  match_back m n =
      sym m.from ∙
      same_groups f' f (λ rank. sym (trace.transitions rank)) (turned m.pair) (turned n.pair) (m.to ∙ sym n.to) ∙
      n.from

  -- The next command of a rank is the next in the other record.
  program_kept : {x y : Event} (o : ProgramOrder run.events x y) →
      ProgramOrder run'.events (paired a a' trace o.next.i x o.next.first).y (paired a a' trace o.next.j y o.next.second).y
  program_kept {x} {y} o =
      let v : Both = paired a a' trace o.next.i x o.next.first in
      let w : Both = paired a a' trace o.next.j y o.next.second in
      let (cx, cy, rank) = sequence_parts x y o.same in
      go v w cx cy rank o.next.before o.next.none_between
    where
      go : (v w : Both) → is_command v.x ≡ true → is_command w.x ≡ true → rank_of v.x ≡ rank_of w.x → v.i < w.i →
          ((k : ℕ) (z : Event) → v.i < k → k < w.i → At run.events k z → same_sequence v.x z ≡ false) →
          ProgramOrder run'.events v.y w.y
      go v w cv cw rank before none_between =
          let cv' = twin_command v cv in
          let cw' = twin_command w cw in
          let rank' : rank_of v.y ≡ rank_of w.y = sym v.same.rank ∙ rank ∙ w.same.rank in
          let rises : v.x.place < w.x.place = place_rises f v.i w.i v.first w.first cv cw rank before in
          record {
            same = sequence_of v.y w.y cv' cw' rank';
            next =
                record {
                  i = v.j;
                  j = w.j;
                  first = v.second;
                  second = w.second;
                  before =
                      place_order f' v.j w.j v.second w.second cv' cw' rank' (omega (arith, rises, v.same.place, w.same.place));
                  none_between = λ k z after until at. decided (same_sequence v.y z) (λ t. absurd (between k z after until at t)) (λ t. t);
                };
          }
        where
          between : (k : ℕ) (z : Event) → v.j < k → k < w.j → At run'.events k z → ¬ (same_sequence v.y z ≡ true)
          between k z after until at t =
              let u : Both = paired' a a' trace k z at in
              let (cv', cz, same) = sequence_parts v.y z t in
              let cu : is_command u.x ≡ true = twin_command (turned u) cz in
              let own : rank_of v.x ≡ rank_of u.x = v.same.rank ∙ same ∙ sym u.same.rank in
              let low : v.y.place < z.place = place_rises f' v.j k v.second at cv' cz same after in
              let high : z.place < w.y.place =
              place_rises f' k w.j at w.second cz (twin_command w cw) (sym u.same.rank ∙ sym own ∙ rank ∙ w.same.rank) until in
              true≢false
              (sym (sequence_of v.x u.x cv cu own) ∙
              none_between u.i u.x
              (place_order f v.i u.i v.first u.first cv cu own (omega (arith, low, v.same.place, u.same.place)))
              (place_order f u.i w.i u.first w.first cu cw (sym own ∙ rank) (omega (arith, high, u.same.place, w.same.place)))
              u.first)

  -- No write lies between two accesses of a cell in the other record.
  conflict_kept : {x y : Event} (c : Conflict run.events x y) →
      Conflict run'.events (paired a a' trace c.nearest.i x c.nearest.first).y (paired a a' trace c.nearest.j y c.nearest.second).y
  conflict_kept {x} {y} c =
      go (paired a a' trace c.nearest.i x c.nearest.first) (paired a a' trace c.nearest.j y c.nearest.second) c.conflicting
      c.nearest.before c.nearest.none_between
    where
      go : (v w : Both) → conflict v.x.access w.x.access ≡ true → v.i < w.i →
          ((k : ℕ) (z : Event) → v.i < k → k < w.i → At run.events k z → overwrites z.access v.x.access ≡ false) →
          Conflict run'.events v.y w.y
      go v w conflicting before none_between =
          record {
            conflicting = sym (conflict_same (pair_alike a a' trace v) (pair_alike a a' trace w)) ∙ conflicting;
            nearest =
                record {
                  i = v.j;
                  j = w.j;
                  first = v.second;
                  second = w.second;
                  before = (pair_order a a' trace v w conflicting).0 before;
                  none_between = λ k z after until at. decided (overwrites z.access v.y.access) (λ t. absurd (between k z after until at t)) (λ t. t);
                };
          }
        where
          between : (k : ℕ) (z : Event) → v.j < k → k < w.j → At run'.events k z → ¬ (overwrites z.access v.y.access ≡ true)
          between k z after until at t =
              let u : Both = paired' a a' trace k z at in
              let over : overwrites u.x.access v.x.access ≡ true = overwrites_same (pair_alike a a' trace u) (pair_alike a a' trace v) ∙ t in
              let (behind, ahead) = write_splits v.x.access w.x.access u.x.access conflicting over in
              true≢false
              (sym over ∙
              none_between u.i u.x ((pair_order a a' trace v u behind).1 after) ((pair_order a a' trace u w ahead).1 until) u.first)

  -- An arrow from a group goes from its match to a match.
  record ArrowToo (g' h : ℕ) : Type 0 where
    h' : ℕ
    arrow : HappensBefore run'.events g' h'
    match : Match h h'

  arrow_too : {g g' h : ℕ} → Match g g' → HappensBefore run.events g h → ArrowToo g' h
  arrow_too {g} {g'} {h} m b = go b.reason
    where
      between : (v w : Both) → v.x.group ≡ g → w.x.group ≡ h → ProgramOrder run'.events v.y w.y ⊎ Conflict run'.events v.y w.y →
          ArrowToo g' h
      between v w from to reason =
          let here : v.y.group ≡ g' = match_one (record { pair = v; from = from; to = refl }) m in
          let there : Match h w.y.group = record { pair = w; from = to; to = refl } in
          record {
            h' = w.y.group;
            arrow =
                record {
                  x = v.y;
                  y = w.y;
                  from = here;
                  to = refl;
                  different = λ same. b.different (match_back m (subst (Match h) (sym same) there));
                  reason = reason;
                };
            match = there;
          }

      go : ProgramOrder run.events b.x b.y ⊎ Conflict run.events b.x b.y → ArrowToo g' h
      go (inl o) =
          between (paired a a' trace o.next.i b.x o.next.first) (paired a a' trace o.next.j b.y o.next.second) b.from b.to
          (inl (program_kept o))
      go (inr c) =
          between (paired a a' trace c.nearest.i b.x c.nearest.first) (paired a a' trace c.nearest.j b.y c.nearest.second) b.from
          b.to (inr (conflict_kept c))

  -- So a walk has a walk as long, from match to match, and a closed one a closed one.
  walk_too : {g g' x x' : ℕ} (l : List ℕ) → Match g g' → Match x x' → Along (edges_of run.events) g (l ++ x ∷ []) →
      (m : List ℕ) × (length m ≡ length l) × Along (edges_of run'.events) g' (m ++ x' ∷ [])
  walk_too {g} {g'} {x} {x'} [] from to along =
      let t = arrow_too from ((edges_agree run.events g x).0 along.0) in
      let same : t.h' ≡ x' = match_one t.match to in
      ([], refl, ((edges_agree run'.events g' x').1 (subst (HappensBefore run'.events g') same t.arrow), tt))
  walk_too {g} {g'} (h ∷ l) from to along =
      let t = arrow_too from ((edges_agree run.events g h).0 along.0) in
      let (m, long, rest) = walk_too {g = h} {g' = t.h'} l t.match to along.1 in
      (t.h' ∷ m, ap suc long, ((edges_agree run'.events g' t.h').1 t.arrow, rest))

  -- A group that an arrow leaves has a match.
  matched : {g h : ℕ} → HappensBefore run.events g h → (g' : ℕ) × Match g g'
  matched b =
      let (test, o) = reason_follows b.reason in
      let w : Both = paired a a' trace o.i b.x o.first in
      (w.y.group, record { pair = w; from = b.from; to = refl })

  first_arrow : (g : ℕ) (l : List ℕ) → Closed (edges_of run.events) (g ∷ l) → (h : ℕ) × HappensBefore run.events g h
  first_arrow g [] c = (g, (edges_agree run.events g g).0 c.0)
  first_arrow g (h ∷ l) c = (h, (edges_agree run.events g h).0 c.0)

  pub closed_too : (l : List ℕ) → Closed (edges_of run.events) l → (m : List ℕ) × (length m ≡ length l) × Closed (edges_of run'.events) m
  closed_too [] c = absurd c
  closed_too (g ∷ l) c =
      let (g', m) = matched (first_arrow g l c).1 in
      let (k, long, closed) = walk_too l m m c in
      (g' ∷ k, ap suc long, closed)

  -- The other record's shortest ring is no longer.
  pub ring_no_longer : {n n' : ℕ} (l m : List ℕ) → ShortestRing n (edges_of run.events) l → ShortestRing n' (edges_of run'.events) m →
      length m ≤ length l
  ring_no_longer {n} l m ring ring' =
      let (k, long, closed) = closed_too l (cycle_closed n (edges_of run.events) l ring.cycle) in
      omega (arith, long, ring'.fewest k closed)

  -- Each group has an event, and so a match.
  group_matched : 1 ≤ P.header.ranks → (g : ℕ) → g < run.last.opened → (g' : ℕ) × Match g g'
  group_matched some_rank g below =
      let (e, at) = shape_first (f.shape g below) in
      let s = from_group run.events g 0 at in
      let w : Both = paired a a' trace s.i e s.at in
      (w.y.group, record { pair = w; from = eqb-true e.group g s.passes; to = refl })
    where
      shape_first : {local : ℕ → ℕ → Local} {l : List Event} → Shape P local l → (e : Event) × At l 0 e
      shape_first (single e c t no_bar) = (e, refl)
      shape_first (transfer e a b t) = (e, refl)
      shape_first (row [] kinds ranks) =
          let none : 0 ≡ P.header.ranks = ap length ranks ∙ numbers_from_length 1 P.header.ranks in
          absurd (omega (arith, none, some_rank))
      shape_first (row (e ∷ bars) kinds ranks) = (e, refl)

  -- The matches of the first n groups are n groups.
  record Matches (n : ℕ) : Type 0 where
    groups : List ℕ
    count : length groups ≡ n
    once : Distinct groups
    of : (g' : ℕ) → g' ∈ groups → (g : ℕ) × (g < n) × Match g g'

  matches : 1 ≤ P.header.ranks → (n : ℕ) → n ≤ run.last.opened → Matches n
  matches some_rank zero few = record { groups = []; count = refl; once = tt; of = λ g' m. absurd (Memᴰ.not-nil m) }
  matches some_rank (suc n) few =
      let rest : Matches n = matches some_rank n (omega (arith, few)) in
      let (n', new) = group_matched some_rank n few in
      record {
        groups = n' ∷ rest.groups;
        count = ap suc rest.count;
        once = ((λ m. let (g, less, old) = rest.of n' m in omega (arith, less, match_back old new)), rest.once);
        of = λ g' m.
            ⊎_elim (λ same. (n, omega arith, subst (Match n) (sym same) new))
            (λ k. let (g, less, old) = rest.of g' k in (g, omega (arith, less), old)) (Memᴰ.cases_cons m);
      }

  -- So the other record has no fewer groups.
  pub groups_no_fewer : 1 ≤ P.header.ranks → run.last.opened ≤ run'.last.opened
  groups_no_fewer some_rank =
      let all : Matches run.last.opened = matches some_rank run.last.opened (omega arith) in
      let below = pigeonhole run'.last.opened all.groups all.once
      (λ g' m. let (g, less, n) = all.of g' m in subst (λ h. h < run'.last.opened) n.to (f'.group_bound n.pair.j n.pair.y n.pair.second)) in
      omega (arith, below, all.count)
