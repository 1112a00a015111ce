-- Any merge of the same logs is as good as another. The first item of the other merge stands in this one behind items of other ranks, none a bar and
-- none in conflict with it. So exchanges of neighbours bring it to the front, and then the same is done with the rest.
use Rattle.std.specs.Prelude.{Option, Some, None, slice_get}
use Rattle.model.proofs.Options.{some-injective}
use Prim.Native.Nat.{ℕ, suc, ◌+◌}
use mathlib.Core.Path.{◌≡◌, refl, sym, ◌∙◌, ap, subst}
use mathlib.Core.Bool.{Bool, true, false, ◌&&◌, ◌||◌, true≢false}
use mathlib.Core.List.{List, [], ◌∷◌, ◌++◌, append_assoc}
use native.Mathlib.Omega.{arith}
use lib.Dec.{eqb}
use lib.ListN.{length}
use borrow.Author.Tests.{eqb-false}
use Rattle.model.specs.declared.Address.{Address}
use Rattle.model.specs.declared.Item.{Item}
use Rattle.model.specs.Choice.{select, Each, all, one}
use Rattle.model.specs.Refusals.{Ok}
use Rattle.model.specs.ItemKinds.{is_bar, has_place}
use Rattle.model.specs.Programs.{Program}
use Rattle.model.specs.Machine.{Start, Access}
use Rattle.model.specs.Replay.{Event, Replayed, replay, same_address}
use Rattle.model.specs.HappensBefore.{At, conflict, same_cell, either_writes}
use Rattle.model.specs.Traces.{SameTrace, InRecord}
use Rattle.model.proofs.Laws.{decided, and-true, true_and, eqb_refl, slice_get_map, slice_get_behind, each_weaker}
use Rattle.model.proofs.Selections.{select_yes, select_no, select_append, split_at}
use Rattle.model.proofs.Replay.{same_address_true, true_same_address}
use Rattle.traces.specs.Claims.{RecordedRun, Exchangeable, writes_kind, in_log, at_cell, SameLogs}
use Rattle.traces.proofs.Accesses.{kind_writes, writes_as, item_placed}
use Rattle.traces.proofs.Pairs.{facts_of}
use Rattle.traces.proofs.Equivalence.{same_trace_refl, same_trace_trans}
use Rattle.traces.proofs.Exchange.{each_exchanged, exchange}

-- Lists that are one have one first member, and the rest is one.
first_same : {A : Type 0} {x y : A} {l m : List A} → x ∷ l ≡ y ∷ m → x ≡ y
first_same h = cc

rest_same : {A : Type 0} {x y : A} {l m : List A} → x ∷ l ≡ y ∷ m → l ≡ m
rest_same h = cc

some≢none : {A : Type 0} {x : A} {l : List A} → ¬ (x ∷ l ≡ [])
some≢none h = let z : ◌≡◌ {A = ℕ} 0 1 = cc in omega arith

first_of : {A : Type 0} {Holds : A → Type 0} {x : A} {l : List A} → Each Holds (x ∷ l) → Holds x
first_of (one h rest) = h

more_of : {A : Type 0} {Holds : A → Type 0} {x : A} {l : List A} → Each Holds (x ∷ l) → Each Holds l
more_of (one h rest) = rest

module _ {A : Type 0} (p : A → Bool) where
  -- The first member that is selected stands behind some that are not.
  record FirstIn (l : List A) (x : A) : Type 0 where
    before : List A
    after : List A
    stands : before ++ x ∷ after ≡ l
    fail : Each (λ y. p y ≡ false) before

  first_in_lem : (l : List A) {x : A} {r : List A} → select p l ≡ x ∷ r → FirstIn l x
  unfolding select
  first_in_lem [] h = absurd (some≢none (sym h))
  first_in_lem (y ∷ l) h =
      decided (p y)
      (λ t.
      let same = first_same (sym (select_yes p y l t) ∙ h) in
      record { before = []; after = l; stands = ap (λ z. z ∷ l) (sym same); fail = all })
      (λ t.
      let f = first_in_lem l (sym (select_no p y l t) ∙ h) in
      record { before = y ∷ f.before; after = f.after; stands = ap (y ∷◌) f.stands; fail = one t f.fail })

  none_selected : {l : List A} → Each (λ y. p y ≡ false) l → select p l ≡ []
  unfolding select
  none_selected all = refl
  none_selected (one {a} {rest} t each) = select_no p a rest t ∙ none_selected each

  module _ (x : A) (u v : List A) where
    -- Members other than x, before an x that is the first selected, are not selected.
    others_fail : {r : List A} → Each (λ y. ¬ (y ≡ x)) u → select p (u ++ x ∷ v) ≡ x ∷ r → Each (λ y. p y ≡ false) u
    others_fail = go u
      where
        go : (u : List A) {r : List A} → Each (λ y. ¬ (y ≡ x)) u → select p (u ++ x ∷ v) ≡ x ∷ r → Each (λ y. p y ≡ false) u
        go [] all h = all
        go (y ∷ u) (one other rest) h =
            decided (p y)
            (λ t. absurd (other (first_same (sym (select_yes p y (u ++ x ∷ v) t) ∙ h))))
            (λ t. one t (go u rest (sym (select_no p y (u ++ x ∷ v) t) ∙ h)))

    -- With x taken out of both, the rest is selected alike.
    taken_out : (rest : List A) → Each (λ y. ¬ (y ≡ x)) u → select p (u ++ x ∷ v) ≡ select p (x ∷ rest) → select p (u ++ v) ≡ select p rest
    taken_out rest other h =
        decided (p x)
        (λ t.
        let None : select p u ≡ [] = none_selected (others_fail other (h ∙ select_yes p x rest t)) in
        select_append p u v ∙ ap (λ l. l ++ select p v) None ∙
        rest_same
        (sym (select_yes p x v t) ∙ ap (λ l. l ++ select p (x ∷ v)) (sym None) ∙ sym (select_append p u (x ∷ v)) ∙ h ∙ select_yes p x rest t))
        (λ t.
        select_append p u v ∙ ap (λ l. select p u ++ l) (sym (select_no p x v t)) ∙ sym (select_append p u (x ∷ v)) ∙ h ∙ select_no p x rest t)

-- What may be passed by x: of another rank, no bar, and at no cell at which x is, unless both read.
record Passed (x y : Item) : Type 0 where
  ranks : ¬ (y.rank ≡ x.rank)
  no_bar : is_bar y.kind ≡ false
  apart : (p : Address) (rank : ℕ) → at_cell p rank x ≡ true → ¬ (at_cell p rank y ≡ true)

or_first : (a b : Bool) → a ≡ true → (a || b) ≡ true
or_first a b h = rw h

or_second : (a b : Bool) → b ≡ true → (a || b) ≡ true
or_second true b h = refl
or_second false b h = h

at_cell_lem : (p : Address) (rank : ℕ) (i : Item) → has_place i.kind ≡ true → i.place ≡ p → (writes_kind i.kind || eqb i.rank rank) ≡ true →
    at_cell p rank i ≡ true
at_cell_lem p rank i placed here writes =
    true_and (has_place i.kind && same_address i.place p) (writes_kind i.kind || eqb i.rank rank)
    (true_and (has_place i.kind) (same_address i.place p) placed (true_same_address i.place p here)) writes

-- A write is at its cell for every rank, and each access for its own.
write_at : (p : Address) (rank : ℕ) (i : Item) → has_place i.kind ≡ true → i.place ≡ p → writes_kind i.kind ≡ true → at_cell p rank i ≡ true
write_at p rank i placed here writes = at_cell_lem p rank i placed here (or_first (writes_kind i.kind) (eqb i.rank rank) writes)

own_at : (p : Address) (i : Item) → has_place i.kind ≡ true → i.place ≡ p → at_cell p i.rank i ≡ true
own_at p i placed here = at_cell_lem p i.rank i placed here (or_second (writes_kind i.kind) (eqb i.rank i.rank) (eqb_refl i.rank))

-- A record with the items in another order, accepted with the same trace.
pub record Merged (P : Program) (start : Start) (items : List Item) (run : Replayed) : Type 0 where
  pub too : Replayed
  pub in_record : Each (InRecord P.header) items
  pub replayed : replay P start items ≡ Ok too
  pub trace : SameTrace run.events too.events

module _ {P : Program} {start : Start} where
  abbrev record_of : {items : List Item} {run : Replayed} (m : Merged P start items run) → RecordedRun P start m.too
  record_of {items} m = record { items = items; in_record = m.in_record; replayed = m.replayed }

  -- Two items whose events conflict are at one cell, and one of them writes; so one that may be passed does not conflict.
  no_conflict : {run : Replayed} (a : RecordedRun P start run) (i j : ℕ) (e f : Event) → At run.events i e → At run.events j f →
      Passed f.item e.item → conflict e.access f.access ≡ false
  unfolding conflict
  no_conflict {run} a i j e f ae af passed = decided (conflict e.access f.access) (λ t. absurd (go e.access f.access refl refl t)) (λ t. t)
    where
      go : (x y : Option Access) → e.access ≡ x → f.access ≡ y → ¬ (conflict x y ≡ true)
      go None y is is' t = absurd (true≢false (sym t))
      go (Some b) None is is' t = absurd (true≢false (sym t))
      go (Some b) (Some c) is is' t =
          let (cell, writes) = and-true (same_cell b c) (either_writes b c) t in
          let (placed, here) = item_placed a i e ae is in
          let (placed', here') = item_placed a j f af is' in
          let there : e.item.place ≡ c.address = here ∙ same_address_true b.address c.address cell in
          decided c.writes
          (λ w.
          let kind : writes_kind f.item.kind ≡ true = sym (writes_as f.access is' (kind_writes a j f af)) ∙ w in
          passed.apart c.address e.item.rank (write_at c.address e.item.rank f.item placed' here' kind)
          (own_at c.address e.item placed there))
          (λ r.
          let w : b.writes ≡ true = decided b.writes (λ w. w) (λ n. absurd (true≢false (sym writes ∙ rw (n, r)))) in
          let kind : writes_kind e.item.kind ≡ true = sym (writes_as e.access is (kind_writes a i e ae)) ∙ w in
          passed.apart c.address f.item.rank (own_at c.address f.item placed' here')
          (write_at c.address f.item.rank e.item placed there kind))

  -- x passes the item before it.
  pass_one : {run : Replayed} (before : List Item) (y x : Item) (after : List Item) → is_bar x.kind ≡ false → Passed x y →
      Merged P start (before ++ y ∷ x ∷ after) run → RecordedRun P start run → Merged P start (before ++ x ∷ y ∷ after) run
  pass_one before y x after no_bar passed m a =
      let (too, replayed, trace) = exchange P start before y x after m.too m.in_record m.replayed may in
      let each = each_exchanged before y x after m.in_record in
      record {
        too = too;
        in_record = each;
        replayed = replayed;
        trace = same_trace_trans a (record_of m) (record { items = before ++ x ∷ y ∷ after; in_record = each; replayed = replayed }) m.trace trace;
      }
    where
      first : slice_get (before ++ y ∷ x ∷ after) (length before) ≡ Some y
      first = split_at before y (x ∷ after)

      second : slice_get (before ++ y ∷ x ∷ after) (suc (length before)) ≡ Some x
      second = let is : suc (length before) ≡ length before + 1 = omega arith in rw is (slice_get_behind before (y ∷ x ∷ after) 1)

      -- An event is its item's.
      item_is : (i : ℕ) {e : Event} {z : Item} → At m.too.events i e → slice_get (before ++ y ∷ x ∷ after) i ≡ Some z → e.item ≡ z
      item_is i ae is =
          some-injective _ _
          (sym (slice_get_map (λ e. e.item) m.too.events i ae) ∙ ap (λ l. slice_get l i) (facts_of (record_of m)).items_of ∙ is)

      may : Exchangeable m.too.events (length before) y x
      may =
          record {
            ranks = passed.ranks;
            first_no_bar = passed.no_bar;
            second_no_bar = no_bar;
            no_conflict = λ e f ae af.
                no_conflict (record_of m) (length before) (suc (length before)) e f ae af
                (subst (λ i. Passed i e.item) (sym (item_is (suc (length before)) af second))
                (subst (Passed x) (sym (item_is (length before) ae first)) passed));
          }

  -- x passes all items before it.
  pass_all : {run : Replayed} (before u : List Item) (x : Item) (v : List Item) → is_bar x.kind ≡ false → Each (Passed x) u →
      RecordedRun P start run → Merged P start (before ++ (u ++ x ∷ v)) run → Merged P start (before ++ x ∷ (u ++ v)) run
  pass_all before [] x v no_bar all a m = m
  pass_all {run} before (y ∷ u) x v no_bar (one passed rest) a m =
      let n : Merged P start ((before ++ y ∷ []) ++ x ∷ (u ++ v)) run =
      pass_all (before ++ y ∷ []) u x v no_bar rest a
      (subst (λ l. Merged P start l run) (sym (append_assoc before (y ∷ []) (u ++ x ∷ v))) m) in
      pass_one before y x (u ++ v) no_bar passed (subst (λ l. Merged P start l run) (append_assoc before (y ∷ []) (x ∷ (u ++ v))) n) a

-- Items that stand before the first of their rank's log are of other ranks, and no bars.
not_in_log : (rank : ℕ) (y : Item) → in_log rank y ≡ false → (is_bar y.kind ≡ false) × (¬ (y.rank ≡ rank))
not_in_log rank y h = go (is_bar y.kind) (eqb y.rank rank) refl h
  where
    go : (b c : Bool) → eqb y.rank rank ≡ c → (b || c) ≡ false → (b ≡ false) × (¬ (y.rank ≡ rank))
    go true c is h = absurd (true≢false h)
    go false c is h = (refl, eqb-false y.rank rank (is ∙ h))

own_log : (i : Item) → in_log i.rank i ≡ true
own_log i = or_second (is_bar i.kind) (eqb i.rank i.rank) (eqb_refl i.rank)

-- The first item of a merge, in another.
module _ (x : Item) (rest u v : List Item) (fail : Each (λ y. in_log x.rank y ≡ false) u) (same : SameLogs (u ++ x ∷ v) (x ∷ rest)) where
  other : Each (λ y. ¬ (y ≡ x)) u
  other = each_weaker (λ y h is. (not_in_log x.rank y h).1 (ap (λ i. i.rank) is)) fail

  passed_all : Each (Passed x) u
  passed_all = go u fail (λ p rank t. others_fail (at_cell p rank) x u v other (same.cells p rank ∙ select_yes (at_cell p rank) x rest t))
    where
      go : (u : List Item) → Each (λ y. in_log x.rank y ≡ false) u →
          ((p : Address) (rank : ℕ) → at_cell p rank x ≡ true → Each (λ y. at_cell p rank y ≡ false) u) → Each (Passed x) u
      go [] all none_at = all
      go (y ∷ u) (one h more) none_at =
          one
          (record {
            ranks = (not_in_log x.rank y h).1;
            no_bar = (not_in_log x.rank y h).0;
            apart = λ p rank t s. true≢false (sym s ∙ first_of (none_at p rank t));
          })
          (go u more (λ p rank t. more_of (none_at p rank t)))

  -- A bar is in every log, so nothing stands before it.
  bar_first : is_bar x.kind ≡ true → u ≡ []
  bar_first bar = go u (λ rank. others_fail (in_log rank) x u v other (same.ranks rank ∙ select_yes (in_log rank) x rest (or_first (is_bar x.kind) (eqb x.rank rank) bar)))
    where
      go : (u : List Item) → ((rank : ℕ) → Each (λ y. in_log rank y ≡ false) u) → u ≡ []
      go [] none_in = refl
      go (y ∷ u) none_in = absurd (true≢false (sym (own_log y) ∙ first_of (none_in y.rank)))

  left_same : SameLogs (u ++ v) rest
  left_same =
      record {
        ranks = λ rank. taken_out (in_log rank) x u v rest other (same.ranks rank);
        cells = λ p rank. taken_out (at_cell p rank) x u v rest other (same.cells p rank);
      }

-- Nothing is left of a log, and so of the items.
nothing_left : (items : List Item) → SameLogs items [] → items ≡ []
unfolding select
nothing_left [] same = refl
nothing_left (y ∷ items) same =
    absurd (some≢none (sym (select_yes (in_log y.rank) y items (own_log y)) ∙ same.ranks y.rank))

-- The theorem, first with the same items before both.
module _ {P : Program} {start : Start} where
  itself : {items : List Item} {run : Replayed} → Each (InRecord P.header) items → replay P start items ≡ Ok run → Merged P start items run
  itself {items} {run} each h =
      record { too = run; in_record = each; replayed = h; trace = same_trace_refl (record { items = items; in_record = each; replayed = h }) }

  -- The first item of the other merge is brought to the front.
  fronted : (before : List Item) (x : Item) (rest u v : List Item) (run : Replayed) → Each (λ y. in_log x.rank y ≡ false) u →
      SameLogs (u ++ x ∷ v) (x ∷ rest) → Each (InRecord P.header) (before ++ (u ++ x ∷ v)) → replay P start (before ++ (u ++ x ∷ v)) ≡ Ok run →
      Merged P start (before ++ x ∷ (u ++ v)) run
  fronted before x rest u v run fail same each h =
      let now : Merged P start (before ++ (u ++ x ∷ v)) run = itself each h in
      decided (is_bar x.kind)
      (λ bar.
      let None : u ≡ [] = bar_first x rest u v fail same bar in
      subst (λ w. Merged P start (before ++ x ∷ (w ++ v)) run) (sym None) (subst (λ w. Merged P start (before ++ (w ++ x ∷ v)) run) None now))
      (λ no_bar.
      pass_all before u x v no_bar (passed_all x rest u v fail same)
      (record { items = before ++ (u ++ x ∷ v); in_record = each; replayed = h }) now)

  merged_behind : (others before items : List Item) (run : Replayed) → Each (InRecord P.header) (before ++ items) →
      replay P start (before ++ items) ≡ Ok run → SameLogs items others → Merged P start (before ++ others) run
  merged_behind [] before items run each h same = subst (λ l. Merged P start (before ++ l) run) (nothing_left items same) (itself each h)
  merged_behind (x ∷ rest) before items run each h same =
      let f = first_in_lem (in_log x.rank) items (same.ranks x.rank ∙ select_yes (in_log x.rank) x rest (own_log x)) in
      go f.before f.after f.fail (subst (λ l. SameLogs l (x ∷ rest)) (sym f.stands) same)
      (subst (λ l. Each (InRecord P.header) (before ++ l)) (sym f.stands) each)
      (subst (λ l. replay P start (before ++ l) ≡ Ok run) (sym f.stands) h)
      (λ left. merged_behind rest (before ++ x ∷ []) left)
    where
      go : (u v : List Item) → Each (λ y. in_log x.rank y ≡ false) u → SameLogs (u ++ x ∷ v) (x ∷ rest) →
          Each (InRecord P.header) (before ++ (u ++ x ∷ v)) → replay P start (before ++ (u ++ x ∷ v)) ≡ Ok run →
          ((left : List Item) (r : Replayed) → Each (InRecord P.header) ((before ++ x ∷ []) ++ left) → replay P start ((before ++ x ∷ []) ++ left) ≡ Ok r →
          SameLogs left rest → Merged P start ((before ++ x ∷ []) ++ rest) r) →
          Merged P start (before ++ x ∷ rest) run
      go u v fail same each h later =
          let m : Merged P start (before ++ x ∷ (u ++ v)) run = fronted before x rest u v run fail same each h in
          let apart = sym (append_assoc before (x ∷ []) (u ++ v)) in
          let r : Merged P start ((before ++ x ∷ []) ++ rest) m.too =
          later (u ++ v) m.too (subst (Each (InRecord P.header)) apart m.in_record)
          (subst (λ l. replay P start l ≡ Ok m.too) apart m.replayed) (left_same x rest u v fail same) in
          subst (λ l. Merged P start l run) (append_assoc before (x ∷ []) rest)
          (record {
            too = r.too;
            in_record = r.in_record;
            replayed = r.replayed;
            trace =
                same_trace_trans (record { items = before ++ (u ++ x ∷ v); in_record = each; replayed = h }) (record_of m) (record_of r) m.trace r.trace;
          })

  pub merged : (items others : List Item) (run : Replayed) → Each (InRecord P.header) items → replay P start items ≡ Ok run → SameLogs items others →
      Merged P start others run
  merged items others run = merged_behind others [] items run
