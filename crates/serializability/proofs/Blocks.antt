-- In a serial run the groups stand one behind another. Each transfer is followed at once by its own fetch and its own delivery: the fetch right
-- behind it belongs to an earlier transfer or to this one, and every earlier transfer has its own fetch right behind it already. So along the run
-- the group numbers never fall.
use Rattle.model.proofs.Options.{none-ne-some, some-injective}
use Prim.Native.Nat.{ℕ, zero, suc, ◌<◌, ◌≤◌}
use mathlib.Core.Path.{◌≡◌, refl, sym, ◌∙◌, ap, subst}
use mathlib.Core.Bool.{Bool, true, false, ◌&&◌, true≢false, false≢true}
use mathlib.Core.List.{List, [], ◌∷◌}
use native.Mathlib.Nat.{not-suc-le-zero, suc_inj, le_of_eq}
use native.Mathlib.Omega.{arith}
use lib.Dec.{eqb}
use Rattle.model.specs.declared.Item.{Item}
use Rattle.model.specs.declared.Kind.{Kind}
use Rattle.model.specs.declared.Kind.TheVariants.{Popa, Popb}
use Rattle.model.specs.Choice.{when}
use Rattle.model.specs.ItemKinds.{same_kind, is_transfer, is_command_kind}
use Rattle.model.specs.Programs.{Program}
use Rattle.model.specs.Machine.{Start}
use Rattle.model.specs.Replay.{Event, Replayed, joins_row}
use Rattle.model.specs.HappensBefore.{At, rank_of}
use Rattle.model.specs.Traces.{is_pop, followed_at_once, transfers_together}
use Rattle.model.proofs.ItemKinds.{same_kind_true}
use Rattle.model.proofs.Laws.{decided, and-true}
use Rattle.record_facts.specs.Facts.{Facts}
use Rattle.serializability.proofs.Groups.{kind_command}
use Rattle.serializability.proofs.Identity.{compared, Issued, Known, commanded, fetching, delivering, together, not_together, one_pop, known, at_unique}

-- The events right behind a transfer.
pub record Behind (events : List Event) (i : ℕ) : Type 0 where
  pub a : Event
  pub b : Event
  pub fetch_at : At events (suc i) a
  pub delivery_at_lem : At events (suc (suc i)) b
  pub fetch_kind : a.item.kind ≡ Popa
  pub delivery_kind : b.item.kind ≡ Popb

-- What the test of a transfer's pops says.
pop_kind : (k : Kind) (e p : Event) → is_pop k e p ≡ true → p.item.kind ≡ k
pop_kind k e p t =
    let both = and-true (same_kind p.item.kind k && eqb (rank_of p) (rank_of e)) (eqb p.queue e.queue) t in
    same_kind_true p.item.kind k (and-true (same_kind p.item.kind k) (eqb (rank_of p) (rank_of e)) both.0).0

followed : (e : Event) (events : List Event) → followed_at_once e events ≡ true → Behind (e ∷ events) 0
unfolding followed_at_once
followed e [] h = absurd (false≢true h)
followed e (a ∷ []) h = absurd (false≢true h)
followed e (a ∷ b ∷ rest) h =
    let both = and-true (is_pop Popa e a) (is_pop Popb e b) h in
    record {
      a = a;
      b = b;
      fetch_at = refl;
      delivery_at_lem = refl;
      fetch_kind = pop_kind Popa e a both.0;
      delivery_kind = pop_kind Popb e b both.1;
    }

-- The test of one event of a serial run.
abbrev own_pops : Event → List Event → Bool
own_pops x events = when (is_transfer x.item.kind) (λ _. followed_at_once x events) (λ _. true)

behind : (events : List Event) → transfers_together events ≡ true → (i : ℕ) (e : Event) → At events i e → is_transfer e.item.kind ≡ true →
    Behind events i
unfolding transfers_together
behind [] h i e at t = absurd (none-ne-some _ at)
behind (x ∷ events) h zero e at t =
    let one : is_transfer x.item.kind ≡ true = ap (λ z. is_transfer z.item.kind) (some-injective x e at) ∙ t in
    followed x events (rw (one, when) at (and-true (own_pops x events) (transfers_together events) h).0)
behind (x ∷ events) h (suc i) e at t =
    let b = behind events (and-true (own_pops x events) (transfers_together events) h).1 i e at t in
    record {
      a = b.a;
      b = b.b;
      fetch_at = b.fetch_at;
      delivery_at_lem = b.delivery_at_lem;
      fetch_kind = b.fetch_kind;
      delivery_kind = b.delivery_kind;
    }

-- The fetch and the delivery right behind a transfer are its own.
pub record Own (events : List Event) (i : ℕ) (e : Event) : Type 0 where
  pub behind : Behind events i
  pub fetch_group : behind.a.group ≡ e.group
  pub delivery_group_lem : behind.b.group ≡ e.group

module _ {P : Program} {start : Start} {items : List Item} {run : Replayed} (f : Facts P start items run)
    (serial : transfers_together run.events ≡ true) where
  -- A pop belongs to an earlier transfer.
  pop_issued : (k : Kind) → is_command_kind k ≡ false → (i : ℕ) (p : Event) → At run.events i p → p.item.kind ≡ k → Issued run.events k i p
  pop_issued k pop i p at is = go (known f i p at)
    where
      go : Known run.events i p → Issued run.events k i p
      go (commanded c) = absurd (true≢false (sym c ∙ kind_command p is ∙ pop))
      go (fetching w) = subst (λ q. Issued run.events q i p) (sym w.pop.kind_is ∙ is) w
      go (delivering w) = subst (λ q. Issued run.events q i p) (sym w.pop.kind_is ∙ is) w

  -- The pop that stands `after` a transfer is its own, if this is so of every earlier transfer, and if its transfer is not a later one.
  own_pop : (k : Kind) → is_command_kind k ≡ false → (after : ℕ → ℕ) → ((m n : ℕ) → m < n → after m < after n) →
      (i : ℕ) (e p : Event) → At run.events i e → At run.events (after i) p → p.item.kind ≡ k →
      ((j : ℕ) (x : Event) → j < after i → i < j → At run.events j x → is_transfer x.item.kind ≡ true → ⊥) →
      ((j : ℕ) (x : Event) → j < i → At run.events j x → is_transfer x.item.kind ≡ true →
      (q : Event) × At run.events (after j) q × (q.item.kind ≡ k) × (q.group ≡ x.group)) →
      p.group ≡ e.group
  own_pop k pop after rises i e p ae ap' is none_later earlier =
      let w = pop_issued k pop (after i) p ap' is in
      compared w.j i
      (λ less.
      let o = earlier w.j w.e less w.at w.is_transfer_lem in
      absurd (not_together k pop o.2 is (together f (after w.j) (after i) o.1 ap' (rises w.j i less) (o.3 ∙ w.group))))
      (λ more. absurd (none_later w.j w.e w.before more w.at w.is_transfer_lem))
      (λ same. sym w.group ∙ ap (λ x. x.group) (at_unique f w.at ae same))

  -- By induction: all transfers before the n-th item have their own pops behind them.
  own_before : (n i : ℕ) → i < n → (e : Event) → At run.events i e → is_transfer e.item.kind ≡ true → Own run.events i e
  own_before zero i less e at t = absurd (not-suc-le-zero less)
  own_before (suc n) i less e at t =
      let b : Behind run.events i = behind run.events serial i e at t in
      record {
        behind = b;
        fetch_group =
            own_pop Popa refl suc (λ m m' h. omega (arith, h)) i e b.a at b.fetch_at b.fetch_kind
            (λ j x before later ax tx. omega (arith, before, later))
            (λ j x before ax tx.
            let o = own_before n j (omega (arith, before, less)) x ax tx in
            (o.behind.a, o.behind.fetch_at, o.behind.fetch_kind, o.fetch_group));
        delivery_group_lem =
            own_pop Popb refl (λ m. suc (suc m)) (λ m m' h. omega (arith, h)) i e b.b at b.delivery_at_lem b.delivery_kind
            (λ j x before later ax tx.
            let next : j ≡ suc i = omega (arith, before, later) in
            true≢false (sym tx ∙ ap (λ y. is_transfer y.item.kind) (at_unique f ax b.fetch_at next) ∙ ap is_transfer b.fetch_kind))
            (λ j x before ax tx.
            let o = own_before n j (omega (arith, before, less)) x ax tx in
            (o.behind.b, o.behind.delivery_at_lem, o.behind.delivery_kind, o.delivery_group_lem));
      }

  pub own : (i : ℕ) (e : Event) → At run.events i e → is_transfer e.item.kind ≡ true → Own run.events i e
  own i e at t = own_before (suc i) i (omega arith) e at t

  -- An event is the first of its group, or of the group of the event right before it.
  data Adjoins (j : ℕ) (y : Event) : Type 0 where
    opening : ((i : ℕ) (x : Event) → i < j → At run.events i x → x.group < y.group) → Adjoins j y
    staying : (i : ℕ) (x : Event) → suc i ≡ j → At run.events i x → x.group ≡ y.group → Adjoins j y

  adjoins : (j : ℕ) (y : Event) → At run.events j y → Adjoins j y
  adjoins j y ay = go (known f j y ay)
    where
      go : Known run.events j y → Adjoins j y
      go (commanded c) =
          decided (joins_row y.item)
          (λ t. let z = f.joins j y ay t in staying z.0 z.1 z.2 z.3 z.4)
          (λ t. opening (λ i x before ax. f.opens j i y x ay c t before ax))
      go (fetching w) =
          let o = own w.j w.e w.at w.is_transfer_lem in
          staying w.j w.e
          (one_pop f Popa refl (suc w.j) j o.behind.fetch_at ay o.behind.fetch_kind w.pop.kind_is (o.fetch_group ∙ w.group))
          w.at w.group
      go (delivering w) =
          let o = own w.j w.e w.at w.is_transfer_lem in
          staying (suc w.j) o.behind.a
          (one_pop f Popb refl (suc (suc w.j)) j o.behind.delivery_at_lem ay o.behind.delivery_kind w.pop.kind_is
          (o.delivery_group_lem ∙ w.group))
          o.behind.fetch_at (o.fetch_group ∙ w.group)

  -- Along a serial run the group numbers never fall.
  pub groups_rise : (j i : ℕ) (x y : Event) → At run.events i x → At run.events j y → i < j → x.group ≤ y.group
  groups_rise zero i x y ax ay before = absurd (not-suc-le-zero before)
  groups_rise (suc j) i x y ax ay before = go (adjoins (suc j) y ay) (λ z az less. groups_rise j i x z ax az less)
    where
      go : Adjoins (suc j) y → ((z : Event) → At run.events j z → i < j → x.group ≤ z.group) → x.group ≤ y.group
      go (opening first) earlier = omega (arith, first i x before ax)
      go (staying k z e az g) earlier =
          let here : At run.events j z = rw (suc_inj e) at az in
          compared i j
          (λ less. omega (arith, earlier z here less, g))
          (λ more. omega (arith, more, before))
          (λ same. le_of_eq (ap (λ w. w.group) (at_unique f ax here same) ∙ g))
