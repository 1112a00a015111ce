-- The events of a record, group after group. The arrangement puts groups one behind another and keeps each as it is; so of any events that come
-- group by group already, in the order's order, it changes nothing. That is all of a rank's commands, and all that happens at a cell but for reads
-- in other groups.
use Rattle.std.specs.Prelude.{Some, slice_get}
use Rattle.model.proofs.Options.{none-ne-some}
use Prim.Native.Nat.{ℕ, zero, suc, ◌<◌}
use mathlib.Core.Path.{◌≡◌, refl, sym, ◌∙◌, ap}
use mathlib.Core.Bool.{Bool, true, not, true≢false}
use mathlib.Core.List.{List, [], ◌∷◌, ◌++◌}
use mathlib.Core.Logic.{◌⊎◌, inl, inr}
use native.Mathlib.Nat.{not-suc-le-zero, le_of_suc-le-suc, suc_inj, suc-ne-zero}
use borrow.Author.Tests.{eq-eqb, ne_eqb, eqb-true}
use Rattle.model.specs.Choice.{select}
use Rattle.model.specs.Replay.{Event}
use Rattle.model.specs.HappensBefore.{At}
use Rattle.model.specs.Checks.{in_group, arranged}
use Rattle.model.specs.Lists.{Precedes}
use Rattle.model.proofs.Selections.{select_append, select_commute, select_from, Selected, select_all, selected_rises, passing_first}
use Rattle.serializability.specs.Orders.{Dependent, Forward}

-- The events outside a group.
abbrev pub outside : ℕ → Event → Bool
outside g e = not (in_group g e)

-- Selecting before and after is the same.
pub arranged_select : (p : Event → Bool) (groups : List ℕ) (events : List Event) →
    select p (arranged groups events) ≡ arranged groups (select p events)
unfolding select arranged
arranged_select p [] events = refl
arranged_select p (g ∷ groups) events =
    select_append p (select (in_group g) events) (arranged groups events) ∙
    ap (λ r. r ++ select p (arranged groups events)) (select_commute p (in_group g) events) ∙
    ap (select (in_group g) (select p events) ++◌) (arranged_select p groups events)

-- Each group at most once, and events that come by groups in that order.
pub Distinct : List ℕ → Type 0
Distinct groups = (i j g : ℕ) → slice_get groups i ≡ Some g → slice_get groups j ≡ Some g → i ≡ j

pub record Ordered (groups : List ℕ) (events : List Event) : Type 0 where
  pub member : (i : ℕ) (x : Event) → At events i x → (k : ℕ) × (slice_get groups k ≡ Some x.group)
  pub order : (i j : ℕ) (x y : Event) → At events i x → At events j y → i < j → (x.group ≡ y.group) ⊎ Precedes groups x.group y.group

-- Leaving a group out does not matter to the others.
without_group : (g : ℕ) (groups : List ℕ) (events : List Event) → ((i : ℕ) → ¬ (slice_get groups i ≡ Some g)) →
    arranged groups (select (outside g) events) ≡ arranged groups events
unfolding arranged
without_group g [] events h = refl
without_group g (k ∷ groups) events h =
    let other : (i : ℕ) (x : Event) → At (select (in_group k) events) i x → outside g x ≡ true =
    λ i x hx.
    let s = select_from (in_group k) events i hx in
    ap not (ne_eqb x.group g (λ e. h 0 (ap Some (sym (eqb-true x.group k s.passes) ∙ e)))) in
    ap (◌++ arranged groups (select (outside g) events))
    (select_commute (in_group k) (outside g) events ∙ select_all (outside g) (select (in_group k) events) other) ∙
    ap (select (in_group k) events ++◌) (without_group g groups events (λ i. h (suc i)))

-- What is not the first group stands among the others.
precedes_tail : {g : ℕ} {groups : List ℕ} {x y : ℕ} → ¬ (x ≡ g) → Precedes (g ∷ groups) x y → Precedes groups x y
precedes_tail {g} {groups} {x} {y} other (e) = go e.i e.j e.first e.second e.before
  where
    go : (i j : ℕ) → slice_get (g ∷ groups) i ≡ Some x → slice_get (g ∷ groups) j ≡ Some y → i < j → Precedes groups x y
    go zero j first second before =
        let same : g ≡ x = cc in
        absurd (other (sym same))
    go (suc i) zero first second before = absurd (not-suc-le-zero before)
    go (suc i) (suc j) first second before =
        record { i = i; j = j; first = first; second = second; before = le_of_suc-le-suc before }

member_tail : {g x : ℕ} (groups : List ℕ) → ¬ (x ≡ g) → (k : ℕ) → slice_get (g ∷ groups) k ≡ Some x → (i : ℕ) × (slice_get groups i ≡ Some x)
member_tail {g} {x} groups other zero h =
    let same : g ≡ x = cc in
    absurd (other (sym same))
member_tail groups other (suc k) h = (k, h)

-- What is not of the first group is ordered by the others.
ordered_rest : (g : ℕ) (groups : List ℕ) (events : List Event) → Ordered (g ∷ groups) events → Ordered groups (select (outside g) events)
ordered_rest g groups events o =
    record {
      member =
          λ i x h.
          let s = select_from (outside g) events i h in
          let m = o.member s.i x s.at in
          member_tail groups (left_out x s.passes) m.0 m.1;
      order =
          λ i j x y hx hy before.
          let sx = select_from (outside g) events i hx in
          let sy = select_from (outside g) events j hy in
          later x y (left_out x sx.passes)
          (o.order sx.i sy.i x y sx.at sy.at (selected_rises sx sy before));
    }
  where
    left_out : (x : Event) → outside g x ≡ true → ¬ (x.group ≡ g)
    left_out x t e = true≢false (sym t ∙ ap not (eq-eqb x.group g e))

    later : (x y : Event) → ¬ (x.group ≡ g) → (x.group ≡ y.group) ⊎ Precedes (g ∷ groups) x.group y.group →
        (x.group ≡ y.group) ⊎ Precedes groups x.group y.group
    later x y other (inl same) = inl same
    later x y other (inr e) = inr (precedes_tail other e)

-- The first group's events are the front.
group_first : (g : ℕ) (groups : List ℕ) (events : List Event) → Distinct (g ∷ groups) → Ordered (g ∷ groups) events →
    select (in_group g) events ++ select (outside g) events ≡ events
unfolding Distinct
group_first g groups events distinct o =
    passing_first (in_group g) events
    (λ i j x y hx hy before t. eq-eqb x.group g (go x y (eqb-true y.group g t) (o.order i j x y hx hy before)))
  where
    go : (x y : Event) → y.group ≡ g → (x.group ≡ y.group) ⊎ Precedes (g ∷ groups) x.group y.group → x.group ≡ g
    go x y hy (inl same) = same ∙ hy
    go x y hy (inr e) =
        let zero_place : 0 ≡ e.j = distinct 0 e.j g refl (e.second ∙ ap Some hy) in
        absurd (not-suc-le-zero (rw (← zero_place) at e.before))

-- Events that come by groups, in the order's order, are their own arrangement.
pub arranged_ordered : (groups : List ℕ) (events : List Event) → Distinct groups → Ordered groups events → arranged groups events ≡ events
unfolding arranged Distinct
arranged_ordered [] [] distinct o = refl
arranged_ordered [] (x ∷ events) distinct o = absurd (none-ne-some _ (o.member 0 x refl).1)
arranged_ordered (g ∷ groups) events distinct o =
    let absent : (i : ℕ) → ¬ (slice_get groups i ≡ Some g) = λ i h. suc-ne-zero i (distinct (suc i) 0 g h refl) in
    ap (select (in_group g) events ++◌)
    (sym (without_group g groups events absent) ∙
    arranged_ordered groups (select (outside g) events) (λ i j k hi hj. suc_inj (distinct (suc i) (suc j) k hi hj))
    (ordered_rest g groups events o)) ∙
    group_first g groups events distinct o

-- So the arrangement has the same selection as the record wherever any two selected events are of one group or dependent.
pub arranged_same : (p : Event → Bool) {groups : List ℕ} {opened : ℕ} (events : List Event) → Forward events opened groups →
    ((i : ℕ) (x : Event) → At events i x → x.group < opened) →
    ((i j : ℕ) (x y : Event) → At events i x → At events j y → i < j → p x ≡ true → p y ≡ true → (x.group ≡ y.group) ⊎ Dependent x y) →
    select p (arranged groups events) ≡ select p events
unfolding Distinct
arranged_same p {groups} events f bound tied =
    arranged_select p groups events ∙
    arranged_ordered groups (select p events) f.once
    (record {
      member = λ i x h. let s = select_from p events i h in f.placed x.group (bound s.i x s.at);
      order =
          λ i j x y hx hy before.
          let sx = select_from p events i hx in
          let sy = select_from p events j hy in
          let rise : sx.i < sy.i = selected_rises sx sy before in
          by sx sy rise (tied sx.i sy.i x y sx.at sy.at rise sx.passes sy.passes);
    })
  where
    by : {i j : ℕ} {x y : Event} (sx : Selected p events i x) (sy : Selected p events j y) → sx.i < sy.i →
        (x.group ≡ y.group) ⊎ Dependent x y → (x.group ≡ y.group) ⊎ Precedes groups x.group y.group
    by sx sy rise (inl same) = inl same
    by {x = x} {y = y} sx sy rise (inr d) = f.along sx.i sy.i x y sx.at sy.at rise d

-- The arrangement's events are the record's, and its items are the order's.
either_member : {x : Event} (l m : List Event) {C : Type 0} → ((k : ℕ) → At l k x → C) → ((k : ℕ) → At m k x → C) → (i : ℕ) → At (l ++ m) i x → C
either_member [] m left right i h = right i h
either_member (y ∷ l) m left right zero h = left 0 h
either_member (y ∷ l) m left right (suc i) h = either_member l m (λ k. left (suc k)) right i h

pub arranged_member : (groups : List ℕ) (events : List Event) (i : ℕ) (x : Event) → At (arranged groups events) i x → (j : ℕ) × At events j x
unfolding arranged
arranged_member [] events i x h = absurd (none-ne-some _ h)
arranged_member (g ∷ groups) events i x h =
    either_member (select (in_group g) events) (arranged groups events)
    (λ k here. let s = select_from (in_group g) events k here in (s.i, s.at))
    (λ k there. arranged_member groups events k x there)
    i h
