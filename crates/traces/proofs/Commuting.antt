-- Two items of different ranks, neither a bar, whose accesses do not conflict, may be taken in either order: each is taken where the other was, since
-- neither touches the other's rank nor the cell of its access; and both orders leave states that are alike but for the numbers of groups.
use Rattle.std.specs.Prelude.{Option, Some, None}
use Prim.Native.Nat.{ℕ}
use mathlib.Core.Path.{◌≡◌, refl, sym, ◌∙◌, ap, subst}
use mathlib.Core.Bool.{true, false, true≢false, false≢true}
use lib.Dec.{eqb}
use borrow.Author.Tests.{eqb-true, eqb-false}
use Rattle.model.specs.declared.Address.{Address}
use Rattle.model.specs.declared.Item.{Item}
use Rattle.model.specs.Refusals.{Ok}
use Rattle.model.specs.ItemKinds.{is_bar}
use Rattle.model.specs.Programs.{Program}
use Rattle.model.specs.Machine.{Access, address}
use Rattle.model.specs.Replay.{Replay, Taken, take_item, row_after, same_address}
use Rattle.model.specs.HappensBefore.{conflict}
use Rattle.model.proofs.Laws.{decided, and-true, true_and}
use Rattle.model.proofs.Replay.{ItemTaken, commands, fetches, delivers, takes_item, same_address_true, true_same_address}
use Rattle.record_facts.specs.Facts.{written}
use Rattle.serializability.proofs.Cells.{writes_to, written_elsewhere, written_agree}
use Rattle.ordering.proofs.Links.{conflict_sym}
use Rattle.traces.proofs.Views.{by_place}
use Rattle.traces.proofs.Locality.{SameRank, SameEvent, AgreeAt, TakenToo, taken_too, left_alone, taken_cells}
use Rattle.traces.proofs.Following.{same_sym, same_trans, Related}

-- Every cell matters; groups may be numbered otherwise.
abbrev pub EveryCell : ℕ → ℕ → Type 0
EveryCell r c = Unit {0}

abbrev pub Like : Replay → Replay → Type 0
Like = Related by_place EveryCell

-- Accesses that do not conflict: where the one writes, the other is elsewhere.
elsewhere : (x : Option Access) (a : Access) → conflict x (Some a) ≡ false → writes_to a.address x ≡ false
unfolding conflict writes_to
elsewhere None a h = refl
elsewhere (Some b) a h =
    decided (same_address a.address b.address)
    (λ same.
    let one : b.address ≡ a.address = sym (same_address_true a.address b.address same) in
    let meet : same_address b.address a.address ≡ true = true_same_address b.address a.address one in
    rw same (decided b.writes (λ w. absurd (true≢false (sym (rw (meet, w) refl) ∙ h))) (λ w. w)))
    (λ other. rw other refl)

agree_after : (cells : ℕ → ℕ → ℕ) (x y : Option Access) → conflict x y ≡ false → AgreeAt y (written cells x) cells
agree_after cells x None h = tt
agree_after cells x (Some a) h = written_elsewhere cells x a.address (elsewhere x a h)

-- Two such accesses leave the same cells in either order.
written_both : (cells : ℕ → ℕ → ℕ) (x y : Option Access) → conflict x y ≡ false → (r c : ℕ) →
    written (written cells x) y r c ≡ written (written cells y) x r c
unfolding writes_to written
written_both cells x y h r c =
    decided (writes_to (address r c) y)
    (λ w.
    let apart : writes_to (address r c) x ≡ false = only_one x y h (address r c) w in
    written_same y (address r c) w (written cells x) cells ∙ sym (written_elsewhere (written cells y) x (address r c) apart))
    (λ w.
    written_elsewhere (written cells x) y (address r c) w ∙
    written_agree cells (written cells y) x (address r c) (sym (written_elsewhere cells y (address r c) w)))
  where
    only_one : (x y : Option Access) → conflict x y ≡ false → (p : Address) → writes_to p y ≡ true → writes_to p x ≡ false
    only_one x None h p w = absurd (false≢true w)
    only_one x (Some b) h p w =
        let (here, writes) = and-true (same_address p b.address) b.writes w in
        subst (λ q. writes_to q x ≡ false) (sym (same_address_true p b.address here)) (elsewhere x b h)

    written_same : (y : Option Access) (p : Address) → writes_to p y ≡ true → (cells others : ℕ → ℕ → ℕ) →
        written cells y p.rank p.cell ≡ written others y p.rank p.cell
    written_same None p w cells others = absurd (false≢true w)
    written_same (Some b) p w cells others =
        let (here, writes) = and-true (same_address p b.address) b.writes w in
        let (rank, cell) = and-true (eqb p.rank b.address.rank) (eqb p.cell b.address.cell) here in
        rw (writes, true_and (eqb p.rank b.address.rank) (eqb p.cell b.address.cell) rank cell) refl

-- An item that is no bar leaves the row as it was.
row_kept : (P : Program) (s : Replay) (i : Item) {after : Taken} → ItemTaken P s i after → is_bar i.kind ≡ false → after.state.row ≡ s.row
unfolding row_after
row_kept P s i (commands tr a c) h = rw h refl
row_kept P s i (fetches a rest f) h = refl
row_kept P s i (delivers b rest d) h = refl

agree_sym : (x : Option Access) (cells others : ℕ → ℕ → ℕ) → AgreeAt x cells others → AgreeAt x others cells
agree_sym None cells others h = tt
agree_sym (Some a) cells others h = sym h

-- Two items one after the other, and the same the other way round.
pub record Exchanged (P : Program) (s : Replay) (x y : Item) (first second : Taken) : Type 0 where
  pub then : Taken
  pub last : Taken
  pub takes_first : (at : ℕ) → take_item P s at y ≡ Ok then
  pub takes_second : (at : ℕ) → take_item P then.state at x ≡ Ok last
  pub same_second : SameEvent by_place second.event then.event
  pub same_first : SameEvent by_place first.event last.event
  pub related : Like second.state last.state

pub exchanged : (P : Program) (s : Replay) (x y : Item) {first second : Taken} → ItemTaken P s x first → ItemTaken P first.state y second →
    ¬ (x.rank ≡ y.rank) → is_bar x.kind ≡ false → is_bar y.kind ≡ false → conflict first.event.access second.event.access ≡ false →
    Exchanged P s x y first second
exchanged P s x y {first} {second} tx ty differ bx by free =
    let s₁ : Replay = first.state in
    let cells₁ : s₁.machine.cells ≡ written s.machine.cells first.event.access = taken_cells P s x tx in
    let own_y : SameRank by_place y.rank s₁ s = same_sym by_place (left_alone by_place P s x tx y.rank (λ e. differ (sym e))) in
    let one : TakenToo by_place P s₁ s y second =
    taken_too by_place P s₁ s y own_y (row_kept P s x tx bx) own_y.taken ty
    (rw cells₁ (agree_after s.machine.cells first.event.access second.event.access free)) in
    let u₁ : Replay = one.too.state in
    let cells_u : u₁.machine.cells ≡ written s.machine.cells second.event.access =
    taken_cells P s y one.item ∙ ap (written s.machine.cells) (sym one.event.access) in
    let own_x : SameRank by_place x.rank s u₁ = left_alone by_place P s y one.item x.rank differ in
    let two : TakenToo by_place P s u₁ x first =
    taken_too by_place P s u₁ x own_x (sym (row_kept P s y one.item by)) own_x.taken tx
    (agree_sym first.event.access u₁.machine.cells s.machine.cells
    (rw cells_u (agree_after s.machine.cells second.event.access first.event.access
    (conflict_sym second.event.access first.event.access ∙ free)))) in
    record {
      then = one.too;
      last = two.too;
      takes_first = λ at. takes_item P s at y one.item;
      takes_second = λ at. takes_item P u₁ at x two.item;
      same_second = one.event;
      same_first = two.event;
      related =
          record {
            ranks = λ r.
                decided (eqb r x.rank)
                (λ is_x.
                rw (eqb-true r x.rank is_x)
                (same_trans by_place (same_sym by_place (left_alone by_place P s₁ y ty x.rank differ)) two.own))
                (λ not_x.
                decided (eqb r y.rank)
                (λ is_y.
                rw (eqb-true r y.rank is_y)
                (same_trans by_place one.own (left_alone by_place P u₁ x two.item y.rank (λ e. differ (sym e)))))
                (λ not_y.
                let ox = eqb-false r x.rank not_x in
                let oy = eqb-false r y.rank not_y in
                same_trans by_place
                (same_sym by_place (same_trans by_place (left_alone by_place P s x tx r ox) (left_alone by_place P s₁ y ty r oy)))
                (same_trans by_place (left_alone by_place P s y one.item r oy) (left_alone by_place P u₁ x two.item r ox))));
            row =
                row_kept P s₁ y ty by ∙ row_kept P s x tx bx ∙ sym (row_kept P s y one.item by) ∙ sym (row_kept P u₁ x two.item bx);
            opened = tt;
            cells = λ r c care.
                ap (λ cells. cells r c) (taken_cells P s₁ y ty ∙ ap (λ cells. written cells second.event.access) cells₁) ∙
                written_both s.machine.cells first.event.access second.event.access free r c ∙
                ap (λ cells. cells r c)
                (ap (λ cells. written cells first.event.access) (sym cells_u) ∙ ap (written u₁.machine.cells) two.event.access ∙
                sym (taken_cells P u₁ x two.item));
          };
    }
