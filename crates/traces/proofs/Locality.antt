-- What an item does depends on its own rank alone, and on the cell that it reads; and it changes nothing but its own rank, and the cell that it
-- writes. So an item that is taken in one state is taken in every state that agrees with it there.
use Rattle.model.specs.declared.Action.TheVariants.{Loads, Stores, Assigns, Passes, Issues, Meets}
use Rattle.std.specs.Prelude.{Option, Some, None}
use Prim.Native.Nat.{ℕ, ◌+◌}
use mathlib.Core.Path.{◌≡◌, refl, sym, ◌∙◌, ap, ap₂}
use mathlib.Core.Bool.{true}
use mathlib.Core.List.{List, [], ◌∷◌, ◌++◌, map, map-append}
use lib.Dec.{eqb}
use Rattle.model.specs.declared.Item.{Item}
use Rattle.model.specs.Programs.{Program, Transition}
use Rattle.model.specs.Machine.{State, Request, Delivery, Access, read_of, write_of, address, cell_at, put, put₂, move_to, set_register, set_cell}
use Rattle.model.specs.Machine.{set_requests, set_deliveries, Action, action}
use Rattle.model.specs.Replay.{Event, Origin, Replay, Taken, row_allows, row_after, opened_after, agrees_with, access_of, perform, origin_of}
use Rattle.model.specs.Replay.{after_command, after_fetch, after_delivery, request_for, delivery_for, oldest}
use Rattle.model.proofs.Laws.{decided, put_same, put_other, put₂_row, put₂_other_row}
use Rattle.model.proofs.Replay.{CommandTaken, FetchTaken, DeliveryTaken, ItemTaken, commands, fetches, delivers}
use Rattle.model.proofs.Erasing.{erased_taken, Marked, taken_marked}
use Rattle.record_facts.specs.Facts.{written}
use Rattle.record_facts.proofs.Locals.{registers_kept, control_kept}
use Rattle.record_facts.proofs.Cells.{performed_cells}
use Rattle.traces.proofs.Views.{View}

-- Rows that look alike, with values put into both that look alike.
put_alike : {A B : Type 0} (look : A → B) (f g : ℕ → A) (i : ℕ) (v w : A) → ((j : ℕ) → look (f j) ≡ look (g j)) → look v ≡ look w →
    (j : ℕ) → look (put f i v j) ≡ look (put g i w j)
unfolding put
put_alike look f g i v w same here j = decided (eqb j i) (λ t. rw t here) (λ t. rw t (same j))

rows_alike : {A B : Type 0} (look : A → B) (f g : ℕ → ℕ → A) (r i : ℕ) (v w : A) → ((j : ℕ) → look (f r j) ≡ look (g r j)) → look v ≡ look w →
    (j : ℕ) → look (put₂ f r i v r j) ≡ look (put₂ g r i w r j)
rows_alike look f g r i v w same here j = rw (put₂_row f r i v, put₂_row g r i w) (put_alike look (f r) (g r) i v w same here j)

-- The cells agree where an access is; then it is the same access.
abbrev pub AgreeAt : Option Access → (cells others : ℕ → ℕ → ℕ) → Type 0
AgreeAt None cells others = Unit {0}
AgreeAt (Some a) cells others = cell_at cells a.address ≡ cell_at others a.address

access_same : (r : ℕ) (a : Action) (cells others : ℕ → ℕ → ℕ) → AgreeAt (access_of r a cells) cells others → access_of r a cells ≡ access_of r a others
unfolding access_of
access_same r (Loads x c) cells others agree = ap (λ v. read_of (address r c) v) agree
access_same r (Stores c v) cells others agree = refl
access_same r (Assigns x v) cells others agree = refl
access_same r Passes cells others agree = refl
access_same r (Issues q remote source destination) cells others agree = refl
access_same r Meets cells others agree = refl

-- No action touches the deliveries, and each leaves other ranks' requests as they were.
deliveries_kept : (r : ℕ) (o : Origin) (a : Action) (m : State Origin) → (perform r o a m).deliveries ≡ m.deliveries
unfolding perform set_register set_cell set_requests
deliveries_kept r o (Loads x c) m = refl
deliveries_kept r o (Stores c v) m = refl
deliveries_kept r o (Assigns x v) m = refl
deliveries_kept r o Passes m = refl
deliveries_kept r o (Issues q remote source destination) m = refl
deliveries_kept r o Meets m = refl

requests_kept : (r : ℕ) (o : Origin) (a : Action) (m : State Origin) (k : ℕ) → ¬ (k ≡ r) → (perform r o a m).requests k ≡ m.requests k
unfolding perform set_register set_cell set_requests
requests_kept r o (Loads x c) m k other = refl
requests_kept r o (Stores c v) m k other = refl
requests_kept r o (Assigns x v) m k other = refl
requests_kept r o Passes m k other = refl
requests_kept r o (Issues q remote source destination) m k other = put₂_other_row m.requests r q _ k other
requests_kept r o Meets m k other = refl

module _ (view : View) where
  -- An entry as it is seen.
  abbrev pub seen_request : Request Origin → Request view.Seen
  seen_request a = record { remote = a.remote; source = a.source; destination = a.destination; mark = view.see a.mark }

  abbrev pub seen_delivery : Delivery Origin → Delivery view.Seen
  seen_delivery b = record { remote = b.remote; destination = b.destination; value = b.value; mark = view.see b.mark }

  -- A rank has the same of its own in two states.
  pub record SameRank (r : ℕ) (s t : Replay) : Type 0 where
    pub control : s.machine.control r ≡ t.machine.control r
    pub registers : s.machine.registers r ≡ t.machine.registers r
    pub taken : s.taken r ≡ t.taken r
    pub requests : (q : ℕ) → map seen_request (s.machine.requests r q) ≡ map seen_request (t.machine.requests r q)
    pub deliveries : (q : ℕ) → map seen_delivery (s.machine.deliveries r q) ≡ map seen_delivery (t.machine.deliveries r q)

  -- Two events that differ in no more than how their command's mark is seen.
  abbrev mark_of : Event → Origin
  mark_of e = record { place = e.place; group = e.group }

  pub record SameEvent (x y : Event) : Type 0 where
    pub item : x.item ≡ y.item
    pub queue : x.queue ≡ y.queue
    pub access : x.access ≡ y.access
    pub mark : view.see (mark_of x) ≡ view.see (mark_of y)

  -- How many groups are open then: one more in both, or as many as before.
  pub data Opened (i : Item) (before after before' after' : ℕ) : Type 0 where
    opens : after ≡ opened_after before i → after' ≡ opened_after before' i → Opened i before after before' after'
    keeps : after ≡ before → after' ≡ before' → Opened i before after before' after'

  -- An item taken in another state: into an event that is the same as it is seen, with its rank as it was left.
  pub record TakenToo (P : Program) (s t : Replay) (i : Item) (after : Taken) : Type 0 where
    pub too : Taken
    pub item : ItemTaken P t i too
    pub event : SameEvent after.event too.event
    pub own : SameRank i.rank after.state too.state
    pub row : after.state.row ≡ too.state.row
    pub opened : Opened i s.opened after.state.opened t.opened too.state.opened

  module _ (P : Program) (s t : Replay) (i : Item) (same : SameRank i.rank s t) (row : s.row ≡ t.row)
      (origin : view.see (origin_of s i) ≡ view.see (origin_of t i)) where
    allowed_too : row_allows s.row i ≡ true → row_allows t.row i ≡ true
    allowed_too h = ap (λ k. row_allows k i) (sym row) ∙ h

    -- What an action leaves of its rank: registers and requests go by the action, the rest is the same for all.
    abbrev Left : (m m' : State Origin) → Type 0
    Left m m' =
        (m.registers i.rank ≡ m'.registers i.rank) ×
        ((q : ℕ) → map seen_request (m.requests i.rank q) ≡ map seen_request (m'.requests i.rank q))

    performed : (a : Action) → AgreeAt (access_of i.rank a s.machine.cells) s.machine.cells t.machine.cells →
        Left (perform i.rank (origin_of s i) a s.machine) (perform i.rank (origin_of t i) a t.machine)
    unfolding perform set_register set_cell set_requests access_of
    performed (Loads x c) agree = (
      put₂_row s.machine.registers i.rank x _ ∙ ap₂ (λ f v. put f x v) same.registers agree ∙
          sym (put₂_row t.machine.registers i.rank x _),
      same.requests,
    )
    performed (Stores c v) agree = (same.registers, same.requests)
    performed (Assigns x v) agree = (
      put₂_row s.machine.registers i.rank x v ∙ ap (λ f. put f x v) same.registers ∙
          sym (put₂_row t.machine.registers i.rank x v),
      same.requests,
    )
    performed Passes agree = (same.registers, same.requests)
    performed (Issues q remote source destination) agree = (
      same.registers,
      rows_alike (map seen_request) s.machine.requests t.machine.requests i.rank q _ _ same.requests
          (map-append seen_request (s.machine.requests i.rank q) _ ∙
          ap₂ (λ l m. l ++ record { remote = remote; source = source; destination = destination; mark = m } ∷ []) (same.requests q) origin ∙
          sym (map-append seen_request (t.machine.requests i.rank q) _)),
    )
    performed Meets agree = (same.registers, same.requests)

    command_too : (tr : Transition) (a : Action) → CommandTaken P s i tr a →
        AgreeAt (access_of i.rank a s.machine.cells) s.machine.cells t.machine.cells →
        TakenToo P s t i (after_command P s i tr.target a)
    unfolding move_to
    command_too tr a c agree =
        let access : access_of i.rank a s.machine.cells ≡ access_of i.rank a t.machine.cells =
        access_same i.rank a s.machine.cells t.machine.cells agree in
        let (registers, requests) = performed a agree in
        record {
          too = after_command P t i tr.target a;
          item =
              commands tr a
              (record {
                allowed = allowed_too c.allowed;
                part = c.part;
                found = c.found;
                source = c.source ∙ same.control;
                kind = c.kind;
                acts = λ at. ap (λ registers. action P i.rank registers at tr.command) (sym same.registers) ∙ c.acts at;
                agreed = ap (agrees_with i) (sym access) ∙ c.agreed;
              });
          event = record { item = refl; queue = refl; access = access; mark = origin };
          own =
              record {
                control =
                    put_same (perform i.rank (origin_of s i) a s.machine).control i.rank tr.target ∙
                    sym (put_same (perform i.rank (origin_of t i) a t.machine).control i.rank tr.target);
                registers = registers;
                taken = put_same s.taken i.rank _ ∙ ap (λ n. n + 1) same.taken ∙ sym (put_same t.taken i.rank _);
                requests = requests;
                deliveries = λ q.
                    ap (λ f. map seen_delivery (f i.rank q)) (deliveries_kept i.rank (origin_of s i) a s.machine) ∙ same.deliveries q ∙
                    ap (λ f. map seen_delivery (f i.rank q)) (sym (deliveries_kept i.rank (origin_of t i) a t.machine));
              };
          row = ap (λ k. row_after P.header.ranks k i) row;
          opened = opens refl refl;
        }

    -- The entry that a pop takes, as it is seen, is the one that it takes in the other state.
    fetch_too : (a : Request Origin) (rest : List (Request Origin)) → FetchTaken s i a rest →
        cell_at s.machine.cells a.source ≡ cell_at t.machine.cells a.source → TakenToo P s t i (after_fetch s i a rest)
    unfolding set_requests set_deliveries
    fetch_too a rest f agree =
        let q : ℕ = i.queue in
        let m : Marked seen_request (request_for i) (t.machine.requests i.rank q) (seen_request a) (map seen_request rest) =
        taken_marked seen_request (request_for i) (t.machine.requests i.rank q)
        (ap (oldest (request_for i)) (sym (same.requests q)) ∙
        erased_taken seen_request (request_for i) (s.machine.requests i.rank q) f.chosen) in
        let source : m.entry.source ≡ a.source = ap (λ (x : Request view.Seen). x.source) m.here in
        let value : cell_at s.machine.cells a.source ≡ cell_at t.machine.cells m.entry.source =
        agree ∙ ap (cell_at t.machine.cells) (sym source) in
        let access : read_of a.source (cell_at s.machine.cells a.source) ≡
        read_of m.entry.source (cell_at t.machine.cells m.entry.source) = ap₂ read_of (sym source) value in
        record {
          too = after_fetch t i m.entry m.rest;
          item =
              fetches m.entry m.rest
              (record {
                allowed = allowed_too f.allowed;
                kind_is = f.kind_is;
                chosen = m.chosen;
                agreed = ap (agrees_with i) (sym access) ∙ f.agreed;
              });
          event = record { item = refl; queue = refl; access = access; mark = ap (λ (x : Request view.Seen). x.mark) (sym m.here) };
          own =
              record {
                control = same.control;
                registers = same.registers;
                taken = same.taken;
                requests =
                    rows_alike (map seen_request) s.machine.requests t.machine.requests i.rank q rest m.rest same.requests
                    (sym m.others);
                deliveries =
                    rows_alike (map seen_delivery) s.machine.deliveries t.machine.deliveries i.rank q _ _ same.deliveries
                    (map-append seen_delivery (s.machine.deliveries i.rank q) _ ∙
                    ap₂ (λ l (x : Delivery view.Seen). l ++ x ∷ []) (same.deliveries q)
                    (ap₂ (λ (x : Request view.Seen) (v : ℕ). record { remote = x.remote; destination = x.destination; value = v; mark = x.mark })
                    (sym m.here) value) ∙
                    sym (map-append seen_delivery (t.machine.deliveries i.rank q) _));
              };
          row = row;
          opened = keeps refl refl;
        }

    delivery_too : (b : Delivery Origin) (rest : List (Delivery Origin)) → DeliveryTaken s i b rest → TakenToo P s t i (after_delivery s i b rest)
    unfolding set_deliveries set_cell
    delivery_too b rest d =
        let q : ℕ = i.queue in
        let m : Marked seen_delivery (delivery_for i) (t.machine.deliveries i.rank q) (seen_delivery b) (map seen_delivery rest) =
        taken_marked seen_delivery (delivery_for i) (t.machine.deliveries i.rank q)
        (ap (oldest (delivery_for i)) (sym (same.deliveries q)) ∙
        erased_taken seen_delivery (delivery_for i) (s.machine.deliveries i.rank q) d.chosen) in
        let access : write_of b.destination b.value ≡ write_of m.entry.destination m.entry.value =
        ap (λ (x : Delivery view.Seen). write_of x.destination x.value) (sym m.here) in
        record {
          too = after_delivery t i m.entry m.rest;
          item =
              delivers m.entry m.rest
              (record {
                allowed = allowed_too d.allowed;
                kind_is = d.kind_is;
                chosen = m.chosen;
                agreed = ap (agrees_with i) (sym access) ∙ d.agreed;
              });
          event = record { item = refl; queue = refl; access = access; mark = ap (λ (x : Delivery view.Seen). x.mark) (sym m.here) };
          own =
              record {
                control = same.control;
                registers = same.registers;
                taken = same.taken;
                requests = same.requests;
                deliveries =
                    rows_alike (map seen_delivery) s.machine.deliveries t.machine.deliveries i.rank q rest m.rest same.deliveries
                    (sym m.others);
              };
          row = row;
          opened = keeps refl refl;
        }

    -- An item that is taken in one state is taken in another that agrees with it on its rank, its row and the cell of its access.
    pub taken_too : {after : Taken} → ItemTaken P s i after → AgreeAt after.event.access s.machine.cells t.machine.cells →
        TakenToo P s t i after
    taken_too (commands tr a c) agree = command_too tr a c agree
    taken_too (fetches a rest f) agree = fetch_too a rest f agree
    taken_too (delivers b rest d) agree = delivery_too b rest d

  -- An item leaves every other rank as it was.
  pub left_alone : (P : Program) (s : Replay) (i : Item) {after : Taken} → ItemTaken P s i after → (r : ℕ) → ¬ (r ≡ i.rank) →
      SameRank r s after.state
  unfolding move_to set_requests set_deliveries set_cell
  left_alone P s i (commands tr a c) r other =
      let origin : Origin = origin_of s i in
      record {
        control =
            sym
            (put_other (perform i.rank origin a s.machine).control i.rank tr.target r other ∙
            ap (λ control. control r) (control_kept i.rank origin a s.machine));
        registers = sym (registers_kept i.rank origin a s.machine r other);
        taken = sym (put_other s.taken i.rank _ r other);
        requests = λ q. ap (λ f. map seen_request (f q)) (sym (requests_kept i.rank origin a s.machine r other));
        deliveries = λ q. ap (λ f. map seen_delivery (f r q)) (sym (deliveries_kept i.rank origin a s.machine));
      }
  left_alone P s i (fetches a rest f) r other =
      record {
        control = refl;
        registers = refl;
        taken = refl;
        requests = λ q. ap (λ f. map seen_request (f q)) (sym (put₂_other_row s.machine.requests i.rank i.queue rest r other));
        deliveries = λ q. ap (λ f. map seen_delivery (f q)) (sym (put₂_other_row s.machine.deliveries i.rank i.queue _ r other));
      }
  left_alone P s i (delivers b rest d) r other =
      record {
        control = refl;
        registers = refl;
        taken = refl;
        requests = λ q. refl;
        deliveries = λ q. ap (λ f. map seen_delivery (f q)) (sym (put₂_other_row s.machine.deliveries i.rank i.queue rest r other));
      }

-- An item writes its access into the cells, and nothing else.
pub taken_cells : (P : Program) (s : Replay) (i : Item) {after : Taken} → ItemTaken P s i after →
    after.state.machine.cells ≡ written s.machine.cells after.event.access
unfolding move_to set_requests set_deliveries set_cell written
taken_cells P s i (commands tr a c) = performed_cells i.rank (origin_of s i) a s.machine
taken_cells P s i (fetches a rest f) = refl
taken_cells P s i (delivers b rest d) = refl
