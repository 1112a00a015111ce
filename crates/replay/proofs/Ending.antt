-- A record that was read or refused, and the ends of its items, each with the definition's.
use Prim.Native.Nat.{ℕ}
use mathlib.Core.Path.{◌≡◌, refl, sym, ◌∙◌}
use mathlib.Core.Bool.{true, false, not}
use mathlib.Core.List.{List}
use native.Mathlib.Omega.{arith}
use lib.Dec.{eqb}
use lib.ListN.{length}
use borrow.Author.Tests.{eq-eqb, ne_eqb, not-true, not-false}
use Rattle.model.specs.declared.Header.{Header}
use Rattle.model.specs.declared.Item.{Item}
use Rattle.model.specs.declared.Refusal.{Refusal}
use Rattle.model.specs.Refusals.{Result, Ok, Err, ◌>>=◌, barrier_row, queues_left}
use Rattle.model.specs.Programs.{Program}
use Rattle.model.specs.Records.{read_record}
use Rattle.model.specs.Machine.{Start}
use Rattle.model.specs.Replay.{begin, take_items, Replayed, quiet, replay, at_end}
use Rattle.model.specs.Checks.{Accepted}
use Rattle.model.proofs.Laws.{decided, refused≢ok, ok_injective}
use Rattle.record.specs.Places.{record_count}
use Rattle.record.proofs.Places.{record_items, readable_items}
use Rattle.memory.specs.Tables.{Table}
use Rattle.runs.specs.declared.Reached.{Reached}
use Rattle.runs.specs.Items.{SoFar}
use Rattle.runs.specs.Promise.{TakesAs, reached_in, so_far_of, Runs}
use Rattle.runs.proofs.Simulation.{events_counted}
use Rattle.replay.specs.Handed.{Acceptance, Lent, lent, Hands, Answers, left_by_record, accept_items, accept_record, TakesRecord, end_of}

-- A refusal hands nothing over.
pub answers_refused : (accepted : Result Accepted) {told : Table} {after : Lent} {x : Refusal} → accepted ≡ Err x →
    Answers accepted told after (Err x)
answers_refused accepted e = record { answers = rw e; hands = λ a h. absurd (refused≢ok (sym e ∙ h)) }

-- The end of items that were all taken, test by test.
module _ (header : Header) (items : ℕ) (reached : Reached) where
  pub ends_open : (reached.row ≡ 0 → ⊥) → Err (record { number = barrier_row; place = items }) ≡ end_of header items reached
  ends_open waits = rw (ne_eqb reached.row 0 waits)

  module _ (closed : reached.row ≡ 0) where
    pub ends_left : not reached.quiet ≡ true →
        Err (record { number = queues_left; place = items }) ≡ end_of header items reached
    ends_left left = rw (eq-eqb reached.row 0 closed, not-true reached.quiet left)

    pub ends_accepted : not reached.quiet ≡ false → Ok (record { header = header; items = items; groups = reached.groups }) ≡ end_of header items reached
    ends_accepted none = rw (eq-eqb reached.row 0 closed, not-false reached.quiet none)

-- The ends of the definition's replay, by its items: one is refused; a row is open; a queue is not empty; or all is accepted.
module _ (P : Program) (start : Start) (items : List Item) where
  accepts_none : {x : Refusal} → take_items P (begin start) 0 items ≡ Err x → accept_items P start items ≡ Err x
  unfolding accept_items replay
  accepts_none h = rw h

  module _ {run : Replayed} (h : take_items P (begin start) 0 items ≡ Ok run) where
    row_open : eqb run.last.row 0 ≡ false → accept_items P start items ≡ Err (record { number = barrier_row; place = length items })
    unfolding accept_items replay at_end
    row_open t = rw (h, t)

    queues_left_lem : eqb run.last.row 0 ≡ true → quiet P run.last.machine ≡ false →
        accept_items P start items ≡ Err (record { number = queues_left; place = length items })
    unfolding accept_items replay at_end
    queues_left_lem t u = rw (h, t, u)

    accepts : eqb run.last.row 0 ≡ true → quiet P run.last.machine ≡ true →
        accept_items P start items ≡ Ok (record { program = P; readings = start; run = run })
    unfolding accept_items replay at_end
    accepts t u = rw (h, t, u)

-- What the definition's acceptance is, by what was answered of its items.
module _ (P : Program) (start : Start) (items : List Item) {end : ℕ} {told : Table} {after : Lent} {r : SoFar}
    (takes : TakesAs P end (take_items P (begin start) 0 items) told after.cells after.trail r) where
  abbrev accepted : Result Accepted
  accepted = accept_items P start items

  refused_so : {x : Refusal} → r ≡ Err x → Answers accepted told after (Err x)
  refused_so {x} is = answers_refused accepted (accepts_none P start items (go (take_items P (begin start) 0 items) takes.answers))
    where
      go : (m : Result Replayed) → r ≡ so_far_of P end m → m ≡ Err x
      go (Ok run) h = let z : ◌≡◌ {A = ℕ} 0 1 = cc in absurd (omega arith)
      go (Err y) h = cc

  -- The end of items that were all taken.
  hands_all : {run : Replayed} → take_items P (begin start) 0 items ≡ Ok run → {a : Accepted} → accepted ≡ Ok a →
      accepted ≡ Ok (record { program = P; readings = start; run = run }) → Hands a told after
  hands_all {run} all {a} is is_run =
      let same : record { program = P; readings = start; run = run } ≡ a = ok_injective (sym is_run ∙ is) in
      rw (← same) (record { cells = takes.leaves run all; trail = takes.tells run all })

  ends_so : {run : Replayed} → take_items P (begin start) 0 items ≡ Ok run → Answers accepted told after (end_of P.header (length items) (reached_in P end run))
  ends_so {run} all =
      decided (eqb run.last.row 0)
      (λ t. decided (quiet P run.last.machine)
      (λ u.
      let is = accepts P start items all t u in
      record { answers = rw (t, u, is, events_counted P (begin start) 0 items all); hands = λ a h. hands_all all h is })
      (λ u. rw (t, u) (answers_refused accepted (queues_left_lem P start items all t u))))
      (λ t. rw t (answers_refused accepted (row_open P start items all t)))

  taken_so : {reached : Reached} → r ≡ Ok reached → Answers accepted told after (end_of P.header (length items) reached)
  taken_so {reached} is = go (take_items P (begin start) 0 items) refl takes.answers
    where
      go : (m : Result Replayed) → take_items P (begin start) 0 items ≡ m → r ≡ so_far_of P end m →
          Answers accepted told after (end_of P.header (length items) reached)
      go (Ok run) all h = let same : reached_in P end run ≡ reached = cc in rw (← same) (ends_so all)
      go (Err y) all h = let z : ◌≡◌ {A = ℕ} 0 1 = cc in absurd (omega arith)

-- The definition's `accept` of a record, by its reader's result.
module _ (P : Program) (readings : Start) (recorded : List ℕ) {header : Header} (same : P.header ≡ header) where
  record_refused : {x : Refusal} → read_record header recorded ≡ Err x → accept_record P readings recorded ≡ Err x
  unfolding accept_record
  record_refused h = rw (same, h)

  record_taken : {items : List Item} → read_record header recorded ≡ Ok items → accept_record P readings recorded ≡ accept_items P readings items
  unfolding accept_record
  record_taken h = rw (same, h)

-- The record, by what its reader answers: it is refused, or its items are taken, and one is refused, or all come to an end.
module _ (program starts : List ℕ) (header : Header) (recorded : List ℕ) {cells trail : Table} where
  pub record_unread : {x : Refusal} {answer : Acceptance} → record_count header recorded ≡ Err x → answer ≡ Err x →
      TakesRecord program starts header recorded (lent cells trail) (lent cells trail) answer
  unfolding left_by_record record_count
  record_unread {x} is a =
      let e = unreadable (read_record header recorded) is in
      rw a
      (record {
        accepts = λ given. answers_refused (accept_record given.P given.readings recorded) (record_refused given.P given.readings recorded given.loaded.same e);
        leaves = rw e;
      })
    where
      unreadable : (m : Result (List Item)) → (m >>= (λ items. Ok (length items))) ≡ Err x → m ≡ Err x
      unreadable (Ok items) h = let z : ◌≡◌ {A = ℕ} 0 1 = cc in absurd (omega arith)
      unreadable (Err y) h = cc

  module _ {count : ℕ} (readable : record_count header recorded ≡ Ok count) {cells' trail' : Table} {r : SoFar}
      (runs : Runs program starts header recorded count cells trail cells' trail' r) where
    abbrev before : Lent
    before = lent cells trail

    abbrev after : Lent
    after = lent cells' trail'

    -- The items, and that they are all of the record.
    found : (items : List Item) × (read_record header recorded ≡ Ok items) × (length items ≡ count)
    found = readable_items header recorded (sym readable)

    leaves : after ≡ left_by_record program starts header recorded before
    unfolding left_by_record
    leaves = let (items, is, l) = found in rw (is, l, runs.leaves, runs.tells)

    abbrev Ends : Acceptance → Type 0
    Ends answer = (P : Program) (start : Start) (items : List Item) (end : ℕ) → P.header ≡ header → length items ≡ count →
        TakesAs P end (take_items P (begin start) 0 items) trail cells' trail' r → Answers (accept_items P start items) trail after answer

    takes_record : {answer : Acceptance} → Ends answer → TakesRecord program starts header recorded before after answer
    takes_record ends =
        let (items, is, l) = found in
        let all = record_items header recorded is in
        record {
          accepts = λ given.
              rw (record_taken given.P given.readings recorded given.loaded.same is)
              (ends given.P given.readings items (length recorded) given.loaded.same l
              (runs.agrees
              (record {
                P = given.P;
                loaded = given.loaded;
                readings = given.readings;
                table = given.table;
                items = items;
                end = length recorded;
                from = all.items_from;
                counted = l;
                few = rw (← l) all.limit;
              })));
          leaves = leaves;
        }

    pub items_refused : {x : Refusal} {answer : Acceptance} → r ≡ Err x → answer ≡ Err x →
        TakesRecord program starts header recorded before after answer
    items_refused is a = rw a (takes_record (λ P start items end same l takes. refused_so P start items takes is))

    pub items_taken : {reached : Reached} {answer : Acceptance} → r ≡ Ok reached → answer ≡ end_of header count reached →
        TakesRecord program starts header recorded before after answer
    items_taken is ends =
        rw ends (takes_record (λ P start items end same l takes. rw (← same, ← l) (taken_so P start items takes is)))
