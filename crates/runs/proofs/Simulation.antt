-- The items on arrays and the definition's items go alike: from arrays that stand for a state, both refuse alike, or the arrays stand for the state
-- after the last item and the trail has told of every event.
use Prim.Native.Nat.{ℕ, suc, ◌+◌, ◌≤◌, ◌<◌}
use mathlib.Core.Path.{◌≡◌, refl, sym, ap, subst, ◌∙◌}
use mathlib.Core.List.{List, [], ◌∷◌, ◌++◌, map, append_assoc, append-nil}
use native.Mathlib.Nat.{zero-add}
use native.Mathlib.Omega.{arith}
use lib.ListN.{length, replicate, length-append, length-map, length-replicate}
use borrow.Author.Tests.{lt-ltb}
use Rattle.model.specs.declared.Header.{Header}
use Rattle.model.specs.declared.Item.{Item}
use Rattle.model.specs.Limits.{max_items}
use Rattle.model.specs.Refusals.{Result, Ok, Err, ◌>>=◌}
use Rattle.model.specs.Bytes.{found}
use Rattle.model.specs.Programs.{Program}
use Rattle.model.specs.Records.{read_item}
use Rattle.model.specs.Machine.{Start, initial}
use Rattle.model.specs.Replay.{Replay, Event, Taken, begin, take_item, take_items, Replayed, quiet}
use Rattle.model.specs.Checks.{fill}
use Rattle.model.proofs.Laws.{refused≢ok, ok_injective}
use Rattle.model.proofs.Ranges.{Ranged, item_finds}
use Rattle.model.proofs.Replay.{item_taken}
use Rattle.model.proofs.TakenItems.{event_item, taken_items}
use Rattle.memory.specs.Tables.{Table, zeros, registers_size, cells_size}
use Rattle.memory.specs.Made.{table_of}
use Rattle.memory.proofs.Tied.{controls_zeros, holds_zeros}
use Rattle.memory.proofs.Filled.{fill_more, table_is, made_holds}
use Rattle.queues.specs.Endings.{all_empty}
use Rattle.queues.proofs.Queued.{cleared, quiet_told}
use Rattle.machine.specs.Arrays.{Memory}
use Rattle.machine.specs.Outcomes.{Left, memory_after, outcome_of}
use Rattle.machine.specs.Standing as Step
use Rattle.machine.specs.Standing.{Agree}
use Rattle.step.specs.Steps.{item_on}
use Rattle.step.specs.Standing.{Loaded, ItemFits}
use Rattle.step.proofs.ItemSteps as ItemSteps
use Rattle.items.specs.declared.rows.Progress.{Progress}
use Rattle.items.specs.Accesses.{access_number}
use Rattle.record.specs.Places.{ItemsFrom, ended, then}
use Rattle.trails.specs.Trails.{row_of_event, told, trail_of, trail_size}
use Rattle.runs.specs.Items.{SoFar, RunState, begun, Went, taken, stopped, standing, go_on, items_on, so_far_on}
use Rattle.runs.specs.Promise.{Readable, TakesAs, went_from, Runs}

-- An item that was read fits.
item_fits : {h : Header} {bytes : List ℕ} {i : Item} → Ranged h bytes i → ItemFits h i
item_fits r =
    record {
      low = r.rank.low;
      high = r.rank.high;
      choice = r.choice;
      place_low = λ has. (r.place_rank_lem has).low;
      place_high = λ has. (r.place_rank_lem has).high;
      place_cell = r.place_cell_lem;
    }

-- There is an event for each item.
pub events_counted : (P : Program) (s : Replay) (at : ℕ) (items : List Item) {r : Replayed} → take_items P s at items ≡ Ok r →
    length r.events ≡ length items
events_counted P s at items {r} h = sym (length-map r.events (λ e. e.item)) ∙ ap length (taken_items P s at items h)

-- The trail with a row told of each event in turn.
unfoldable pub told_all : Table → (at : ℕ) → List Event → Table
told_all trail at [] = trail
told_all trail at (e ∷ events) = told_all (told trail at e.item e.group (access_number e.access)) (at + 1) events

told_last : (trail : Table) (at : ℕ) (events : List Event) (e : Event) →
    told_all trail at (events ++ e ∷ []) ≡ told (told_all trail at events) (at + length events) e.item e.group (access_number e.access)
unfolding told_all
told_last trail at [] e = let z : at + 0 ≡ at = omega arith in rw z
told_last trail at (first ∷ events) e =
    told_last (told trail at first.item first.group (access_number first.access)) (at + 1) events e
    ∙ (let z : at + 1 + length events ≡ at + suc (length events) = omega arith in rw z)

-- In a cleared trail that is a row for each event, and the other rows are 0.
told_rows : (rows : Table) (events : List Event) → length rows + length events ≤ max_items →
    told_all (fill rows (zeros trail_size)) (length rows) events ≡ fill (rows ++ map row_of_event events) (zeros trail_size)
unfolding told_all told
told_rows rows [] few = rw append-nil
told_rows rows (e ∷ events) few =
    let long : length rows < length (zeros trail_size) =
    rw (length-replicate {A = List ℕ} max_items (replicate trail_size.width 0)) (omega arith) in
    let counted : length (rows ++ row_of_event e ∷ []) ≡ length rows + 1 = length-append rows (row_of_event e ∷ []) in
    rw (lt-ltb (length rows) max_items (omega arith), fill_more rows (zeros trail_size) (row_of_event e) long, ← counted)
    (told_rows (rows ++ row_of_event e ∷ []) events (omega arith) ∙ rw append_assoc)

told_cleared : (trail : Table) (events : List Event) → length events ≤ max_items → trail ≡ zeros trail_size → told_all trail 0 events ≡ trail_of events
unfolding fill
told_cleared trail events few cleared = rw cleared (told_rows [] events (omega arith))

-- What the trail has told after some events, over what it held before.
pub record Told (old : Table) (events : List Event) (at : ℕ) (trail : Table) : Type 0 where
  pub counted : length events ≡ at
  pub told : trail ≡ told_all old 0 events

told_more : (old : Table) (events : List Event) (at : ℕ) (trail : Table) (e : Event) (group access : ℕ) → Told old events at trail →
    group ≡ e.group → access ≡ access_number e.access → Told old (events ++ e ∷ []) (at + 1) (told trail at e.item group access)
told_more old events at trail e group access so_far p q =
    record {
      counted = length-append events (e ∷ []) ∙ ap (λ n. n + 1) so_far.counted;
      told = rw (p, q, so_far.told, ← so_far.counted) (sym (rw zero-add at (told_last old 0 events e)));
    }

-- Where the replay stands after an item.
abbrev after : RunState → Item → Left → RunState
after s i l =
    record { memory = l.memory; progress = l.next; trail = told s.trail s.progress.at i l.group l.access }

-- The arrays stand for a state, and the trail has told of the events before it.
pub record Reached (old : Table) (done : List Event) (s : RunState) (state : Replay) : Type 0 where
  pub stands : Step.Standing s.memory s.progress state
  pub so_far : Told old done s.progress.at s.trail

-- The same where all items are taken, and the last one ends where it should.
pub record Arrives (old : Table) (done : List Event) (end place : ℕ) (s : RunState) (state : Replay) : Type 0 where
  pub arrived : place ≡ end
  pub reached : Reached old done s state

abbrev Together : (old : Table) → (done : List Event) → (end : ℕ) → Result Replayed → Went → Type 0
Together old done end (Ok r) (taken place s) = Arrives old (done ++ r.events) end place s r.last
Together old done end (Err x) (stopped y s) = x ≡ y
Together old done end (Ok r) (stopped y s) = ⊥
Together old done end (Err x) (taken place s) = ⊥

-- The events of the rest stand behind the first.
together_behind : (old : Table) (done : List Event) (end : ℕ) (e : Event) (m : Result Replayed) (n : Went) → Together old (done ++ e ∷ []) end m n →
    Together old done end (m >>= (λ rest. Ok (record { last = rest.last; events = e ∷ rest.events }))) n
together_behind old done end e (Ok r) (taken place s) t = rw (← append_assoc done (e ∷ []) r.events) t
together_behind old done end e (Err x) (stopped y s) t = t
together_behind old done end e (Ok r) (stopped y s) t = t
together_behind old done end e (Err x) (taken place s) t = t

module _ (P : Program) (bytes starts : List ℕ) (h : Header) (recorded : List ℕ) (old : Table) (end : ℕ) where
  abbrev Alike : Item → RunState → Replay → Result Taken → Result Left → Type 0
  Alike i s state m n = Agree s.progress.at m (memory_after s.memory n) (outcome_of n)

  -- One item, and then the rest.
  module _ (i : Item) (items : List Item) (next : ℕ) (done : List Event) (s : RunState) (state : Replay) (here : Reached old done s state)
      (rest : (done' : List Event) (s' : RunState) (state' : Replay) → s'.progress.at ≡ s.progress.at + 1 → Reached old done' s' state' →
      Together old done' end (take_items P state' s'.progress.at items) (items_on bytes starts h recorded (length items) next s')) where
    one_more_lem : (m : Result Taken) (n : Result Left) → take_item P state s.progress.at i ≡ m → Alike i s state m n →
        Together old done end
        (m >>= (λ taken. take_items P taken.state (s.progress.at + 1) items >>= (λ rest. Ok (record {
          last = rest.last;
          events = taken.event ∷ rest.events;
        }))))
        (go_on s n (λ l. items_on bytes starts h recorded (length items) next (after s i l)))
    one_more_lem (Ok t) (Ok l) e a =
        together_behind old done end t.event (take_items P t.state (s.progress.at + 1) items)
        (items_on bytes starts h recorded (length items) next (after s i l))
        (rw (← a.counted)
        (rest (done ++ t.event ∷ []) (after s i l) t.state a.counted
        (record {
          stands = a.standing;
          so_far =
              rw (a.counted, ← event_item (item_taken P state s.progress.at i e))
              (told_more old done s.progress.at s.trail t.event l.group l.access here.so_far (sym a.same_group) (sym a.same_access));
        })))
    one_more_lem (Err x) (Err y) e a = a
    one_more_lem (Ok t) (Err y) e a = absurd a
    one_more_lem (Err x) (Ok l) e a = absurd a

  -- The step's law, of an item that was read.
  module _ (loaded : Loaded bytes starts h P) where
    item_alike : (i : Item) (s : RunState) (state : Replay) (place next : ℕ) → read_item h recorded place ≡ found i next → s.progress.at < max_items →
        Step.Standing s.memory s.progress state →
        Alike i s state (take_item P state s.progress.at i) (item_on bytes starts h i s.progress s.memory)
    item_alike i s state place next e few stands =
        (ItemSteps.promised bytes starts h i s.progress (record { answers = refl; leaves = refl })
        ).agrees P state loaded (item_fits ((item_finds h).holds place _ e)) few stands

    together : {items : List Item} {place : ℕ} (done : List Event) (s : RunState) (state : Replay) → ItemsFrom h recorded place items end →
        s.progress.at + length items ≤ max_items → Reached old done s state →
        Together old done end (take_items P state s.progress.at items) (items_on bytes starts h recorded (length items) place s)
    unfolding take_items items_on
    together done s state ended few here = record { arrived = refl; reached = rw append-nil here }
    together done s state (then {next = next} {item = i} {items = items} e from) few here =
        rw e
        (one_more_lem i items next done s state here
        (λ done' s' state' at reached. together done' s' state' from (omega arith) reached)
        (take_item P state s.progress.at i) (item_on bytes starts h i s.progress s.memory) refl
        (item_alike i s state _ next e (omega arith) here.stands))

-- The arrays before the first item stand for the start.
made_reached : (start : Start) (cells old : Table) → cells ≡ table_of cells_size start → Reached old [] (begun cells old) (begin start)
unfolding begin initial told_all
made_reached start cells old e =
    record {
      stands =
          record {
            holds =
                record {
                  controls = controls_zeros;
                  registers = holds_zeros registers_size;
                  cells = rw e (made_holds cells_size start);
                  queues = cleared;
                };
            opened = refl;
            row = refl;
            few = omega arith;
          };
      so_far = record { counted = refl; told = refl };
    }

-- What is answered and left on arrays is what the definition makes of the items.
module _ {program starts : List ℕ} {header : Header} {recorded : List ℕ} {count : ℕ} {cells : Table}
    (given : Readable program starts header recorded count cells) (old : Table) where
  abbrev P : Program
  P = given.P

  abbrev result : Result Replayed
  result = take_items P (begin given.readings) 0 given.items

  abbrev went : Went
  went = went_from program starts header recorded count cells old

  t : Together old [] given.end result went
  t =
      subst (λ count. Together old [] given.end result (went_from program starts header recorded count cells old))
      given.counted
      (together P program starts header recorded old given.end given.loaded [] (begun cells old) (begin given.readings) given.from
      (omega (arith, given.few, given.counted)) (made_reached given.readings cells old given.table))

  quiet_is : (m : Memory) (p : Progress) (r : Replay) → Step.Standing m p r →
      all_empty m.queues.ends header.ranks header.queues ≡ quiet P r.machine
  quiet_is m p r stands =
      let same = given.loaded.same in
      let fits = given.loaded.fits in
      ap (λ (h : Header). all_empty m.queues.ends h.ranks h.queues) (sym same)
      ∙ sym (quiet_told P r.machine stands.holds.queues (rw same fits.ranks_fit) (rw same fits.queues_fit))

  takes : (m : Result Replayed) (n : Went) → ((run : Replayed) → m ≡ Ok run → length run.events ≤ max_items) → Together old [] given.end m n →
      TakesAs P given.end m old (standing n).memory.cells (standing n).trail (so_far_on header n)
  takes (Ok run) (taken place s) few a =
      let stands = a.reached.stands in
      record {
        answers = rw (a.arrived, stands.opened, stands.row, quiet_is s.memory s.progress run.last stands);
        leaves = λ run' e. rw (← ok_injective e) (table_is cells_size run.last.machine.cells s.memory.cells stands.holds.cells);
        tells = λ run' e cleared.
            rw (← ok_injective e) (a.reached.so_far.told ∙ told_cleared old run.events (few run refl) cleared);
      }
  takes (Err x) (stopped y s) few a =
      record { answers = rw a; leaves = λ run e. absurd (refused≢ok e); tells = λ run e cleared. absurd (refused≢ok e) }
  takes (Ok run) (stopped y s) few a = absurd a
  takes (Err x) (taken place s) few a = absurd a

  pub takes_items : TakesAs P given.end result old (standing went).memory.cells (standing went).trail (so_far_on header went)
  takes_items =
      takes result went
      (λ run e. omega (arith, events_counted P (begin given.readings) 0 given.items e, given.counted, given.few)) t

-- The promise, for whatever answers and leaves what the items on arrays say.
pub promised : (program starts : List ℕ) (header : Header) (recorded : List ℕ) (count : ℕ) (cells old : Table) {after trail : Table} {r : SoFar} →
    let went = went_from program starts header recorded count cells old in
    r ≡ so_far_on header went → after ≡ (standing went).memory.cells → trail ≡ (standing went).trail →
    Runs program starts header recorded count cells old after trail r
promised program starts header recorded count cells old answers leaves tells =
    record { answers = answers; leaves = leaves; tells = tells; agrees = λ given. rw (answers, leaves, tells) (takes_items given old) }
