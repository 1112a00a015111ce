-- What must hold if the replay takes an item, and what suffices: its row allows it; a command item has its transition, its action and its access; a
-- pop has the entry that it chooses. The state after it and its event are then the definitions' own. The item's number has no part in it.
use Rattle.std.specs.Prelude.{Option, Some, None, slice_get}
use Rattle.model.proofs.Options.{none-ne-some, some-injective}
use Prim.Native.Nat.{ℕ}
use mathlib.Core.Path.{◌≡◌, refl, ap, subst}
use mathlib.Core.Bool.{true, false, ◌&&◌, ◌||◌, Bool}
use mathlib.Core.List.{List, [], ◌∷◌, ◌++◌}
use mathlib.Core.Logic.{◌⊎◌, inl, inr}
use lib.Dec.{eqb}
use borrow.Author.Tests.{eqb-true, eq-eqb}
use Rattle.model.specs.declared.Address.{Address}
use Rattle.model.specs.declared.Kind.{Kind}
use Rattle.model.specs.declared.Kind.TheVariants.{Popa, Popb}
use Rattle.model.specs.declared.Item.{Item}
use Rattle.model.specs.Refusals.{Ok, wrong_transition, access_differs, barrier_row}
use Rattle.model.specs.Choice.{Each, all, one}
use Rattle.model.specs.ItemKinds.{same_kind, Part, command, fetch, delivery, part_of}
use Rattle.model.specs.Programs.{Program, Transition, kind_of}
use Rattle.model.specs.Machine.{Request, Delivery, Access, read_of, write_of, cell_at, Action, action}
use Rattle.model.specs.Replay.{Origin, Replay, Taken, same_address, row_allows, agrees_with, access_of, agreed, after_command, after_fetch, after_delivery, is_for, request_for, delivery_for, behind, oldest, take_transition, take_fetch, take_delivery, take_part, take_item}
use Rattle.model.proofs.Laws.{refused≢ok, bind_ok, required, ok_injective, and-true, true_and, or-true, decided}
use Rattle.model.proofs.ItemKinds.{same_kind_true, true_same_kind, fetch_kind, delivery_kind}
use Rattle.model.proofs.Actions.{action_at}

-- A command item with the transition and the action that it takes.
pub record CommandTaken (P : Program) (s : Replay) (i : Item) (t : Transition) (a : Action) : Type 0 where
  pub allowed : row_allows s.row i ≡ true
  pub part : part_of i.kind ≡ command
  pub found : slice_get P.transitions i.transition ≡ Some t
  pub source : t.source ≡ s.machine.control i.rank
  pub kind : kind_of t.command ≡ i.kind
  pub acts : (at : ℕ) → action P i.rank (s.machine.registers i.rank) at t.command ≡ Ok a
  pub agreed : agrees_with i (access_of i.rank a s.machine.cells) ≡ true

-- A pop of a kind with the entry that it takes out of its queue, the oldest among those that it chooses from, the entries that it leaves, and its
-- access.
pub record PopTaken (s : Replay) (i : Item) (kind : Kind) {Entry : Type 0} (among : Entry → Bool) (queue : List Entry) (entry : Entry)
    (rest : List Entry) (access : Option Access) : Type 0 where
  pub allowed : row_allows s.row i ≡ true
  pub kind_is : i.kind ≡ kind
  pub chosen : oldest among queue ≡ Some (entry, rest)
  pub agreed : agrees_with i access ≡ true

abbrev pub FetchTaken : Replay → Item → Request Origin → List (Request Origin) → Type 0
FetchTaken s i a rest =
    PopTaken s i Popa (request_for i) (s.machine.requests i.rank i.queue) a rest (read_of a.source (cell_at s.machine.cells a.source))

abbrev pub DeliveryTaken : Replay → Item → Delivery Origin → List (Delivery Origin) → Type 0
DeliveryTaken s i b rest =
    PopTaken s i Popb (delivery_for i) (s.machine.deliveries i.rank i.queue) b rest (write_of b.destination b.value)

-- An item that is taken, with the state after it and its event.
pub data ItemTaken (P : Program) (s : Replay) (i : Item) : Taken → Type 0 where
  commands : (t : Transition) (a : Action) → CommandTaken P s i t a → ItemTaken P s i (after_command P s i t.target a)
  fetches : (a : Request Origin) (rest : List (Request Origin)) → FetchTaken s i a rest → ItemTaken P s i (after_fetch s i a rest)
  delivers : (b : Delivery Origin) (rest : List (Delivery Origin)) → DeliveryTaken s i b rest → ItemTaken P s i (after_delivery s i b rest)

-- The oldest of the entries that pass a test: it passes, and stands behind entries that do not. There is no other.
pub record Oldest {A : Type 0} (among : A → Bool) (queue : List A) (a : A) (rest : List A) : Type 0 where
  pub older : List A
  pub newer : List A
  pub stands : queue ≡ older ++ a ∷ newer
  pub leaves : rest ≡ older ++ newer
  pub passes : among a ≡ true
  pub first : Each (λ x. among x ≡ false) older

module _ {A : Type 0} (among : A → Bool) where
  -- It is the first, or the oldest of those behind the first.
  oldest_here : (b : A) (l : List A) → among b ≡ true → Oldest among (b ∷ l) b l
  oldest_here b l passes = record { older = []; newer = l; stands = refl; leaves = refl; passes = passes; first = all }

  oldest_behind : (b : A) (l : List A) {a : A} {rest : List A} → among b ≡ false → Oldest among l a rest → Oldest among (b ∷ l) a (b ∷ rest)
  oldest_behind b l fails o =
      record {
        older = b ∷ o.older;
        newer = o.newer;
        stands = ap (b ∷◌) o.stands;
        leaves = ap (b ∷◌) o.leaves;
        passes = o.passes;
        first = one fails o.first;
      }

  found_behind : (b : A) (l : List A) {a : A} {rest : List A} (o : Option (A × List A)) → among b ≡ false →
      ((x : A) (left : List A) → o ≡ Some (x, left) → Oldest among l x left) → behind b o ≡ Some (a, rest) → Oldest among (b ∷ l) a rest
  found_behind b l None fails theirs h = absurd (none-ne-some _ h)
  found_behind b l {a} {rest} (Some (x, left)) fails theirs h =
      subst (λ (y : A × List A). Oldest among (b ∷ l) y.0 y.1) (some-injective (x, b ∷ left) (a, rest) h)
      (oldest_behind b l fails (theirs x left refl))

  pub oldest_is : (l : List A) {a : A} {rest : List A} → oldest among l ≡ Some (a, rest) → Oldest among l a rest
  unfolding oldest
  oldest_is [] h = absurd (none-ne-some _ h)
  oldest_is (b ∷ l) {a} {rest} h =
      decided (among b)
      (λ passes.
      subst (λ (y : A × List A). Oldest among (b ∷ l) y.0 y.1) (some-injective (b, l) (a, rest) (rw passes at h))
      (oldest_here b l passes))
      (λ fails. found_behind b l (oldest among l) fails (λ x left. oldest_is l) (rw fails at h))

  pub is_oldest : {l : List A} {a : A} {rest : List A} → Oldest among l a rest → oldest among l ≡ Some (a, rest)
  unfolding oldest
  is_oldest {a = a} o = rw (o.stands, o.leaves) (go o.older o.newer o.first)
    where
      go : (older newer : List A) → Each (λ x. among x ≡ false) older → oldest among (older ++ a ∷ newer) ≡ Some (a, older ++ newer)
      go [] newer each = rw o.passes
      go (b ∷ older) newer (one fails each) = rw (fails, go older newer each)

  -- The one entry of a queue is the oldest, if it passes.
  pub oldest_only : {l : List A} {a : A} → l ≡ a ∷ [] → among a ≡ true → oldest among l ≡ Some (a, [])
  unfolding oldest
  oldest_only h passes = rw (h, passes)

-- A pop chooses among the entries for the rank that it names, or among all where it names none.
pub for_rank : (named remote : ℕ) → is_for named remote ≡ true → (named ≡ 0) ⊎ (named ≡ remote)
unfolding is_for
for_rank named remote h =
    decided (eqb named 0)
    (λ t. inl (eqb-true named 0 t))
    (λ t. inr (eqb-true named remote (or-true (eqb named 0) (eqb named remote) t h)))

pub rank_for : (named remote : ℕ) → (named ≡ 0) ⊎ (named ≡ remote) → is_for named remote ≡ true
unfolding is_for
rank_for named remote (inl unnamed) = rw (eq-eqb named 0 unnamed)
rank_for named remote (inr same) = rw (eq-eqb named remote same) (or_last (eqb named 0))
  where
    or_last : (t : Bool) → (t || true) ≡ true
    or_last true = refl
    or_last false = refl

-- So a pop that is taken has taken the oldest entry that it chooses from.
pub taken_oldest : {s : Replay} {i : Item} {kind : Kind} {Entry : Type 0} {among : Entry → Bool} {queue : List Entry} {entry : Entry}
    {rest : List Entry} {access : Option Access} → PopTaken s i kind among queue entry rest access → Oldest among queue entry rest
taken_oldest {among = among} {queue} taken = oldest_is among queue taken.chosen

-- The test on the access comes last.
agreed_ok : (at : ℕ) (after : Taken) {taken : Taken} → agreed at after ≡ Ok taken →
    (agrees_with after.event.item after.event.access ≡ true) × (after ≡ taken)
unfolding agreed
agreed_ok at after h =
    let (agrees, done) = required (agrees_with after.event.item after.event.access) access_differs at _ h in
    (agrees, ok_injective done)

ok_agreed : (at : ℕ) (after : Taken) → agrees_with after.event.item after.event.access ≡ true → agreed at after ≡ Ok after
unfolding agreed
ok_agreed at after h = rw h

module _ (P : Program) (s : Replay) (at : ℕ) (i : Item) where
  -- The transition goes from the rank's state, and is of the item's kind.
  abbrev fits : Transition → Bool
  fits t = eqb t.source (s.machine.control i.rank) && same_kind (kind_of t.command) i.kind

  module _ (allowed : row_allows s.row i ≡ true) {taken : Taken} where
    command_taken : (o : Option Transition) → part_of i.kind ≡ command → slice_get P.transitions i.transition ≡ o →
        take_transition P s at i o ≡ Ok taken → ItemTaken P s i taken
    unfolding take_transition
    command_taken None part found h = absurd (refused≢ok h)
    command_taken (Some t) part found h =
        let (test, asked) = required (fits t) wrong_transition at _ h in
        let (from, kind) = and-true (eqb t.source (s.machine.control i.rank)) (same_kind (kind_of t.command) i.kind) test in
        let (a, acts, checked) = bind_ok (action P i.rank (s.machine.registers i.rank) at t.command) _ asked in
        let (agrees, done) = agreed_ok at (after_command P s i t.target a) checked in
        subst (ItemTaken P s i) done
        (commands t a
        (record {
          allowed = allowed;
          part = part;
          found = found;
          source = eqb-true t.source (s.machine.control i.rank) from;
          kind = same_kind_true (kind_of t.command) i.kind kind;
          acts = action_at P i.rank (s.machine.registers i.rank) t.command at acts;
          agreed = agrees;
        }))

    fetch_taken : (o : Option (Request Origin × List (Request Origin))) → i.kind ≡ Popa →
        oldest (request_for i) (s.machine.requests i.rank i.queue) ≡ o → take_fetch s at i o ≡ Ok taken → ItemTaken P s i taken
    unfolding take_fetch
    fetch_taken None kind chosen h = absurd (refused≢ok h)
    fetch_taken (Some (a, rest)) kind chosen h =
        let (agrees, done) = agreed_ok at (after_fetch s i a rest) h in
        subst (ItemTaken P s i) done
        (fetches a rest (record { allowed = allowed; kind_is = kind; chosen = chosen; agreed = agrees }))

    delivery_taken : (o : Option (Delivery Origin × List (Delivery Origin))) → i.kind ≡ Popb →
        oldest (delivery_for i) (s.machine.deliveries i.rank i.queue) ≡ o → take_delivery s at i o ≡ Ok taken → ItemTaken P s i taken
    unfolding take_delivery
    delivery_taken None kind chosen h = absurd (refused≢ok h)
    delivery_taken (Some (b, rest)) kind chosen h =
        let (agrees, done) = agreed_ok at (after_delivery s i b rest) h in
        subst (ItemTaken P s i) done
        (delivers b rest (record { allowed = allowed; kind_is = kind; chosen = chosen; agreed = agrees }))

    part_taken : (p : Part) → part_of i.kind ≡ p → take_part P s at i p ≡ Ok taken → ItemTaken P s i taken
    unfolding take_part
    part_taken command part h = command_taken (slice_get P.transitions i.transition) part refl h
    part_taken fetch part h =
        fetch_taken (oldest (request_for i) (s.machine.requests i.rank i.queue)) (fetch_kind i.kind part) refl h
    part_taken delivery part h =
        delivery_taken (oldest (delivery_for i) (s.machine.deliveries i.rank i.queue)) (delivery_kind i.kind part) refl h

  -- An item is taken: all this holds.
  pub item_taken : {taken : Taken} → take_item P s at i ≡ Ok taken → ItemTaken P s i taken
  unfolding take_item
  item_taken h =
      let (allowed, part) = required (row_allows s.row i) barrier_row at _ h in
      part_taken allowed (part_of i.kind) refl part

  -- All this holds: the item is taken.
  pub takes_item : {taken : Taken} → ItemTaken P s i taken → take_item P s at i ≡ Ok taken
  unfolding take_item take_part take_transition take_fetch take_delivery
  takes_item (commands t a c) =
      let same = eq-eqb t.source (s.machine.control i.rank) c.source in
      let kind = true_same_kind (kind_of t.command) i.kind c.kind in
      rw (
        c.allowed,
        ap (take_part P s at i) c.part,
        c.found,
        true_and (eqb t.source (s.machine.control i.rank)) (same_kind (kind_of t.command) i.kind) same kind,
        c.acts at,
      )
      (ok_agreed at (after_command P s i t.target a) c.agreed)
  takes_item (fetches a rest f) =
      rw (f.allowed, ap (λ k. take_part P s at i (part_of k)) f.kind_is, f.chosen) (ok_agreed at (after_fetch s i a rest) f.agreed)
  takes_item (delivers b rest d) =
      rw (d.allowed, ap (λ k. take_part P s at i (part_of k)) d.kind_is, d.chosen) (ok_agreed at (after_delivery s i b rest) d.agreed)

-- Two addresses are the same exactly if their ranks and cells are.
pub same_address_true : (a b : Address) → same_address a b ≡ true → a ≡ b
same_address_true a b h =
    let both = and-true (eqb a.rank b.rank) (eqb a.cell b.cell) h in
    λ i. record { rank = eqb-true a.rank b.rank both.0 i; cell = eqb-true a.cell b.cell both.1 i }

pub true_same_address : (a b : Address) → a ≡ b → same_address a b ≡ true
true_same_address a b h =
    true_and (eqb a.rank b.rank) (eqb a.cell b.cell)
    (eq-eqb a.rank b.rank (ap (λ (c : Address). c.rank) h))
    (eq-eqb a.cell b.cell (ap (λ (c : Address). c.cell) h))
