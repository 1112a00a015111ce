-- Table 1 of the source (document 001, section 2.3), a constructor for each rule. The rules that the source calls similar (store, assign, assume,
-- read) are written out. To the two pops, which take the head of a queue, document 02's #108 adds two that take "the oldest entry for that rank".
-- Of #102, "the replay rules are read with these operators, which the source left open": a rule applies only where its expressions have values. The
-- replay has no part in this file.
use Rattle.std.specs.Prelude.{ℕ, ◌≤◌, ◌<◌, ◌≡◌, List, [], ◌∷◌, ◌++◌, map, Option, Some, None, slice_get}
use Rattle.model.specs.declared.Address.{Address}
use Rattle.model.specs.declared.Kind.{Kind}
use Rattle.model.specs.declared.Kind.TheVariants.{Load, Store, Assign, Assume, Read, Write, Popa, Popb, Bar}
use Rattle.model.specs.declared.Item.{Item}
use Rattle.model.specs.Choice.{when, between, numbers_from, Each}
use Rattle.model.specs.ItemKinds.{Part, fetch, delivery, part_of}
use Rattle.model.specs.Expressions.{Expression}
use Rattle.model.specs.Programs.{Program, Command}
use Rattle.model.specs.Machine.{State, Request, Delivery, Access, read_of, write_of, Start, initial, address, cell_at, value_of, move_to, set_register, set_cell, set_requests, set_deliveries}

-- The source's events, (kind, rank, address or ⊥). With the address comes the value that is read or written there. An event of ours also names the
-- transition of a command and the queue of a pop ("The source's pop events omit the queue; ours name it"); the other of the two is 0. So is
-- `remote`, but for a pop that takes the oldest entry for a rank, which names that rank.
pub record Label : Type 0 where
  pub kind : Kind
  pub rank : ℕ
  pub transition : ℕ
  pub queue : ℕ
  pub remote : ℕ
  pub access : Option Access

abbrev pub command : Kind → (rank transition : ℕ) → Option Access → Label
command kind r t access = record { kind = kind; rank = r; transition = t; queue = 0; remote = 0; access = access }

abbrev pub pop : Kind → (rank queue remote : ℕ) → Option Access → Label
pop kind r q n access = record { kind = kind; rank = r; transition = 0; queue = q; remote = n; access = access }

-- The table's states carry no marks.
abbrev pub Bare : Type 0
Bare = State (Unit {0})

-- r ∈ RNK, a ∈ ADDR, q ∈ QUE
pub record Rank (P : Program) (r : ℕ) : Type 0 where
  pub low : 1 ≤ r
  pub high : r ≤ P.header.ranks

abbrev pub Cell : Program → ℕ → Type 0
Cell P a = a < P.header.cells

abbrev pub Queue : Program → ℕ → Type 0
Queue P q = q < P.header.queues

-- "given q₁ —cmd→ q₂ and current state s with st(r) = q₁": transition t of the program is that one.
pub record Enabled (P : Program) (s : Bare) (r t : ℕ) (cmd : Command) (q₂ : ℕ) : Type 0 where
  pub rank : Rank P r
  pub transition : slice_get P.transitions t ≡ Some (record { source = s.control r; target = q₂; command = cmd })

-- "the oldest entry for that rank. .. Oldest means first appended": of the queue's entries a is for rank n, none before it is, and these others
-- are left.
pub record OldestFor {A : Type 0} (remote : A → ℕ) (n : ℕ) (queue : List A) (a : A) (left : List A) : Type 0 where
  pub older : List A
  pub newer : List A
  pub stands : queue ≡ older ++ a ∷ newer
  pub leaves : left ≡ older ++ newer
  pub for_rank : remote a ≡ n
  pub first : Each (λ x. ¬ (remote x ≡ n)) older

module _ (P : Program) where
  -- ê = v: "the evaluation of expression e in memory configuration m", by the registers of rank r, has a value, and it is v.
  abbrev pub Evaluates : (r : ℕ) → (registers : ℕ → ℕ) → Expression → ℕ → Type 0
  Evaluates r registers e v = value_of P r registers e ≡ Some v

  -- The operands of a transfer have values in their domains: own cell a, remote rank n, remote cell b and queue q.
  pub record Operands (r : ℕ) (registers : ℕ → ℕ) (e₁ e₂ e₃ e₄ : Expression) (a n b q : ℕ) : Type 0 where
    pub own_value : Evaluates r registers e₁ a
    pub rank_value : Evaluates r registers e₂ n
    pub cell_value : Evaluates r registers e₃ b
    pub queue_value : Evaluates r registers e₄ q
    pub own : Cell P a
    pub rank : Rank P n
    pub cell : Cell P b
    pub queue : Queue P q

  -- fa[(r, q) := α · (source, destination)], with the remote rank
  abbrev pub ask : Bare → (r q n : ℕ) → (source destination : Address) → Bare
  ask s r q n source destination =
      set_requests s r q (s.requests r q ++ record { remote = n; source = source; destination = destination; mark = tt } ∷ [])

  -- fb[(r, q) := β · (destination, value)], with the remote rank
  abbrev pub send : Bare → (r q n : ℕ) → Address → ℕ → Bare
  send s r q n destination value =
      set_deliveries s r q (s.deliveries r q ++ record { remote = n; destination = destination; value = value; mark = tt } ∷ [])

  -- st', where each rank of RNK moves
  abbrev pub move_all : Bare → (ℕ → ℕ) → Bare
  move_all s st' =
      record {
        control = λ r. when (between 1 P.header.ranks r) (λ _. st' r) (λ _. s.control r);
        registers = s.registers;
        cells = s.cells;
        requests = s.requests;
        deliveries = s.deliveries;
      }

  pub data Step : Bare → List Label → Bare → Type 0 where
    load : {s : Bare} {r t x q₂ a : ℕ} {e : Expression} → Enabled P s r t (Command.load x e) q₂ →
        Evaluates r (s.registers r) e a → Cell P a →
        Step s
        (command Load r t (read_of (address r a) (s.cells r a)) ∷ [])
        (set_register (move_to s r q₂) r x (s.cells r a))
    store : {s : Bare} {r t q₂ a v : ℕ} {e₁ e₂ : Expression} → Enabled P s r t (Command.store e₁ e₂) q₂ →
        Evaluates r (s.registers r) e₁ a → Evaluates r (s.registers r) e₂ v → Cell P a →
        Step s
        (command Store r t (write_of (address r a) v) ∷ [])
        (set_cell (move_to s r q₂) (address r a) v)
    assign : {s : Bare} {r t x q₂ v : ℕ} {e : Expression} → Enabled P s r t (Command.assign x e) q₂ →
        Evaluates r (s.registers r) e v →
        Step s
        (command Assign r t None ∷ [])
        (set_register (move_to s r q₂) r x v)
    assume : {s : Bare} {r t q₂ v : ℕ} {e : Expression} → Enabled P s r t (Command.assume e) q₂ →
        Evaluates r (s.registers r) e v → 0 < v →
        Step s
        (command Assume r t None ∷ [])
        (move_to s r q₂)
    read : {s : Bare} {r t q₂ a n b q : ℕ} {e₁ e₂ e₃ e₄ : Expression} → Enabled P s r t (Command.read e₁ e₂ e₃ e₄) q₂ →
        Operands r (s.registers r) e₁ e₂ e₃ e₄ a n b q →
        Step s
        (command Read r t None ∷ [])
        (ask (move_to s r q₂) r q n (address n b) (address r a))
    write : {s : Bare} {r t q₂ a n b q : ℕ} {e₁ e₂ e₃ e₄ : Expression} → Enabled P s r t (Command.write e₁ e₂ e₃ e₄) q₂ →
        Operands r (s.registers r) e₁ e₂ e₃ e₄ a n b q →
        Step s
        (command Write r t None ∷ [])
        (ask (move_to s r q₂) r q n (address r a) (address n b))
    popa : {s : Bare} {r q : ℕ} {a : Request (Unit {0})} {α : List (Request (Unit {0}))} → Rank P r → Queue P q → s.requests r q ≡ a ∷ α →
        Step s
        (pop Popa r q 0 (read_of a.source (cell_at s.cells a.source)) ∷ [])
        (send (set_requests s r q α) r q a.remote a.destination (cell_at s.cells a.source))
    popa_for : {s : Bare} {r q n : ℕ} {a : Request (Unit {0})} {α : List (Request (Unit {0}))} → Rank P r → Queue P q → Rank P n →
        OldestFor (λ x. x.remote) n (s.requests r q) a α →
        Step s
        (pop Popa r q n (read_of a.source (cell_at s.cells a.source)) ∷ [])
        (send (set_requests s r q α) r q a.remote a.destination (cell_at s.cells a.source))
    popb : {s : Bare} {r q : ℕ} {b : Delivery (Unit {0})} {β : List (Delivery (Unit {0}))} → Rank P r → Queue P q → s.deliveries r q ≡ b ∷ β →
        Step s
        (pop Popb r q 0 (write_of b.destination b.value) ∷ [])
        (set_cell (set_deliveries s r q β) b.destination b.value)
    popb_for : {s : Bare} {r q n : ℕ} {b : Delivery (Unit {0})} {β : List (Delivery (Unit {0}))} → Rank P r → Queue P q → Rank P n →
        OldestFor (λ x. x.remote) n (s.deliveries r q) b β →
        Step s
        (pop Popb r q n (write_of b.destination b.value) ∷ [])
        (set_cell (set_deliveries s r q β) b.destination b.value)
    bar : {s : Bare} (t st' : ℕ → ℕ) → ((r : ℕ) → Rank P r → Enabled P s r (t r) Command.bar (st' r)) →
        Step s
        (map (λ r. command Bar r (t r) None) (numbers_from 1 P.header.ranks))
        (move_all s st')

  -- Computations: steps one after the other, with their events.
  pub data Run : Bare → List Label → Bare → Type 0 where
    stop : {s : Bare} → Run s [] s
    ◌then◌ : {s s' s'' : Bare} {a b : List Label} → Step s a s' → Run s' b s'' → Run s (a ++ b) s''

  -- F_X: "fa(r,q) = ε = fb(r,q) for all r ∈ RNK, q ∈ QUE"
  pub record Final (s : Bare) : Type 0 where
    pub requests : (r q : ℕ) → Rank P r → Queue P q → s.requests r q ≡ []
    pub deliveries : (r q : ℕ) → Rank P r → Queue P q → s.deliveries r q ≡ []

-- "An item's place is the cell it reads or writes, its value what it reads or writes there"; "An absent value is not checked."
abbrev pub GivenAs : ℕ → Option ℕ → Type 0
GivenAs v (Some given) = given ≡ v
GivenAs v None = Unit {0}

abbrev pub PlacedAs : Option Access → Item → Type 0
PlacedAs None i = Unit {0}
PlacedAs (Some a) i = (i.place ≡ a.address) × GivenAs a.value i.given

-- A command item names its transition, a pop its queue and the remote rank whose oldest entry it takes, if it does.
abbrev pub ChosenAs : Label → Part → Item → Type 0
ChosenAs l Part.command i = i.transition ≡ l.transition
ChosenAs l fetch i = (i.queue ≡ l.queue) × (i.remote ≡ l.remote)
ChosenAs l delivery i = (i.queue ≡ l.queue) × (i.remote ≡ l.remote)

-- An item that records an event.
pub record Recorded (l : Label) (i : Item) : Type 0 where
  pub kind : i.kind ≡ l.kind
  pub rank : i.rank ≡ l.rank
  pub choice : ChosenAs l (part_of l.kind) i
  pub access : PlacedAs l.access i

-- Events and the items that record them, one for one.
pub data AllRecorded : List Label → List Item → Type 0 where
  all : AllRecorded [] []
  one : {l : Label} {ls : List Label} {i : Item} {is : List Item} → Recorded l i → AllRecorded ls is → AllRecorded (l ∷ ls) (i ∷ is)

-- Demand 2's right side: these items record a run of the program under Table 1, from this start to this state, and its queues are empty.
pub record IsRun (P : Program) (start : Start) (items : List Item) (last : Bare) : Type 0 where
  pub events : List Label
  pub recorded : AllRecorded events items
  pub run : Run P (initial start) events last
  pub final : Final P last
