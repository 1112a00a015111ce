-- What the replay leaves after an item is what Table 1's rule leaves, but for the marks. Erasing commutes with every change of a state: the parts
-- without marks are the same, and in the queues a list with its marks erased takes the place of a list with its marks erased.
use Rattle.model.specs.declared.Action.TheVariants.{Loads, Stores, Assigns, Passes, Issues, Meets}
use Prim.Native.Nat.{ℕ}
use mathlib.Core.Path.{◌≡◌, refl, ap, ◌∙◌}
use mathlib.Core.List.{List, [], ◌∷◌, ◌++◌, map, map-append}
use Rattle.model.specs.declared.Item.{Item}
use Rattle.model.specs.Programs.{Program}
use Rattle.model.specs.Machine.{State, Request, Delivery, Action, address, cell_at, move_to, set_register, set_cell, set_requests, set_deliveries}
use Rattle.model.specs.Rules.{Bare, ask, send}
use Rattle.model.specs.Replay.{Origin, Replay, perform, sent_on, after_fetch, after_delivery}
use Rattle.model.proofs.Laws.{put₂_map}
use Rattle.acceptance.specs.Bare.{bare, bare_request, bare_delivery}

-- A queue with its marks erased is set to a list with its marks erased.
module _ {Mark : Type 0} (s : State Mark) (rank queue : ℕ) where
  pub bare_set_requests : (entries : List (Request Mark)) →
      bare (set_requests s rank queue entries) ≡ set_requests (bare s) rank queue (map bare_request entries)
  unfolding bare set_requests
  bare_set_requests entries =
      ap
      (λ (requests : ℕ → ℕ → List (Request (Unit {0}))).
      record {
        control = s.control;
        registers = s.registers;
        cells = s.cells;
        requests = requests;
        deliveries = (bare s).deliveries;
      })
      (put₂_map (map bare_request) s.requests rank queue entries)

  pub bare_set_deliveries : (entries : List (Delivery Mark)) →
      bare (set_deliveries s rank queue entries) ≡ set_deliveries (bare s) rank queue (map bare_delivery entries)
  unfolding bare set_deliveries
  bare_set_deliveries entries =
      ap
      (λ (deliveries : ℕ → ℕ → List (Delivery (Unit {0}))).
      record {
        control = s.control;
        registers = s.registers;
        cells = s.cells;
        requests = (bare s).requests;
        deliveries = deliveries;
      })
      (put₂_map (map bare_delivery) s.deliveries rank queue entries)

-- The successor state of Table 1's rules, by what rank r's command asks for and where it moves.
unfoldable pub successor : Program → Bare → (r : ℕ) → Action → (q₂ : ℕ) → Bare
unfolding move_to set_register set_cell set_requests
successor P s r (Loads x a) q₂ = set_register (move_to s r q₂) r x (s.cells r a)
successor P s r (Stores a v) q₂ = set_cell (move_to s r q₂) (address r a) v
successor P s r (Assigns x v) q₂ = set_register (move_to s r q₂) r x v
successor P s r Passes q₂ = move_to s r q₂
successor P s r (Issues q remote source destination) q₂ = ask P (move_to s r q₂) r q remote source destination
successor P s r Meets q₂ = move_to s r q₂

-- A command item leaves it.
pub bare_perform : (P : Program) (m : State Origin) (r : ℕ) (origin : Origin) (a : Action) (q₂ : ℕ) →
    bare (move_to (perform r origin a m) r q₂) ≡ successor P (bare m) r a q₂
unfolding bare perform successor move_to
bare_perform P m r origin (Loads x a) q₂ = refl
bare_perform P m r origin (Stores a v) q₂ = refl
bare_perform P m r origin (Assigns x v) q₂ = refl
bare_perform P m r origin Passes q₂ = refl
bare_perform P m r origin (Issues q remote source destination) q₂ =
    let entry : Request Origin = record { remote = remote; source = source; destination = destination; mark = origin } in
    ap (λ (s : Bare). move_to s r q₂) (bare_set_requests m r q (m.requests r q ++ entry ∷ [])) ∙
    ap (set_requests (move_to (bare m) r q₂) r q) (map-append bare_request (m.requests r q) (entry ∷ []))
bare_perform P m r origin Meets q₂ = refl

-- The successor states of the rules for pops, by the entry that is taken and the entries that are left.
abbrev pub fetch_successor : Program → Bare → (r q : ℕ) → Request (Unit {0}) → List (Request (Unit {0})) → Bare
fetch_successor P s r q a α = send P (set_requests s r q α) r q a.remote a.destination (cell_at s.cells a.source)

abbrev pub delivery_successor : Bare → (r q : ℕ) → Delivery (Unit {0}) → List (Delivery (Unit {0})) → Bare
delivery_successor s r q b β = set_cell (set_deliveries s r q β) b.destination b.value

-- Pops leave them.
pub bare_fetched : (P : Program) (s : Replay) (i : Item) (a : Request Origin) (rest : List (Request Origin)) →
    bare (after_fetch s i a rest).state.machine ≡
    fetch_successor P (bare s.machine) i.rank i.queue (bare_request a) (map bare_request rest)
unfolding bare set_requests set_deliveries
bare_fetched P s i a rest =
    let r : ℕ = i.rank in
    let q : ℕ = i.queue in
    let m : State Origin = s.machine in
    let sent : Delivery Origin = sent_on s a in
    bare_set_deliveries (set_requests m r q rest) r q (m.deliveries r q ++ sent ∷ []) ∙
    ap (λ (x : Bare). set_deliveries x r q (map bare_delivery (m.deliveries r q ++ sent ∷ []))) (bare_set_requests m r q rest) ∙
    ap (set_deliveries (set_requests (bare m) r q (map bare_request rest)) r q) (map-append bare_delivery (m.deliveries r q) (sent ∷ []))

pub bare_delivered : (s : Replay) (i : Item) (b : Delivery Origin) (rest : List (Delivery Origin)) →
    bare (after_delivery s i b rest).state.machine ≡
    delivery_successor (bare s.machine) i.rank i.queue (bare_delivery b) (map bare_delivery rest)
unfolding bare set_cell
bare_delivered s i b rest =
    ap (λ (x : Bare). set_cell x b.destination b.value) (bare_set_deliveries s.machine i.rank i.queue rest)
