-- How a step changes what groups have: its event's group gets the event, and the entry that is appended or taken out; all others stay as they
-- stand.
use Rattle.model.specs.declared.Action.TheVariants.{Loads, Stores, Assigns, Passes, Issues, Meets}
use Prim.Native.Nat.{ℕ}
use mathlib.Core.Path.{◌≡◌, refl, sym, ◌∙◌, ap}
use mathlib.Core.Bool.{false, true≢false}
use mathlib.Core.List.{List, [], ◌∷◌, ◌++◌}
use Rattle.model.specs.declared.Address.{Address}
use Rattle.model.specs.declared.Item.{Item}
use Rattle.model.specs.declared.Kind.{Kind}
use Rattle.model.specs.ItemKinds.{is_transfer}
use Rattle.model.specs.Programs.{Program, Transition}
use Rattle.model.specs.Machine.{State, Request, Delivery, move_to, set_cell, set_requests, set_deliveries, Action}
use Rattle.model.specs.Replay.{Origin, Event, Replay, perform, origin_of, after_command, sent_on, after_fetch, after_delivery}
use Rattle.model.proofs.Replay.{FetchTaken, DeliveryTaken, taken_oldest}
use Rattle.record_facts.proofs.Actions.{Fits}
use Rattle.record_facts.proofs.Moves.{Commands, Move, commands, fetches, delivers}
use Rattle.record_facts.proofs.Appended.{group_own, group_other}
use Rattle.record_facts.proofs.Queues.{oldest_out, entries_of, of_group, append_own, append_other, take_own, take_other}
use Rattle.record_facts.proofs.Status.{Standing, standing, request_group, delivery_group, plus_event, plus_request, plus_delivery, left_requests, left_deliveries, request_of}

-- Parts that agree make standings that agree.
same_standing : {e e' : List Event} {r r' : ℕ → ℕ → List (Request Origin)} {d d' : ℕ → ℕ → List (Delivery Origin)} → e ≡ e' → r ≡ r' → d ≡ d' →
    ◌≡◌ {A = Standing} (record { events = e; requests = r; deliveries = d }) (record { events = e'; requests = r'; deliveries = d' })
same_standing p q r = λ i. record { events = p i; requests = q i; deliveries = r i }

-- What an action does to the queues: only a transfer appends a request, marked with its group.
module _ (own : ℕ) (origin : Origin) where
  performed_deliveries : (a : Action) (s : State Origin) → (perform own origin a s).deliveries ≡ s.deliveries
  unfolding perform
  performed_deliveries (Loads x c) s = refl
  performed_deliveries (Stores c v) s = refl
  performed_deliveries (Assigns x v) s = refl
  performed_deliveries Passes s = refl
  performed_deliveries (Issues q remote source destination) s = refl
  performed_deliveries Meets s = refl

  performed_requests : (P : Program) (kind : Kind) (a : Action) (s : State Origin) → Fits P a kind → is_transfer kind ≡ false →
      (perform own origin a s).requests ≡ s.requests
  unfolding perform
  performed_requests P kind (Loads x c) s fits plain = refl
  performed_requests P kind (Stores c v) s fits plain = refl
  performed_requests P kind (Assigns x v) s fits plain = refl
  performed_requests P kind Passes s fits plain = refl
  performed_requests P kind (Issues q remote source destination) s fits plain = absurd (true≢false (sym fits.0 ∙ plain))
  performed_requests P kind Meets s fits plain = refl

  performed_other : (g : ℕ) (a : Action) (s : State Origin) → ¬ (origin.group ≡ g) →
      of_group request_group g (perform own origin a s).requests ≡ of_group request_group g s.requests
  unfolding perform
  performed_other g (Loads x c) s other = refl
  performed_other g (Stores c v) s other = refl
  performed_other g (Assigns x v) s other = refl
  performed_other g Passes s other = refl
  performed_other g (Issues q remote source destination) s other = append_other request_group s.requests own q _ g other
  performed_other g Meets s other = refl

-- Every group but the event's stays as it stands.
other_fetch : (s : Replay) (done : List Event) (i : Item) (a : Request Origin) (rest : List (Request Origin)) → FetchTaken s i a rest → (g : ℕ) →
    ¬ (request_group a ≡ g) →
    let after = after_fetch s i a rest in
    standing g (done ++ after.event ∷ []) after.state ≡ standing g done s
unfolding set_requests set_deliveries
other_fetch s done i a rest c g other =
    same_standing (group_other g done _ other)
    (take_other request_group s.machine.requests i.rank i.queue g (oldest_out (taken_oldest c)) other)
    (append_other delivery_group s.machine.deliveries i.rank i.queue (sent_on s a) g other)

other_delivery : (s : Replay) (done : List Event) (i : Item) (b : Delivery Origin) (rest : List (Delivery Origin)) → DeliveryTaken s i b rest →
    (g : ℕ) → ¬ (delivery_group b ≡ g) →
    let after = after_delivery s i b rest in
    standing g (done ++ after.event ∷ []) after.state ≡ standing g done s
unfolding set_deliveries set_cell
other_delivery s done i b rest c g other =
    same_standing (group_other g done _ other) refl
    (take_other delivery_group s.machine.deliveries i.rank i.queue g (oldest_out (taken_oldest c)) other)

pub stands_other : {P : Program} {s s' : Replay} {e : Event} (done : List Event) → Move P s e s' → (g : ℕ) → ¬ (e.group ≡ g) →
    standing g (done ++ e ∷ []) s' ≡ standing g done s
unfolding move_to
stands_other {s = s} done (commands i t a c) g other =
    same_standing (group_other g done _ other)
    (performed_other i.rank (origin_of s i) g a s.machine other)
    (ap (of_group delivery_group g) (performed_deliveries i.rank (origin_of s i) a s.machine))
stands_other {s = s} done (fetches i a rest c) g other = other_fetch s done i a rest c g other
stands_other {s = s} done (delivers i b rest c) g other = other_delivery s done i b rest c g other

-- The event's group.
module _ (s : Replay) (done : List Event) where
  -- The group of a command that is no transfer gets its event.
  pub stands_command : (P : Program) (i : Item) (t : Transition) (a : Action) → Commands P s i t a → is_transfer i.kind ≡ false →
      let g = (origin_of s i).group in let after = after_command P s i t.target a in
      standing g (done ++ after.event ∷ []) after.state ≡ plus_event after.event (standing g done s)
  unfolding move_to
  stands_command P i t a c plain =
      same_standing (group_own done (after_command P s i t.target a).event)
      (ap (of_group request_group (origin_of s i).group) (performed_requests i.rank (origin_of s i) P i.kind a s.machine c.fits plain))
      (ap (of_group delivery_group (origin_of s i).group) (performed_deliveries i.rank (origin_of s i) a s.machine))

  -- The group of a transfer gets its event and its request.
  pub stands_transfer : (P : Program) (i : Item) (t : Transition) (q remote : ℕ) (source destination : Address) →
      let g = (origin_of s i).group in let after = after_command P s i t.target (Issues q remote source destination) in
      standing g (done ++ after.event ∷ []) after.state ≡
      plus_request i.rank q (request_of g after.event remote source destination) (plus_event after.event (standing g done s))
  unfolding move_to perform
  stands_transfer P i t q remote source destination =
      same_standing (group_own done (after_command P s i t.target (Issues q remote source destination)).event)
      (append_own request_group s.machine.requests i.rank q _ (origin_of s i).group refl)
      refl

  -- The group of a fetch gets its event, and a delivery for its request.
  pub stands_fetch : (i : Item) (a : Request Origin) (rest : List (Request Origin)) →
      let g = request_group a in let after = after_fetch s i a rest in
      standing g (done ++ after.event ∷ []) after.state ≡
      plus_delivery i.rank i.queue (sent_on s a)
      (left_requests i.rank i.queue (entries_of request_group g rest) (plus_event after.event (standing g done s)))
  unfolding set_requests set_deliveries
  stands_fetch i a rest =
      same_standing (group_own done (after_fetch s i a rest).event)
      (take_own request_group s.machine.requests i.rank i.queue rest (request_group a))
      (append_own delivery_group s.machine.deliveries i.rank i.queue (sent_on s a) (request_group a) refl)

  -- The group of a delivery gets its event, and its entry is gone.
  pub stands_delivery : (i : Item) (b : Delivery Origin) (rest : List (Delivery Origin)) →
      let g = delivery_group b in let after = after_delivery s i b rest in
      standing g (done ++ after.event ∷ []) after.state ≡
      left_deliveries i.rank i.queue (entries_of delivery_group g rest) (plus_event after.event (standing g done s))
  unfolding set_deliveries set_cell
  stands_delivery i b rest =
      same_standing (group_own done (after_delivery s i b rest).event) refl
      (take_own delivery_group s.machine.deliveries i.rank i.queue rest (delivery_group b))
