-- What a group's standing tells of its entries. A request that it has is its transfer's, which is issued and no more; a delivery is its transfer's,
-- which is fetched. And the other way round: a transfer that no popa has taken on has its request in its queue, and a fetch that no popb has taken on
-- its delivery.
use Rattle.model.proofs.Options.{none-ne-some, some-injective}
use Prim.Native.Nat.{ℕ, zero, suc}
use mathlib.Core.Path.{◌≡◌, refl, sym, ◌∙◌, ap, subst, subst₂}
use mathlib.Core.Bool.{Bool, true, true≢false}
use mathlib.Core.List.{List, [], ◌∷◌}
use mathlib.Core.Logic.{◌⊎◌, inl, inr, ⊎_elim}
use Rattle.model.specs.declared.Address.{Address}
use Rattle.model.specs.declared.Kind.TheVariants.{Popa, Popb}
use Rattle.model.specs.Lists.{◌∈◌}
use Rattle.model.specs.ItemKinds.{is_bar, is_transfer, is_command_kind}
use Rattle.model.specs.Programs.{Program}
use Rattle.model.specs.Machine.{Request, Delivery}
use Rattle.model.specs.Replay.{Origin, Event}
use Rattle.model.specs.HappensBefore.{At, rank_of}
use Rattle.model.proofs.Laws.{put₂_same, each_at}
use Rattle.model.proofs.Lists.{here}
use Rattle.model.proofs.Selections.{select_within}
use Rattle.record_facts.specs.Facts.{Local, PopOf}
use Rattle.record_facts.proofs.Queues.{Out, out_nothing, of_own, entries_of}
use Rattle.record_facts.proofs.Status.{Standing, nothing, Issuing, request_of, delivery_of, Status, alone, closed, issued, fetched, delivered, only_there}

-- The members of a list of one and of two.
pub in_one : {x e : Event} (m : ℕ) → At (x ∷ []) m e → x ≡ e
in_one {x} {e} zero at = some-injective x e at
in_one (suc m) at = absurd (none-ne-some _ at)

pub in_two : {x y e : Event} (m : ℕ) → At (x ∷ y ∷ []) m e → (x ≡ e) ⊎ (y ≡ e)
in_two {x} {e = e} zero at = inl (some-injective x e at)
in_two (suc m) at = inr (in_one m at)

-- The transfer of a request that is taken out of the group's entries.
pub record Asked (P : Program) (local : ℕ → ℕ → Local) (was : Standing) (rank queue : ℕ) (a : Request Origin) : Type 0 where
  pub e : Event
  pub source : Address
  pub destination : Address
  pub issue : Issuing P local e a.remote source destination
  pub events : was.events ≡ e ∷ []
  pub rank_is : rank ≡ rank_of e
  pub queue_is : queue ≡ e.queue
  pub place : a.mark.place ≡ e.place

pub asked : {P : Program} {local : ℕ → ℕ → Local} {g : ℕ} {was : Standing} {rank queue : ℕ} {a : Request Origin} {left : List (Request Origin)} →
    Status P local g was → Out a (was.requests rank queue) left → Asked P local was rank queue a
asked (alone e command plain bar) o = absurd (out_nothing o refl)
asked (closed bars each ranks) o = absurd (out_nothing o refl)
asked {P} {local} {g} {rank = rank} {queue} (issued e remote source destination issue) o =
    let there = only_there (rank_of e) e.queue (request_of g e remote source destination) rank queue o in
    record {
      e = e;
      source = source;
      destination = destination;
      issue = subst (λ n. Issuing P local e n source destination) (ap (λ r. r.remote) (sym there.entry)) issue;
      events = refl;
      rank_is = there.rank_is;
      queue_is = there.queue_is;
      place = ap (λ r. r.mark.place) there.entry;
    }
asked (fetched e a remote source destination value issue popa names reads) o = absurd (out_nothing o refl)
asked (delivered e a b whole) o = absurd (out_nothing o refl)

-- The transfer of a delivery, and its fetch.
pub record Sent (P : Program) (local : ℕ → ℕ → Local) (was : Standing) (rank queue : ℕ) (b : Delivery Origin) : Type 0 where
  pub e : Event
  pub a : Event
  pub source : Address
  pub destination : Address
  pub issue : Issuing P local e b.remote source destination
  pub fetch : PopOf Popa e a
  pub events : was.events ≡ e ∷ a ∷ []
  pub rank_is : rank ≡ rank_of e
  pub queue_is : queue ≡ e.queue
  pub place : b.mark.place ≡ e.place

pub sent : {P : Program} {local : ℕ → ℕ → Local} {g : ℕ} {was : Standing} {rank queue : ℕ} {b : Delivery Origin} {left : List (Delivery Origin)} →
    Status P local g was → Out b (was.deliveries rank queue) left → Sent P local was rank queue b
sent (alone e command plain bar) o = absurd (out_nothing o refl)
sent (closed bars each ranks) o = absurd (out_nothing o refl)
sent (issued e remote source destination issue) o = absurd (out_nothing o refl)
sent {P} {local} {g} {rank = rank} {queue} (fetched e a remote source destination value issue popa names reads) o =
    let there = only_there (rank_of e) e.queue (delivery_of g e remote destination value) rank queue o in
    record {
      e = e;
      a = a;
      source = source;
      destination = destination;
      issue = subst (λ n. Issuing P local e n source destination) (ap (λ d. d.remote) (sym there.entry)) issue;
      fetch = popa;
      events = refl;
      rank_is = there.rank_is;
      queue_is = there.queue_is;
      place = ap (λ d. d.mark.place) there.entry;
    }
sent (delivered e a b whole) o = absurd (out_nothing o refl)

-- A transfer that no popa of its group has taken on: its request waits.
pub record Asking (P : Program) (local : ℕ → ℕ → Local) (g : ℕ) (was : Standing) (e : Event) : Type 0 where
  pub remote : ℕ
  pub source : Address
  pub destination : Address
  pub issue : Issuing P local e remote source destination
  pub waits : was.requests (rank_of e) e.queue ≡ request_of g e remote source destination ∷ []

pub asking : {P : Program} {local : ℕ → ℕ → Local} {g : ℕ} {was : Standing} → Status P local g was →
    (m : ℕ) {e : Event} → At was.events m e → is_transfer e.item.kind ≡ true →
    ((k : ℕ) (y : Event) → At was.events k y → ¬ (y.item.kind ≡ Popa)) → Asking P local g was e
asking (alone x command plain bar) m at transfer none =
    absurd (true≢false (sym transfer ∙ ap (λ z. is_transfer z.item.kind) (sym (in_one m at)) ∙ plain))
asking (closed bars each ranks) m at transfer none = absurd (true≢false (sym transfer ∙ ap is_transfer (each_at bars each m at)))
asking {P} {local} {g} {was} (issued x remote source destination issue) m at transfer none =
    subst (Asking P local g was) (in_one m at)
    (record { remote = remote; source = source; destination = destination; issue = issue; waits = put₂_same nothing (rank_of x) x.queue _ })
asking (fetched x a remote source destination value issue popa names reads) m at transfer none = absurd (none 1 a refl popa.kind_is)
asking (delivered x a b whole) m at transfer none = absurd (none 1 a refl whole.fetch_of_lem.kind_is)

-- A fetch that no popb of its group has taken on: its delivery waits.
pub record Sending (P : Program) (local : ℕ → ℕ → Local) (g : ℕ) (was : Standing) (a : Event) : Type 0 where
  pub e : Event
  pub remote : ℕ
  pub source : Address
  pub destination : Address
  pub value : ℕ
  pub issue : Issuing P local e remote source destination
  pub fetch : PopOf Popa e a
  pub events : was.events ≡ e ∷ a ∷ []
  pub waits : was.deliveries (rank_of e) e.queue ≡ delivery_of g e remote destination value ∷ []

pub sending : {P : Program} {local : ℕ → ℕ → Local} {g : ℕ} {was : Standing} → Status P local g was →
    (m : ℕ) {a : Event} → At was.events m a → a.item.kind ≡ Popa →
    ((k : ℕ) (y : Event) → At was.events k y → ¬ (y.item.kind ≡ Popb)) → Sending P local g was a
sending (alone x command plain bar) m at popa none =
    absurd (true≢false (sym command ∙ ap (λ z. is_command_kind z.item.kind) (in_one m at) ∙ ap is_command_kind popa))
sending (closed bars each ranks) m at popa none =
    absurd (true≢false (sym (ap is_bar (each_at bars each m at)) ∙ ap is_bar popa))
sending (issued x remote source destination issue) m at popa none =
    absurd (true≢false (sym issue.kind ∙ ap (λ z. is_transfer z.item.kind) (in_one m at) ∙ ap is_transfer popa))
sending {P} {local} {g} {was} (fetched x y remote source destination value issue fetch names reads) m at popa none =
    ⊎_elim
    (λ first. absurd (true≢false (sym issue.kind ∙ ap (λ z. is_transfer z.item.kind) first ∙ ap is_transfer popa)))
    (λ second.
    subst (Sending P local g was) second
    (record {
      e = x;
      remote = remote;
      source = source;
      destination = destination;
      value = value;
      issue = issue;
      fetch = fetch;
      events = refl;
      waits = put₂_same nothing (rank_of x) x.queue _;
    }))
    (in_two m at)
sending (delivered x y b whole) m at popa none = absurd (none 2 b refl whole.delivery_of_lem.kind_is)

-- An entry of a group waits in a queue, and passes a test. A group's only entry waits in its queue.
pub record Waits {A : Type 0} (group : A → ℕ) (among : A → Bool) (queue : List A) (g : ℕ) : Type 0 where
  pub entry : A
  pub waits : entry ∈ queue
  pub passes : among entry ≡ true
  pub own : group entry ≡ g

pub only_entry : {A : Type 0} (group : A → ℕ) (g : ℕ) (queues : ℕ → ℕ → List A) {r q r' q' : ℕ} {entry : A} → r ≡ r' → q ≡ q' →
    entries_of group g (queues r q) ≡ entry ∷ [] → entry ∈ queues r' q'
only_entry group g queues {r} {q} {entry = entry} same_rank same_queue is =
    subst₂ (λ k l. entry ∈ queues k l) same_rank same_queue
    (select_within (of_own group g) (queues r q) (subst (λ l. entry ∈ l) (sym is) (here refl))).0
