-- What the entries of a list stand for: a stored request is read back, and a list that joins, leaves or stays says what the model's list says.
use Prim.Native.Nat.{ℕ, ◌+◌, ◌<◌}
use mathlib.Core.Path.{◌≡◌, refl, sym, ap, ◌∙◌}
use mathlib.Core.Logic.{◌≢◌}
use mathlib.Core.List.{List, [], ◌∷◌, ◌++◌, map, map-append, cons-ne-nil}
use mathlib.Core.Bool.{◌&&◌}
use native.Mathlib.Omega.{arith}
use lib.Dec.{eqb}
use borrow.Author.Tests.{ne_eqb}
use Rattle.model.specs.Limits.{max_items, max_queues}
use Rattle.model.specs.Machine.{put₂}
use Rattle.model.specs.Replay.{is_empty}
use Rattle.model.proofs.Laws.{decided, put₂_same, put₂_other}
use Rattle.memory.specs.Tables.{Table, Row, Rank, Shaped, number_at, stored}
use Rattle.memory.proofs.Stores.{same_place, other_place, shaped, number_same, number_other}
use Rattle.entries.specs.declared.Request.{Request}
use Rattle.links.specs.declared.Part.{Part}
use Rattle.links.specs.declared.Part.TheVariants.{Requests, Deliveries}
use Rattle.entries.specs.Entries.{pool_size, source_field, destination_field, value_field, group_field, remote_field}
use Rattle.entries.specs.Entries.{link_field, address_stored, request_at, delivery_at, request_stored}
use Rattle.links.specs.Lists.{list_of}
use Rattle.links.specs.Chains.{first, All}
use Rattle.links.proofs.EntryLists.{map_same}

-- A request looks at neither value nor link, a delivery not at the link.
module _ (pool pool' : Table) (e : ℕ) where
  abbrev Kept : (field : ℕ) → Type 0
  Kept field = number_at pool_size pool' e field ≡ number_at pool_size pool e field

  pub request_same : ((field : ℕ) → field ≢ link_field → field ≢ value_field → Kept field) → request_at pool' e ≡ request_at pool e
  request_same same =
      rw (
        same remote_field (λ p. omega (arith, p)) (λ p. omega (arith, p)),
        same source_field (λ p. omega (arith, p)) (λ p. omega (arith, p)),
        same (source_field + 1) (λ p. omega (arith, p)) (λ p. omega (arith, p)),
        same destination_field (λ p. omega (arith, p)) (λ p. omega (arith, p)),
        same (destination_field + 1) (λ p. omega (arith, p)) (λ p. omega (arith, p)),
        same group_field (λ p. omega (arith, p)) (λ p. omega (arith, p)),
      )

  pub delivery_same : ((field : ℕ) → field ≢ link_field → Kept field) → delivery_at pool' e ≡ delivery_at pool e
  delivery_same same =
      rw (
        same remote_field (λ p. omega (arith, p)),
        same destination_field (λ p. omega (arith, p)),
        same (destination_field + 1) (λ p. omega (arith, p)),
        same value_field (λ p. omega (arith, p)),
        same group_field (λ p. omega (arith, p)),
      )

-- A request that is stored is read back, and no other number changes.
module _ (pool : Table) (e : ℕ) (request : Request) where
  abbrev p₁ : Table
  p₁ = stored pool_size pool e source_field request.source.rank

  abbrev p₂ : Table
  p₂ = address_stored pool e source_field request.source

  abbrev p₃ : Table
  p₃ = stored pool_size p₂ e destination_field request.destination.rank

  abbrev p₄ : Table
  p₄ = address_stored p₂ e destination_field request.destination

  abbrev p₅ : Table
  p₅ = stored pool_size p₄ e group_field request.group

  abbrev p₆ : Table
  p₆ = request_stored pool e request

  pub request_shape : Shaped pool_size pool → Shaped pool_size (request_stored pool e request)
  request_shape shape =
      shaped pool_size p₅ e remote_field request.remote
      (shaped pool_size p₄ e group_field request.group
      (address_shape p₂ destination_field request.destination (address_shape pool source_field request.source shape)))
    where
      address_shape : (p : Table) (field : ℕ) (a : _) → Shaped pool_size p → Shaped pool_size (address_stored p e field a)
      address_shape p field a s = shaped pool_size _ e (field + 1) a.cell (shaped pool_size p e field a.rank s)

  pub stored_other : (x field : ℕ) → ((k : ℕ) → k ≢ link_field → k ≢ value_field → ¬ ((x ≡ e) × (field ≡ k))) →
      number_at pool_size (request_stored pool e request) x field ≡ number_at pool_size pool x field
  stored_other x field apart =
      number_other pool_size p₅ e remote_field request.remote x field (apart remote_field (λ p. omega (arith, p)) (λ p. omega (arith, p)))
      ∙ number_other pool_size p₄ e group_field request.group x field (apart group_field (λ p. omega (arith, p)) (λ p. omega (arith, p)))
      ∙ number_other pool_size p₃ e (destination_field + 1) request.destination.cell x field
      (apart (destination_field + 1) (λ p. omega (arith, p)) (λ p. omega (arith, p)))
      ∙ number_other pool_size p₂ e destination_field request.destination.rank x field
      (apart destination_field (λ p. omega (arith, p)) (λ p. omega (arith, p)))
      ∙ number_other pool_size p₁ e (source_field + 1) request.source.cell x field
      (apart (source_field + 1) (λ p. omega (arith, p)) (λ p. omega (arith, p)))
      ∙ number_other pool_size pool e source_field request.source.rank x field
      (apart source_field (λ p. omega (arith, p)) (λ p. omega (arith, p)))

  -- A later store to another number of the entry leaves what was stored.
  later : (p : Table) (k value field : ℕ) → field ≢ k → number_at pool_size (stored pool_size p e k value) e field ≡ number_at pool_size p e field
  later p k value field n = number_other pool_size p e k value e field (λ (_, q). n q)

  pub request_read : Shaped pool_size pool → Row max_items e → request_at (request_stored pool e request) e ≡ request
  request_read shape r =
      let s₁ = shaped pool_size pool e source_field request.source.rank shape in
      let s₂ = shaped pool_size p₁ e (source_field + 1) request.source.cell s₁ in
      let s₃ = shaped pool_size p₂ e destination_field request.destination.rank s₂ in
      let s₄ = shaped pool_size p₃ e (destination_field + 1) request.destination.cell s₃ in
      let s₅ = shaped pool_size p₄ e group_field request.group s₄ in
      let after_places : (field : ℕ) → field < group_field → number_at pool_size p₆ e field ≡ number_at pool_size p₄ e field =
      λ field b.
      later p₅ remote_field request.remote field (λ p. omega (arith, p, b))
      ∙ later p₄ group_field request.group field (λ p. omega (arith, p, b)) in
      let after_source : (field : ℕ) → field < destination_field → number_at pool_size p₄ e field ≡ number_at pool_size p₂ e field =
      λ field b.
      later p₃ (destination_field + 1) request.destination.cell field (λ p. omega (arith, p, b))
      ∙ later p₂ destination_field request.destination.rank field (λ p. omega (arith, p, b)) in
      rw (
        number_same pool_size p₅ e remote_field request.remote s₅ r (omega arith),
        after_places source_field (omega arith)
            ∙ after_source source_field (omega arith)
            ∙ later p₁ (source_field + 1) request.source.cell source_field (λ p. omega (arith, p))
            ∙ number_same pool_size pool e source_field request.source.rank shape r (omega arith),
        after_places (source_field + 1) (omega arith)
            ∙ after_source (source_field + 1) (omega arith)
            ∙ number_same pool_size p₁ e (source_field + 1) request.source.cell s₁ r (omega arith),
        after_places destination_field (omega arith)
            ∙ later p₃ (destination_field + 1) request.destination.cell destination_field (λ p. omega (arith, p))
            ∙ number_same pool_size p₂ e destination_field request.destination.rank s₂ r (omega arith),
        after_places (destination_field + 1) (omega arith)
            ∙ number_same pool_size p₃ e (destination_field + 1) request.destination.cell s₃ r (omega arith),
        later p₅ remote_field request.remote group_field (λ p. omega (arith, p))
            ∙ number_same pool_size p₄ e group_field request.group s₄ r (omega arith),
      )

-- The lists of queues are as different as the queues and the parts.
pub list_queue : (part : Part) (q queue : ℕ) → list_of q part ≡ list_of queue part → q ≡ queue
list_queue Requests q queue h = omega (arith, h)
list_queue Deliveries q queue h = omega (arith, h)

pub parts_apart : (q queue : ℕ) → list_of q Requests ≢ list_of queue Deliveries
parts_apart q queue h = omega (arith, h)

-- A list of the model's stands in a list of entries, as they are read. Here an entry joins both, and there both stay.
module _ {A B : Type 0} (bare : A → B) (read read' : ℕ → B) where
  pub contents_same : (l : List A) (es : List ℕ) → map bare l ≡ map read es → All (λ e. read' e ≡ read e) es → map bare l ≡ map read' es
  contents_same l es h same = h ∙ sym (map_same read' read es same)

  pub contents_more : (l : List A) (es : List ℕ) (a : A) (e : ℕ) → map bare l ≡ map read es → All (λ e. read' e ≡ read e) es → read' e ≡ bare a →
      map bare (l ++ a ∷ []) ≡ map read' (es ++ e ∷ [])
  contents_more l es a e h same new =
      map-append bare l (a ∷ [])
      ∙ ap (λ m. m ++ bare a ∷ []) (contents_same l es h same)
      ∙ ap (λ b. map read' es ++ b ∷ []) (sym new)
      ∙ sym (map-append read' es (e ∷ []))

-- The first entry tells whether they are empty.
pub contents_empty : {A B : Type 0} (bare : A → B) (read : ℕ → B) (l : List A) (es : List ℕ) → map bare l ≡ map read es →
    All (Row max_items) es → is_empty l ≡ eqb (first es) 0
contents_empty bare read [] [] says rows = refl
contents_empty bare read [] (e ∷ es) says rows = absurd (cons-ne-nil _ _ (sym says))
contents_empty bare read (a ∷ l) [] says rows = absurd (cons-ne-nil _ _ says)
contents_empty bare read (a ∷ l) (e ∷ es) says (row, rows) = sym (ne_eqb e 0 (λ z. omega (arith, z, row.first)))

-- The lists of one part of every queue say what the model's lists say.
abbrev pub Says : {A B : Type 0} → (A → B) → (ℕ → B) → Part → (ℕ → ℕ → List A) → (ℕ → ℕ → List ℕ) → Type 0
Says bare read part model entries =
    (rank queue : ℕ) → Rank rank → queue < max_queues → map bare (model rank queue) ≡ map read (entries rank (list_of queue part))

module _ {A B : Type 0} (bare : A → B) (read read' : ℕ → B) (part : Part) (model : ℕ → ℕ → List A) (entries : ℕ → ℕ → List ℕ)
    (says : Says bare read part model entries) (same : (r m : ℕ) → All (λ e. read' e ≡ read e) (entries r m)) where
  -- A list of this part was exchanged, as the model's was.
  pub says_put : (rank queue : ℕ) (l : List A) (es : List ℕ) → map bare l ≡ map read' es →
      Says bare read' part (put₂ model rank queue l) (put₂ entries rank (list_of queue part) es)
  says_put rank queue l es here k q r b =
      decided (eqb k rank && eqb q queue)
      (λ t. let (e, f) = same_place k rank q queue t in
      rw (e, f, put₂_same model rank queue l, put₂_same entries rank (list_of queue part) es) here)
      (λ t. let n = other_place k rank q queue t in
      rw (
        put₂_other model rank queue l k q n,
        put₂_other entries rank (list_of queue part) es k (list_of q part) (λ (e, f). n (e, list_queue part q queue f)),
      )
      (contents_same bare read read' (model k q) (entries k (list_of q part)) (says k q r b) (same k (list_of q part))))

  -- A list of the other part was exchanged.
  pub says_kept : (rank list : ℕ) (es : List ℕ) → ((q : ℕ) → list_of q part ≢ list) → Says bare read' part model (put₂ entries rank list es)
  says_kept rank list es apart k q r b =
      rw (put₂_other entries rank list es k (list_of q part) (λ (_, f). apart q f))
      (contents_same bare read read' (model k q) (entries k (list_of q part)) (says k q r b) (same k (list_of q part)))

-- A request with a fetched value is a delivery.
pub delivery_made : (pool pool' : Table) (e value : ℕ) (request : Request) → request_at pool e ≡ request →
    number_at pool_size pool' e value_field ≡ value →
    ((field : ℕ) → field ≢ link_field → field ≢ value_field → number_at pool_size pool' e field ≡ number_at pool_size pool e field) →
    delivery_at pool' e ≡ record { remote = request.remote; destination = request.destination; value = value; group = request.group }
delivery_made pool pool' e value request h v same =
    rw (
      same remote_field (λ p. omega (arith, p)) (λ p. omega (arith, p)),
      same destination_field (λ p. omega (arith, p)) (λ p. omega (arith, p)),
      same (destination_field + 1) (λ p. omega (arith, p)) (λ p. omega (arith, p)),
      same group_field (λ p. omega (arith, p)) (λ p. omega (arith, p)),
      v,
    )
    (ap (λ r. record { remote = r.remote; destination = r.destination; value = value; group = r.group }) h)
