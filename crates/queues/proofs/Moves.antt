-- Entries that join a list, leave one from any place, or move from the requests to the deliveries: the tables hold what the model's lists are then.
use Prim.Native.Nat.{ℕ, ◌+◌, ◌≤◌, ◌<◌}
use mathlib.Core.Path.{◌≡◌, refl, sym, subst, ◌∙◌}
use mathlib.Core.Logic.{◌≢◌}
use mathlib.Core.List.{List, [], ◌∷◌, ◌++◌, map}
use native.Mathlib.Omega.{arith}
use Rattle.model.specs.Limits.{max_items, max_queues}
use Rattle.model.specs.Machine.{Request as Asked, Delivery as Sent, put, put₂}
use Rattle.model.specs.Replay.{Origin}
use Rattle.memory.specs.Tables.{Row, Rank}
use Rattle.memory.proofs.Stores.{shaped, number_same, number_other}
use Rattle.links.specs.declared.Part.{Part}
use Rattle.links.specs.declared.Part.TheVariants.{Requests, Deliveries}
use Rattle.entries.specs.Entries.{pool_size, value_field, link_field, request_at, delivery_at, request_stored}
use Rattle.links.specs.declared.Queues.{Queues}
use Rattle.links.specs.Lists.{tables, lists_of_rank, list_of}
use Rattle.links.specs.Lists.{field_of, with_field, linked, unlinked}
use Rattle.links.specs.Chains.{last_or, All, Standing, Chained}
use Rattle.queues.specs.Transfers.{Room, appended, fetched, delivered}
use Rattle.queues.specs.Queued.{bare_request, bare_delivery, sent, Queued}
use Rattle.queues.proofs.Room.{there_room}
use Rattle.links.proofs.EntryLists.{all_append, all_but, all_middle, all_map, all_of}
use Rattle.links.proofs.Changes.{linked_changed, unlinked_changed}
use Rattle.links.proofs.Chained.{put₂_all, chained_fields, chained_linked, chained_unlinked, unlinked_free}
use Rattle.queues.proofs.Contents.{Says, says_put, says_kept, contents_same, contents_more, request_same}
use Rattle.queues.proofs.Contents.{delivery_same, request_shape, stored_other, request_read, delivery_made, parts_apart}

-- The list of a queue is one of its rank's.
pub list_held : (part : Part) (queue : ℕ) → queue < max_queues → list_of queue part < lists_of_rank
list_held Requests queue h = omega arith
list_held Deliveries queue h = omega arith

module _ {most : ℕ} {t : Queues} {requests : ℕ → ℕ → List (Asked Origin)} {deliveries : ℕ → ℕ → List (Sent Origin)}
    (held : Queued most t requests deliveries) where
  -- The transfer of the next item joins the requests of a queue.
  pub append_entry : (rank queue : ℕ) (a : Asked Origin) → Room rank queue most →
      Queued (most + 1) (appended t rank queue most (bare_request a)) (put₂ requests rank queue (requests rank queue ++ a ∷ [])) deliveries
  unfolding appended
  append_entry rank queue a room =
      let e : ℕ = most + 1 in
      let row : Row max_items e = record { first = omega arith; last = omega (arith, room.item_held) } in
      let list : ℕ = list_of queue Requests in
      let es : List ℕ = held.entries rank list in
      let pool₁ = request_stored t.pool e (bare_request a) in
      let t₁ : Queues = tables pool₁ t.ends in
      let shape₁ = request_shape t.pool e (bare_request a) held.chained.pool_shape in
      let chained₁ : Chained t₁ held.entries held.owner =
      chained_fields held.chained pool₁ shape₁
      (λ x. stored_other t.pool e (bare_request a) x link_field (λ k n m (_, q). n (sym q))) in
      let free : (r m : ℕ) → All (λ x. x ≢ e) (held.entries r m) =
      λ r m. all_map (λ x. x ≤ most) (λ x. x ≢ e) (λ x b p. omega (arith, b, p)) (held.entries r m) (held.issued r m) in
      let changed = linked_changed t₁ shape₁ held.chained.ends_shape rank list e in
      let t₂ : Queues = linked t₁ rank list e in
      let other : (x field : ℕ) → x ≢ e → field ≢ link_field → field_of t₂ x field ≡ field_of t x field =
      λ x field n f. changed.fields x field f ∙ stored_other t.pool e (bare_request a) x field (λ k _ _ (p, _). n p) in
      let same_requests : (r m : ℕ) → All (λ x. request_at t₂.pool x ≡ request_at t.pool x) (held.entries r m) =
      λ r m.
      all_map (λ x. x ≢ e) (λ x. request_at t₂.pool x ≡ request_at t.pool x)
      (λ x n. request_same t.pool t₂.pool x (λ field f _. other x field n f)) (held.entries r m) (free r m) in
      let same_deliveries : (r m : ℕ) → All (λ x. delivery_at t₂.pool x ≡ delivery_at t.pool x) (held.entries r m) =
      λ r m.
      all_map (λ x. x ≢ e) (λ x. delivery_at t₂.pool x ≡ delivery_at t.pool x)
      (λ x n. delivery_same t.pool t₂.pool x (λ field f. other x field n f)) (held.entries r m) (free r m) in
      let new : request_at t₂.pool e ≡ bare_request a =
      request_same pool₁ t₂.pool e (λ field f _. changed.fields e field f)
      ∙ request_read t.pool e (bare_request a) held.chained.pool_shape row in
      rw (there_room rank queue most room)
      (record {
        entries = put₂ held.entries rank list (es ++ e ∷ []);
        owner = put held.owner e (rank, list);
        chained = chained_linked chained₁ rank list room.rank_held (list_held Requests queue room.queue_held) e row free;
        issued =
            put₂_all held.entries rank list (es ++ e ∷ []) (λ r m xs. All (λ x. x ≤ e) xs)
            (all_append (λ x. x ≤ e) es (e ∷ []) (grown rank list) (omega arith, tt)) (λ r m n. grown r m);
        requested =
            says_put bare_request (request_at t.pool) (request_at t₂.pool) Requests requests held.entries held.requested same_requests
            rank queue (requests rank queue ++ a ∷ []) (es ++ e ∷ [])
            (contents_more bare_request (request_at t.pool) (request_at t₂.pool) (requests rank queue) es a e
            (held.requested rank queue room.rank_held room.queue_held) (same_requests rank list) new);
        fetched =
            says_kept bare_delivery (delivery_at t.pool) (delivery_at t₂.pool) Deliveries deliveries held.entries held.fetched same_deliveries
            rank list (es ++ e ∷ []) (λ q p. parts_apart queue q (sym p));
      })
    where
      grown : (r m : ℕ) → All (λ x. x ≤ most + 1) (held.entries r m)
      grown r m = all_map (λ x. x ≤ most) (λ x. x ≤ most + 1) (λ x b. omega (arith, b)) (held.entries r m) (held.issued r m)

  -- An entry leaves a list from any place: the chains, and that no entry is newer than before.
  module _ (rank queue : ℕ) (r : Rank rank) (q : queue < max_queues) (part : Part) (xs : List ℕ) (e : ℕ) (ys : List ℕ)
      (split : held.entries rank (list_of queue part) ≡ xs ++ e ∷ ys) where
    issued_left : (k m : ℕ) → All (λ x. x ≤ most) (put₂ held.entries rank (list_of queue part) (xs ++ ys) k m)
    issued_left =
        put₂_all held.entries rank (list_of queue part) (xs ++ ys) (λ k m es. All (λ x. x ≤ most) es)
        (all_but (λ x. x ≤ most) xs e ys (subst (All (λ x. x ≤ most)) split (held.issued rank (list_of queue part))))
        (λ k m n. held.issued k m)

    issued_middle : e ≤ most
    issued_middle = all_middle (λ x. x ≤ most) xs e ys (subst (All (λ x. x ≤ most)) split (held.issued rank (list_of queue part)))

    row_middle : Row max_items e
    row_middle =
        (all_middle (Standing held.owner rank (list_of queue part)) xs e ys
        (subst (All (Standing held.owner rank (list_of queue part))) split (held.chained.standing rank (list_of queue part)))).named

  -- The delivery at any place of its list is done.
  pub deliver_entry : (rank queue : ℕ) → Rank rank → queue < max_queues → (xs : List ℕ) (e : ℕ) (ys : List ℕ) →
      held.entries rank (list_of queue Deliveries) ≡ xs ++ e ∷ ys → (left : List (Sent Origin)) →
      map bare_delivery left ≡ map (delivery_at t.pool) (xs ++ ys) →
      Queued most (delivered t rank queue (record { previous = last_or 0 xs; entry = e })) requests (put₂ deliveries rank queue left)
  unfolding delivered
  deliver_entry rank queue r q xs e ys split left says =
      let list : ℕ = list_of queue Deliveries in
      let changed = unlinked_changed t held.chained.pool_shape held.chained.ends_shape rank list (last_or 0 xs) e in
      let t' : Queues = unlinked t rank list (last_or 0 xs) e in
      let same_delivery : (x : ℕ) → delivery_at t'.pool x ≡ delivery_at t.pool x =
      λ x. delivery_same t.pool t'.pool x (λ field f. changed.fields x field f) in
      let same_request : (x : ℕ) → request_at t'.pool x ≡ request_at t.pool x =
      λ x. request_same t.pool t'.pool x (λ field f _. changed.fields x field f) in
      record {
        entries = put₂ held.entries rank list (xs ++ ys);
        owner = held.owner;
        chained = chained_unlinked held.chained rank list r (list_held Deliveries queue q) xs e ys split;
        issued = issued_left rank queue r q Deliveries xs e ys split;
        requested =
            says_kept bare_request (request_at t.pool) (request_at t'.pool) Requests requests held.entries held.requested
            (λ k m. all_of (λ x. request_at t'.pool x ≡ request_at t.pool x) same_request (held.entries k m))
            rank list (xs ++ ys) (λ k. parts_apart k queue);
        fetched =
            says_put bare_delivery (delivery_at t.pool) (delivery_at t'.pool) Deliveries deliveries held.entries held.fetched
            (λ k m. all_of (λ x. delivery_at t'.pool x ≡ delivery_at t.pool x) same_delivery (held.entries k m))
            rank queue left (xs ++ ys)
            (contents_same bare_delivery (delivery_at t.pool) (delivery_at t'.pool) left (xs ++ ys) says
            (all_of (λ x. delivery_at t'.pool x ≡ delivery_at t.pool x) same_delivery (xs ++ ys)));
      }

  -- The request at any place of its list is fetched.
  pub fetch_entry : (rank queue value : ℕ) → Rank rank → queue < max_queues → (xs : List ℕ) (e : ℕ) (ys : List ℕ) →
      held.entries rank (list_of queue Requests) ≡ xs ++ e ∷ ys → (a : Asked Origin) → request_at t.pool e ≡ bare_request a →
      (left : List (Asked Origin)) → map bare_request left ≡ map (request_at t.pool) (xs ++ ys) →
      Queued most (fetched t rank queue (record { previous = last_or 0 xs; entry = e }) value) (put₂ requests rank queue left)
      (put₂ deliveries rank queue (deliveries rank queue ++ sent a value ∷ []))
  unfolding fetched
  fetch_entry rank queue value r q xs e ys split a here left says =
      let from : ℕ = list_of queue Requests in
      let to : ℕ = list_of queue Deliveries in
      let row = row_middle rank queue r q Requests xs e ys split in
      let t₁ : Queues = with_field t e value_field value in
      let shape₁ = shaped pool_size t.pool e value_field value held.chained.pool_shape in
      let chained₁ : Chained t₁ held.entries held.owner =
      chained_fields held.chained t₁.pool shape₁
      (λ x. number_other pool_size t.pool e value_field value x link_field (λ (_, p). omega (arith, p))) in
      let change₂ = unlinked_changed t₁ shape₁ held.chained.ends_shape rank from (last_or 0 xs) e in
      let t₂ : Queues = unlinked t₁ rank from (last_or 0 xs) e in
      let entries₂ : ℕ → ℕ → List ℕ = put₂ held.entries rank from (xs ++ ys) in
      let chained₂ = chained_unlinked chained₁ rank from r (list_held Requests queue q) xs e ys split in
      let free = unlinked_free chained₁ rank from r (list_held Requests queue q) xs e ys split in
      let change₃ = linked_changed t₂ chained₂.pool_shape chained₂.ends_shape rank to e in
      let t₃ : Queues = linked t₂ rank to e in
      let lists : (x field : ℕ) → field ≢ link_field → field_of t₃ x field ≡ field_of t₁ x field =
      λ x field f. change₃.fields x field f ∙ change₂.fields x field f in
      let kept : (x field : ℕ) → field ≢ link_field → ¬ ((x ≡ e) × (field ≡ value_field)) → field_of t₃ x field ≡ field_of t x field =
      λ x field f n. lists x field f ∙ number_other pool_size t.pool e value_field value x field n in
      let same_request : (x : ℕ) → request_at t₃.pool x ≡ request_at t.pool x =
      λ x. request_same t.pool t₃.pool x (λ field f g. kept x field f (λ (_, p). g p)) in
      let new_delivery : delivery_at t₃.pool e ≡ bare_delivery (sent a value) =
      delivery_made t.pool t₃.pool e value (bare_request a) here
      (lists e value_field (λ p. omega (arith, p))
      ∙ number_same pool_size t.pool e value_field value held.chained.pool_shape row (omega arith))
      (λ field f g. kept e field f (λ (_, p). g p)) in
      let same_deliveries : (k m : ℕ) → All (λ x. delivery_at t₃.pool x ≡ delivery_at t.pool x) (entries₂ k m) =
      λ k m.
      all_map (λ x. x ≢ e) (λ x. delivery_at t₃.pool x ≡ delivery_at t.pool x)
      (λ x n. delivery_same t.pool t₃.pool x (λ field f. kept x field f (λ (p, _). n p))) (entries₂ k m) (free k m) in
      let says_deliveries : Says bare_delivery (delivery_at t.pool) Deliveries deliveries entries₂ =
      says_kept bare_delivery (delivery_at t.pool) (delivery_at t.pool) Deliveries deliveries held.entries held.fetched
      (λ k m. all_of (λ x. delivery_at t.pool x ≡ delivery_at t.pool x) (λ x. refl) (held.entries k m))
      rank from (xs ++ ys) (λ k p. parts_apart queue k (sym p)) in
      let says_requests : Says bare_request (request_at t₃.pool) Requests (put₂ requests rank queue left) entries₂ =
      says_put bare_request (request_at t.pool) (request_at t₃.pool) Requests requests held.entries held.requested
      (λ k m. all_of (λ x. request_at t₃.pool x ≡ request_at t.pool x) same_request (held.entries k m))
      rank queue left (xs ++ ys)
      (contents_same bare_request (request_at t.pool) (request_at t₃.pool) left (xs ++ ys) says
      (all_of (λ x. request_at t₃.pool x ≡ request_at t.pool x) same_request (xs ++ ys))) in
      record {
        entries = put₂ entries₂ rank to (entries₂ rank to ++ e ∷ []);
        owner = put held.owner e (rank, to);
        chained = chained_linked chained₂ rank to r (list_held Deliveries queue q) e row free;
        issued =
            put₂_all entries₂ rank to (entries₂ rank to ++ e ∷ []) (λ k m es. All (λ x. x ≤ most) es)
            (all_append (λ x. x ≤ most) (entries₂ rank to) (e ∷ []) (issued_left rank queue r q Requests xs e ys split rank to)
            (issued_middle rank queue r q Requests xs e ys split, tt))
            (λ k m n. issued_left rank queue r q Requests xs e ys split k m);
        requested =
            says_kept bare_request (request_at t₃.pool) (request_at t₃.pool) Requests (put₂ requests rank queue left) entries₂ says_requests
            (λ k m. all_of (λ x. request_at t₃.pool x ≡ request_at t₃.pool x) (λ x. refl) (entries₂ k m))
            rank to (entries₂ rank to ++ e ∷ []) (λ k. parts_apart k queue);
        fetched =
            says_put bare_delivery (delivery_at t.pool) (delivery_at t₃.pool) Deliveries deliveries entries₂ says_deliveries same_deliveries
            rank queue (deliveries rank queue ++ sent a value ∷ []) (entries₂ rank to ++ e ∷ [])
            (contents_more bare_delivery (delivery_at t.pool) (delivery_at t₃.pool) (deliveries rank queue) (entries₂ rank to) (sent a value) e
            (says_deliveries rank queue r q) (same_deliveries rank to) new_delivery);
      }
