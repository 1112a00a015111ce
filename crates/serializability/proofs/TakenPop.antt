-- One fetch and one delivery, each of the only entry in the queues: the fetch reads what its source holds now, and the delivery writes it.
use Prim.Native.Nat.{ℕ}
use mathlib.Core.Path.{◌≡◌, refl, sym, ◌∙◌, ap, ap₂, fun_ext}
use mathlib.Core.Bool.{true, false, ◌&&◌}
use mathlib.Core.List.{List, [], ◌∷◌, ◌++◌}
use lib.Dec.{eqb}
use Rattle.model.specs.declared.Address.{Address}
use Rattle.model.specs.declared.Kind.TheVariants.{Popa, Popb}
use Rattle.model.specs.ItemKinds.{is_bar}
use Rattle.model.specs.Programs.{Program}
use Rattle.model.specs.Machine.{Request, Delivery, Start, read_of, write_of, cell_at, put₂, set_cell, set_requests, set_deliveries}
use Rattle.model.specs.Replay.{Event, Origin, Replay, agrees_with, is_for, request_for, delivery_for, after_fetch, after_delivery}
use Rattle.model.specs.HappensBefore.{is_command, rank_of}
use Rattle.model.proofs.Replay.{fetches, delivers, oldest_only}
use Rattle.model.proofs.Laws.{decided, put₂_same}
use Rattle.record_facts.specs.Facts.{Local, PopOf, written, cells_after}
use Rattle.serializability.proofs.Groups.{kind_command}
use Rattle.serializability.proofs.Alike.{TakenAs, taken_to, taken_as}
use Rattle.serializability.proofs.Standing.{no_requests, no_deliveries, standing, replay_equal, after_pop, after_access}
use Rattle.serializability.proofs.Rows.{allowed_outside}

-- One queue of all has this one entry.
abbrev pub only : {A : Type 0} → (rank queue : ℕ) → A → ℕ → ℕ → List A
only rank queue entry = put₂ (λ r q. []) rank queue (entry ∷ [])

-- It is found there, under whatever names of the rank and the queue, and once it is taken there is none.
only_found : {A : Type 0} {rank queue r q : ℕ} (entry : A) → r ≡ rank → q ≡ queue → only rank queue entry r q ≡ entry ∷ []
only_found {rank = rank} {queue} {r} {q} entry same_rank same_queue =
    ap₂ (only rank queue entry) same_rank same_queue ∙ put₂_same (λ k l. []) rank queue (entry ∷ [])

only_taken : {A : Type 0} {rank queue r q : ℕ} (entry : A) → r ≡ rank → q ≡ queue →
    ◌≡◌ {A = ℕ → ℕ → List A} (put₂ (only rank queue entry) r q []) (λ k l. [])
unfolding put₂
only_taken {A} {rank} {queue} {r} {q} entry same_rank same_queue =
    ap₂ (λ m n. put₂ (only rank queue entry) m n []) same_rank same_queue ∙
    fun_ext (λ k. fun_ext (λ l. decided (eqb k rank && eqb l queue) (λ t. rw t) (λ t. rw t)))

module _ (P : Program) (start : Start) (local : ℕ → ℕ → Local) (done : List Event) (opened at : ℕ) (e p : Event) (remote : ℕ) (destination : Address)
    (value : ℕ) (mark : Origin) (names : is_for p.item.remote remote ≡ true) (place : p.place ≡ mark.place) (agreed : agrees_with p.item p.access ≡ true) where
  -- The queue's one delivery, before the delivery and after the fetch.
  abbrev sending : (v : ℕ) → Delivery Origin
  sending v = record { remote = remote; destination = destination; value = v; mark = mark }

  abbrev sent : Delivery Origin
  sent = sending value

  abbrev waiting : Replay
  waiting = standing start local done opened 0 no_requests (only (rank_of e) e.queue sent)

  -- A fetch of the one request, where the source holds the record's value.
  module _ (pop : PopOf Popa e p) (source : Address) (reads : p.access ≡ read_of source value)
      (found : value ≡ cells_after start done source.rank source.cell) where
    abbrev asked : Request Origin
    asked = record { remote = remote; source = source; destination = destination; mark = mark }

    abbrev asking : Replay
    asking = standing start local done opened 0 (only (rank_of e) e.queue asked) no_deliveries

    fetch_moves : (after_fetch asking p.item asked []).state ≡
        standing start local (done ++ p ∷ []) opened 0 no_requests (only (rank_of e) e.queue sent)
    unfolding set_requests set_deliveries written
    fetch_moves =
        let c : is_command p ≡ false = kind_command p pop.kind_is in
        replay_equal
        (after_pop (λ r n. (local r n).control) done p c)
        (after_pop (λ r n. (local r n).registers) done p c)
        (ap (written (cells_after start done)) (sym reads) ∙ after_access start done p)
        (only_taken asked pop.rank pop.item_queue)
        (ap₂ (λ r q. only r q (sending (cell_at (cells_after start done) source))) pop.rank pop.item_queue ∙
        ap (λ v. only (rank_of e) e.queue (sending v)) (sym found))
        (after_pop (λ r n. n) done p c)
        refl
        refl

    pub fetch_taken : TakenAs P asking at p (standing start local (done ++ p ∷ []) opened 0 no_requests (only (rank_of e) e.queue sent))
    fetch_taken =
        let same : p.access ≡ read_of source (cell_at (cells_after start done) source) = reads ∙ ap (read_of source) found in
        taken_to
        (taken_as
        (fetches asked []
        (record {
          allowed = allowed_outside p.item (ap is_bar pop.kind_is);
          kind_is = pop.kind_is;
          chosen = oldest_only (request_for p.item) (only_found asked pop.rank pop.item_queue) names;
          agreed = ap (agrees_with p.item) (sym same) ∙ agreed;
        }))
        (record { item = refl; place = place; queue = pop.queue ∙ sym pop.item_queue; access = same }))
        fetch_moves

  -- The delivery of the one entry.
  module _ (pop : PopOf Popb e p) (writes : p.access ≡ write_of destination value) where
    delivery_moves : (after_delivery waiting p.item sent []).state ≡
        standing start local (done ++ p ∷ []) opened 0 no_requests no_deliveries
    unfolding set_cell set_deliveries written
    delivery_moves =
        let c : is_command p ≡ false = kind_command p pop.kind_is in
        replay_equal
        (after_pop (λ r n. (local r n).control) done p c)
        (after_pop (λ r n. (local r n).registers) done p c)
        (ap (written (cells_after start done)) (sym writes) ∙ after_access start done p)
        refl
        (only_taken sent pop.rank pop.item_queue)
        (after_pop (λ r n. n) done p c)
        refl
        refl

    pub delivery_taken : TakenAs P waiting at p (standing start local (done ++ p ∷ []) opened 0 no_requests no_deliveries)
    delivery_taken =
        taken_to
        (taken_as
        (delivers sent []
        (record {
          allowed = allowed_outside p.item (ap is_bar pop.kind_is);
          kind_is = pop.kind_is;
          chosen = oldest_only (delivery_for p.item) (only_found sent pop.rank pop.item_queue) names;
          agreed = ap (agrees_with p.item) (sym writes) ∙ agreed;
        }))
        (record { item = refl; place = place; queue = pop.queue ∙ sym pop.item_queue; access = writes }))
        delivery_moves
