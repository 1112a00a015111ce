-- A transfer of a run appends its request, and what an item appends is what its event issued: the items before it leave the registers that its rank
-- has by its own way, and by those its command asks for one thing.
use Rattle.model.specs.declared.Action.TheVariants.{Issues}
use Rattle.std.specs.Prelude.{Some, slice_get}
use Rattle.model.proofs.Options.{some-injective}
use Prim.Native.Nat.{ℕ}
use mathlib.Core.Path.{◌≡◌, refl, sym, ◌∙◌, ap}
use mathlib.Core.Bool.{true}
use mathlib.Core.List.{List, map}
use lib.ListN.{take}
use Rattle.model.specs.declared.Address.{Address}
use Rattle.model.specs.declared.Item.{Item}
use Rattle.model.specs.declared.Kind.{Kind}
use Rattle.model.specs.Refusals.{Ok}
use Rattle.model.specs.ItemKinds.{is_transfer}
use Rattle.model.specs.Programs.{Program}
use Rattle.model.specs.Machine.{Start, action}
use Rattle.model.specs.Replay.{Event, Replay, Replayed, begin, take_items}
use Rattle.model.specs.HappensBefore.{At, rank_of}
use Rattle.model.proofs.Laws.{ok_injective, slice_get_map, slice_get_mapped, take_map}
use Rattle.model.proofs.ItemKinds.{transfer_command}
use Rattle.record_facts.specs.Facts.{Local}
use Rattle.record_facts.specs.Transfers.{PopAt, AppendsRequest}
use Rattle.record_facts.proofs.Locals.{local_of, local_stepped}
use Rattle.record_facts.proofs.Trajectory.{Run, local_now, run_taken, move_at}
use Rattle.record_facts.proofs.Status.{Issuing}

-- What an item appends is what its event issued.
pub record SameRequest (e : Event) (rank queue remote remote' : ℕ) : Type 0 where
  pub rank_is : rank_of e ≡ rank
  pub queue_is : e.queue ≡ queue
  pub remote_is : remote' ≡ remote

-- An item's event, an event's item, and a pop's.
module _ {items : List Item} (events : List Event) (items_of : map (λ e. e.item) events ≡ items) where
  pub event_at : (j : ℕ) {i : Item} → slice_get items j ≡ Some i → (x : Event) × At events j x × (x.item ≡ i)
  event_at j h = slice_get_mapped (λ (e : Event). e.item) events j (rw (sym items_of) at h)

  pub item_at : (j : ℕ) {x : Event} → At events j x → slice_get items j ≡ Some x.item
  item_at j at = rw (sym items_of) (slice_get_map (λ (e : Event). e.item) events j at)

  pub pop_at : (j : ℕ) {kind : Kind} {x : Event} → At events j x → x.item.kind ≡ kind → PopAt items kind j x.item
  pop_at j at kind = record { at = item_at j at; kind_is = kind }

module _ {P : Program} {start : Start} {local : ℕ → ℕ → Local} {items : List Item} {events : List Event} {last : Replay}
    (whole : Run P start local events last) (items_of : map (λ e. e.item) events ≡ items) where
  -- The state before an item is what the items before it leave.
  pub left_before : (i : ℕ) {e : Event} (at : At events i e) →
      take_items P (begin start) 0 (take i items) ≡ Ok (record { last = (move_at whole i e at).before; events = take i events })
  left_before i {e} at =
      rw (sym items_of, take_map (λ (e : Event). e.item) i events) (run_taken (move_at whole i e at).run)

  -- A transfer's rank has the registers of its place there.
  registers_before : (i : ℕ) {e : Event} (at : At events i e) → is_transfer e.item.kind ≡ true →
      local (rank_of e) e.place ≡ local_of (move_at whole i e at).before (rank_of e)
  registers_before i {e} at transfer =
      let here = move_at whole i e at in
      ap (local (rank_of e)) (local_stepped here.step (transfer_command e.item.kind transfer)).place ∙ local_now here.run (rank_of e)

  pub appends_request : (i : ℕ) {e : Event} → At events i e → {remote : ℕ} {source destination : Address} →
      Issuing P local e remote source destination → AppendsRequest P start items (rank_of e) e.queue remote i
  appends_request i {e} at {remote} {source} {destination} issue =
      let here = move_at whole i e at in
      let step = (local_stepped here.step (transfer_command e.item.kind issue.kind)).moves in
      record {
        item = e.item;
        transition = step.transition;
        left = record { last = here.before; events = take i events };
        source = source;
        destination = destination;
        at = item_at events items_of i at;
        kind = issue.kind;
        own = refl;
        takes = step.taken;
        leave = left_before i at;
        asks = rw (registers_before i at issue.kind) at (issue.acts i step.transition step.taken);
      }

  pub same_request_lem : {rank queue remote remote' i : ℕ} {source destination : Address} {e : Event} → At events i e →
      AppendsRequest P start items rank queue remote i → Issuing P local e remote' source destination → SameRequest e rank queue remote remote'
  same_request_lem {rank} {queue} {remote} {remote'} {i} {source} {destination} {e} at r issue =
      let before = (move_at whole i e at).before in
      let command = r.transition.command in
      let item_is : e.item ≡ r.item =
      some-injective _ _ (sym (item_at events items_of i at) ∙ r.at) in
      let left_is : _ ≡ r.left = ok_injective (sym (left_before i at) ∙ r.leave) in
      let rank_is : rank_of e ≡ rank = ap (λ (i : Item). i.rank) item_is ∙ r.own in
      let found = ap (λ (i : Item). slice_get P.transitions i.transition) item_is ∙ r.takes in
      let asked : action P (rank_of e) (before.machine.registers (rank_of e)) i command ≡ Ok (Issues e.queue remote' source destination) =
      rw (registers_before i at issue.kind) at (issue.acts i r.transition found) in
      let same : Issues e.queue remote' source destination ≡ Issues queue remote r.source r.destination =
      ok_injective
      (sym asked ∙
      ap (λ n. action P n (before.machine.registers n) i command) rank_is ∙
      ap (λ (l : Replayed). action P rank (l.last.machine.registers rank) i command) left_is ∙
      r.asks) in
      record { rank_is = rank_is; queue_is = cc; remote_is = cc }
