-- Which transfer a popa is for, and which popa a popb carries on. Document 01: "popa takes the head request of the named queue", "popb takes the head
-- delivery", "Each such queue is first in, first out over all remote ranks". Document 02, #108: a pop that names a remote rank "takes the oldest
-- entry for that rank. A pop without the bit takes the oldest of all. Oldest means first appended to the requests or deliveries it is taken from."
--
-- An entry is known here by the number of the item that appended it. The marks which travel with the replay's entries have no part in the relation
-- (`Paired`); that they say the same is `MarksAgree`.
use Rattle.model.specs.declared.Action.TheVariants.{Issues}
use Rattle.std.specs.Prelude.{ℕ, ◌<◌, ◌≤◌, ◌≡◌, true, List, ◌⊎◌, take, Some, slice_get}
use Rattle.model.specs.declared.Address.{Address}
use Rattle.model.specs.declared.Item.{Item}
use Rattle.model.specs.declared.Kind.{Kind}
use Rattle.model.specs.declared.Kind.TheVariants.{Popa, Popb}
use Rattle.model.specs.Refusals.{Ok}
use Rattle.model.specs.ItemKinds.{is_transfer}
use Rattle.model.specs.Programs.{Program, Transition}
use Rattle.model.specs.Machine.{Start, action}
use Rattle.model.specs.Replay.{Event, Replayed, begin, take_items}
use Rattle.model.specs.HappensBefore.{At}

-- Item j is a pop of this kind.
pub record PopAt (items : List Item) (kind : Kind) (j : ℕ) (pop : Item) : Type 0 where
  pub at : slice_get items j ≡ Some pop
  pub kind_is : pop.kind ≡ kind

-- First in, first out. Some items append an entry to a queue of a rank, for a remote rank, and the pops of a kind take them: pop j takes the entry
-- that item `takes j` appended.
module _ (items : List Item) (Appends : (rank queue remote i : ℕ) → Type 0) (kind : Kind) (takes : ℕ → ℕ) where
  -- The entry of item i is there for pop j: in its queue, for the rank that it names if it names one, appended before it, and taken by no pop before
  -- it.
  pub record IsThere (j : ℕ) (pop : Item) (i : ℕ) : Type 0 where
    pub remote : ℕ
    pub appended : Appends pop.rank pop.queue remote i
    pub for_rank : (pop.remote ≡ 0) ⊎ (pop.remote ≡ remote)
    pub before : i < j
    pub not_taken : (k : ℕ) (other : Item) → PopAt items kind k other → k < j → ¬ (takes k ≡ i)

  -- Each pop takes the oldest entry that is there for it.
  pub record FirstInFirstOut : Type 0 where
    pub there : (j : ℕ) (pop : Item) → PopAt items kind j pop → IsThere j pop (takes j)
    pub oldest : (j : ℕ) (pop : Item) → PopAt items kind j pop → (i : ℕ) → IsThere j pop i → takes j ≤ i

-- Item i is a read or write, which appends a request: by its rank's registers, as the items before it leave them, its command asks for a transfer on
-- this queue, with this remote rank.
pub record AppendsRequest (P : Program) (start : Start) (items : List Item) (rank queue remote i : ℕ) : Type 0 where
  pub item : Item
  pub transition : Transition
  pub left : Replayed
  pub source : Address
  pub destination : Address
  pub at : slice_get items i ≡ Some item
  pub kind : is_transfer item.kind ≡ true
  pub own : item.rank ≡ rank
  pub takes : slice_get P.transitions item.transition ≡ Some transition
  pub leave : take_items P (begin start) 0 (take i items) ≡ Ok left
  pub asks : action P rank (left.last.machine.registers rank) i transition.command ≡ Ok (Issues queue remote source destination)

-- Item i is a popa, which appends a delivery for the remote rank of its transfer, `transfer_of i`: "A pending request now remembers its remote rank ..
-- and so does its delivery."
pub record AppendsDelivery (P : Program) (start : Start) (items : List Item) (transfer_of : ℕ → ℕ) (rank queue remote i : ℕ) : Type 0 where
  pub pop : Item
  pub at : PopAt items Popa i pop
  pub own : pop.rank ≡ rank
  pub queue_is : pop.queue ≡ queue
  pub issued : AppendsRequest P start items rank queue remote (transfer_of i)

-- `transfer_of` says of each popa the transfer that it is for, and `fetch_of` of each popb the popa that it carries on.
pub record Paired (P : Program) (start : Start) (items : List Item) (transfer_of fetch_of : ℕ → ℕ) : Type 0 where
  pub requests : FirstInFirstOut items (AppendsRequest P start items) Popa transfer_of
  pub deliveries : FirstInFirstOut items (AppendsDelivery P start items transfer_of) Popb fetch_of

-- By the replay's marks two events are of one command: they have its place in its rank's sequence, and its group.
pub record SameMarks (x y : Event) : Type 0 where
  pub place : x.place ≡ y.place
  pub group : x.group ≡ y.group

-- The pops of a run are paired so in one way, and each has the marks of its transfer.
pub record MarksAgree (P : Program) (start : Start) (items : List Item) (run : Replayed) : Type 0 where
  pub transfer_of : ℕ → ℕ
  pub fetch_of : ℕ → ℕ
  pub paired : Paired P start items transfer_of fetch_of
  pub only : (transfer_of' fetch_of' : ℕ → ℕ) → Paired P start items transfer_of' fetch_of' →
      ((j : ℕ) (pop : Item) → PopAt items Popa j pop → transfer_of' j ≡ transfer_of j) ×
      ((j : ℕ) (pop : Item) → PopAt items Popb j pop → fetch_of' j ≡ fetch_of j)
  pub fetch_marks : (j : ℕ) (x e : Event) → At run.events j x → x.item.kind ≡ Popa → At run.events (transfer_of j) e → SameMarks x e
  pub delivery_marks : (j : ℕ) (x e : Event) → At run.events j x → x.item.kind ≡ Popb → At run.events (transfer_of (fetch_of j)) e →
      SameMarks x e
