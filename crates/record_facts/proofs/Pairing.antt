-- There is one pairing at most. Pop after pop: if two pairings agree on all pops before one, the same entries are there for it, and one of them is the
-- oldest. Pairings that agree on the fetches have the same deliveries.
use Prim.Native.Nat.{ℕ, zero, suc, ◌<◌}
use mathlib.Core.Path.{◌≡◌, sym, ◌∙◌, subst}
use mathlib.Core.List.{List}
use native.Mathlib.Nat.{not-suc-le-zero}
use native.Mathlib.Omega.{arith}
use Rattle.model.specs.declared.Item.{Item}
use Rattle.model.specs.declared.Kind.{Kind}
use Rattle.model.specs.declared.Kind.TheVariants.{Popa, Popb}
use Rattle.model.specs.Programs.{Program}
use Rattle.model.specs.Machine.{Start}
use Rattle.record_facts.specs.Transfers.{PopAt, IsThere, FirstInFirstOut, AppendsRequest, AppendsDelivery, Paired}

-- Two functions agree on the pops of a kind.
abbrev pub Agree : List Item → Kind → (ℕ → ℕ) → (ℕ → ℕ) → Type 0
Agree items kind f g = (j : ℕ) (pop : Item) → PopAt items kind j pop → f j ≡ g j

-- What is there for a pop by the one is there by the other.
there_too : {items : List Item} {kind : Kind} {A B : (rank queue remote i : ℕ) → Type 0} →
    ((rank queue remote i : ℕ) → A rank queue remote i → B rank queue remote i) →
    {h k : ℕ → ℕ} (j : ℕ) → ((m : ℕ) (pop : Item) → PopAt items kind m pop → m < j → h m ≡ k m) → (pop : Item) (i : ℕ) →
    IsThere items A kind h j pop i → IsThere items B kind k j pop i
there_too step j agree pop i t =
    record {
      remote = t.remote;
      appended = step pop.rank pop.queue t.remote i t.appended;
      for_rank = t.for_rank;
      before = t.before;
      not_taken = λ m other at less is. t.not_taken m other at less (agree m other at less ∙ is);
    }

module _ (items : List Item) (kind : Kind) {Appends Others : (rank queue remote i : ℕ) → Type 0}
    (same : (rank queue remote i : ℕ) → Appends rank queue remote i → Others rank queue remote i)
    (back : (rank queue remote i : ℕ) → Others rank queue remote i → Appends rank queue remote i) {f g : ℕ → ℕ}
    (one : FirstInFirstOut items Appends kind f) (two : FirstInFirstOut items Others kind g) where
  agree_below : (n j : ℕ) (pop : Item) → PopAt items kind j pop → j < n → f j ≡ g j
  agree_below zero j pop at less = absurd (not-suc-le-zero less)
  agree_below (suc n) j pop at less =
      let before : (m : ℕ) (other : Item) → PopAt items kind m other → m < j → f m ≡ g m =
      λ m other is earlier. agree_below n m other is (omega arith) in
      let low = one.oldest j pop at (g j)
      (there_too back j (λ m other is earlier. sym (before m other is earlier)) pop (g j) (two.there j pop at)) in
      let high = two.oldest j pop at (f j) (there_too same j before pop (f j) (one.there j pop at)) in
      omega arith

  pub agree_all : Agree items kind f g
  agree_all j pop at = agree_below (suc j) j pop at (omega arith)

-- A delivery is known by its fetch, so pairings that agree on fetches append the same deliveries.
same_deliveries_lem : {P : Program} {start : Start} {items : List Item} {f g : ℕ → ℕ} → Agree items Popa f g → (rank queue remote i : ℕ) →
    AppendsDelivery P start items f rank queue remote i → AppendsDelivery P start items g rank queue remote i
same_deliveries_lem {P} {start} {items} agree rank queue remote i d =
    record {
      pop = d.pop;
      at = d.at;
      own = d.own;
      queue_is = d.queue_is;
      issued = subst (AppendsRequest P start items rank queue remote) (agree i d.pop d.at) d.issued;
    }

pub one_pairing : {P : Program} {start : Start} {items : List Item} {f g f' g' : ℕ → ℕ} → Paired P start items f g → Paired P start items f' g' →
    Agree items Popa f f' × Agree items Popb g g'
one_pairing {items = items} one two =
    let fetches = agree_all items Popa (λ rank queue remote i r. r) (λ rank queue remote i r. r) one.requests two.requests in (
      fetches,
      agree_all items Popb (same_deliveries_lem fetches) (same_deliveries_lem (λ j pop at. sym (fetches j pop at))) one.deliveries two.deliveries,
    )
