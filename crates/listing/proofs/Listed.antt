-- The whole listing, by what the replay's answer tells of the definition's acceptance.
use Prim.Native.Nat.{ℕ}
use mathlib.Core.Path.{◌≡◌, sym, ap, ◌∙◌}
use mathlib.Core.List.{List}
use Rattle.model.specs.declared.Header.{Header}
use Rattle.model.specs.declared.Refusal.{Refusal}
use Rattle.model.specs.Refusals.{Result, Ok, Err}
use Rattle.model.specs.Checks.{Accepted, accept}
use Rattle.model.specs.Listings.{Listing, printed_of, listing_in, listing}
use Rattle.memory.specs.Tables.{Table, zeros}
use Rattle.replay.specs.declared.Accepted as replayed
use Rattle.replay.specs.Handed.{Lent, lent, HandsOver}
use Rattle.replay.proofs.Accepting.{accept_refused, accept_found}
use Rattle.trails.specs.Trails.{trail_size}
use Rattle.judging.specs.Told.{verdict_told}
use Rattle.listing.specs.Told.{printed_verdict}
use Rattle.listing.proofs.Accepted.{accepted_printed}

module _ (program start recorded memory : List ℕ) where
  abbrev acceptance : Result Accepted
  acceptance = accept program start recorded

  prints_of : {m : Result Accepted} → acceptance ≡ m → printed_of memory m ≡ listing program start recorded memory
  unfolding listing_in
  prints_of is = ap (printed_of memory) (sym is)

  -- What is printed of numbers and tables is printed of equal ones.
  abbrev verdict_listing : Header → (items groups : ℕ) → (cells trail : Table) → Listing
  verdict_listing header items groups cells trail =
      printed_verdict memory (verdict_told groups items trail) recorded header trail items cells

  same_listing : {header header' : Header} {items items' groups groups' : ℕ} {cells cells' trail trail' : Table} →
      header ≡ header' → items ≡ items' → groups ≡ groups' → cells ≡ cells' → trail ≡ trail' →
      verdict_listing header items groups cells trail ≡ verdict_listing header' items' groups' cells' trail'
  same_listing p q r s t = rw (p, q, r, s, t)

  module _ {cells : Table} {after : Lent} {r : Result replayed.Accepted} {end : Listing}
      (handed : HandsOver program start recorded (lent cells (zeros trail_size)) after r) where
    pub listed_refusal : {x : Refusal} → r ≡ Err x → end ≡ printed_of memory (Err x) →
        end ≡ listing program start recorded memory
    listed_refusal found prints = prints ∙ prints_of (accept_refused handed found)

    pub listed_verdict : {told : replayed.Accepted} → r ≡ Ok told →
        end ≡ verdict_listing told.header told.items told.groups after.cells after.trail →
        end ≡ listing program start recorded memory
    listed_verdict found prints =
        let known = accept_found handed found in
        prints
        ∙ same_listing known.header_is known.items_is known.groups_is known.cells_is known.trail_is
        ∙ accepted_printed program start recorded known.a known.is memory
        ∙ prints_of known.is
