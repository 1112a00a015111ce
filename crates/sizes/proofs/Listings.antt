-- No listing is longer than `order 1024` with 1,024 groups and 1,024 cells, each line with the largest numbers: a verdict lists at most as many groups
-- as there are items, and a cell's value fits sixteen bits. So lent bytes that are as many hold every listing whole.
use Prim.Native.Nat.{ℕ, ◌≤◌, ◌<◌}
use mathlib.Core.Path.{◌≡◌, refl}
use mathlib.Core.List.{List, [], ◌∷◌, ◌++◌}
use native.Mathlib.Omega.{arith}
use lib.ListN.{length, length-append}
use borrow.Author.Tests.{le-leb}
use Rattle.model.specs.declared.Header.{Header}
use Rattle.model.specs.Limits.{max_items, word_values}
use Rattle.model.specs.Refusals.{Result, Ok, Err}
use Rattle.model.specs.Bytes.{AreBytes}
use Rattle.model.specs.Orders.{Verdict}
use Rattle.model.specs.Checks.{Accepted, accept, verdict_on, listed, rank_by_rank, fill}
use Rattle.model.specs.Listings.{listing_in, listing, printed, printed_of, listing_of, line, verdict_word, decimal, group_lines, cell_line, join}
use Rattle.ordering.proofs.Runs.{Listed, run_lists}
use Rattle.record_facts.proofs.Bounds.{AcceptedBounds, accepted_bounds}
use Rattle.sizes.specs.Sizes.{max_listing_bytes}
use Rattle.sizes.specs.Texts.{text_of, answer_of}
use Rattle.sizes.proofs.Refusals.{refusal_fits}
use Rattle.sizes.proofs.Values.{cells_fit}
use Rattle.sizes.proofs.Lengths.{RanksFit, verdict_line_short, group_lines_short, cell_lines_short, refused_line_short}

module _ (a : Accepted) (b : AcceptedBounds a) where
  lists : Listed a.run.last.opened (verdict_on a.run)
  unfolding verdict_on
  lists = run_lists a.run.last.opened a.run.events b.bounds.group

  few_listed : length (listed (verdict_on a.run)) ≤ max_items
  few_listed = omega (arith, lists.few, b.bounds.most, b.few)

  ranks_fit_lem : RanksFit a.run.events
  ranks_fit_lem i e at = omega (arith, (b.bounds.inside i e at).rank.high, b.header.ranks_fit)

  listing_short : ((rank cell : ℕ) → a.run.last.machine.cells rank cell < word_values) →
      length (listing_of a (verdict_on a.run)) ≤ max_listing_bytes
  unfolding listing_of
  listing_short fits =
      let v : Verdict = verdict_on a.run in
      let header : Header = a.program.header in
      let first : List ℕ = line (verdict_word v) (decimal (length (listed v)) ∷ []) in
      let middle : List ℕ = group_lines (listed v) a.run.events in
      let last : List ℕ = join (rank_by_rank header.ranks header.cells (cell_line a.run.last.machine.cells)) in
      omega (
        arith,
        length-append first (middle ++ last),
        length-append middle last,
        verdict_line_short v (length (listed v)) few_listed,
        group_lines_short (listed v) a.run.events (λ g m. omega (arith, lists.low g m, b.bounds.most, b.few)) b.few ranks_fit_lem,
        few_listed,
        cell_lines_short header.ranks header.cells a.run.last.machine.cells b.header.ranks_fit b.header.cells_fit fits,
      )

-- What is printed of a program and a record.
module _ (program start recorded : List ℕ) (bound : AreBytes program) where
  acceptance_short : (m : Result Accepted) → accept program start recorded ≡ m → length (text_of m) ≤ max_listing_bytes
  acceptance_short (Err r) h = omega (arith, refused_line_short r (refusal_fits program start recorded r h))
  acceptance_short (Ok a) h =
      listing_short a (accepted_bounds program start recorded a h) (cells_fit program start recorded bound h)

  pub text_short : length (text_of (accept program start recorded)) ≤ max_listing_bytes
  text_short = acceptance_short (accept program start recorded) refl

-- Text for which the lent bytes are enough is written whole.
printed_whole : (memory : List ℕ) (m : Result Accepted) → length (text_of m) ≤ length memory →
    printed_of memory m ≡
    record { result = record { answer = answer_of m; length = length (text_of m) }; memory = fill (text_of m) memory }
unfolding printed_of printed
printed_whole memory (Err r) fits = rw (le-leb _ _ fits)
printed_whole memory (Ok a) fits = rw (le-leb _ _ fits)

-- So is every listing where the lent bytes are as many as the longest one has: none is refused for want of bytes.
pub listing_whole : (program start recorded memory : List ℕ) → AreBytes program → max_listing_bytes ≤ length memory →
    listing program start recorded memory ≡
    record {
      result = record { answer = answer_of (accept program start recorded); length = length (text_of (accept program start recorded)) };
      memory = fill (text_of (accept program start recorded)) memory;
    }
unfolding listing_in
listing_whole program start recorded memory bound enough =
    printed_whole memory (accept program start recorded) (omega (arith, text_short program start recorded bound, enough))
