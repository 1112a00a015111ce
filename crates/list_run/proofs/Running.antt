-- What the listing's promise tells the program: the bytes listed are among those lent, and every status is one of the four.
use Rattle.model.specs.declared.Verdict.TheVariants.{Order, Ring}
use Prim.Native.Nat.{ℕ, ◌≤◌}
use mathlib.Core.Path.{◌≡◌, sym, subst, ap, ◌∙◌}
use mathlib.Core.Bool.{Bool, true, false}
use mathlib.Core.List.{List}
use native.Mathlib.Omega.{arith}
use lib.Dec.{leb}
use lib.ListN.{length, drop, length-append}
use Rattle.model.specs.declared.Listed.{Listed}
use Rattle.model.specs.Refusals.{Result, Ok, Err}
use Rattle.model.specs.Checks.{Accepted, accept, verdict_on, answered, fill, Answer}
use Rattle.model.specs.Listings.{Listing, listing_in, listing, listing_of, refused_line, printed, printed_of}
use Rattle.model.proofs.Laws.{decided}
use Rattle.list_run.specs.declared.Ran.{Ran}
use Rattle.list_run.specs.Statuses.{status_of, exit_status, not_written}
use Rattle.list_run.specs.Runs.{listing_read, Ends, Runs}

abbrev Fits : Listing → Type 0
Fits l = l.result.length ≤ length l.memory

module _ (memory : List ℕ) where
  printed_fits : (answer : Answer) (text : List ℕ) → Fits (printed memory answer text)
  unfolding printed fill
  printed_fits answer text =
      decided (leb (length text) (length memory))
      (λ t. rw t (omega (arith, length-append text (drop (length text) memory))))
      (λ t. rw t (omega arith))

  printed_of_fits : (m : Result Accepted) → Fits (printed_of memory m)
  unfolding printed_of
  printed_of_fits (Ok a) = printed_fits (answered (verdict_on a.run)) (listing_of a (verdict_on a.run))
  printed_of_fits (Err r) = printed_fits (Err r) (refused_line r)

fits : (program start recorded memory : List ℕ) → Fits (listing program start recorded memory)
unfolding listing_in
fits program start recorded memory = printed_of_fits memory (accept program start recorded)

-- What is printed lies in the lent bytes, and the status is the listing's.
module _ (program start recorded memory : List ℕ) {text : List ℕ} {r : Listed}
    (listed : record { result = r; memory = text } ≡ listing program start recorded memory) where
  pub listing_fits : r.length ≤ length text
  listing_fits = subst Fits (sym listed) (fits program start recorded memory)

pub runs : (program start recorded memory : List ℕ) {text : List ℕ} {r : Listed} {status : ℕ} (ran : Ran) →
    record { result = r; memory = text } ≡ listing_read program start recorded memory ran → status ≡ status_of r.answer →
    ran.status ≡ exit_status ran.written status → Runs program start recorded memory text ran
runs program start recorded memory ran listed is_status ends =
    record {
      writes = ap (λ (l : Listing). l.memory) listed;
      ends =
          subst (λ (l : Listing). Ends l.result.answer ran) listed
          (ends ∙ ap (exit_status ran.written) is_status);
    }

-- Every status is one of the four.
answer_known : (answer : Answer) → status_of answer ≤ not_written
answer_known (Ok (Order count)) = omega arith
answer_known (Ok (Ring count)) = omega arith
answer_known (Err r) = omega arith

pub status_known : (written : Bool) {r : ℕ} (status : ℕ) → r ≡ exit_status written status → status ≤ not_written → r ≤ not_written
status_known true status is known = omega arith
status_known false status is known = omega arith

pub run_known : {program start recorded memory text : List ℕ} {ran : Ran} → Runs program start recorded memory text ran → ran.status ≤ not_written
run_known {program} {start} {recorded} {memory} {ran = ran} promised =
    status_known ran.written _ promised.ends (answer_known (listing_read program start recorded memory ran).result.answer)
