-- What the program does with what it has read of its three files.
use Rattle.model.specs.Checks.{Answer}
use Rattle.std.specs.Prelude.{ℕ, ◌≤◌, ◌≡◌, List, length, take}
use Rattle.model.specs.Listings.{Listing, listing}
use Rattle.list_run.specs.declared.Ran.{Ran}
use Rattle.list_run.specs.Statuses.{status_of, exit_status}

-- The first `front` of the bytes are those that a count of them means, all of them where it counts more.
pub record Front (bytes : List ℕ) (count front : ℕ) : Type 0 where
  pub within : front ≤ length bytes
  pub counts : front ≡ length (take front bytes)
  pub same : take front bytes ≡ take count bytes

-- The listing of what was read, which is as many bytes of each file as the answer tells; `memory` is what the lent bytes held before.
abbrev pub listing_read : (program start recorded memory : List ℕ) → Ran → Listing
listing_read program start recorded memory ran =
    listing (take ran.program program) (take ran.start start) (take ran.recorded recorded) memory

-- The exit status is that of an answer, by whether its listing was written.
abbrev pub Ends : Answer → Ran → Type 0
Ends answer ran = ran.status ≡ exit_status ran.written (status_of answer)

-- The lent bytes hold that listing at the end, and the exit status is that of its answer.
pub record Runs (program start recorded memory text : List ℕ) (ran : Ran) : Type 0 where
  pub writes : text ≡ (listing_read program start recorded memory ran).memory
  pub ends : Ends (listing_read program start recorded memory ran).result.answer ran
