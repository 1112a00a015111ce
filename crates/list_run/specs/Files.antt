-- What `Runs` comes to where what was read are the fronts of three files.
use Rattle.std.specs.Prelude.{ℕ, suc, ◌≤◌, ◌≡◌, List, length, take}
use Rattle.model.specs.Refusals.{Result}
use Rattle.model.specs.Bytes.{AreBytes}
use Rattle.model.specs.Checks.{Accepted, accept, fill}
use Rattle.model.specs.Listings.{listing}
use Rattle.sizes.specs.Sizes.{max_program_bytes, max_start_bytes, max_record_bytes, max_listing_bytes}
use Rattle.sizes.specs.Texts.{text_of, answer_of}
use Rattle.list_run.specs.declared.Ran.{Ran}
use Rattle.list_run.specs.Runs.{Ends, Runs}

-- What was read is the front of each file, as far as it goes, up to one byte more than can be readable.
pub record Fronts (program_file start_file record_file program start recorded : List ℕ) (ran : Ran) : Type 0 where
  pub of_program : take ran.program program ≡ take (suc max_program_bytes) program_file
  pub of_start : take ran.start start ≡ take (suc max_start_bytes) start_file
  pub of_record : take ran.recorded recorded ≡ take (suc max_record_bytes) record_file

-- The listing stands whole at the front of the lent bytes, and the exit status is that of its answer.
pub record Whole (m : Result Accepted) (memory text : List ℕ) (ran : Ran) : Type 0 where
  pub writes : text ≡ fill (text_of m) memory
  pub ends : Ends (answer_of m) ran

-- What the lent bytes hold at the end, and the exit status, by what the files hold. Lent bytes that are as many as the longest listing has get it
-- whole, whatever the files hold.
pub record Lists (program_file start_file record_file memory text : List ℕ) (ran : Ran) : Type 0 where
  pub writes : text ≡ (listing program_file start_file record_file memory).memory
  pub ends : Ends (listing program_file start_file record_file memory).result.answer ran
  pub enough : AreBytes program_file → max_listing_bytes ≤ length memory → Whole (accept program_file start_file record_file) memory text ran

-- Files of any length are listed: what lies behind their fronts changes nothing. Shown in proofs/FilesListed.antt.
abbrev pub FilesListed : Type 0
FilesListed =
    (program_file start_file record_file program start recorded memory text : List ℕ) (ran : Ran) →
    Fronts program_file start_file record_file program start recorded ran → Runs program start recorded memory text ran →
    Lists program_file start_file record_file memory text ran
