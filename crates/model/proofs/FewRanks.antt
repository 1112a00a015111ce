-- A limit of ranks that a program stays within makes no difference to it: two formats that differ in their most ranks alone give it the same answer,
-- lists, slip and listing, whatever start, record and lent memory come with it, and refuse the same with the same place. Today's format is
-- `up_to max_ranks today`, and before #105 it was `up_to byte_ranks today`: "The verdict on small runs is to be shown unchanged". So do they with a slip
-- of so many ranks, and the map of at most eight is a byte: "kept slips of smaller machines read as they did".
use Prim.Native.Nat.{ℕ, ◌≤◌}
use mathlib.Core.Path.{◌≡◌}
use mathlib.Core.List.{List, [], ◌∷◌}
use lib.Dec.{ltb}
use lib.ListN.{length, get_or}
use borrow.Author.Tests.{le-leb, le-ltb}
use Rattle.model.specs.Limits.{byte_ranks}
use Rattle.model.specs.Refusals.{slip_form}
use Rattle.model.specs.Choice.{between}
use Rattle.model.specs.Bytes.{byte, judged, whole}
use Rattle.model.specs.Formats.{Format, up_to}
use Rattle.model.specs.Programs.{header_number, read_header_in, program_reader_in, read_program_in}
use Rattle.model.specs.ItemForms.{item_form_in}
use Rattle.model.specs.Records.{read_item_in, record_reader_in, read_record_in}
use Rattle.model.specs.Checks.{accept_in, check_result_in, check_in, check_bytes_in}
use Rattle.model.specs.Slips.{map_bytes, map_field, write_slip_in, read_slip_in}
use Rattle.model.specs.Listings.{listing_in}
use Rattle.model.proofs.Laws.{decided}

-- A number that neither limit refuses.
limits_agree : {limit other : ℕ} (ranks : ℕ) → ranks ≤ limit → ranks ≤ other → between 1 limit ranks ≡ between 1 other ranks
limits_agree {limit} {other} ranks few also = rw (le-leb ranks limit few, le-leb ranks other also)

number_agrees : {limit other : ℕ} (bytes : List ℕ) → get_or bytes 0 0 ≤ limit → get_or bytes 0 0 ≤ other →
    header_number 1 limit bytes 0 ≡ header_number 1 other bytes 0
unfolding header_number byte judged
number_agrees bytes few also =
    decided (ltb 0 (length bytes)) (λ t. rw (t, limits_agree (get_or bytes 0 0) few also)) (λ t. rw t)

module _ (format : Format) {limit other : ℕ} where
  -- A program's first byte is its N.
  module _ (program : List ℕ) (few : get_or program 0 0 ≤ limit) (also : get_or program 0 0 ≤ other) where
    program_agrees : read_program_in (up_to limit format) program ≡ read_program_in (up_to other format) program
    unfolding read_program_in program_reader_in read_header_in whole
    program_agrees = rw (number_agrees program few also)

    pub accept_agrees : (start recorded : List ℕ) →
        accept_in (up_to limit format) program start recorded ≡ accept_in (up_to other format) program start recorded
    unfolding accept_in read_record_in record_reader_in read_item_in item_form_in
    accept_agrees start recorded = rw program_agrees

    pub check_agrees : (start recorded order cells : List ℕ) →
        check_in (up_to limit format) program start recorded order cells ≡ check_in (up_to other format) program start recorded order cells
    unfolding check_in check_result_in
    check_agrees start recorded order cells = rw (accept_agrees start recorded)

    pub entry_agrees : (start recorded order cells : List ℕ) →
        check_bytes_in (up_to limit format) program start recorded order cells ≡ check_bytes_in (up_to other format) program start recorded order cells
    unfolding check_bytes_in check_result_in
    entry_agrees start recorded order cells = rw (accept_agrees start recorded)

    pub slip_agrees : (start recorded memory : List ℕ) →
        write_slip_in (up_to limit format) program start recorded memory ≡ write_slip_in (up_to other format) program start recorded memory
    unfolding write_slip_in
    slip_agrees start recorded memory = rw (accept_agrees start recorded)

    pub listing_agrees : (start recorded memory : List ℕ) →
        listing_in (up_to limit format) program start recorded memory ≡ listing_in (up_to other format) program start recorded memory
    unfolding listing_in
    listing_agrees start recorded memory = rw (accept_agrees start recorded)

  pub reading_agrees : (ranks : ℕ) → ranks ≤ limit → ranks ≤ other → (slip counts : List ℕ) →
      read_slip_in (up_to limit format) ranks slip counts ≡ read_slip_in (up_to other format) ranks slip counts
  unfolding read_slip_in
  reading_agrees ranks few also slip counts = rw (limits_agree ranks few also)

-- The map of at most eight ranks.
pub byte_written : (ranks map : ℕ) → ranks ≤ byte_ranks → map_bytes ranks map ≡ map ∷ []
unfolding map_bytes
byte_written ranks map few = rw (le-ltb byte_ranks ranks few)

pub byte_read : (ranks : ℕ) → ranks ≤ byte_ranks → map_field ranks ≡ byte slip_form
unfolding map_field
byte_read ranks few = rw (le-ltb byte_ranks ranks few)
