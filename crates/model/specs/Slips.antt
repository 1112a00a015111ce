-- The slip (document 01, "Slip and listing"): its writer and its reader.
use Rattle.std.specs.Prelude.{ℕ, ◌^◌, List, [], ◌∷◌, ◌++◌, ltb}
use Rattle.model.specs.Limits.{byte_ranks, max_items}
use Rattle.model.specs.Refusals as Refusals
use Rattle.model.specs.Refusals.{Ok, require, slip_form}
use Rattle.model.specs.Choice.{when, between, numbers_from}
use Rattle.model.specs.Bytes.{Reader, ◌>>=◌, byte, word, word_bytes, judged, whole}
use Rattle.model.specs.Marked.{marked_map, marked_bytes, read_marked}
use Rattle.model.specs.Formats.{Format, today}
use Rattle.model.specs.Checks.{Accepted, accept_in}
use Rattle.model.specs.Lending.{Lent, lend}

-- "the rank map takes two bytes if N is above 8 and one otherwise" (document 02, #105).
unfoldable pub map_bytes : (ranks map : ℕ) → List ℕ
map_bytes ranks map = when (ltb byte_ranks ranks) (λ _. word_bytes map) (λ _. map ∷ [])

unfoldable pub map_field : (ranks : ℕ) → Reader ℕ
unfolding byte word
map_field ranks = when (ltb byte_ranks ranks) (λ _. word slip_form) (λ _. byte slip_form)

-- "a .. map of ranks that have a command item (bit r − 1 for rank r), then for each a two-byte count of those items, ranks rising"
unfoldable pub slip_of : Accepted → List ℕ
unfolding numbers_from map_bytes marked_map marked_bytes
slip_of a =
    let ranks : List ℕ = numbers_from 1 a.program.header.ranks in
    map_bytes a.program.header.ranks (marked_map 1 a.run.last.taken ranks) ++ marked_bytes a.run.last.taken ranks

-- "The slip writer and the listing refuse program and record as the check does, then look at 15 only."
unfoldable pub write_slip_in : Format → (program start recorded memory : List ℕ) → Lent
unfolding accept_in slip_of lend
write_slip_in format program start recorded memory =
    lend memory (Refusals.◌>>=◌ (accept_in format program start recorded) (λ a. Ok (slip_of a)))

abbrev pub write_slip : (program start recorded memory : List ℕ) → Lent
write_slip = write_slip_in today

-- "a bit for a rank above N is 16 at byte 0; a count of 0 or above 1,024, a missing byte or a left-over one is 16 there"; "0 for a rank without a
-- bit".
unfoldable pub slip_reader : (ranks : ℕ) → Reader (List ℕ)
unfolding map_field judged numbers_from read_marked
slip_reader ranks = do
  map ← judged (λ m. ltb m (2 ^ ranks)) slip_form (map_field ranks)
  read_marked 1 max_items slip_form map (numbers_from 1 ranks)

-- "A slip reader is given N and fills N counts .. it looks at 16 before 15. N outside 1..8 .. is 16 at byte 0"; document 02, #105: "The reader takes
-- N 1..16."
unfoldable pub read_slip_in : Format → (ranks : ℕ) → (slip counts : List ℕ) → Lent
unfolding whole slip_reader lend
read_slip_in format ranks slip counts =
    lend counts
    (Refusals.◌>>=◌ (require (between 1 format.ranks ranks) slip_form 0) (λ _. whole slip_form (slip_reader ranks) slip))

abbrev pub read_slip : (ranks : ℕ) → (slip counts : List ℕ) → Lent
read_slip = read_slip_in today
