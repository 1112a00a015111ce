-- Fronts of lent bytes: a count of them means all of them, or as many as it says; and a run is listed by what its counts mean.
use Prim.Native.Nat.{ℕ, ◌≤◌, ◌<◌}
use mathlib.Core.Path.{◌≡◌, refl, sym, ◌∙◌}
use mathlib.Core.List.{List}
use native.Mathlib.Omega.{arith}
use lib.ListN.{length, take}
use lib.Seq.{length-take-le, take_all, take-length}
use Rattle.model.specs.Listings.{Listing, listing}
use Rattle.list_run.specs.Runs.{Front}

pub front_all : (bytes : List ℕ) {count : ℕ} → length bytes < count → Front bytes count (length bytes)
front_all bytes {count} more =
    record {
      within = omega arith;
      counts = sym (length-take-le (length bytes) bytes (omega arith));
      same = take-length bytes ∙ sym (take_all count bytes (omega arith));
    }

pub front_part : (bytes : List ℕ) {count : ℕ} → count ≤ length bytes → Front bytes count count
front_part bytes {count} fits = record { within = fits; counts = sym (length-take-le count bytes fits); same = refl }

pub listed_fronts : {program start recorded : List ℕ} (memory : List ℕ) {p s r pe se re : ℕ} {l : Listing} → Front program p pe → Front start s se →
    Front recorded r re → l ≡ listing (take pe program) (take se start) (take re recorded) memory →
    l ≡ listing (take p program) (take s start) (take r recorded) memory
listed_fronts memory of_program of_start of_record listed = listed ∙ rw (of_program.same, of_start.same, of_record.same)
