-- Files of any length are listed: their fronts list as they do, and bytes that are as many as the longest listing has hold it whole.
use Prim.Native.Nat.{ℕ}
use mathlib.Core.Path.{◌≡◌, subst, ap, ◌∙◌}
use mathlib.Core.List.{List}
use Rattle.model.specs.Listings.{Listing, listing}
use Rattle.sizes.proofs.Fronts.{the_same_listing}
use Rattle.sizes.proofs.Listings.{listing_whole}
use Rattle.list_run.specs.declared.Ran.{Ran}
use Rattle.list_run.specs.Runs.{listing_read, Ends}
use Rattle.list_run.specs.Files.{Fronts, FilesListed}

ending : (ran : Ran) {l m : Listing} → l ≡ m → Ends l.result.answer ran → Ends m.result.answer ran
ending ran = subst (λ (l : Listing). Ends l.result.answer ran)

fronts_list : (program_file start_file record_file program start recorded memory : List ℕ) {ran : Ran} →
    Fronts program_file start_file record_file program start recorded ran →
    listing_read program start recorded memory ran ≡ listing program_file start_file record_file memory
fronts_list program_file start_file record_file program start recorded memory fronts =
    rw (fronts.of_program, fronts.of_start, fronts.of_record) (the_same_listing program_file start_file record_file memory)

pub files_listed : FilesListed
files_listed program_file start_file record_file program start recorded memory text ran fronts runs =
    let same = fronts_list program_file start_file record_file program start recorded memory fronts in
    let writes = runs.writes ∙ ap (λ (l : Listing). l.memory) same in
    let ends = ending ran same runs.ends in
    record {
      writes = writes;
      ends = ends;
      enough =
          λ bytes room.
          let whole = listing_whole program_file start_file record_file memory bytes room in
          record { writes = writes ∙ ap (λ (l : Listing). l.memory) whole; ends = ending ran whole ends };
    }
