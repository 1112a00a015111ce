-- What entries leave in lent memory, under one law for a list of either form.
use Rattle.std.specs.Prelude.{Ok, Err}
use Prim.Native.Nat.{ℕ, ◌≤◌}
use mathlib.Core.Path.{◌≡◌, refl, sym, ap, ◌∙◌}
use mathlib.Core.List.{List}
use lib.Dec.{leb}
use lib.ListN.{length}
use borrow.Author.Tests.{le-leb}
use Rattle.model.specs.Refusals.{Result, Ok, Err}
use Rattle.model.specs.Choice.{when}
use Rattle.model.specs.Checks.{fill}
use Rattle.model.specs.Lending.{Lent, answering, lend, lend_bytes}
use Rattle.lists.proofs.Forms.{Form, as_numbers, as_words}
use Rattle.starts.specs.Reading.{too_short}

abbrev pub lend_as : Form → (memory : List ℕ) → Result (List ℕ) → Lent
lend_as form memory (Err r) = answering (Err r) memory
lend_as form memory (Ok entries) =
    when (leb (length entries) (form.entries memory))
    (λ _. answering (Ok (length entries)) (fill (form.shown entries) memory))
    (λ _. answering (too_short (length entries)) memory)

pub lend_numbers : (memory : List ℕ) (m : Result (List ℕ)) → lend_as as_numbers memory m ≡ lend memory m
unfolding lend
lend_numbers memory (Ok entries) = refl
lend_numbers memory (Err r) = refl

pub lend_bytes_lem : (memory : List ℕ) (m : Result (List ℕ)) → lend_as as_words memory m ≡ lend_bytes memory m
unfolding lend_bytes
lend_bytes_lem memory (Ok entries) = refl
lend_bytes_lem memory (Err r) = refl

-- Where there is room.
pub lends_as : (form : Form) (memory entries : List ℕ) {needed : ℕ} → length entries ≡ needed → needed ≤ form.entries memory →
    answering (Ok needed) (fill (form.shown entries) memory) ≡ lend_as form memory (Ok entries)
lends_as form memory entries long room =
    ap (λ n. answering (Ok n) (fill (form.shown entries) memory)) (sym long)
    ∙ rw (le-leb (length entries) (form.entries memory) (rw (← long) at room))
