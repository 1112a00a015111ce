-- What is laid out from the front of a text: the place after it is the joint length, and where there is room for all, it fills the front.
use Prim.Native.Nat.{ℕ, ◌+◌, ◌-◌, ◌≤◌}
use mathlib.Core.Path.{◌≡◌, sym, ap, ap₂, ◌∙◌}
use mathlib.Core.List.{List, [], ◌∷◌, ◌++◌, append_assoc, append-nil}
use native.Mathlib.Omega.{arith}
use lib.ListN.{length, drop, length-append, length-drop}
use lib.Seq.{take-append_seam, drop-append_seam, drop-drop}
use borrow.Author.Tests.{le-leb}
use Rattle.model.specs.Checks.{fill}
use Rattle.model.specs.Listings.{join}
use Rattle.lists.proofs.Forms.{fill_length}
use Rattle.texts.specs.Texts.{written}
use Rattle.layout.specs.Laid.{Laid, laid, placed, put, lay_out}

pub laid_at : (lines : List (List ℕ)) (s : Laid) → (lay_out lines s).at ≡ s.at + length (join lines)
unfolding lay_out join
laid_at [] s = omega arith
laid_at (new ∷ lines) s = omega (arith, laid_at lines (put new s), length-append new (join lines))

-- A line behind what is filled is filled too.
placed_fill : (done new found : List ℕ) → length done + length new ≤ length found →
    placed new (length done) (fill done found) ≡ fill (done ++ new) found
unfolding placed written fill
placed_fill done new found room =
    let rest = drop (length done) found in
    let whole : length (done ++ rest) ≡ length found = fill_length done found (omega arith) in
    let left : length rest ≡ length found - length done = length-drop (length done) found in
    let inside : length done ≤ length (done ++ rest) = omega arith in
    let fits : length new ≤ length rest = omega arith in
    rw (
      le-leb (length done) (length (done ++ rest)) inside,
      take-append_seam done rest,
      drop-append_seam done rest,
      le-leb (length new) (length rest) fits,
      drop-drop (length new) (length done) found,
      length-append done new,
    )
    (sym (append_assoc done new (drop (length done + length new) found)))

laid_filled : (lines : List (List ℕ)) (done found : List ℕ) → length done + length (join lines) ≤ length found →
    (lay_out lines (laid (fill done found) (length done))).text ≡ fill (done ++ join lines) found
unfolding lay_out join
laid_filled [] done found room = rw (append-nil done)
laid_filled (new ∷ lines) done found room =
    let size = length-append new (join lines) in
    let behind = length-append done new in
    ap (λ s. (lay_out lines s).text) (ap₂ laid (placed_fill done new found (omega arith)) (sym behind))
    ∙ laid_filled lines (done ++ new) found (omega arith)
    ∙ ap (λ l. fill l found) (append_assoc done new (join lines))

pub laid_whole : (lines : List (List ℕ)) (found : List ℕ) → length (join lines) ≤ length found →
    (lay_out lines (laid found 0)).text ≡ fill (join lines) found
unfolding fill
laid_whole lines found room = laid_filled lines [] found (omega arith)
