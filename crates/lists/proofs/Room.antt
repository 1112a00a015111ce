-- The tests of whether there is room, as facts.
use Prim.Native.Nat.{ℕ, ◌+◌, ◌-◌, ◌*◌, ◌≤◌}
use mathlib.Core.Path.{◌≡◌}
use mathlib.Core.Bool.{true, ◌&&◌}
use native.Mathlib.Omega.{arith}
use lib.Dec.{leb}
use borrow.Author.Tests.{leb-true, le-leb}
use Rattle.model.specs.Limits.{max_ranks, max_cells}
use Rattle.model.proofs.Laws.{and-true}
use Rattle.lists.specs.Written.{fits, cells_fit, CellsFit}

pub record Fits (entries at given count : ℕ) : Type 0 where
  pub enough : count ≤ given
  pub inside : at + count ≤ entries

pub fits_true : (entries at given count : ℕ) → fits entries at given count ≡ true → Fits entries at given count
unfolding fits
fits_true entries at given count h =
    let (both, place) = and-true (leb count given && leb count entries) (leb at (entries - count)) h in
    let (few, room) = and-true (leb count given) (leb count entries) both in
    record {
      enough = leb-true count given few;
      inside = omega (arith, leb-true count entries room, leb-true at (entries - count) place);
    }

pub true_fits : (entries at given count : ℕ) → count ≤ given → at + count ≤ entries → fits entries at given count ≡ true
unfolding fits
true_fits entries at given count enough inside =
    let few : count ≤ entries = omega arith in
    let place : at ≤ entries - count = omega arith in
    rw (le-leb _ _ enough, le-leb _ _ few, le-leb _ _ place)

pub cells_fit_true : (entries ranks width : ℕ) → cells_fit entries ranks width ≡ true → CellsFit entries ranks width
unfolding cells_fit
cells_fit_true entries ranks width h =
    let (both, room) = and-true (leb ranks max_ranks && leb width max_cells) (leb (ranks * width) entries) h in
    let (few_ranks, few_cells) = and-true (leb ranks max_ranks) (leb width max_cells) both in
    record {
      few_ranks = leb-true ranks max_ranks few_ranks;
      few_cells = leb-true width max_cells few_cells;
      room = leb-true (ranks * width) entries room;
    }

pub true_cells_fit : (entries ranks width : ℕ) → CellsFit entries ranks width → cells_fit entries ranks width ≡ true
unfolding cells_fit
true_cells_fit entries ranks width fit = rw (le-leb _ _ fit.few_ranks, le-leb _ _ fit.few_cells, le-leb _ _ fit.room)
