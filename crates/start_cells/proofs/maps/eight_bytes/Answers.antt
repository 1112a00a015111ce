-- `maps::eight_bytes`: the slice's eight bytes from the place on, if it has so many.
use Rattle.std.proofs.Common.{rules, ◌≡◌, ◌+◌, ◌<◌, ◌≤◌, length, take, sym, ap, ◌∙◌}
use Rattle.std.specs.List.{slice_range}
use Rattle.model.specs.Bytes.{found}
use Rattle.start_cells.proofs.MapBytes.{map_missing, map_there}
use Rattle.start_cells.proofs.maps.eight_bytes.Goals as goal

pub returns-in-Some : goal.returns-in-Some
returns-in-Some c =
    let given = c.args in
    let inside : given.at + 8 ≤ length given.start.now = search rules in
    let is : c.in-Some.bytes.now ≡ take 8 (slice_range given.start.now given.at (length given.start.now)) = search rules in
    ap (λ v. found v (given.at + 8)) c.from_be_bytes.ensures ∙ sym (map_there _ _ _ _ inside is)

pub returns-in-None : goal.returns-in-None
returns-in-None c = let short : length c.args.start.now < c.args.at + 8 = search rules in sym (map_missing _ _ 7 0 _ short)
