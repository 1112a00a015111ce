-- `placing::place` meets its contract: its steps are the placing on arrays, which is the definition's.
use Rattle.placing.proofs.Whole.{whole_placed}
use Rattle.placing.proofs.place.Goals as goal

pub returns : goal.returns
returns c =
    let noted = rw c.none-index.ensures at c.note_all.ensures in
    whole_placed _ _ _ c.groups_in-all.ensures noted c.find_ready.ensures c.place_ready.ensures
