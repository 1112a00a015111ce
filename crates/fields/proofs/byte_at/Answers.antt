-- `byte_at`: the byte is there exactly where the place is below the length. Assumes nothing.
use Rattle.model.specs.Bytes.{byte}
use Rattle.fields.proofs.byte_at.Goals as goal

pub returns-in-Some : goal.returns-in-Some
unfolding byte
returns-in-Some c = rw (← c.in-Some.ensures.lookup.0, ← c.in-Some.ensures.lookup.3.1 0)

pub returns-in-None : goal.returns-in-None
unfolding byte
returns-in-None c = simp (← c.in-None.ensures.lookup.0)
