-- What listing and check come to, where the lent memory is enough.
use Rattle.std.specs.Prelude.{ℕ, List}
use Rattle.model.specs.Refusals.{Result, Ok, Err}
use Rattle.model.specs.Checks.{Accepted, Verdicts, verdict_on, last_cells, answered, Answer}
use Rattle.model.specs.Listings.{listing_of, refused_line}

-- What the listing prints of an acceptance, and what it answers with.
abbrev pub text_of : Result Accepted → List ℕ
text_of (Err r) = refused_line r
text_of (Ok a) = listing_of a (verdict_on a.run)

abbrev pub answer_of : Result Accepted → Answer
answer_of (Err r) = Err r
answer_of (Ok a) = answered (verdict_on a.run)

-- What the check comes to, with lists that are long enough.
abbrev pub result_of : Result Accepted → Result Verdicts
result_of (Err r) = Err r
result_of (Ok a) = Ok (record { verdict = verdict_on a.run; cells = last_cells a })
