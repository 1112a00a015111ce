-- What the entries for slip, start and listing return and write, by the definitions.
use Rattle.model.specs.Checks.{Answer}
use Rattle.model.specs.declared.Verdict.TheVariants.{Order, Ring}
use Rattle.std.specs.Prelude.{ℕ, ◌≡◌, List, eqb, Ok, Err}
use Rattle.model.specs.Refusals.{memory_too_short, Result}
use Rattle.model.specs.Choice.{when}
use Rattle.model.specs.Lending.{Lent}
use Rattle.model.specs.Listings.{Listing}
use Rattle.lellmusu.specs.Reported.{number_of}

-- What was filled, as two numbers: 0 and how many entries, or the refusal's number and its place.
abbrev pub filled_number : Result ℕ → ℕ
filled_number (Ok count) = 0
filled_number (Err r) = r.number

abbrev pub filled_value : Result ℕ → ℕ
filled_value (Ok count) = count
filled_value (Err r) = r.place

-- The number returned and the value written, and what the lent memory holds then.
pub record Tells (definition : Lent) (memory' : List ℕ) (value number : ℕ) : Type 0 where
  pub returns : number ≡ filled_number definition.answer
  pub counts : value ≡ filled_value definition.answer
  pub leaves : memory' ≡ definition.memory

-- How many bytes a listing has: those written, and at 15 those needed.
abbrev pub text_length : Answer → (written : ℕ) → ℕ
text_length (Ok (Order n)) written = written
text_length (Ok (Ring n)) written = written
text_length (Err r) written = when (eqb r.number memory_too_short) (λ _. r.place) (λ _. written)

pub record Prints (definition : Listing) (memory' : List ℕ) (value number : ℕ) : Type 0 where
  pub returns : number ≡ number_of definition.result.answer
  pub counts : value ≡ text_length definition.result.answer definition.result.length
  pub leaves : memory' ≡ definition.memory
