-- What slip, start and listing answer, in two numbers.
use Rattle.model.specs.Refusals.{Result}
use Prim.Native.Nat.{ℕ}
use mathlib.Core.Path.{◌≡◌, ap, ◌∙◌}
use mathlib.Core.List.{List}
use Rattle.model.specs.declared.Listed.{Listed}
use Rattle.model.specs.Lending.{Lent, answering}
use Rattle.model.specs.Listings.{Listing}
use Rattle.listing.specs.Told.{printing}
use Rattle.lellmusu.specs.Reported.{number_of}
use Rattle.lellmusu.specs.Told.{filled_number, filled_value, text_length, Tells, Prints}

pub tells : {definition : Lent} {filled : Result ℕ} {memory' : List ℕ} {value number : ℕ} → answering filled memory' ≡ definition →
    value ≡ filled_value filled → number ≡ filled_number filled → Tells definition memory' value number
tells same value_is number_is =
    record {
      returns = number_is ∙ ap (λ (l : Lent). filled_number l.answer) same;
      counts = value_is ∙ ap (λ (l : Lent). filled_value l.answer) same;
      leaves = ap (λ (l : Lent). l.memory) same;
    }

pub prints : {definition : Listing} {listed : Listed} {memory' : List ℕ} {value number : ℕ} → printing listed memory' ≡ definition →
    value ≡ text_length listed.answer listed.length → number ≡ number_of listed.answer → Prints definition memory' value number
prints same value_is number_is =
    record {
      returns = number_is ∙ ap (λ (l : Listing). number_of l.result.answer) same;
      counts = value_is ∙ ap (λ (l : Listing). text_length l.result.answer l.result.length) same;
      leaves = ap (λ (l : Listing). l.memory) same;
    }
