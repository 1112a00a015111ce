-- What is printed is the text, whole, where the lent bytes have room for it; and else nothing.
use Prim.Native.Nat.{ℕ, ◌≤◌, ◌<◌}
use mathlib.Core.Path.{◌≡◌, sym, ap, ap₂, ◌∙◌}
use mathlib.Core.List.{List}
use native.Mathlib.Omega.{arith}
use lib.ListN.{length}
use borrow.Author.Tests.{le-leb, lt-leb}
use Rattle.model.specs.declared.Header.{Header}
use Rattle.model.specs.declared.Listed.{Listed}
use Rattle.model.specs.declared.Refusal.{Refusal}
use Rattle.model.specs.Refusals.{Ok, Err}
use Rattle.model.specs.Orders.{Verdict}
use Rattle.model.specs.Checks.{fill, answered, Answer}
use Rattle.model.specs.Listings.{join, refused_line, printed, printed_of}
use Rattle.model.proofs.Laws.{when_true, when_false}
use Rattle.memory.specs.Tables.{Table}
use Rattle.verdicts.specs.declared.Judged.{Judged}
use Rattle.verdicts.specs.Judged.{judged_as}
use Rattle.texts.specs.Texts.{written, Wrote}
use Rattle.lines.specs.Lines.{answer_line}
use Rattle.first_items.specs.Firsts.{Firsts, first_items}
use Rattle.layout.specs.Laid.{Laid, laid, lay_out}
use Rattle.layout.specs.Lines.{text_lines}
use Rattle.layout.proofs.Texts.{laid_at, laid_whole}
use Rattle.listing.specs.Told.{text_of, too_short, printing, printed_verdict}

-- The two ends, by the length that was counted.
module _ (memory : List ℕ) (answer : Answer) (text : List ℕ) {n : ℕ} (is : n ≡ length text) where
  printed_whole : {left : List ℕ} → n ≤ length memory → left ≡ fill text memory →
      printing (record { answer = answer; length = n }) left ≡ printed memory answer text
  unfolding printed
  printed_whole fits e =
      let t = le-leb (length text) (length memory) (omega arith) in
      ap₂ (λ n left. printing (record { answer = answer; length = n }) left) is e ∙ sym (when_true _ _ t)

  printed_none : {r : Listed} → length memory < n → r ≡ too_short n → printing r memory ≡ printed memory answer text
  unfolding printed
  printed_none short answers =
      let t = lt-leb (length text) (length memory) (omega arith) in
      ap (λ r. printing r memory) (answers ∙ ap too_short is) ∙ sym (when_false _ _ t)

-- A refusal's line.
module _ (memory : List ℕ) (x : Refusal) {n : ℕ} (is : n ≡ length (answer_line (Err x))) where
  pub refusal_whole : {left : List ℕ} {m : ℕ} → n ≤ length memory → Wrote (answer_line (Err x)) memory left m →
      printing (record { answer = Err x; length = n }) left ≡ printed_of memory (Err x)
  unfolding printed_of answer_line written
  refusal_whole fits w =
      let t = le-leb (length (refused_line x)) (length memory) (omega arith) in
      printed_whole memory (Err x) (refused_line x) is fits (w.text ∙ when_true _ _ t)

  pub refusal_none : {r : Listed} → length memory < n → r ≡ too_short n → printing r memory ≡ printed_of memory (Err x)
  unfolding printed_of answer_line
  refusal_none short answers = printed_none memory (Err x) (refused_line x) is short answers

-- The text of a verdict: its length is counted on other bytes, and then it is written, if there is room.
module _ (memory : List ℕ) (v : Verdict) (recorded : List ℕ) (header : Header) (trail : Table) (items : ℕ) (cells : Table) {judged : Judged}
    {firsts : Firsts} (judges : judged ≡ judged_as v) (finds : firsts ≡ first_items header recorded trail items) where
  abbrev lines : List (List ℕ)
  lines = text_lines judged.verdict judged.groups recorded header firsts cells

  abbrev text : List ℕ
  text = text_of v recorded header trail items cells

  text_is : join lines ≡ text
  unfolding text_of
  text_is =
      ap₂ (λ (j : Judged) f. join (text_lines j.verdict j.groups recorded header f cells)) judges finds

  answer_told : {answer : Answer} → answer ≡ Ok judged.verdict → answer ≡ answered v
  answer_told answers = answers ∙ ap (λ (j : Judged). Ok j.verdict) judges

  module _ (bytes : List ℕ) {bytes' : List ℕ} {n : ℕ} (counts : laid bytes' n ≡ lay_out lines (laid bytes 0)) where
    length_is : n ≡ length text
    length_is =
        let place = ap (λ (l : Laid). l.at) counts in
        omega (arith, place, laid_at lines (laid bytes 0), ap length text_is)

    pub verdict_whole : {left : List ℕ} {end : ℕ} {answer : Answer} → n ≤ length memory → laid left end ≡ lay_out lines (laid memory 0) →
        answer ≡ Ok judged.verdict →
        printing (record { answer = answer; length = n }) left ≡ printed_verdict memory v recorded header trail items cells
    unfolding printed_verdict
    verdict_whole {left} {answer = answer} fits writes answers =
        ap (λ a. printing (record { answer = a; length = n }) left) (answer_told answers)
        ∙ printed_whole memory (answered v) text length_is fits
        (ap (λ (l : Laid). l.text) writes
        ∙ laid_whole lines memory (omega (arith, length_is, ap length text_is))
        ∙ ap (λ new. fill new memory) text_is)

    pub verdict_none : {r : Listed} → length memory < n → r ≡ too_short n →
        printing r memory ≡ printed_verdict memory v recorded header trail items cells
    unfolding printed_verdict
    verdict_none short answers = printed_none memory (answered v) text length_is short answers
