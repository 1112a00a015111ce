-- An answer is read back from its two numbers: a refusal's number is one of the check's, and so neither an order's nor a ring's.
use Rattle.std.specs.Prelude.{Ok, Err}
use Rattle.model.specs.declared.Verdict.TheVariants.{Order, Ring}
use Prim.Native.Nat.{ℕ}
use mathlib.Core.Path.{◌≡◌, refl, ap}
use mathlib.Core.Bool.{false, false≢true}
use mathlib.Core.List.{List}
use lib.Dec.{eqb}
use borrow.Author.Tests.{ne_eqb}
use Rattle.model.specs.Checks.{Outcome, Answer}
use Rattle.demands.specs.Entries.{bytes}
use Rattle.checker.specs.Checked.{answering, Checked}
use Rattle.lellmusu.specs.Reported.{number_of, value_of, answer_read, Reported}

module _ {program start recorded order cells order' cells' : List ℕ} where
  read_back : (a : Answer) → Checked bytes program start recorded order cells (answering a order' cells') → answer_read (number_of a) (value_of a) ≡ a
  unfolding answer_read
  read_back (Ok (Order count)) checked = refl
  read_back (Ok (Ring count)) checked = refl
  read_back (Err r) checked =
      let tabled = (checked.meets.demand1.other_input r refl).tabled in
      let no_order : eqb r.number 0 ≡ false = ne_eqb r.number 0 (λ e. false≢true (rw e at tabled)) in
      let no_ring : eqb r.number 255 ≡ false = ne_eqb r.number 255 (λ e. false≢true (rw e at tabled)) in
      rw (no_order, no_ring)

  pub reports : {a : Answer} {value number : ℕ} → Checked bytes program start recorded order cells (answering a order' cells') → value ≡ value_of a →
      number ≡ number_of a → Reported program start recorded order cells order' cells' value number
  reports {a} checked value_is number_is =
      rw (value_is, number_is)
      (record {
        returns = ap (λ (o : Outcome). number_of o.answer) checked.same;
        counts = ap (λ (o : Outcome). value_of o.answer) checked.same;
        lists = ap (λ (o : Outcome). o.order) checked.same;
        fills = ap (λ (o : Outcome). o.cells) checked.same;
        meets = rw (read_back a checked) checked.meets;
      })
