-- Kinds of items: no two share a number, a command's kind is no pop's, and only the command bar is a bar.
use Rattle.std.specs.Prelude.{Some}
use Rattle.model.proofs.Options.{some-injective}
use mathlib.Core.Path.{◌≡◌, refl, sym, ap, subst, ◌∙◌}
use mathlib.Core.Bool.{true, false, true≢false, false≢true}
use borrow.Author.Tests.{eqb-true, eq-eqb}
use Rattle.model.specs.declared.Kind.{Kind}
use Rattle.model.specs.declared.Kind.TheVariants.{Load, Store, Assign, Assume, Read, Write, Popa, Popb, Bar}
use Rattle.model.specs.Choice.{when, lookup}
use Rattle.model.specs.ItemKinds.{kind_number, item_kinds, same_kind, is_bar, is_transfer, Part, command, fetch, delivery, part_of, is_command_part, is_command_kind}
use Rattle.model.specs.Programs.{Command, load, store, assign, assume, read, write, bar, kind_of}
use Rattle.model.proofs.Laws.{decided, or-true, when_true, when_false}

-- A kind stands under its own number.
pub kind_found : (k : Kind) → lookup (kind_number k) item_kinds ≡ Some k
unfolding lookup item_kinds
kind_found Load = refl
kind_found Store = refl
kind_found Assign = refl
kind_found Assume = refl
kind_found Read = refl
kind_found Write = refl
kind_found Popa = refl
kind_found Popb = refl
kind_found Bar = refl

-- No two kinds have one number.
pub same_kind_true : (k l : Kind) → same_kind k l ≡ true → k ≡ l
same_kind_true k l h =
    some-injective k l
    (sym (kind_found k) ∙ ap (λ n. lookup n item_kinds) (eqb-true (kind_number k) (kind_number l) h) ∙ kind_found l)

pub true_same_kind : (k l : Kind) → k ≡ l → same_kind k l ≡ true
true_same_kind k l h = eq-eqb (kind_number k) (kind_number l) (ap kind_number h)

-- What holds of both transfers' kinds holds of a transfer's: it is a command's, and no bar's.
pub transfer_kinds : (Holds : Kind → Type 0) → Holds Read → Holds Write → (k : Kind) → is_transfer k ≡ true → Holds k
transfer_kinds Holds reads writes k h =
    decided (same_kind k Read)
    (λ t. subst Holds (sym (same_kind_true k Read t)) reads)
    (λ t. subst Holds (sym (same_kind_true k Write (or-true (same_kind k Read) (same_kind k Write) t h))) writes)

pub transfer_no_bar : (k : Kind) → is_transfer k ≡ true → is_bar k ≡ false
transfer_no_bar = transfer_kinds (λ k. is_bar k ≡ false) refl refl

pub transfer_command : (k : Kind) → is_transfer k ≡ true → is_command_kind k ≡ true
transfer_command = transfer_kinds (λ k. is_command_kind k ≡ true) refl refl

-- No command's kind is a pop's.
pub part_of_command : (c : Command) → part_of (kind_of c) ≡ command
unfolding kind_of
part_of_command (load x e) = refl
part_of_command (store e₁ e₂) = refl
part_of_command (assign x e) = refl
part_of_command (assume e) = refl
part_of_command (read e₁ e₂ e₃ e₄) = refl
part_of_command (write e₁ e₂ e₃ e₄) = refl
part_of_command bar = refl

-- One command is a bar.
pub kind_of_bar : (c : Command) → kind_of c ≡ Bar → c ≡ bar
unfolding kind_of
kind_of_bar (load x e) h = cc
kind_of_bar (store e₁ e₂) h = cc
kind_of_bar (assign x e) h = cc
kind_of_bar (assume e) h = cc
kind_of_bar (read e₁ e₂ e₃ e₄) h = cc
kind_of_bar (write e₁ e₂ e₃ e₄) h = cc
kind_of_bar bar h = refl

-- Each part is a part of its own.
pub command≢fetch : ¬ (command ≡ fetch)
command≢fetch h = true≢false (cc)

pub command≢delivery : ¬ (command ≡ delivery)
command≢delivery h = true≢false (cc)

pub fetch≢delivery : ¬ (fetch ≡ delivery)
fetch≢delivery h = true≢false (cc)

-- A command by the test and by its part.
pub command_part : (p : Part) → is_command_part p ≡ true → p ≡ command
command_part command h = refl
command_part fetch h = absurd (false≢true h)
command_part delivery h = absurd (false≢true h)

-- A fetch is a popa, and a delivery a popb.
module _ (k : Kind) where
  popa_first : same_kind k Popa ≡ false → part_of k ≡ when (same_kind k Popb) (λ _. delivery) (λ _. command)
  popa_first = when_false (λ _. fetch) (λ _. when (same_kind k Popb) (λ _. delivery) (λ _. command))

  no_pop : same_kind k Popa ≡ false → same_kind k Popb ≡ false → part_of k ≡ command
  no_pop a b = popa_first a ∙ when_false (λ _. delivery) (λ _. command) b

  pub fetch_kind : part_of k ≡ fetch → k ≡ Popa
  fetch_kind h =
      decided (same_kind k Popa) (same_kind_true k Popa)
      (λ a. decided (same_kind k Popb)
      (λ b. absurd (fetch≢delivery (sym h ∙ popa_first a ∙ when_true (λ _. delivery) (λ _. command) b)))
      (λ b. absurd (command≢fetch (sym (no_pop a b) ∙ h))))

  pub delivery_kind : part_of k ≡ delivery → k ≡ Popb
  delivery_kind h =
      decided (same_kind k Popb) (same_kind_true k Popb)
      (λ b. decided (same_kind k Popa)
      (λ a. absurd (fetch≢delivery (sym (when_true (λ _. fetch) (λ _. when (same_kind k Popb) (λ _. delivery) (λ _. command)) a) ∙ h)))
      (λ a. absurd (command≢delivery (sym (no_pop a b) ∙ h))))
