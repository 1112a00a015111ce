-- The replay's test of an item's place and value says what the rules' relation says: the address of the access and, where one is given, its value.
use Rattle.std.specs.Prelude.{Option, Some, None}
use Prim.Native.Nat.{ℕ}
use mathlib.Core.Path.{◌≡◌, refl}
use mathlib.Core.Bool.{true}
use borrow.Author.Tests.{eqb-true, eq-eqb}
use Rattle.model.specs.declared.Item.{Item}
use Rattle.model.specs.Machine.{Access}
use Rattle.model.specs.Rules.{GivenAs, PlacedAs}
use Rattle.model.specs.Replay.{same_address, agrees, agrees_with}
use Rattle.model.proofs.Replay.{same_address_true, true_same_address}
use Rattle.model.proofs.Laws.{and-true, true_and}

-- "An absent value is not checked."
pub agrees_given : (g : Option ℕ) (v : ℕ) → agrees g v ≡ true → GivenAs v g
unfolding agrees
agrees_given (Some given) v h = eqb-true given v h
agrees_given None v h = tt

pub given_agrees : (g : Option ℕ) (v : ℕ) → GivenAs v g → agrees g v ≡ true
unfolding agrees
given_agrees (Some given) v h = eq-eqb given v h
given_agrees None v h = refl

-- An item's place and value are those of an access exactly if the replay's test passes.
pub agrees_placed : (i : Item) (access : Option Access) → agrees_with i access ≡ true → PlacedAs access i
unfolding agrees_with
agrees_placed i None h = tt
agrees_placed i (Some a) h =
    let both = and-true (same_address i.place a.address) (agrees i.given a.value) h in
    (same_address_true i.place a.address both.0, agrees_given i.given a.value both.1)

pub placed_agrees : (i : Item) (access : Option Access) → PlacedAs access i → agrees_with i access ≡ true
unfolding agrees_with
placed_agrees i None h = refl
placed_agrees i (Some a) h =
    true_and (same_address i.place a.address) (agrees i.given a.value)
    (true_same_address i.place a.address h.0)
    (given_agrees i.given a.value h.1)
