-- How the marks of queue entries are seen when two states are compared: as they are, where all is to be the same; or by the place of the command
-- alone, where groups are numbered otherwise.
use Prim.Native.Nat.{ℕ}
use mathlib.Core.Path.{◌≡◌, refl, ap}
use Rattle.model.specs.declared.Item.{Item}
use Rattle.model.specs.Replay.{Origin, group_of, opened_after}

-- Counts of open groups are even if the marks made with them are seen alike, and they stay so.
pub record View : Type 1 where
  pub Seen : Type 0
  pub see : Origin → Seen
  pub Even : ℕ → ℕ → Type 0
  pub marks : (i : Item) (place o o' : ℕ) → Even o o' →
      see (record { place = place; group = group_of o i }) ≡ see (record { place = place; group = group_of o' i })
  pub stays : (i : Item) (o o' : ℕ) → Even o o' → Even (opened_after o i) (opened_after o' i)

abbrev pub whole : View
whole =
    record {
      Seen = Origin;
      see = λ o. o;
      Even = ◌≡◌;
      marks = λ i place o o' same. ap (λ n. record { place = place; group = group_of n i }) same;
      stays = λ i o o' same. ap (λ n. opened_after n i) same;
    }

abbrev pub by_place : View
by_place =
    record {
      Seen = ℕ;
      see = λ o. o.place;
      Even = λ o o'. Unit {0};
      marks = λ i place o o' even. refl;
      stays = λ i o o' even. tt;
    }
