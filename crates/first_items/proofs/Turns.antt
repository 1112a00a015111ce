-- One turn of the loop over the items: an item that cannot be read ends it, and one that is read is noted and leaves the rest.
use Prim.Native.Nat.{ℕ, suc, ◌+◌, ◌-◌, ◌≤◌, ◌<◌}
use mathlib.Core.Path.{◌≡◌, ap, ◌∙◌}
use mathlib.Core.List.{List}
use native.Mathlib.Omega.{arith}
use Rattle.model.specs.declared.Header.{Header}
use Rattle.model.specs.declared.Item.{Item}
use Rattle.model.specs.declared.Refusal.{Refusal}
use Rattle.model.specs.Refusals.{Err}
use Rattle.model.specs.Bytes.{found}
use Rattle.model.specs.Records.{read_item}
use Rattle.memory.specs.Tables.{Table}
use Rattle.record.specs.Places.{first_item}
use Rattle.first_items.specs.Firsts.{Firsts, no_firsts, noted, firsts_from, first_items}

pub from_start : (h : Header) (recorded : List ℕ) (trail : Table) (items : ℕ) →
    first_items h recorded trail items ≡ firsts_from h recorded trail (items - 0) 0 first_item no_firsts
unfolding first_items
from_start h recorded trail items = let e : items - 0 ≡ items = omega arith in rw e

module _ (h : Header) (recorded : List ℕ) (trail : Table) (items number place : ℕ) (firsts : Firsts) where
  -- From the item with this number on.
  abbrev pub rest : Firsts
  rest = firsts_from h recorded trail (items - number) number place firsts

  pub none_left : items ≤ number → rest ≡ firsts
  unfolding firsts_from
  none_left none = let e : items - number ≡ 0 = omega arith in rw e

  module _ (more : number < items) where
    one_fewer : rest ≡ firsts_from h recorded trail (suc (items - (number + 1))) number place firsts
    one_fewer =
        let e : items - number ≡ suc (items - (number + 1)) = omega arith in
        ap (λ n. firsts_from h recorded trail n number place firsts) e

    pub turn_unread : {r : Refusal} → read_item h recorded place ≡ Err r → rest ≡ firsts
    unfolding firsts_from
    turn_unread e = one_fewer ∙ rw e

    pub turn_noted : {item : Item} {next : ℕ} → read_item h recorded place ≡ found item next →
        rest ≡ firsts_from h recorded trail (items - (number + 1)) (number + 1) next (noted trail number place firsts)
    unfolding firsts_from
    turn_noted e = one_fewer ∙ rw e
