-- The step on arrays agrees with the definition's step, from every state that the arrays stand for. The two go through the same tests; at each one
-- that both pass, what they look at is the same, since the arrays hold it.
use Rattle.std.specs.Prelude.{Option}
use Prim.Native.Nat.{ℕ, ◌+◌, ◌≤◌, ◌<◌}
use mathlib.Core.Path.{◌≡◌, refl}
use mathlib.Core.Bool.{Bool, true, false}
use native.Mathlib.Omega.{arith}
use borrow.Author.Tests.{lt-ltb}
use Rattle.model.specs.declared.Item.{Item}
use Rattle.model.specs.Limits.{max_items}
use Rattle.model.specs.Refusals.{Result, Ok, Err, require, ◌>>=◌, access_differs}
use Rattle.model.specs.Machine.{Access}
use Rattle.model.specs.Replay.{Replay, Taken, joins_row, opened_after, agrees_with, agreed}
use Rattle.model.proofs.Laws.{decided}
use Rattle.items.specs.declared.rows.Progress.{Progress}
use Rattle.machine.specs.Arrays.{Memory}
use Rattle.items.specs.Progress.{count_up, opened_next}
use Rattle.machine.specs.Standing.{Standing, Agree, Follows}
use Rattle.machine.specs.Outcomes.{Left, Does, Outcome, outcome_of, memory_after, agreed_on}

-- The definition's result and that of the step on arrays, from these arrays.
abbrev pub Together : (at : ℕ) → Memory → Result Taken → Result Left → Type 0
Together at m definition result = Agree at definition (memory_after m result) (outcome_of result)

pub together_does : (at : ℕ) (definition : Result Taken) {m after : Memory} {outcome : Outcome} {result : Result Left} →
    Together at m definition result → Does result m after outcome → Agree at definition after outcome
together_does at definition t d = rw (d.answers, d.leaves) t

-- A test, and a value, that both look at.
pub together_test : (at : ℕ) (m : Memory) (test : Bool) (number : ℕ) (f : Unit {0} → Result Taken) (g : Unit {0} → Result Left) →
    (test ≡ true → Together at m (f tt) (g tt)) → Together at m (require test number at >>= f) (require test number at >>= g)
together_test at m true number f g next = next refl
together_test at m false number f g next = refl

pub together_value : {A : Type 0} (at : ℕ) (m : Memory) (result : Result A) (f : A → Result Taken) (g : A → Result Left) →
    ((a : A) → result ≡ Ok a → Together at m (f a) (g a)) → Together at m (result >>= f) (result >>= g)
together_value at m (Ok a) f g next = next a refl
together_value at m (Err r) f g next = refl

-- An item that agrees with its access.
pub together_agreed : (at : ℕ) (m : Memory) (t : Taken) (access : Option Access) (l : Left) →
    agrees_with t.event.item t.event.access ≡ agrees_with t.event.item access →
    (agrees_with t.event.item access ≡ true → Follows at t l.memory l.next l.group l.access) →
    Together at m (agreed at t) (agreed_on at t.event.item access l)
unfolding agreed agreed_on
together_agreed at m t access l same follows = rw same (together_test at m (agrees_with t.event.item access) access_differs _ _ follows)

-- Items and groups are counted alike, as long as there are no more groups than items, and not more items than a record has.
module _ {m : Memory} {p : Progress} {s : Replay} (stands : Standing m p s) (few : p.at < max_items) where
  pub counted : count_up p.at ≡ p.at + 1
  counted = rw (lt-ltb p.at max_items few)

  pub same_opened : (i : Item) → opened_after s.opened i ≡ opened_next p.opened i
  unfolding opened_after opened_next
  same_opened i = rw (stands.opened, lt-ltb p.opened max_items (omega (arith, few, stands.few)))

  pub opened_few : (i : Item) → opened_next p.opened i ≤ count_up p.at
  unfolding opened_next
  opened_few i =
      rw (counted, lt-ltb p.opened max_items (omega (arith, few, stands.few)))
      (decided (joins_row i) (λ t. rw t (omega (arith, stands.few))) (λ t. rw t (omega (arith, stands.few))))
