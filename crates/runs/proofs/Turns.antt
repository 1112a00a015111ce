-- The loop over the items: what is left of them, from where the replay stands, is what all of them are from the start. An item that cannot be read or
-- is refused ends them, one that is taken leaves the rest, and each end keeps the promise.
use Prim.Native.Nat.{ℕ, suc, ◌-◌, ◌<◌, ◌≤◌}
use mathlib.Core.Path.{◌≡◌, ap, ◌∙◌}
use mathlib.Core.Bool.{Bool}
use mathlib.Core.List.{List}
use native.Mathlib.Omega.{arith}
use Rattle.model.specs.declared.Header.{Header}
use Rattle.model.specs.declared.Item.{Item}
use Rattle.model.specs.declared.Refusal.{Refusal}
use Rattle.model.specs.Refusals.{Result, Ok, Err}
use Rattle.model.specs.declared.Found.{Found}
use Rattle.model.specs.Records.{read_item}
use Rattle.memory.specs.Tables.{Table}
use Rattle.record.specs.Places.{first_item}
use Rattle.queues.specs.Endings.{all_empty}
use Rattle.items.specs.declared.rows.Progress.{Progress}
use Rattle.machine.specs.Arrays.{Memory, memory}
use Rattle.machine.specs.declared.Machine.{Machine}
use Rattle.machine.specs.declared.Advance.{Advance}
use Rattle.machine.specs.Outcomes.{Left, Does, Outcome}
use Rattle.step.specs.Steps.{item_on}
use Rattle.step.specs.Standing.{Steps}
use Rattle.trails.specs.Trails as Trails
use Rattle.runs.specs.Items.{SoFar, RunState, idle, stopped, items_on}
use Rattle.runs.specs.Promise.{went_from, Runs}
use Rattle.runs.proofs.Simulation.{promised}

-- What the step's answer says of the step on arrays.
module _ {before after : Memory} {outcome : Outcome} where
  step_refused : (result : Result Left) → Does result before after outcome → (r : Refusal) → outcome ≡ Err r → result ≡ Err r
  step_refused (Ok l) does r e = let z : ◌≡◌ {A = ℕ} 0 1 = cc does.answers in absurd (omega arith)
  step_refused (Err x) does r e = let same : x ≡ r = cc does.answers in ap Err same

  step_taken : (result : Result Left) → Does result before after outcome → (l : Advance) → outcome ≡ Ok l →
      result ≡ Ok (record { memory = after; next = l.next; group = l.group; access = l.access })
  step_taken (Ok left) does l e =
      let n : left.next ≡ l.next = cc does.answers in
      let g : left.group ≡ l.group = cc does.answers in
      let a : left.access ≡ l.access = cc does.answers in
      rw (← n, ← g, ← a, does.leaves)
  step_taken (Err x) does l e = let z : ◌≡◌ {A = ℕ} 0 1 = cc does.answers in absurd (omega arith)

abbrev state : Machine → (cells : Table) → Progress → Table → RunState
state machine cells progress trail = record { memory = memory machine cells; progress = progress; trail = trail }

module _ (program starts : List ℕ) (h : Header) (recorded : List ℕ) (count : ℕ) (cells old : Table) where
  -- So many items are left from a place, where the arrays hold this.
  pub record ItemsLeft (machine : Machine) (now : Table) (progress : Progress) (trail : Table) (left place : ℕ) : Type 0 where
    pub same : went_from program starts h recorded count cells old
        ≡ items_on program starts h recorded left place (state machine now progress trail)

  pub none_taken : {machine : Machine} {left : ℕ} → machine ≡ idle → left ≡ count →
      ItemsLeft machine cells (record { at = 0; opened = 0; row = 0 }) old left first_item
  none_taken e all = record { same = rw (e, all) }

  module _ {machine : Machine} {now : Table} {progress : Progress} {trail : Table} {left place : ℕ}
      (inv : ItemsLeft machine now progress trail left place) where
    abbrev s : RunState
    s = state machine now progress trail

    ends_stopped : {r : Refusal} → items_on program starts h recorded left place s ≡ stopped r s →
        Runs program starts h recorded count cells old now trail (Err r)
    ends_stopped e =
        promised program starts h recorded count cells old (rw (inv.same, e)) (rw (inv.same, e)) (rw (inv.same, e))

    pub all_taken : left ≤ 0 → {quiet : Bool} → quiet ≡ all_empty machine.queues.ends h.ranks h.queues →
        Runs program starts h recorded count cells old now trail
        (Ok (record { place = place; groups = progress.opened; row = progress.row; quiet = quiet }))
    unfolding items_on
    all_taken none e =
        let z : left ≡ 0 = omega arith in
        promised program starts h recorded count cells old (rw (inv.same, z, e)) (rw (inv.same, z)) (rw (inv.same, z))

    module _ (some_left : 0 < left) where
      one_fewer : items_on program starts h recorded left place s ≡ items_on program starts h recorded (suc (left - 1)) place s
      one_fewer = let e : left ≡ suc (left - 1) = omega arith in ap (λ n. items_on program starts h recorded n place s) e

      pub unread : {r : Refusal} {answer : SoFar} → read_item h recorded place ≡ Err r → answer ≡ Err r →
          Runs program starts h recorded count cells old now trail answer
      unfolding items_on
      unread e a = rw a (ends_stopped (one_fewer ∙ rw e))

      module _ {f : Found Item} (found : read_item h recorded place ≡ Ok f) {machine' : Machine} {now' : Table} {outcome : Outcome}
          (steps : Steps program starts h f.value progress s.memory (memory machine' now') outcome) where
        pub untaken : {r : Refusal} {answer : SoFar} → outcome ≡ Err r → answer ≡ Err r →
            Runs program starts h recorded count cells old now' trail answer
        unfolding items_on
        untaken {r} e a =
            let same : now' ≡ now = ap (λ (m : Memory). m.cells) (steps.kept r e) in
            rw (same, a)
            (ends_stopped
            (one_fewer ∙ rw (found, step_refused (item_on program starts h f.value progress s.memory) steps.does r e)))

        pub one_taken : {l : Advance} → outcome ≡ Ok l → {trail' : Table} → trail' ≡ Trails.told trail progress.at f.value l.group l.access →
            {fewer : ℕ} → fewer ≡ left - 1 → ItemsLeft machine' now' l.next trail' fewer f.next
        unfolding items_on
        one_taken {l} e t less =
            record {
              same =
                  rw (t, less)
                  (inv.same ∙ one_fewer ∙ rw (found, step_taken (item_on program starts h f.value progress s.memory) steps.does l e));
            }
