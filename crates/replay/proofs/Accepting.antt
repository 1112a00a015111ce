-- What the replay's answer tells of the definition's acceptance, for whoever calls it with a cleared trail.
use Prim.Native.Nat.{ℕ}
use mathlib.Core.Path.{◌≡◌, refl, sym, ap, ◌∙◌}
use mathlib.Core.List.{List}
use native.Mathlib.Omega.{arith}
use lib.ListN.{length}
use Rattle.model.specs.declared.Header.{Header}
use Rattle.model.specs.declared.Refusal.{Refusal}
use Rattle.model.specs.Refusals.{Result, Ok, Err}
use Rattle.model.specs.Checks.{Accepted, accept}
use Rattle.memory.specs.Tables.{Table, zeros, cells_size}
use Rattle.memory.specs.Made.{table_of}
use Rattle.trails.specs.Trails.{trail_of, trail_size}
use Rattle.model.proofs.Laws.{ok_injective}
use Rattle.replay.specs.declared.Accepted as handed
use Rattle.replay.specs.Handed.{Acceptance, Lent, lent, Answers, HandsOver}

-- An accepted record, with what is known of it where the replay answers so.
pub record Accepts (m : Result Accepted) (after : Lent) (header : Header) (items groups : ℕ) : Type 0 where
  pub a : Accepted
  pub is : m ≡ Ok a
  pub header_is : header ≡ a.program.header
  pub items_is : items ≡ length a.run.events
  pub groups_is : groups ≡ a.run.last.opened
  pub cells_is : after.cells ≡ table_of cells_size a.run.last.machine.cells
  pub trail_is : after.trail ≡ trail_of a.run.events

module _ {after : Lent} {r : Acceptance} where
  refused_by : (m : Result Accepted) {x : Refusal} → Answers m (zeros trail_size) after r → r ≡ Err x →
      m ≡ Err x
  refused_by (Ok a) h found = let z : ◌≡◌ {A = ℕ} 0 1 = cc h.answers in absurd (omega arith)
  refused_by (Err y) {x} h found = let same : y ≡ x = cc h.answers in ap Err same

  found_by : (m : Result Accepted) {header : Header} {items groups : ℕ} → Answers m (zeros trail_size) after r →
      r ≡ Ok (record { header = header; items = items; groups = groups }) → Accepts m after header items groups
  found_by (Ok a) {header} {items} {groups} h found =
      let same : record { header = header; items = items; groups = groups }
      ≡ record { header = a.program.header; items = length a.run.events; groups = a.run.last.opened } = ok_injective (sym found ∙ h.answers) in
      record {
        a = a;
        is = refl;
        header_is = ap (λ (x : handed.Accepted). x.header) same;
        items_is = ap (λ (x : handed.Accepted). x.items) same;
        groups_is = ap (λ (x : handed.Accepted). x.groups) same;
        cells_is = (h.hands a refl).cells;
        trail_is = (h.hands a refl).trail refl;
      }
  found_by (Err y) h found = let z : ◌≡◌ {A = ℕ} 0 1 = cc h.answers in absurd (omega arith)

  module _ {cells : Table} {program start recorded : List ℕ} (handed : HandsOver program start recorded (lent cells (zeros trail_size)) after r) where
    pub accept_refused : {x : Refusal} → r ≡ Err x → accept program start recorded ≡ Err x
    accept_refused = refused_by (accept program start recorded) handed.accepts

    pub accept_found : {header : Header} {items groups : ℕ} → r ≡ Ok (record { header = header; items = items; groups = groups }) →
        Accepts (accept program start recorded) after header items groups
    accept_found = found_by (accept program start recorded) handed.accepts
