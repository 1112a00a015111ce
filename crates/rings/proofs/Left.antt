-- The arrows that come from groups that are left.
use Prim.Native.Nat.{ℕ}
use mathlib.Core.Path.{◌≡◌, sym, ap, ◌∙◌}
use mathlib.Core.Bool.{not, false≢true}
use mathlib.Core.List.{List}
use lib.Dec.{eqb}
use borrow.Author.Tests.{ne_eqb, eq-eqb}
use Rattle.model.specs.HappensBefore.{Edge}
use Rattle.model.specs.Lists.{◌∈◌}
use Rattle.model.proofs.Selections.{select_keeps, select_within}
use Rattle.indexing.specs.Entries.{entry_at}
use Rattle.rings.specs.Searches.{among}

pub among_keeps : (left : List ℕ) (edges : List Edge) {e : Edge} → e ∈ edges → ¬ (entry_at left e.from ≡ 0) → e ∈ among left edges
unfolding among
among_keeps left edges {e} m n =
    select_keeps (λ d. not (eqb (entry_at left d.from) 0)) edges m (ap not (ne_eqb (entry_at left e.from) 0 n))

pub among_within : (left : List ℕ) (edges : List Edge) {e : Edge} → e ∈ among left edges → (e ∈ edges) × (¬ (entry_at left e.from ≡ 0))
unfolding among
among_within left edges {e} m =
    let (k, t) = select_within (λ d. not (eqb (entry_at left d.from) 0)) edges m in
    (k, λ z. false≢true (sym (ap not (eq-eqb (entry_at left e.from) 0 z)) ∙ t))
