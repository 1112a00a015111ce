-- What a cell holds after some events: the value of the last write to it, or what it held at the start if there is none.
use Rattle.std.specs.Prelude.{Option, Some, None}
use Rattle.model.proofs.Options.{none-ne-some, some-injective}
use Prim.Native.Nat.{ℕ, zero, suc, ◌<◌}
use mathlib.Core.Path.{◌≡◌, refl, sym, ◌∙◌, ap}
use mathlib.Core.Bool.{true, false, false≢true}
use mathlib.Core.List.{List, [], ◌∷◌}
use native.Mathlib.Nat.{not-suc-le-zero, le_of_suc-le-suc}
use native.Mathlib.Omega.{arith}
use lib.ListN.{length, take}
use lib.Seq.{take-length}
use Rattle.model.specs.declared.Address.{Address}
use Rattle.model.specs.Machine.{Start, Access, address, put₂}
use Rattle.model.specs.Replay.{Event, same_address}
use Rattle.model.specs.HappensBefore.{At}
use Rattle.model.specs.Traces.{value_at}
use Rattle.model.proofs.Laws.{decided, and-true}
use Rattle.model.proofs.Replay.{same_address_true}
use Rattle.record_facts.specs.Facts.{written, cells_after}
use Rattle.serializability.proofs.Cells.{writes_to, written_elsewhere}
use Rattle.traces.specs.Claims.{Accesses}
use Rattle.traces.proofs.Accesses.{value_in}

-- The last write to a cell among the first events, so many, or that there is none; and the cell's contents then.
pub data Last (start : Start) (events : List Event) (i : ℕ) (p : Address) : Type 0 where
  untouched : ((k : ℕ) (z : Event) → k < i → At events k z → writes_to p z.access ≡ false) →
      cells_after start (take i events) p.rank p.cell ≡ start p.rank p.cell → Last start events i p
  by : (k : ℕ) (z : Event) → k < i → At events k z → writes_to p z.access ≡ true →
      ((m : ℕ) (y : Event) → k < m → m < i → At events m y → writes_to p y.access ≡ false) →
      value_at z ≡ Some (cells_after start (take i events) p.rank p.cell) → Last start events i p

-- A write puts its value there.
written_here : (cells : Start) (x : Option Access) (p : Address) → writes_to p x ≡ true →
    value_in x ≡ Some (written cells x p.rank p.cell)
unfolding writes_to written put₂
written_here cells None p h = absurd (false≢true h)
written_here cells (Some b) p h =
    let (here, writes) = and-true (same_address p b.address) b.writes h in
    rw (writes, here) refl

pub last : (start : Start) (events : List Event) (i : ℕ) (p : Address) → Last start events i p
unfolding cells_after
last start events zero p = untouched (λ k z less. absurd (not-suc-le-zero less)) refl
last start [] (suc i) p = untouched (λ k z less at. absurd (none-ne-some _ at)) refl
last start (e ∷ events) (suc i) p = go (last (written start e.access) events i p)
  where
    go : Last (written start e.access) events i p → Last start (e ∷ events) (suc i) p
    go (by k z less at writes none_between value) =
        by (suc k) z (omega (arith, less)) at writes
        (λ m y after before there. later m y after before there) value
      where
        later : (m : ℕ) (y : Event) → suc k < m → m < suc i → At (e ∷ events) m y → writes_to p y.access ≡ false
        later zero y after before there = absurd (not-suc-le-zero after)
        later (suc m) y after before there = none_between m y (le_of_suc-le-suc after) (le_of_suc-le-suc before) there
    go (untouched none_writes same) =
        decided (writes_to p e.access)
        (λ w.
        by 0 e (omega arith) refl w (first none_writes)
        (written_here start e.access p w ∙ ap Some (sym same)))
        (λ w. untouched (also none_writes w) (same ∙ written_elsewhere start e.access p w))
      where
        first : ((k : ℕ) (z : Event) → k < i → At events k z → writes_to p z.access ≡ false) →
            (m : ℕ) (y : Event) → 0 < m → m < suc i → At (e ∷ events) m y → writes_to p y.access ≡ false
        first h zero y after before there = absurd (not-suc-le-zero after)
        first h (suc m) y after before there = h m y (le_of_suc-le-suc before) there

        also : ((k : ℕ) (z : Event) → k < i → At events k z → writes_to p z.access ≡ false) → writes_to p e.access ≡ false →
            (k : ℕ) (z : Event) → k < suc i → At (e ∷ events) k z → writes_to p z.access ≡ false
        also h w zero z less at = ap (λ (x : Event). writes_to p x.access) (sym (some-injective e z at)) ∙ w
        also h w (suc k) z less at = h k z (le_of_suc-le-suc less) at

-- A cell that no event accesses holds at the end what it held at the start.
writes_access : (p : Address) (x : Option Access) → writes_to p x ≡ true → (a : Access) × (x ≡ Some a) × (a.address ≡ p)
unfolding writes_to
writes_access p None h = absurd (false≢true h)
writes_access p (Some a) h = (a, refl, sym (same_address_true p a.address (and-true (same_address p a.address) a.writes h).0))

pub never_accessed : (start : Start) (events : List Event) (rank cell : ℕ) → ¬ (Accesses events rank cell) →
    cells_after start events rank cell ≡ start rank cell
never_accessed start events rank cell never =
    ap (λ l. cells_after start l rank cell) (sym (take-length events)) ∙ go (last start events (length events) (address rank cell))
  where
    go : Last start events (length events) (address rank cell) → cells_after start (take (length events) events) rank cell ≡ start rank cell
    go (untouched none_writes same) = same
    go (by k z less at writes none_between value) =
        let (a, access, here) = writes_access (address rank cell) z.access writes in
        absurd (never (record { i = k; e = z; a = a; at = at; access = access; here = here }))
