-- What stands in one group, told from its shape: a command alone, a transfer before its fetch before its delivery, or bars of rising ranks. Hence
-- each event has its command in its group, and no two events of a record have one identity.
use Rattle.std.specs.Prelude.{Some, slice_get}
use Rattle.model.proofs.Options.{none-ne-some, some-injective}
use Prim.Native.Nat.{ℕ, zero, suc, ◌+◌, ◌<◌}
use mathlib.Core.Path.{◌≡◌, refl, sym, ◌∙◌, ap, subst}
use mathlib.Core.Bool.{true, false, true≢false}
use mathlib.Core.List.{List, [], ◌∷◌}
use native.Mathlib.Nat.{not-suc-le-zero, le_of_suc-le-suc, lt_irrefl}
use native.Mathlib.Omega.{arith}
use Rattle.model.specs.declared.Kind.{Kind}
use Rattle.model.specs.declared.Kind.TheVariants.{Popa, Popb, Bar}
use Rattle.model.specs.Choice.{numbers_from}
use Rattle.model.specs.ItemKinds.{is_transfer, is_command_kind}
use Rattle.model.specs.Programs.{Program}
use Rattle.model.specs.Replay.{Event}
use Rattle.model.specs.HappensBefore.{At, is_command, rank_of}
use Rattle.model.proofs.Laws.{slice_get_map, each_at}
use Rattle.model.proofs.ItemKinds.{transfer_command}
use Rattle.record_facts.specs.Facts.{Shape, single, transfer, row, PopOf, TransferOf, Local}

-- A command by its kind.
pub kind_command : (e : Event) {k : Kind} → e.item.kind ≡ k → is_command e ≡ is_command_kind k
kind_command e h = ap is_command_kind h

-- What an event is in its group.
pub data Role (l : List Event) (k : ℕ) (x : Event) : Type 0 where
  commands : is_command x ≡ true → Role l k x
  fetches : (e : Event) → At l 0 e → k ≡ 1 → is_transfer e.item.kind ≡ true → PopOf Popa e x → Role l k x
  delivers : (e : Event) → At l 0 e → k ≡ 2 → is_transfer e.item.kind ≡ true → PopOf Popb e x → Role l k x

-- The k-th number from the first.
at_numbers : (first count k : ℕ) {n : ℕ} → slice_get (numbers_from first count) k ≡ Some n → n ≡ first + k
unfolding numbers_from
at_numbers first zero k h = absurd (none-ne-some _ h)
at_numbers first (suc count) zero {n} h =
    let same : first ≡ n = cc in
    omega (arith, same)
at_numbers first (suc count) (suc k) h = omega (arith, at_numbers (first + 1) count k h)

-- A transfer stands first, then its fetch, then its delivery.
pub record Transferred (l : List Event) (e : Event) : Type 0 where
  pub a : Event
  pub b : Event
  pub fetched : At l 1 a
  pub delivered : At l 2 b
  pub fetch_of_lem : PopOf Popa e a
  pub delivery_of_lem : PopOf Popb e b

-- Two events of one group, the first before the second.
pub data Together (x y : Event) : Type 0 where
  fetched : is_transfer x.item.kind ≡ true → PopOf Popa x y → Together x y
  delivered : is_transfer x.item.kind ≡ true → PopOf Popb x y → Together x y
  passed_on : (e : Event) → PopOf Popa e x → PopOf Popb e y → Together x y
  met : x.item.kind ≡ Bar → y.item.kind ≡ Bar → rank_of x < rank_of y → Together x y

-- Events that stand at places are the events there.
both : {x y x' y' : Event} → Some x ≡ Some x' → Some y ≡ Some y' → Together x y → Together x' y'
both {x} {y} {x'} {y'} p q t =
    subst (λ z. Together x' z) (some-injective y y' q) (subst (λ z. Together z y) (some-injective x x' p) t)

not_transfer : {x y : Event} → Some x ≡ Some y → is_transfer x.item.kind ≡ false → ¬ (is_transfer y.item.kind ≡ true)
not_transfer {x} {y} h t ty = true≢false (sym ty ∙ ap (λ z. is_transfer z.item.kind) (sym (some-injective x y h)) ∙ t)

-- A transfer with its pops.
module _ {P : Program} {local : ℕ → ℕ → Local} (e a b : Event) (whole : TransferOf P local e a b) where
  three_role : (k : ℕ) (x : Event) → At (e ∷ a ∷ b ∷ []) k x → Role (e ∷ a ∷ b ∷ []) k x
  three_role zero x h = commands (ap is_command (sym (some-injective e x h)) ∙ transfer_command e.item.kind whole.is_transfer_lem)
  three_role (suc zero) x h =
      fetches e refl refl whole.is_transfer_lem (subst (PopOf Popa e) (some-injective a x h) whole.fetch_of_lem)
  three_role (suc (suc zero)) x h =
      delivers e refl refl whole.is_transfer_lem (subst (PopOf Popb e) (some-injective b x h) whole.delivery_of_lem)
  three_role (suc (suc (suc k))) x h = absurd (none-ne-some _ h)

  three_transfer : (k : ℕ) (x : Event) → At (e ∷ a ∷ b ∷ []) k x → is_transfer x.item.kind ≡ true → Transferred (e ∷ a ∷ b ∷ []) x
  three_transfer zero x h tx =
      record {
        a = a;
        b = b;
        fetched = refl;
        delivered = refl;
        fetch_of_lem = subst (λ y. PopOf Popa y a) (some-injective e x h) whole.fetch_of_lem;
        delivery_of_lem = subst (λ y. PopOf Popb y b) (some-injective e x h) whole.delivery_of_lem;
      }
  three_transfer (suc zero) x h tx = absurd (not_transfer h (ap is_transfer whole.fetch_of_lem.kind_is) tx)
  three_transfer (suc (suc zero)) x h tx = absurd (not_transfer h (ap is_transfer whole.delivery_of_lem.kind_is) tx)
  three_transfer (suc (suc (suc k))) x h tx = absurd (none-ne-some _ h)

  three_together : (k m : ℕ) {x y : Event} → At (e ∷ a ∷ b ∷ []) k x → At (e ∷ a ∷ b ∷ []) m y → k < m → Together x y
  three_together k zero hx hy before = absurd (not-suc-le-zero before)
  three_together zero (suc zero) hx hy before = both hx hy (fetched whole.is_transfer_lem whole.fetch_of_lem)
  three_together zero (suc (suc zero)) hx hy before = both hx hy (delivered whole.is_transfer_lem whole.delivery_of_lem)
  three_together (suc zero) (suc zero) hx hy before = absurd (lt_irrefl 1 before)
  three_together (suc zero) (suc (suc zero)) hx hy before = both hx hy (passed_on e whole.fetch_of_lem whole.delivery_of_lem)
  three_together (suc (suc k)) (suc zero) hx hy before = absurd (not-suc-le-zero (le_of_suc-le-suc before))
  three_together (suc (suc k)) (suc (suc zero)) hx hy before = absurd (not-suc-le-zero (le_of_suc-le-suc (le_of_suc-le-suc before)))
  three_together k (suc (suc (suc m))) hx hy before = absurd (none-ne-some _ hy)

-- The same of any shape.
module _ {P : Program} {local : ℕ → ℕ → Local} where
  pub shape_role : {l : List Event} → Shape P local l → (k : ℕ) (x : Event) → At l k x → Role l k x
  shape_role (single e c t b) zero x h = commands (ap is_command (sym (some-injective e x h)) ∙ c)
  shape_role (single e c t b) (suc k) x h = absurd (none-ne-some _ h)
  shape_role (transfer e a b whole) k x h = three_role e a b whole k x h
  shape_role (row bars kinds ranks) k x h = commands (kind_command x (each_at bars kinds k h))

  pub shape_transfer : {l : List Event} → Shape P local l → (k : ℕ) (x : Event) → At l k x → is_transfer x.item.kind ≡ true → Transferred l x
  shape_transfer (single e c t b) zero x h tx = absurd (not_transfer h t tx)
  shape_transfer (single e c t b) (suc k) x h tx = absurd (none-ne-some _ h)
  shape_transfer (transfer e a b whole) k x h tx = three_transfer e a b whole k x h tx
  shape_transfer (row bars kinds ranks) k x h tx = absurd (true≢false (sym tx ∙ ap is_transfer (each_at bars kinds k h)))

  pub shape_together : {l : List Event} → Shape P local l → (k m : ℕ) {x y : Event} → At l k x → At l m y → k < m → Together x y
  shape_together (single e c t b) k zero hx hy before = absurd (not-suc-le-zero before)
  shape_together (single e c t b) k (suc m) hx hy before = absurd (none-ne-some _ hy)
  shape_together (transfer e a b whole) k m hx hy before = three_together e a b whole k m hx hy before
  shape_together (row bars kinds ranks) k m {x} {y} hx hy before =
      let rank_x : rank_of x ≡ 1 + k = at_numbers 1 P.header.ranks k (rw ranks at (slice_get_map rank_of bars k hx)) in
      let rank_y : rank_of y ≡ 1 + m = at_numbers 1 P.header.ranks m (rw ranks at (slice_get_map rank_of bars m hy)) in
      met (each_at bars kinds k hx) (each_at bars kinds m hy) (omega (arith, rank_x, rank_y, before))
