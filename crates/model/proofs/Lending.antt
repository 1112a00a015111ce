-- What lent memory holds after entries whose number is known; and where entries were filled, they stand at its front.
use Prim.Native.Nat.{ℕ, ◌≤◌, ◌<◌}
use mathlib.Core.Path.{◌≡◌, refl, sym, ap, ◌∙◌}
use mathlib.Core.List.{List}
use native.Mathlib.Omega.{arith}
use lib.Dec.{leb}
use lib.ListN.{length, take, drop}
use lib.Seq.{take-append_seam}
use borrow.Author.Tests.{le-leb, lt-leb}
use Rattle.model.specs.Refusals.{Result, Ok, Err, memory_too_short}
use Rattle.model.specs.Checks.{fill}
use Rattle.model.specs.Lending.{answering, lend}
use Rattle.model.proofs.Laws.{decided}

-- Where there is room, and where there is not.
module _ (memory entries : List ℕ) {needed : ℕ} (long : length entries ≡ needed) where
  pub lends : needed ≤ length memory → answering (Ok needed) (fill entries memory) ≡ lend memory (Ok entries)
  unfolding lend
  lends room =
      ap (λ n. answering (Ok n) (fill entries memory)) (sym long)
      ∙ rw (le-leb (length entries) (length memory) (rw (← long) at room))

  pub lends_nothing : length memory < needed →
      answering (Err (record { number = memory_too_short; place = needed })) memory ≡ lend memory (Ok entries)
  unfolding lend
  lends_nothing few = rw (long, lt-leb needed (length memory) few)

-- What fills entries, and how many it says: the memory begins with them.
pub record Filling (memory : List ℕ) (m : Result (List ℕ)) (n : ℕ) : Type 0 where
  pub entries : List ℕ
  pub is : m ≡ Ok entries
  pub counted : n ≡ length entries
  pub holds : (lend memory m).memory ≡ fill entries memory

pub filling : (memory : List ℕ) (m : Result (List ℕ)) {n : ℕ} → (lend memory m).answer ≡ Ok n → Filling memory m n
unfolding lend
filling memory (Err r) h = let z : ◌≡◌ {A = ℕ} 0 1 = cc in absurd (omega arith)
filling memory (Ok entries) {n} h =
    decided (leb (length entries) (length memory))
    (λ t.
    let counted : Ok (length entries) ≡ Ok n = rw t at h in
    record { entries = entries; is = refl; counted = cc; holds = rw t })
    (λ t.
    let none : Err _ ≡ Ok n = rw t at h in
    let z : ◌≡◌ {A = ℕ} 0 1 = cc in
    absurd (omega arith))

pub fill_front : (entries memory : List ℕ) → take (length entries) (fill entries memory) ≡ entries
unfolding fill
fill_front entries memory = take-append_seam entries (drop (length entries) memory)
