-- By which numbers results and readers refuse: a rule for each way in which they are put together. What is refused by the whole is refused by a part.
use Rattle.std.specs.Prelude.{Option, Some, None}
use Prim.Native.Nat.{ℕ, zero, suc}
use mathlib.Core.Path.{◌≡◌, refl, sym}
use mathlib.Core.Bool.{Bool, true, false}
use mathlib.Core.List.{List, [], ◌∷◌}
use lib.Dec.{ltb, eqb}
use lib.ListN.{length}
use Rattle.model.specs.declared.Refusal.{Refusal}
use Rattle.model.specs.Refusals as Refusals
use Rattle.model.specs.Refusals.{Result, Ok, Err, refuse, require, present}
use Rattle.model.specs.Bytes.{Reader, ◌>>=◌, pure, here, fault, byte, word, judged, optional, times, whole}
use Rattle.model.proofs.Laws.{decided, refused≢ok}
use Rattle.model.proofs.Bytes.{word_is}

-- What this result refuses, it refuses by a number of these rows.
pub record Tabled (Row : ℕ → Type 0) {A : Type 0} (m : Result A) : Type 0 where
  pub row : (r : Refusal) → m ≡ Err r → Row r.number

-- What this reader refuses, whatever the bytes are and wherever it starts.
pub record Faults (Row : ℕ → Type 0) {A : Type 0} (read : Reader A) : Type 0 where
  pub tabled : (bytes : List ℕ) (at : ℕ) → Tabled Row (read bytes at)

module _ {Row : ℕ → Type 0} where
  pub ok_tabled : {A : Type 0} (a : A) → Tabled Row (Ok a)
  ok_tabled a = record { row = λ r h. absurd (refused≢ok (sym h)) }

  pub refuse_tabled : {A : Type 0} (number place : ℕ) → Row number → Tabled Row {A = A} (refuse number place)
  refuse_tabled number place row = record { row = λ r h. let same : number ≡ r.number = cc in rw same at row }

  pub bind_tabled : {A B : Type 0} {m : Result A} {f : A → Result B} → Tabled Row m → ((a : A) → Tabled Row (f a)) →
      Tabled Row (Refusals.◌>>=◌ m f)
  bind_tabled {m = Ok a} first then = then a
  bind_tabled {m = Err r} first then = record { row = λ s h. let same : r ≡ s = cc in rw same at (first.row r refl) }

  pub require_tabled : (t : Bool) (number place : ℕ) → Row number → Tabled Row (require t number place)
  require_tabled true number place row = ok_tabled tt
  require_tabled false number place row = refuse_tabled number place row

  pub present_tabled : {A : Type 0} (o : Option A) (number place : ℕ) → Row number → Tabled Row (present o number place)
  present_tabled (Some a) number place row = ok_tabled a
  present_tabled None number place row = refuse_tabled number place row

  pub pure_faults : {A : Type 0} (a : A) → Faults Row (pure a)
  pure_faults a = record { tabled = λ bytes at. ok_tabled _ }

  pub here_faults : Faults Row here
  here_faults = record { tabled = λ bytes at. ok_tabled _ }

  pub fault_faults : {A : Type 0} (number place : ℕ) → Row number → Faults Row {A = A} (fault number place)
  fault_faults number place row = record { tabled = λ bytes at. refuse_tabled number place row }

  pub bind_faults : {A B : Type 0} {read : Reader A} {rest : A → Reader B} → Faults Row read → ((a : A) → Faults Row (rest a)) →
      Faults Row (read >>= rest)
  bind_faults first then =
      record { tabled = λ bytes at. bind_tabled (first.tabled bytes at) (λ f. (then f.value).tabled bytes f.next) }

  pub byte_faults : (early : ℕ) → Row early → Faults Row (byte early)
  unfolding byte
  byte_faults early row =
      record {
        tabled =
            λ bytes at.
            decided (ltb at (length bytes)) (λ t. rw t (ok_tabled _)) (λ t. rw t (refuse_tabled early (length bytes) row));
      }

  pub word_faults : (early : ℕ) → Row early → Faults Row (word early)
  word_faults early row =
      rw (word_is early) (bind_faults (byte_faults early row) λ high. bind_faults (byte_faults early row) λ low. pure_faults _)

  pub judged_faults : (test : ℕ → Bool) (number : ℕ) {read : Reader ℕ} → Row number → Faults Row read → Faults Row (judged test number read)
  unfolding judged
  judged_faults test number row faults =
      record {
        tabled =
            λ bytes at.
            bind_tabled (faults.tabled bytes at)
            (λ f. decided (test f.value) (λ t. rw t (ok_tabled f)) (λ t. rw t (refuse_tabled number at row)));
      }

  pub optional_faults : {A : Type 0} (present : Bool) (absent : A) {read : Reader A} → Faults Row read → Faults Row (optional present absent read)
  optional_faults true absent faults = faults
  optional_faults false absent faults = pure_faults absent

  pub times_faults : {A : Type 0} (n : ℕ) {read : Reader A} → Faults Row read → Faults Row (times n read)
  unfolding times
  times_faults zero faults = pure_faults []
  times_faults (suc n) faults = bind_faults faults λ a. bind_faults (times_faults n faults) λ rest. pure_faults (a ∷ rest)

  pub whole_tabled : {A : Type 0} (left : ℕ) {read : Reader A} (bytes : List ℕ) → Row left → Faults Row read → Tabled Row (whole left read bytes)
  unfolding whole
  whole_tabled left bytes row faults =
      bind_tabled (faults.tabled bytes 0)
      (λ f. decided (eqb f.next (length bytes)) (λ t. rw t (ok_tabled _)) (λ t. rw t (refuse_tabled left f.next row)))
