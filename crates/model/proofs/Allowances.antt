-- How far a reader looks. A reader that is allowed so many bytes looks at no byte behind them and places no fault behind them, and what it leaves of
-- them is enough for the reader that comes next: an account with a rule for each way in which readers are put together.
use Rattle.model.specs.declared.Found.{Found}
use Prim.Native.Nat.{ℕ, zero, suc, ◌+◌, ◌*◌, ◌<◌, ◌≤◌}
use mathlib.Core.Path.{◌≡◌, refl, sym, ap, subst, ◌∙◌}
use mathlib.Core.Bool.{Bool, true, false}
use mathlib.Core.List.{List, [], ◌∷◌}
use native.Mathlib.Omega.{arith}
use lib.Dec.{ltb, leb, eqb}
use lib.ListN.{length, take}
use lib.Seq.{length-take-le, take_all, get_or-take}
use borrow.Author.Tests.{lt-ltb, ltb-false, ne_eqb, leb-true, leb-false}
use Rattle.model.specs.Refusals as Refusals
use Rattle.model.specs.Refusals.{Ok, refuse}
use Rattle.model.specs.Choice.{when}
use Rattle.model.specs.Bytes.{Reader, ◌>>=◌, pure, here, fault, byte, word, judged, optional, times, whole}
use Rattle.model.proofs.Laws.{refused≢ok, ok_injective, bind_ok, bind_cong, when_false, decided}
use Rattle.model.proofs.Bytes.{byte_next, word_is, judged_ok}
use Rattle.model.proofs.Places.{Placed, placed_ok, placed_refuse, placed_bind, placed_later}

-- Where the bytes allowed are all before the cut, what lies behind it makes no difference; reading goes onward, and what is not taken of them is at
-- least what is spared; and a reader that starts at `from` or behind it places its faults no further than they reach.
pub record Takes {A : Type 0} (from allowed : ℕ) (spared : A → ℕ) (read : Reader A) : Type 0 where
  pub same : (bytes : List ℕ) (cut at : ℕ) → at + allowed ≤ cut → cut ≤ length bytes → read (take cut bytes) at ≡ read bytes at
  pub spares : (bytes : List ℕ) (at : ℕ) (f : Found A) → read bytes at ≡ Ok f → (at ≤ f.next) × (f.next + spared f.value ≤ at + allowed)
  pub placed : (bytes : List ℕ) (at : ℕ) → from ≤ at → Placed (at + allowed) (read bytes at)

-- A larger allowance, or less to spare.
pub takes_less : {A : Type 0} {from allowed more : ℕ} {spared less : A → ℕ} {read : Reader A} → Takes from allowed spared read → allowed ≤ more →
    ((a : A) → less a ≤ spared a) → Takes from more less read
takes_less takes enough covered =
    record {
      same = λ bytes cut at before fits. takes.same bytes cut at (omega (arith, before, enough)) fits;
      spares = λ bytes at f h. omega (arith, takes.spares bytes at f h, enough, covered f.value);
      placed = λ bytes at start. placed_later (omega (arith, enough)) (takes.placed bytes at start);
    }

-- As much more to spare as is allowed more.
pub takes_over : {A : Type 0} (over : ℕ) {from allowed : ℕ} {spared : A → ℕ} {read : Reader A} → Takes from allowed spared read →
    Takes from (allowed + over) (λ a. spared a + over) read
takes_over over takes =
    record {
      same = λ bytes cut at before fits. takes.same bytes cut at (omega (arith, before)) fits;
      spares = λ bytes at f h. omega (arith, takes.spares bytes at f h);
      placed = λ bytes at start. placed_later (omega arith) (takes.placed bytes at start);
    }

pub takes_pure : {A : Type 0} {from allowed : ℕ} {spared : A → ℕ} (a : A) → spared a ≤ allowed → Takes from allowed spared (pure a)
takes_pure {A} {allowed = allowed} {spared} a enough =
    record {
      same = λ bytes cut at before fits. refl;
      spares =
          λ bytes at f h.
          subst (λ (f : Found A). (at ≤ f.next) × (f.next + spared f.value ≤ at + allowed)) (ok_injective h) (omega (arith, enough));
      placed = λ bytes at start. placed_ok _;
    }

-- What follows the place where it starts.
pub takes_here : {A : Type 0} {from allowed : ℕ} {spared : A → ℕ} {rest : ℕ → Reader A} → ((at : ℕ) → Takes at allowed spared (rest at)) →
    Takes from allowed spared (here >>= rest)
takes_here then =
    record {
      same = λ bytes cut at. (then at).same bytes cut at;
      spares = λ bytes at. (then at).spares bytes at;
      placed = λ bytes at start. (then at).placed bytes at (omega arith);
    }

pub takes_fault : {A : Type 0} {from allowed : ℕ} {spared : A → ℕ} (number place : ℕ) → place ≤ from + allowed →
    Takes from allowed spared (fault number place)
takes_fault number place before =
    record {
      same = λ bytes cut at before fits. refl;
      spares = λ bytes at f h. absurd (refused≢ok h);
      placed = λ bytes at start. placed_refuse number place (omega (arith, before, start));
    }

pub takes_bind : {A B : Type 0} {from allowed : ℕ} {between : A → ℕ} {spared : B → ℕ} {read : Reader A} {rest : A → Reader B} →
    Takes from allowed between read → ((a : A) → Takes from (between a) spared (rest a)) → Takes from allowed spared (read >>= rest)
takes_bind {read = read} {rest} first then =
    record {
      same =
          λ bytes cut at before fits.
          ap (λ m. Refusals.◌>>=◌ m (λ f. rest f.value (take cut bytes) f.next)) (first.same bytes cut at before fits)
          ∙ bind_cong (read bytes at) _ _ λ f e.
          (then f.value).same bytes cut f.next (omega (arith, first.spares bytes at f e, before)) fits;
      spares =
          λ bytes at g h.
          let (f, e, h₁) = bind_ok (read bytes at) _ h in
          omega (arith, first.spares bytes at f e, (then f.value).spares bytes f.next g h₁);
      placed =
          λ bytes at start.
          placed_bind (first.placed bytes at start) λ f e.
          placed_later (omega (arith, first.spares bytes at f e))
          ((then f.value).placed bytes f.next (omega (arith, first.spares bytes at f e, start)));
    }

pub takes_byte : (early left : ℕ) {from allowed : ℕ} → left + 1 ≤ allowed → Takes from allowed (λ _. left) (byte early)
unfolding byte
takes_byte early left enough =
    record {
      same =
          λ bytes cut at before fits.
          let short : ltb at (length (take cut bytes)) ≡ true =
          lt-ltb at (length (take cut bytes)) (omega (arith, length-take-le cut bytes fits, before, enough)) in
          let long : ltb at (length bytes) ≡ true = lt-ltb at (length bytes) (omega (arith, before, fits, enough)) in
          rw (short, long, get_or-take cut bytes at 0 (omega (arith, before, enough)));
      spares = λ bytes at f h. omega (arith, byte_next early bytes at h, enough);
      placed =
          λ bytes at start.
          decided (ltb at (length bytes)) (λ t. rw t (placed_ok _))
          (λ t. rw t (placed_refuse early (length bytes) (omega (arith, ltb-false at (length bytes) t))));
    }

pub takes_word : (early left : ℕ) {from allowed : ℕ} → left + 2 ≤ allowed → Takes from allowed (λ _. left) (word early)
takes_word early left enough =
    rw (word_is early)
    (takes_bind (takes_byte early (left + 1) (omega (arith, enough))) λ high.
    takes_bind (takes_byte early left (omega arith)) λ low.
    takes_pure _ (omega arith))

-- A judged field; what was found passed the test, so there may be more to spare.
pub takes_judged : (test : ℕ → Bool) (number : ℕ) {from allowed : ℕ} {spared passed : ℕ → ℕ} {read : Reader ℕ} → Takes from allowed spared read →
    ((v : ℕ) → test v ≡ true → passed v ≤ spared v) → Takes from allowed passed (judged test number read)
unfolding judged
takes_judged test number {read = read} takes covered =
    record {
      same =
          λ bytes cut at before fits.
          ap (λ m. Refusals.◌>>=◌ m (λ f. when (test f.value) (λ _. Ok f) (λ _. refuse number at))) (takes.same bytes cut at before fits);
      spares =
          λ bytes at f h.
          let (found, passes) = judged_ok test number read bytes at h in
          omega (arith, takes.spares bytes at f found, covered f.value passes);
      placed =
          λ bytes at start.
          placed_bind (takes.placed bytes at start) λ f e.
          decided (test f.value) (λ t. rw t (placed_ok f)) (λ t. rw t (placed_refuse number at (omega arith)));
    }

pub takes_tested : (test : ℕ → Bool) (number : ℕ) {from allowed : ℕ} {spared : ℕ → ℕ} {read : Reader ℕ} → Takes from allowed spared read →
    Takes from allowed spared (judged test number read)
takes_tested test number takes = takes_judged test number takes (λ v h. omega arith)

-- What a field costs that is there only where its map bit stands.
abbrev pub cost : Bool → ℕ → ℕ
cost true n = n
cost false n = 0

pub takes_optional : {A : Type 0} (present : Bool) (absent : A) (n : ℕ) {from left : ℕ} {read : Reader A} →
    Takes from (left + n) (λ _. left) read → Takes from (left + cost present n) (λ _. left) (optional present absent read)
takes_optional true absent n takes = takes
takes_optional false absent n takes = takes_pure absent (omega arith)

pub takes_times : {A : Type 0} (n each : ℕ) {from : ℕ} {read : Reader A} → Takes from each (λ _. 0) read →
    Takes from (n * each) (λ _. 0) (times n read)
unfolding times
takes_times zero each takes = takes_pure [] (omega arith)
takes_times (suc n) each takes =
    takes_bind {between = λ _. n * each} (takes_less (takes_over (n * each) takes) (omega arith) (λ a. omega arith)) λ a.
    takes_bind (takes_times n each takes) λ rest.
    takes_pure (a ∷ rest) (omega arith)

-- Of bytes that are to be read whole, one more than is allowed is enough: it is left over already, and a refusal is placed there at the latest.
module _ {A : Type 0} (left allowed : ℕ) {read : Reader A} (takes : Takes 0 allowed (λ _. 0) read) (bytes : List ℕ) where
  left_over : (f : Found A) → f.next ≤ allowed → (held : List ℕ) → allowed < length held →
      when (eqb f.next (length held)) (λ _. Ok f.value) (λ _. refuse left f.next) ≡ refuse left f.next
  left_over f before held longer =
      when_false _ _ (ne_eqb f.next (length held) (λ h. omega (arith, h, before, longer)))

  pub whole_of_start : whole left read (take (suc allowed) bytes) ≡ whole left read bytes
  unfolding whole
  whole_of_start =
      decided (leb (length bytes) (suc allowed))
      (λ t. ap (whole left read) (take_all (suc allowed) bytes (leb-true (length bytes) (suc allowed) t)))
      (λ t.
      let start : List ℕ = take (suc allowed) bytes in
      let fits : suc allowed ≤ length bytes = omega (arith, leb-false (length bytes) (suc allowed) t) in
      ap (λ m. Refusals.◌>>=◌ m (λ f. when (eqb f.next (length start)) (λ _. Ok f.value) (λ _. refuse left f.next)))
      (takes.same bytes (suc allowed) 0 (omega arith) fits)
      ∙ bind_cong (read bytes 0) _ _ λ f e.
      let before : f.next ≤ allowed = omega (arith, takes.spares bytes 0 f e) in
      left_over f before start (omega (arith, length-take-le (suc allowed) bytes fits)) ∙ sym (left_over f before bytes (omega (arith, fits))))

  pub whole_placed : Placed allowed (whole left read bytes)
  unfolding whole
  whole_placed =
      placed_bind (placed_later (omega arith) (takes.placed bytes 0 (omega arith))) λ f e.
      decided (eqb f.next (length bytes)) (λ t. rw t (placed_ok _))
      (λ t. rw t (placed_refuse left f.next (omega (arith, takes.spares bytes 0 f e))))
